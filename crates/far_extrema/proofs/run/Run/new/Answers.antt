use Rattle.far_extrema.proofs.RunsLaws.{none_in_order}
use Rattle.far_extrema.proofs.run.Run.new.Goals as goal

pub invariant_of-result : goal.invariant_of-result
invariant_of-result c = none_in_order c.new.result.items c.new-2.result.items c.new.ensures.items c.new-2.ensures.items

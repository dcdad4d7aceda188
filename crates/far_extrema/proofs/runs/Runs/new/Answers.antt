use Rattle.far_extrema.proofs.PartsLaws.{no_parts}
use Rattle.far_extrema.proofs.runs.Runs.new.Goals as goal

pub invariant_of-result : goal.invariant_of-result
invariant_of-result c = (let none = (no_parts c.new.result.items c.new-2.result.items c.new.ensures.items c.new-2.ensures.items).0 in (none.0, none.1, none.2, tt))

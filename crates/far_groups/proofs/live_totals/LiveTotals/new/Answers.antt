use Rattle.std.proofs.Common.{sym, subst}
use Rattle.far_groups.specs.CountSums.{AreCountSums}
use Rattle.far_groups.proofs.CountSumsLaws.{AreCountSums-empty}
use Rattle.far_groups.proofs.live_totals.LiveTotals.new.Goals as goal

pub invariant_of-result : goal.invariant_of-result
invariant_of-result c = subst AreCountSums (sym c.nothing.ensures.empty) AreCountSums-empty

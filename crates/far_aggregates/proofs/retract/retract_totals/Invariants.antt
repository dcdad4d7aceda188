use Rattle.std.proofs.Common.{◌≡◌, []}
use Rattle.far_aggregates.specs.Retract.{after_retract}
use Rattle.far_aggregates.specs.Until.{zip_until}
use Rattle.far_aggregates.proofs.retract.retract_totals.Given as goal

abbrev pub invariant-loop-i : goal.invariant-loop-i
invariant-loop-i l = l.registry ≡ zip_until (after_retract 0 []) l.i l.initial.registry l.pairs

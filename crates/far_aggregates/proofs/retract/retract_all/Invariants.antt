use Rattle.std.proofs.Common.{◌≡◌}
use Rattle.far_aggregates.specs.Retract.{after_retract}
use Rattle.far_aggregates.specs.Until.{zip_until}
use Rattle.far_aggregates.proofs.retract.retract_all.Given as goal

abbrev pub invariant-loop-i : goal.invariant-loop-i
invariant-loop-i g l = l.registry ≡ zip_until (after_retract l.number (g.G.LendGroup.places l.group)) l.i l.initial.registry l.to_retract

use Rattle.std.proofs.Common.{◌≡◌}
use Rattle.far_aggregates.specs.Replacing.{after_replace}
use Rattle.far_aggregates.specs.Until.{zip_until}
use Rattle.far_aggregates.proofs.replacing.replace_all.Given as goal

abbrev pub invariant-loop-i : goal.invariant-loop-i
invariant-loop-i l = l.registry ≡ zip_until (after_replace l.to) l.i l.initial.registry l.pairs

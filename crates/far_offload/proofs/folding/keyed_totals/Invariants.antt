use Rattle.std.proofs.Common.{◌≡◌, take}
use Rattle.far_types.specs.Answers.{totals}
use Rattle.far_offload.specs.Partials.{pairs_over}
use Rattle.far_offload.proofs.folding.keyed_totals.Given as goal

abbrev pub invariant-loop-place : goal.invariant-loop-place
invariant-loop-place l = l.totals ≡ record { left = 0; totals = totals (pairs_over l.spec l.columns (take l.place l.alive)) }

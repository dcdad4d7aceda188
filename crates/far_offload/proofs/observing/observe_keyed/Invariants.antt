use Rattle.std.proofs.Common.{◌≡◌, take}
use Rattle.far_types.specs.Answers.{extrema}
use Rattle.far_types.specs.Effects.{joined_extrema}
use Rattle.far_offload.specs.Partials.{pairs_over}
use Rattle.far_offload.proofs.observing.observe_keyed.Given as goal

abbrev pub invariant-loop-place : goal.invariant-loop-place
invariant-loop-place l = l.observed ≡ joined_extrema l.initial.observed (extrema (pairs_over l.spec l.columns (take l.place l.alive)))

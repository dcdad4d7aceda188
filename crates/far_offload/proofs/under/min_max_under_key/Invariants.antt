use Rattle.std.proofs.Common.{◌≡◌, take}
use Rattle.std.specs.FinMap as fin
use Rattle.far_types.specs.Answers.{extrema}
use Rattle.far_offload.specs.Partials.{pairs_over, MinMaxFits}
use Rattle.far_offload.proofs.under.min_max_under_key.Given as goal

abbrev pub invariant-loop-place : goal.invariant-loop-place
invariant-loop-place l = record {
  min_max : l.min_max ≡ fin.get (extrema (pairs_over l.spec l.columns (take l.place l.alive))) l.key;
  fits : MinMaxFits l.min_max;
}

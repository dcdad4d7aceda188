use Rattle.std.proofs.Common.{◌≡◌, None, take}
use Rattle.std.specs.FinMap as fin
use Rattle.far_types.specs.Answers.{extrema}
use Rattle.far_offload.specs.Partials.{pairs_over, MinMaxFits}
use Rattle.far_offload.proofs.under.min_max_untested.Given as goal

abbrev pub invariant-loop-place : goal.invariant-loop-place
invariant-loop-place l = record {
  min_max : l.min_max ≡ fin.get (extrema (pairs_over l.spec l.columns (take l.place l.alive))) None;
  fits : MinMaxFits l.min_max;
}

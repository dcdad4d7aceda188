use Rattle.std.proofs.Common.{◌≡◌, take}
use Rattle.far_offload.specs.Partials.{values_over, min_max_in, MinMaxFits}
use Rattle.far_offload.proofs.plain.min_max_of.Given as goal

abbrev pub invariant-loop-place : goal.invariant-loop-place
invariant-loop-place l = record {
  min_max : l.min_max ≡ min_max_in (values_over l.spec l.columns (take l.place l.alive));
  fits : MinMaxFits l.min_max;
}

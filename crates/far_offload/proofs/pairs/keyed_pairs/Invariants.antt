use Rattle.std.proofs.Common.{◌≡◌, take}
use Rattle.far_types.specs.Pairs.{PairsFit}
use Rattle.far_offload.specs.Partials.{pairs_over}
use Rattle.far_offload.proofs.pairs.keyed_pairs.Given as goal

abbrev pub invariant-loop-place : goal.invariant-loop-place
invariant-loop-place l = record {
  pairs : l.pairs.items ≡ pairs_over l.spec l.columns (take l.place l.alive);
  fits : PairsFit l.pairs.items;
}

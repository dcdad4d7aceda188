use Rattle.std.proofs.Common.{◌≡◌, take}
use Rattle.far_groups.specs.CountSums.{AreCountSums}
use Rattle.far_groups.specs.KeyTree.{by_number}
use Rattle.far_groups.specs.Dense.{by_place}
use Rattle.far_groups.proofs.dense.numbers_of.Given as goal

abbrev pub invariant-loop-place : goal.invariant-loop-place
invariant-loop-place l = record {
  valid_sums : AreCountSums (by_number l.numbers.entries);
  same : by_number l.numbers.entries ≡ by_place (take l.place l.dense.items);
}

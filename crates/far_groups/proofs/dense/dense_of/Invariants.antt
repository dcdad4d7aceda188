use Rattle.std.proofs.Common.{◌≡◌}
use Rattle.far_types.specs.Effects.{add_count_sums}
use Rattle.far_types.proofs.AnswersByKeyMaps.{with_all}
use Rattle.far_groups.specs.CountSums.{AreCountSums}
use Rattle.far_groups.specs.KeyTree.{numbered, by_number}
use Rattle.far_groups.specs.Dense.{by_place}
use Rattle.far_groups.proofs.CountSumsMerge.{CanAddAll}
use Rattle.far_groups.proofs.dense.dense_of.Given as goal

abbrev pub invariant-loop-number : goal.invariant-loop-number
invariant-loop-number l = record {
  valid_sums : AreCountSums (by_place l.dense.items);
  rest : CanAddAll (by_place l.dense.items) (numbered l.number-iterator);
  copied : with_all add_count_sums (by_place l.dense.items) (numbered l.number-iterator) ≡ by_number l.fn.numbers.entries;
}

use Rattle.std.proofs.Common.{◌≡◌, take, drop}
use Rattle.far_groups.specs.CountSums.{totals_of, AreCountSums}
use Rattle.far_groups.proofs.CountSumsMerge.{CanAddAll}
use Rattle.far_types.specs.Effects.{add_count_sums}
use Rattle.far_types.proofs.AnswersByKeyMaps.{with_all}
use Rattle.far_groups.proofs.count_sums.join.Given as goal

abbrev pub invariant-loop-key : goal.invariant-loop-key
invariant-loop-key l = record {
  valid_sums : AreCountSums (totals_of l.count_sums.entries);
  place : drop l.done l.fn.other.entries ≡ l.key-iterator;
  rest : CanAddAll (totals_of l.count_sums.entries) l.key-iterator;
  joined : totals_of l.count_sums.entries ≡ with_all add_count_sums (totals_of l.initial.count_sums.entries) (take l.done l.fn.other.entries);
}

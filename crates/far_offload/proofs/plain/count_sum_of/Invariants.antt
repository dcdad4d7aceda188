use Rattle.std.proofs.Common.{◌≡◌, ◌≤◌, take}
use Rattle.far_types.specs.Answers.{count_sum}
use Rattle.far_groups.specs.CountSums.{IsSumOf}
use Rattle.far_offload.specs.Partials.{values_over}
use Rattle.far_offload.proofs.plain.count_sum_of.Given as goal

abbrev pub invariant-loop-place : goal.invariant-loop-place
invariant-loop-place l = record {
  count_sum : l.count_sum ≡ count_sum (values_over l.spec l.columns (take l.place l.alive));
  sum : IsSumOf l.count_sum.0 l.count_sum.1;
  few : l.count_sum.0 ≤ l.place;
}

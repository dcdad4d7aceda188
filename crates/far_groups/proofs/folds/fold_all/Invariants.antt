use Rattle.std.proofs.Common.{◌≡◌, take}
use Rattle.far_groups.specs.CountSums.{AreCountSums}
use Rattle.far_groups.specs.ByKey.{totals_in}
use Rattle.far_groups.specs.Folds.{with_pairs}
use Rattle.far_groups.proofs.folds.fold_all.Given as goal

abbrev pub invariant-loop-i : goal.invariant-loop-i
invariant-loop-i l = record {
  valid_sums : AreCountSums (totals_in l.count_sums);
  folded : totals_in l.count_sums ≡ with_pairs (totals_in l.initial.count_sums) (take l.i l.pairs);
}

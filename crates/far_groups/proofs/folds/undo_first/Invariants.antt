use Rattle.std.proofs.Common.{◌≡◌, ◌-◌, take}
use Rattle.far_types.specs.Answers.{Totals}
use Rattle.far_groups.specs.CountSums.{AreCountSums}
use Rattle.far_groups.specs.ByKey.{totals_in}
use Rattle.far_groups.specs.Folds.{with_pairs, HasFolded}
use Rattle.far_groups.proofs.folds.undo_first.Given as goal

abbrev pub invariant-loop-done : goal.invariant-loop-done
invariant-loop-done l = record {
  valid_sums : AreCountSums (totals_in l.count_sums);
  rest : (start : Totals) → HasFolded start (take l.count l.pairs) (totals_in l.initial.count_sums) → totals_in l.count_sums ≡ with_pairs start (take (l.count - l.done) l.pairs);
}

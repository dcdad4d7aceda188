use Rattle.std.proofs.Common.{◌≡◌, take}
use Rattle.far_groups.specs.CountSums.{totals_of, AreCountSums, CanRetractAll, without_all}
use Rattle.far_groups.proofs.count_sums.retract_first.Given as goal

abbrev pub invariant-loop-key : goal.invariant-loop-key
invariant-loop-key l = record {
  valid_sums : AreCountSums (totals_of l.count_sums.entries);
  there : CanRetractAll (totals_of l.count_sums.entries) (take l.left l.key-iterator);
  rest : without_all (totals_of l.count_sums.entries) (take l.left l.key-iterator) ≡ without_all (totals_of l.initial.count_sums.entries) (take l.fn.count l.fn.other.entries);
}

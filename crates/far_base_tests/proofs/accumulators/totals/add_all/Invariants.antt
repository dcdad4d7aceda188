use Rattle.std.proofs.Common.{◌≡◌, ◌≤◌, Option}
use Rattle.std.specs.FinMap as fin
use Rattle.far_types.specs.declared.key.Key.{Key}
use Rattle.far_types.specs.Effects.{count_in}
use Rattle.far_base_tests.proofs.accumulators.totals.add_all.Given as goal

abbrev pub invariant-loop-name : goal.invariant-loop-name
invariant-loop-name l = record {
  left : l.live.left ≡ l.initial.live.left;
  few : (key : Option Key) → count_in (fin.get l.live.totals key) ≤ l.name-index;
}

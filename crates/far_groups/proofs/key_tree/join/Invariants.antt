use Rattle.std.proofs.Common.{◌≡◌, take, drop}
use Rattle.far_groups.specs.CountSums.{AreCountSums}
use Rattle.far_groups.specs.KeyTree.{keyed_by, by_kind}
use Rattle.far_groups.proofs.CountSumsMerge.{CanAddAll}
use Rattle.far_types.specs.Effects.{add_count_sums}
use Rattle.far_types.proofs.AnswersByKeyMaps.{with_all}
use Rattle.far_groups.proofs.key_tree.join.Given as goal

abbrev pub invariant-loop-key : goal.invariant-loop-key
invariant-loop-key g l = record {
  valid_sums : AreCountSums (by_kind g.K.TreeKey.as_key l.tree.entries);
  place : drop l.done (keyed_by g.K.TreeKey.as_key l.fn.other.entries) ≡ keyed_by g.K.TreeKey.as_key l.key-iterator;
  rest : CanAddAll (by_kind g.K.TreeKey.as_key l.tree.entries) (keyed_by g.K.TreeKey.as_key l.key-iterator);
  joined : by_kind g.K.TreeKey.as_key l.tree.entries ≡ with_all add_count_sums (by_kind g.K.TreeKey.as_key l.initial.tree.entries) (take l.done (keyed_by g.K.TreeKey.as_key l.fn.other.entries));
}

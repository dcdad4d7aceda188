use Rattle.std.proofs.Common.{◌≡◌, take}
use Rattle.far_groups.specs.CountSums.{AreCountSums, CanRetractAll, without_all}
use Rattle.far_groups.specs.KeyTree.{keyed_by, by_kind}
use Rattle.far_groups.proofs.key_tree.retract_first.Given as goal

abbrev pub invariant-loop-key : goal.invariant-loop-key
invariant-loop-key g l = record {
  valid_sums : AreCountSums (by_kind g.K.TreeKey.as_key l.tree.entries);
  there : CanRetractAll (by_kind g.K.TreeKey.as_key l.tree.entries) (take l.left (keyed_by g.K.TreeKey.as_key l.key-iterator));
  rest : without_all (by_kind g.K.TreeKey.as_key l.tree.entries) (take l.left (keyed_by g.K.TreeKey.as_key l.key-iterator)) ≡ without_all (by_kind g.K.TreeKey.as_key l.initial.tree.entries) (take l.fn.count (keyed_by g.K.TreeKey.as_key l.fn.other.entries));
}

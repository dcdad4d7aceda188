use Rattle.std.proofs.Common.{◌≡◌, ◌++◌}
use Rattle.far_groups.specs.KeyTree.{keyed_by}
use Rattle.far_groups.proofs.key_tree.keyed_lines.Given as goal

abbrev pub invariant-loop-key : goal.invariant-loop-key
invariant-loop-key g l = l.lines.items ++ keyed_by g.K.TreeKey.as_key l.key-iterator ≡ keyed_by g.K.TreeKey.as_key l.fn.tree.entries

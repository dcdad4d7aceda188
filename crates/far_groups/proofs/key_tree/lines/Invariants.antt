use Rattle.std.proofs.Common.{◌≡◌, ◌++◌}
use Rattle.far_groups.specs.KeyTree.{lines_of}
use Rattle.far_groups.proofs.key_tree.lines.Given as goal

abbrev pub invariant-loop-key : goal.invariant-loop-key
invariant-loop-key g l = l.lines.items ++ lines_of g.K.TreeKey.as_key l.key-iterator ≡ lines_of g.K.TreeKey.as_key l.fn.tree.entries

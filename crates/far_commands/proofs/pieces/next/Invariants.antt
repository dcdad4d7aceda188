use Rattle.std.proofs.Common.{◌≡◌, ◌++◌, codes, drop}
use Rattle.far_commands.specs.Pieces.{group_text}
use Rattle.far_script.specs.Printing.{texts_of}
use Rattle.far_commands.proofs.pieces.next.Given as goal

abbrev pub invariant-loop-group : goal.invariant-loop-group
invariant-loop-group l = l.page ++ texts_of group_text (drop l.group-index l.groups) ≡ (l.fn.page ++ codes "next") ++ texts_of group_text l.groups

use Rattle.std.proofs.Common.{◌≡◌, ◌++◌, drop}
use Rattle.far_commands.specs.Pieces.{flag_text}
use Rattle.far_script.specs.Printing.{texts_of}
use Rattle.far_commands.proofs.pieces.marks.Given as goal

abbrev pub invariant-loop-alive : goal.invariant-loop-alive
invariant-loop-alive l = l.page ++ texts_of flag_text (drop l.alive-index l.flags) ≡ l.initial.page ++ texts_of flag_text l.flags

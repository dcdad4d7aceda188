use Rattle.std.proofs.Common.{◌≡◌, ◌++◌, drop}
use Rattle.far_script.specs.Printing.{texts_of}
use Rattle.far_commands.proofs.PiecesLaws.{next_field}
use Rattle.far_commands.proofs.pieces.more_values.Given as goal

abbrev pub invariant-loop-value : goal.invariant-loop-value
invariant-loop-value g l = l.page ++ texts_of (next_field g.V.Value.cell) (drop l.value-index l.values) ≡ l.fn.page ++ texts_of (next_field g.V.Value.cell) l.values

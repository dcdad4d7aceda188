use Rattle.std.proofs.Common.{length, codes}
use Rattle.far_types.specs.Table.{rows_of}
use Rattle.far_script.specs.Printing.{numbered_text}
use Rattle.far_commands.proofs.ListingsRows.{IsGathered}
use Rattle.far_commands.proofs.listing.dump.Given as goal

abbrev pub invariant-loop-place : goal.invariant-loop-place
invariant-loop-place g l = IsGathered (g.W.Write.contents l.fn.writer) l.fn.output.page (numbered_text (codes "rows") (length (rows_of l.frame.table.places))) l.frame.table.places l.place (g.W.Write.contents l.writer) l.output.page l.output.reply

use Rattle.far_table.specs.Moving.{IsUnpinned}
use Rattle.far_table.proofs.MovingLaws.{moved-invariant, moved-rows, unpinned-still}
use Rattle.far_table.proofs.table_rows.TableRows.unpin.Goals as goal

pub invariant_of-self : goal.invariant_of-self
invariant_of-self g c =
    let inside = c.self.inside in
    let e = c.unpin.ensures in
    moved-invariant g.S.FarTickets.content inside.schema inside.limits inside.rows inside.new_row inside.edits c.args.self.now c.self.view_is c.unpin.result c.unpin.new.self (IsUnpinned c.args.column c.args.group) e.unpinned e.err e.kept.cells (unpinned-still inside.rows c.unpin.new.self c.args.column c.args.group) c.self.invariant

pub returns-clause-unpinned : goal.returns-clause-unpinned
returns-clause-unpinned g c =
    let inside = c.self.inside in
    let e = c.unpin.ensures in
    moved-rows g.S.FarTickets.content inside.schema inside.limits inside.rows inside.new_row inside.edits c.args.self.now c.self.view_is c.unpin.result c.unpin.new.self (IsUnpinned c.args.column c.args.group) e.unpinned e.err e.kept.cells (unpinned-still inside.rows c.unpin.new.self c.args.column c.args.group)

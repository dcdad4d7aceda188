use Rattle.far_table.specs.Moving.{IsPinned}
use Rattle.far_table.proofs.MovingLaws.{moved-invariant, moved-rows, pinned-still}
use Rattle.far_table.proofs.table_rows.TableRows.pin.Goals as goal

pub invariant_of-self : goal.invariant_of-self
invariant_of-self g c =
    let inside = c.self.inside in
    let e = c.pin.ensures in
    moved-invariant g.S.FarTickets.content inside.schema inside.limits inside.rows inside.new_row inside.edits c.args.self.now c.self.view_is c.pin.result c.pin.new.self (IsPinned c.args.column c.args.group) e.pinned e.err e.kept.cells (pinned-still inside.rows c.pin.new.self c.args.column c.args.group) c.self.invariant

pub returns-clause-pinned : goal.returns-clause-pinned
returns-clause-pinned g c =
    let inside = c.self.inside in
    let e = c.pin.ensures in
    moved-rows g.S.FarTickets.content inside.schema inside.limits inside.rows inside.new_row inside.edits c.args.self.now c.self.view_is c.pin.result c.pin.new.self (IsPinned c.args.column c.args.group) e.pinned e.err e.kept.cells (pinned-still inside.rows c.pin.new.self c.args.column c.args.group)

use Rattle.far_table.specs.Moving.{IsTouched}
use Rattle.far_table.proofs.MovingLaws.{moved-invariant, moved-rows, touched-still}
use Rattle.far_table.proofs.table_rows.TableRows.touch.Goals as goal

pub invariant_of-self : goal.invariant_of-self
invariant_of-self g c =
    let inside = c.self.inside in
    let e = c.touch.ensures in
    moved-invariant g.S.FarTickets.content inside.schema inside.limits inside.rows inside.new_row inside.edits c.args.self.now c.self.view_is c.touch.result c.touch.new.self (IsTouched c.args.column c.args.group) e.touched e.err e.kept.cells (touched-still inside.rows c.touch.new.self c.args.column c.args.group) c.self.invariant

pub returns-clause-touched : goal.returns-clause-touched
returns-clause-touched g c =
    let inside = c.self.inside in
    let e = c.touch.ensures in
    moved-rows g.S.FarTickets.content inside.schema inside.limits inside.rows inside.new_row inside.edits c.args.self.now c.self.view_is c.touch.result c.touch.new.self (IsTouched c.args.column c.args.group) e.touched e.err e.kept.cells (touched-still inside.rows c.touch.new.self c.args.column c.args.group)

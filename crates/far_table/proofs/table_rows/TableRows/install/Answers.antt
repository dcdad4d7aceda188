use Rattle.far_table.specs.Moving.{IsInstalled}
use Rattle.far_table.proofs.MovingLaws.{moved-invariant, moved-rows, installed-both, installed-still}
use Rattle.far_table.proofs.table_rows.TableRows.install.Goals as goal

pub invariant_of-self : goal.invariant_of-self
invariant_of-self g c =
    let inside = c.self.inside in
    let e = c.install.ensures in
    moved-invariant g.S.FarTickets.content inside.schema inside.limits inside.rows inside.new_row inside.edits c.args.self.now c.self.view_is c.install.result c.install.new.self (IsInstalled g.S.FarTickets.content g.S.FarTickets.number_of c.args.fetched.now)
    (installed-both g.S.FarTickets.number_of inside.rows c.install.new.self c.install.result g.S.FarTickets.content c.args.fetched.now e.decided.accepted e.installed e.decided.full)
    e.err e.cells (installed-still inside.rows c.install.new.self g.S.FarTickets.content g.S.FarTickets.number_of c.args.fetched.now) c.self.invariant

pub returns-clause-installed : goal.returns-clause-installed
returns-clause-installed g c =
    let inside = c.self.inside in
    let e = c.install.ensures in
    moved-rows g.S.FarTickets.content inside.schema inside.limits inside.rows inside.new_row inside.edits c.args.self.now c.self.view_is c.install.result c.install.new.self (IsInstalled g.S.FarTickets.content g.S.FarTickets.number_of c.args.fetched.now)
    (installed-both g.S.FarTickets.number_of inside.rows c.install.new.self c.install.result g.S.FarTickets.content c.args.fetched.now e.decided.accepted e.installed e.decided.full)
    e.err e.cells (installed-still inside.rows c.install.new.self g.S.FarTickets.content g.S.FarTickets.number_of c.args.fetched.now)

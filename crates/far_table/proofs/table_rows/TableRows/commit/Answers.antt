use Rattle.far_table.specs.Moving.{IsCommitted}
use Rattle.far_table.proofs.MovingLaws.{moved-invariant, moved-rows, committed-both, committed-still}
use Rattle.far_table.proofs.table_rows.TableRows.commit.Goals as goal

pub invariant_of-self : goal.invariant_of-self
invariant_of-self g c =
    let inside = c.self.inside in
    let e = c.commit.ensures in
    moved-invariant g.S.FarTickets.content inside.schema inside.limits inside.rows inside.new_row inside.edits c.args.self.now c.self.view_is c.commit.result c.commit.new.self (IsCommitted g.S.FarTickets.number_of c.args.carried.now)
    (committed-both g.S.FarTickets.number_of inside.rows c.commit.new.self c.commit.result c.args.carried.now e.decided.accepted e.committed e.decided.pinned)
    e.err e.cells (committed-still inside.rows c.commit.new.self g.S.FarTickets.number_of c.args.carried.now) c.self.invariant

pub returns-clause-committed : goal.returns-clause-committed
returns-clause-committed g c =
    let inside = c.self.inside in
    let e = c.commit.ensures in
    moved-rows g.S.FarTickets.content inside.schema inside.limits inside.rows inside.new_row inside.edits c.args.self.now c.self.view_is c.commit.result c.commit.new.self (IsCommitted g.S.FarTickets.number_of c.args.carried.now)
    (committed-both g.S.FarTickets.number_of inside.rows c.commit.new.self c.commit.result c.args.carried.now e.decided.accepted e.committed e.decided.pinned)
    e.err e.cells (committed-still inside.rows c.commit.new.self g.S.FarTickets.number_of c.args.carried.now)

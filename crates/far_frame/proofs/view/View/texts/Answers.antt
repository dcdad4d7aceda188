use Rattle.far_frame.specs.State.{live}
use Rattle.far_frame.proofs.LendingLaws.{are-held, lent-flags, lent-texts}
use Rattle.far_frame.proofs.view.View.texts.Goals as goal

pub returns-clause-cells : goal.returns-clause-cells
returns-clause-cells g c =
    let held = c.held.result.now in
    let are = are-held g.S.FarTickets.content c.rows-rows.result.now held (live c.self.inside.frame.now) c.args.self.now c.held.ensures.held c.held.ensures.rows c.held.ensures.places c.held.ensures.size c.rows-rows.ensures.limits c.rows-rows.ensures.places c.self.view_is in
    lent-texts g.S.FarTickets.content held c.args.self.now.table are c.args.column c.args.from c.args.to c.texts.result c.texts.ensures.cells

pub returns-clause-flags : goal.returns-clause-flags
returns-clause-flags g c =
    let held = c.held.result.now in
    let are = are-held g.S.FarTickets.content c.rows-rows.result.now held (live c.self.inside.frame.now) c.args.self.now c.held.ensures.held c.held.ensures.rows c.held.ensures.places c.held.ensures.size c.rows-rows.ensures.limits c.rows-rows.ensures.places c.self.view_is in
    lent-flags g.S.FarTickets.content held c.args.self.now.table are c.args.column c.args.from c.args.to c.texts.result c.texts.ensures.alive

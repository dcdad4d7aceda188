use Rattle.far_frame.specs.State.{live}
use Rattle.far_frame.proofs.LendingLaws.{are-held, lent-ints}
use Rattle.far_frame.proofs.view.View.ints.Goals as goal

pub returns-clause-lent : goal.returns-clause-lent
returns-clause-lent g c =
    let held = c.held.result.now in
    let are = are-held g.S.FarTickets.content c.rows-rows.result.now held (live c.self.inside.frame.now) c.args.self.now c.held.ensures.held c.held.ensures.rows c.held.ensures.places c.held.ensures.size c.rows-rows.ensures.limits c.rows-rows.ensures.places c.self.view_is in
    lent-ints g.S.FarTickets.content held c.args.self.now.table are c.args.column c.args.from c.args.to c.ints.result c.ints.ensures.lent c.ints.ensures.refused

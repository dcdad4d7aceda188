use Rattle.std.specs.Prelude.{option_copied}
use Rattle.far_frame.specs.State.{live}
use Rattle.far_frame.proofs.LendingLaws.{are-held, lent-text}
use Rattle.far_frame.proofs.view.View.text.Goals as goal

pub returns-clause-text : goal.returns-clause-text
returns-clause-text g c =
    let held = c.held.result.now in
    let are = are-held g.S.FarTickets.content c.rows-rows.result.now held (live c.self.inside.frame.now) c.args.self.now c.held.ensures.held c.held.ensures.rows c.held.ensures.places c.held.ensures.size c.rows-rows.ensures.limits c.rows-rows.ensures.places c.self.view_is in
    lent-text g.S.FarTickets.content held c.args.self.now.table are c.args.column option_copied c.args.place c.text.result c.text.ensures.text c.text.ensures.refused

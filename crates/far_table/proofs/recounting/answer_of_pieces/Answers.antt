use Rattle.std.proofs.Common.{◌*◌, length, sym, ◌∙◌}
use Rattle.std.proofs.lemmas.Result.{IfOk-weaker}
use Rattle.far_rows.specs.Places.{places_in}
use Rattle.far_rows.specs.Rows.{all_cells}
use Rattle.far_table.proofs.Places.{length-places}
use Rattle.far_table.proofs.PiecesRuns.{folded-few, folded-given}
use Rattle.far_table.proofs.recounting.answer_of_pieces.Goals as goal

pub gather-requires-clause-faults_few : goal.gather-requires-clause-faults_few
gather-requires-clause-faults_few g c κs within =
    let r = c.args.rows.now in
    let wide = c.args.wide in
    folded-few g.S.FarTickets.may_fail c.args.spec.now (wide.cut.long * r.size) (places_in g.S.FarTickets.content r) wide.pieces c.args.pieces.items c.requires.folded

pub answer_of-requires-clause-partials : goal.answer_of-requires-clause-partials
answer_of-requires-clause-partials g c =
    let r = c.args.rows.now in
    let wide = c.args.wide in
    let spec = c.args.spec.now in
    let places = places_in g.S.FarTickets.content r in
    let long = length-places (all_cells g.S.FarTickets.content r) r.alive ∙ sym c.len.ensures.len in
    let given = folded-given g.S.FarTickets.may_fail spec places r.size (length r.alive) c.len.result wide c.args.pieces.items c.in_ok-partials.partials.items c.len.ensures.len c.requires.cut c.requires.folded c.in_ok-partials.ensures.whole c.in_ok-partials.ensures.partials in
    (places, long, given)

pub returns-clause-answer : goal.returns-clause-answer
returns-clause-answer g c =
    let r = c.args.rows.now in
    let wide = c.args.wide in
    let spec = c.args.spec.now in
    let places = places_in g.S.FarTickets.content r in
    let long = length-places (all_cells g.S.FarTickets.content r) r.alive ∙ sym c.len.ensures.len in
    let given = folded-given g.S.FarTickets.may_fail spec places r.size (length r.alive) c.len.result wide c.args.pieces.items c.in_ok-partials.partials.items c.len.ensures.len c.requires.cut c.requires.folded c.in_ok-partials.ensures.whole c.in_ok-partials.ensures.partials in
    IfOk-weaker c.answer_of.result _ _ (λ answer answered. answered places long given) c.answer_of.ensures.answer

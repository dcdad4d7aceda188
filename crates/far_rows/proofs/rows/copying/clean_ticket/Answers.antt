use Rattle.std.proofs.Common.{sym, ◌∙◌}
use Rattle.far_scopes.specs.Movement.{ticket_of}
use Rattle.far_codec.specs.Spelling.{IsSpelled}
use Rattle.far_evacuator.proofs.MovementCopies.{far-spelled}
use Rattle.far_rows.proofs.Copies.{away-clean, if-found}
use Rattle.far_rows.proofs.rows.copying.clean_ticket.Goals as goal

pub returns-clause-form : goal.returns-clause-form
returns-clause-form g c =
    let meaning = g.T.Elem.meaning in
    let content = g.S.FarTickets.content in
    let m = c.args.objects.now in
    let spelled = IsSpelled g.T.Elem.in_range g.T.Elem.has_spelling g.T.Elem.spelling in
    if-found (λ t. t.now) c.ticket.result (ticket_of m c.args.o) (λ t. spelled (meaning (content t)) (content t)) c.ticket.ensures.ticket
    (λ t is. far-spelled meaning content spelled m c.number-number.ensures.tracked c.args.o c.requires t is)

pub returns-then-dirty-clause-away : goal.returns-then-dirty-clause-away
returns-then-dirty-clause-away g c = λ away. sym (away-clean c.args.objects.now c.args.o c.word.result c.word.ensures.word away) ∙ sym c.dirty.ensures ∙ c.if-dirty.true

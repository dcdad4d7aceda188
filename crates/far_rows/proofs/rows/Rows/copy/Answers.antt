use Rattle.std.proofs.Common.{Some, ap, ◌∙◌}
use Rattle.far_codec.specs.Reading.{ints_meaning}
use Rattle.far_rows.specs.Copies.{clean_ticket, IsCopyOf}
use Rattle.far_rows.specs.Jobs.{SpellsNumbers, SpellsTexts}
use Rattle.far_rows.proofs.Copies.{both-found, number-copied, text-copied}
use Rattle.far_rows.proofs.rows.Rows.copy.Goals as goal

pub returns-in-Ok-Number-clause-form : goal.returns-in-Ok-Number-clause-form
returns-in-Ok-Number-clause-form g c =
    let content = g.S.FarTickets.content in
    let r = c.args.self.now in
    let o = c.in-Ok-Number.o in
    let ticket = c.clean_ticket.ensures.ticket ∙ ap (λ m. clean_ticket m o) c.number_objects.ensures.objects in
    both-found (λ t. t.now) c.clean_ticket.result (clean_ticket r.number_objects o) (λ t. SpellsNumbers (ints_meaning (content t)) (content t)) (λ t. IsCopyOf content r t c.args.column c.args.group) ticket c.clean_ticket.ensures.form
    (λ t is spelled. number-copied content r c.len-len.ensures.rows c.args.column c.args.group o (c.in-Ok-Number.ensures.object ∙ ap Some c.in-Ok-Number.field-0-is) t is spelled)

pub returns-in-Ok-Text-clause-form : goal.returns-in-Ok-Text-clause-form
returns-in-Ok-Text-clause-form g c =
    let content = g.S.FarTickets.content in
    let r = c.args.self.now in
    let o = c.in-Ok-Text.o in
    let ticket = c.clean_ticket-in-Ok-Text.ensures.ticket ∙ ap (λ m. clean_ticket m o) c.text_objects.ensures.objects in
    both-found (λ t. t.now) c.clean_ticket-in-Ok-Text.result (clean_ticket r.text_objects o) (λ t. SpellsTexts (content t) (content t)) (λ t. IsCopyOf content r t c.args.column c.args.group) ticket c.clean_ticket-in-Ok-Text.ensures.form
    (λ t is spelled. text-copied content r c.len-len.ensures.rows c.args.column c.args.group o (c.in-Ok-Text.ensures.object ∙ ap Some c.in-Ok-Text.field-0-is) t is spelled)

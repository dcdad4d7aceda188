use Rattle.std.proofs.Common.{◌≡◌, length, refl, subst}
use Rattle.far_rows.specs.Rows.{Rows}
use Rattle.far_table.specs.Live.{state_of}
use Rattle.far_frame.specs.State.{State, with_accesses}
use Rattle.far_frame.specs.TableViews.{IsKept}
use Rattle.far_frame.proofs.TableKept.{is-kept}
use Rattle.far_frame.proofs.frame.Frame.keeps.Goals as goal

pub returns : goal.returns
returns g c =
    let content = g.S.FarTickets.content in
    let inside = c.self.inside in
    let rows = inside.rows in
    let state = with_accesses (state_of rows inside.registrations inside.aggregates) inside.prefetcher in
    let held = c.held-held.ensures in
    let words = c.each_object_has_a_word.ensures in
    let numbers = subst (λ (r : Rows g.row.S-Ticket.Denot). length r.number_objects.records ≡ length r.number_objects.memory.words) held.held words.numbers in
    let texts = subst (λ (r : Rows g.row.S-Ticket.Denot). length r.text_objects.records ≡ length r.text_objects.memory.words) held.held words.texts in
    subst (λ (s : State g.row.S-Ticket.Denot). IsKept content s) c.self.view_is
    (is-kept content state rows.held rows.limits rows.schema rows.places refl refl refl refl c.limits-limits.ensures.bounds held.rows held.kinds held.places held.size numbers texts)

use Rattle.std.proofs.Common.{IfOk, subst}
use Rattle.far_store.specs.StoreState.{IsTicketOf, bucket_ids, full_id}
use Rattle.far_store.proofs.StoreStateTickets.{is-of, of-store}
use Rattle.far_store.proofs.engine_store.EngineStoreFarStore.put.Goals as goal

pub returns-clause-here : goal.returns-clause-here
returns-clause-here g c =
    let inside = c.self.inside in
    let ticket = c.in-Ok-push_shown.ticket in
    let shown = is-of inside.keys ticket c.in-Ok-push_shown.ensures.0.0 in
    subst (λ store. IfOk c.below.result (λ kept. IsTicketOf kept (full_id store))) c.self.view_is
    (of-store (record { id = bucket_ids inside.keys; capacity = inside.capacity }) c.below.result
    ticket c.below.ensures.number c.below.ensures.kept shown)

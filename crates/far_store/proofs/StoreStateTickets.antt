-- Drawn tickets.
use Rattle.std.proofs.Common.{◌≡◌, ◌<◌, Ok, Err, Result, IfOk, subst, sym, ◌∙◌, []}
use Rattle.std.proofs.Math.ListN.{get_or-map}
use Rattle.boxcar.specs.Table.{Shelves, Where, Shows}
use Rattle.far_store.specs.StoreState.{StoreState, IsOf, IsTicketOf, bucket_ids, full_id}

-- a location in a vector is of the store with the ids of the vector's buckets
pub is-of : {T : Type 0} (shelves : Shelves) (place : Where T) → Shows shelves place
    → IsOf place (bucket_ids shelves)
is-of shelves place shows = shows
    ∙ sym (get_or-map (λ bucket. bucket.id) shelves.buckets place.bucket record { id = 0; tag = [] })

-- a call that returns a ticket unchanged, and only if its number is below the capacity, returns a ticket of the store
pub of-store : {T E : Type 0} (store : StoreState) (result : Result (Where T) E) (ticket : Where T)
    → IfOk result (λ kept. kept.index < store.capacity)
    → IfOk result (λ kept. kept ≡ ticket)
    → IsOf ticket store.id
    → IfOk result (λ kept. IsTicketOf kept (full_id store))
of-store store (Ok kept) ticket few same is = (few, subst (λ t. IsOf t store.id) (sym same) is)
of-store store (Err e) ticket few same is = tt

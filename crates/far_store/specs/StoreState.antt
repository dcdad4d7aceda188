-- The state of a store that keeps its contents or keys in a vector that only grows, and how a ticket refers to it.
use Rattle.std.specs.Prelude.{◌≡◌, ◌<◌, ℕ, List, [], ◌∷◌, map, slice_index_or}
use base.Stored.{Coded, coded×, coded_ℕ, coded_list, coded_via}
use Rattle.boxcar.specs.Table.{Shelves, Where}

-- a store's state: its id, which no other store has, and how many numbers it may give out
pub record StoreState : Type 0 where
  pub id : List ℕ
  pub capacity : ℕ

-- an injective code of a store's state
abbrev pub store_coded : Coded StoreState
store_coded = coded_via (coded× (coded_list coded_ℕ) coded_ℕ)
    (λ (s : StoreState). (s.id, s.capacity))
    (λ x y e i. record { id = (e i).0; capacity = (e i).1 })

-- the full id, which ties tickets to a store: its capacity, then its id
abbrev pub full_id : StoreState → List ℕ
full_id store = store.capacity ∷ store.id

-- the id of a vector that only grows: the ids of its buckets, which it has from the beginning and no other vector has
abbrev pub bucket_ids : Shelves → List ℕ
bucket_ids shelves = map (λ bucket. bucket.id) shelves.buckets

-- the location is in a bucket of the vector with this id
abbrev pub IsOf : {T : Type 0} → Where T → List ℕ → Type 0
IsOf place id = place.row ≡ slice_index_or id place.bucket 0

-- the ticket is of the store with this full id: its number is below the capacity, and it is in a bucket of the store
abbrev pub IsTicketOf : {T : Type 0} → Where T → List ℕ → Type 0
IsTicketOf ticket [] = ⊥
IsTicketOf ticket (capacity ∷ id) = (ticket.index < capacity) × IsOf ticket id

-- What contracts see of a host store and of its tickets, and when bytes are accepted for a ticket's content.
use base.Stored.{Coded, coded×, coded_ℕ, coded_list, coded_via}
use Rattle.std.specs.Prelude.{◌≡◌, ◌<◌, ℕ, List, [], ◌∷◌, length}
use Rattle.far_host.specs.ContentDigest.{content_digest}
use Rattle.far_host.specs.Spots.{group_of, LiesAt}

-- the number of tickets that the store may give out, and its notes: the slots of their groups, in order
pub record HostState : Type 0 where
  pub capacity : ℕ
  pub notes : List ℕ

-- an injective code of a store's state
abbrev pub host_coded : Coded HostState
host_coded = coded_via (coded× coded_ℕ (coded_list coded_ℕ))
    (λ (s : HostState). (s.capacity, s.notes))
    (λ x y e i. record { capacity = (e i).0; notes = (e i).1 })

-- the id of a store: its capacity, and then its notes, which no other store has
abbrev pub id_of : HostState → List ℕ
id_of store = store.capacity ∷ store.notes

-- the ticket's number, the bytes that were put, and the slot of the group of its note
pub record TicketState : Type 0 where
  pub number : ℕ
  pub content : List ℕ
  pub group : ℕ

-- the ticket's note is one of these
abbrev pub IsNoted : TicketState → List ℕ → Type 0
IsNoted ticket notes = LiesAt notes (group_of ticket.number) ticket.group

-- the ticket is of the store with this id: its number is below the capacity, and its note is in the store
abbrev pub IsOf : TicketState → List ℕ → Type 0
IsOf ticket [] = ⊥
IsOf ticket (capacity ∷ notes) = (ticket.number < capacity) × IsNoted ticket notes

-- the bytes have the length and the digest of a content
abbrev pub HasDigestOf : List ℕ → List ℕ → Type 0
HasDigestOf content bytes = (length bytes ≡ length content)
    × (content_digest bytes ≡ content_digest content)

-- the premise of a delivery: if the bytes have the length and the digest of the ticket's content,
-- they are that content
abbrev pub HasNoCollision : TicketState → List ℕ → Type 0
HasNoCollision ticket bytes = HasDigestOf ticket.content bytes → bytes ≡ ticket.content

-- Objects after their far copies moved to another store.
use Rattle.std.specs.Prelude.{◌≡◌, ℕ, true, false, if◌then◌else◌, List, length, map, Option, None, IfSome, option_map, slice_get}
use Rattle.std.specs.List.{zip}
use Rattle.std.specs.Option.{option_and_then}
use Rattle.far_pointer.specs.declared.pointer.Pointer.{Pointer}
use Rattle.far_pointer.specs.declared.pointer.Pointer.TheVariants.{Local, Remote}
use Rattle.far_scopes.specs.declared.object_record.ObjectRecord.{ObjectRecord}
use Rattle.far_scopes.specs.Memory.{Memory}
use Rattle.far_scopes.specs.Movement.{Movement, is_local, ticket_of}

-- the word of an object after a renewal: a local object has no far copy, so it is dirty
abbrev pub renewed_word : Pointer → Pointer
renewed_word (Local at dirty hot far) = Local at true hot false
renewed_word Remote = Remote

-- the local memory after a renewal: no local object has a far copy
abbrev pub renewed_memory : {X : Type 0} → Memory X → Memory X
renewed_memory memory = record memory { words = map renewed_word memory.words }

module _ {K L : Type 0} where
  -- the record of an object with this ticket, or without a ticket
  abbrev pub renewed_record : ObjectRecord K → Option L → ObjectRecord L
  renewed_record object_record ticket = record {
    name = object_record.name;
    len = object_record.len;
    version = object_record.version;
    leavings = object_record.leavings;
    pins = object_record.pins;
    ticket = ticket;
  }

  -- the objects after a renewal with these tickets, listed by object number
  abbrev pub after_renew : {X : Type 0} → Movement X K → List (Option L) → Movement X L
  after_renew m tickets = record {
    number = m.number;
    max_writes = m.max_writes;
    leavings = m.leavings;
    memory = renewed_memory m.memory;
    records = map (λ (e : ObjectRecord K × Option L). renewed_record e.0 e.1)
        (zip m.records tickets);
    order = m.order;
  }

-- the ticket at an object number, if there is one
abbrev pub ticket_in : {L : Type 0} → List (Option L) → ℕ → Option L
ticket_in tickets o = option_and_then (λ ticket. ticket) (slice_get tickets o)

-- these tickets renew the objects: the ticket of an object that is away has its old ticket's content, and a local object has no ticket
pub record Renews {X K L : Type 0} (content : K → List ℕ) (new_content : L → List ℕ)
    (m : Movement X K) (tickets : List (Option L)) : Type 0 where
  pub same_length : length tickets ≡ length m.records
  pub each : (o : ℕ)
      → option_map new_content (ticket_in tickets o)
      ≡ (if is_local m o then None else option_map content (ticket_of m o))

-- each of these tickets is of the store with this id
abbrev pub AreTicketsHere : {L : Type 0} → (L → List ℕ → Type 0) → List ℕ
    → List (Option L) → Type 0
AreTicketsHere is_of id tickets = (o : ℕ)
    → IfSome (ticket_in tickets o) (λ ticket. is_of ticket id)

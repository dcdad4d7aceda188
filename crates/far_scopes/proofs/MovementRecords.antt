-- Calls that change only records, and no list.
use Rattle.std.proofs.Common.{◌≡◌, ℕ, ◌+◌, ◌-◌, inl, inr, List, [], ◌∷◌, refl, ap, ◌∙◌}
use Rattle.std.specs.Prelude.{◌==◌, option_map}
use Rattle.std.specs.Option.{option_and_then, option_or}
use Rattle.std.proofs.lemmas.Bool.{cases_eq}
use Rattle.far_scopes.specs.declared.object_record.ObjectRecord.{ObjectRecord}
use Rattle.far_scopes.specs.Memory.{list_in}
use Rattle.far_scopes.specs.Movement.{Movement, ticket_of, pins_of, list_of}
use Rattle.far_scopes.specs.Effects.{with_record, after_pin, after_unpin}
use Rattle.far_scopes.specs.Entering.{after_pin_all, after_close}
use Rattle.far_scopes.proofs.MovementFrames.{object_record-with_other, ticket-with, if-either}

module _ {X K : Type 0} where
  -- no record's ticket changes
  tickets-unchanged : (m : Movement X K) (o : ℕ) (change : ObjectRecord K → ObjectRecord K) → ((e : ObjectRecord K) → (change e).ticket ≡ e.ticket) → (p : ℕ) → ticket_of record m { records = with_record m.records o change } p ≡ ticket_of m p
  tickets-unchanged m o change same p = elim (cases_eq p o) [
    | inl here ↦ rw here (ticket-with m.records o change same)
    | inr ne ↦ ap (option_and_then (λ (e : ObjectRecord K). e.ticket)) (object_record-with_other m.records o change p ne)
  ]

  module _ (meaning : List ℕ → List X) (content : K → List ℕ) where
    pub lists-recorded : (m : Movement X K) (o : ℕ) (change : ObjectRecord K → ObjectRecord K) → ((e : ObjectRecord K) → (change e).ticket ≡ e.ticket) → (p : ℕ) → list_of meaning content record m { records = with_record m.records o change } p ≡ list_of meaning content m p
    lists-recorded m o change same p = ap (λ ticket. option_or (list_in m.memory p) (option_map (λ k. meaning (content k)) ticket)) (tickets-unchanged m o change same p)

    pub lists-after_pin : (m : Movement X K) (o p : ℕ) → list_of meaning content (after_pin m o) p ≡ list_of meaning content m p
    lists-after_pin m o = lists-recorded m o (λ object_record. record object_record { pins = object_record.pins + 1 }) (λ e. refl)

    pub lists-unpinned : (m : Movement X K) (o p : ℕ) → list_of meaning content (after_unpin m o) p ≡ list_of meaning content m p
    lists-unpinned m o = lists-recorded m o (λ object_record. record object_record { pins = object_record.pins - 1 }) (λ e. refl)

    pub lists-after_pin_all : (m : Movement X K) (objects : List ℕ) (p : ℕ) → list_of meaning content (after_pin_all m objects) p ≡ list_of meaning content m p
    lists-after_pin_all m [] p = refl
    lists-after_pin_all m (o ∷ objects) p = lists-after_pin_all (after_pin m o) objects p ∙ lists-after_pin m o p

    pub lists-closed : (m : Movement X K) (objects : List ℕ) (p : ℕ) → list_of meaning content (after_close m objects).0 p ≡ list_of meaning content m p
    lists-closed m [] p = refl
    lists-closed m (o ∷ objects) p = if-either (λ (r : Movement X K × ℕ). list_of meaning content r.0 p ≡ list_of meaning content m p) (pins_of m o == 0) _ _
        (lists-closed m objects p)
        (lists-closed (after_unpin m o) objects p ∙ lists-unpinned m o p)

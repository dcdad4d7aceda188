-- The invariant of all objects after one changes.
use Rattle.std.proofs.Common.{◌≡◌, ◌≢◌, ℕ, ◌<◌, arith, get_or, true, false, inl, inr, List, length, Option, Some, refl, sym, ap, subst, ◌∙◌}
use Rattle.std.specs.Prelude.{option_map, IfSome}
use Rattle.std.specs.Option.{option_map_or, option_and_then}
use Rattle.std.proofs.lemmas.Bool.{cases_eq}
use Rattle.far_pointer.specs.declared.pointer.Pointer.{Pointer}
use Rattle.far_pointer.specs.Layout.{is_dirty}
use Rattle.far_scopes.specs.declared.object_record.ObjectRecord.{ObjectRecord}
use Rattle.far_scopes.specs.Memory.{place_of, list_in, ChangesList}
use Rattle.far_scopes.proofs.MemoryPlaces.{cases_option}
use Rattle.far_scopes.proofs.MemoryWordPlaces.{word-read, place-within, some-true}
use Rattle.far_scopes.specs.Movement.{Movement, is_local, word_of, record_of, dirty, ticket_of, list_of, AreClean, IsTracked, AreTracked}

module _ {X K : Type 0} (meaning : List ℕ → List X) (content : K → List ℕ) where
  -- every object except o is unchanged
  pub record Others (old new : Movement X K) (o : ℕ) : Type 0 where
    pub words : (p : ℕ) → p ≢ o → word_of new p ≡ word_of old p
    pub records : (p : ℕ) → p ≢ o → record_of new p ≡ record_of old p
    pub lists : (p : ℕ) → p ≢ o → list_in new.memory p ≡ list_in old.memory p

  module _ (old new : Movement X K) (o : ℕ) (others : Others old new o) where
    list-other : (p : ℕ) → p ≢ o → list_of meaning content new p ≡ list_of meaning content old p
    list-other p ne = rw (others.lists p ne, others.records p ne) refl

    -- each clean object's list is the list that its ticket's content encodes, if this holds for object o
    pub clean-one : AreClean meaning content old → (dirty new o ≡ false → list_of meaning content new o ≡ option_map (λ ticket. meaning (content ticket)) (ticket_of new o)) → AreClean meaning content new
    clean-one clean here p = elim (cases_eq p o) [
      | inl same ↦ subst (λ k. dirty new k ≡ false → list_of meaning content new k ≡ option_map (λ ticket. meaning (content ticket)) (ticket_of new k)) (sym same) here
      | inr ne ↦ λ c. list-other p ne ∙ clean p (ap (λ w. option_map_or is_dirty w false) (sym (others.words p ne)) ∙ c) ∙ ap (λ e. option_map (λ ticket. meaning (content ticket)) (option_and_then (λ (x : ObjectRecord K). x.ticket) e)) (sym (others.records p ne))
    ]

    pub list-one : (now : Option (List X)) → list_of meaning content new o ≡ now → ChangesList (list_of meaning content old) (list_of meaning content new) o now
    list-one now here = record { here = here; others = list-other }

    pub lists-unchanged : list_of meaning content new o ≡ list_of meaning content old o → (p : ℕ) → list_of meaning content new p ≡ list_of meaning content old p
    lists-unchanged here p = elim (cases_eq p o) [
      | inl same ↦ subst (λ k. list_of meaning content new k ≡ list_of meaning content old k) (sym same) here
      | inr ne ↦ list-other p ne
    ]

    module _ (spelled : List X → List ℕ → Type 0) (tracked : AreTracked meaning content spelled old) where
      -- the invariant of each object, if it holds for the object that changed
      pub each-one : new.max_writes ≡ old.max_writes → new.leavings ≡ old.leavings
          → ((word : Pointer) (object_record : ObjectRecord K) → word_of new o ≡ Some word → record_of new o ≡ Some object_record → IsTracked meaning content spelled new.max_writes new.leavings word (list_in new.memory o) object_record)
          → (p : ℕ) (word : Pointer) (object_record : ObjectRecord K) → word_of new p ≡ Some word → record_of new p ≡ Some object_record → IsTracked meaning content spelled new.max_writes new.leavings word (list_in new.memory p) object_record
      each-one max_writes leavings here p word object_record w e = elim (cases_eq p o) [
        | inl same ↦ subst (λ k. IsTracked meaning content spelled new.max_writes new.leavings word (list_in new.memory k) object_record) (sym same) (here word object_record (subst (λ k. word_of new k ≡ Some word) same w) (subst (λ k. record_of new k ≡ Some object_record) same e))
        | inr ne ↦ rw (max_writes, leavings, others.lists p ne) (tracked.each p word object_record (sym (others.words p ne) ∙ w) (sym (others.records p ne) ∙ e))
      ]

-- the list of a local object has the length in its record
pub long-read : {X K : Type 0} (meaning : List ℕ → List X) (content : K → List ℕ) (spelled : List X → List ℕ → Type 0) (m : Movement X K) → AreTracked meaning content spelled m
    → (o : ℕ) (object_record : ObjectRecord K) → is_local m o ≡ true → object_record ≡ get_or m.records o object_record → IfSome (list_in m.memory o) (λ list. length list ≡ object_record.len)
long-read meaning content spelled m tracked o object_record local read =
    let within : o < length m.records = omega (arith, place-within m.memory.words o (some-true (place_of m.memory.words o) local), tracked.same_length) in
    elim (cases_option (word_of m o)) [
      | inl none ↦ rw none tt
      | inr (word, w) ↦ (tracked.each o word object_record w (word-read m.records o object_record within read)).long
    ]

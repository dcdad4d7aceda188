-- The invariant of all objects after one is created.
use Rattle.std.proofs.Common.{◌≡◌, ◌≢◌, ℕ, ◌<◌, ◌^◌, true, false, inl, inr, List, [], ◌∷◌, ◌++◌, length, length-append, Some, refl, sym, ap, subst, ◌∙◌, arith}
use Rattle.std.specs.Prelude.{is_some}
use Rattle.std.specs.Option.{option_map_or}
use Rattle.std.proofs.lemmas.Bool.{cases_eq}
use Rattle.far_types.specs.declared.name.Name.{Name}
use Rattle.far_pointer.specs.declared.pointer.At.{At}
use Rattle.far_pointer.specs.declared.pointer.Pointer.{Pointer}
use Rattle.far_pointer.specs.declared.pointer.Pointer.TheVariants.{Local}
use Rattle.far_pointer.specs.Layout.{is_dirty}
use Rattle.far_scopes.specs.declared.object_record.ObjectRecord.{ObjectRecord}
use Rattle.far_scopes.specs.Recency.{has}
use Rattle.far_scopes.specs.Memory.{Memory, list_in, ChangesList}
use Rattle.far_scopes.specs.Movement.{Movement, ChangesObject, AreHere, word_of, record_of, is_local, dirty, pins_of, list_of, AreClean, IsTracked, AreTracked}
use Rattle.far_scopes.specs.Effects.{new_record}
use Rattle.far_scopes.proofs.MemoryWordPlaces.{slice_get-push_last, slice_get-push_other, place-push_last, place-push_other, place-end}
use Rattle.far_scopes.proofs.RecencyLaws.{has-cons_same, has-cons_other}
use Rattle.far_scopes.proofs.MovementLaws.{Others, clean-one, list-one, each-one}
use Rattle.far_scopes.proofs.MovementFrames.{here-one}
use Rattle.far_scopes.proofs.MovementTransitions.{some-one}

-- the invariant of a new object
pub tracked-new : {X K : Type 0} (meaning : List ℕ → List X) (content : K → List ℕ) (spelled : List X → List ℕ → Type 0) (max_writes leavings : ℕ) (at : At) (name : Name) (list : List X)
    → 0 < length list → IsTracked meaning content spelled max_writes leavings (Local at true true false) (Some list) (new_record name (length list))
tracked-new meaning content spelled max_writes leavings at name list some =
    record { version = omega arith; left = omega arith; some = some; long = refl; away = λ is. cc; copy = refl; far = tt }

module _ {X K : Type 0} (meaning : List ℕ → List X) (content : K → List ℕ) (spelled : List X → List ℕ → Type 0) (m : Movement X K) (tracked : AreTracked meaning content spelled m) (memory : Memory X) (at : At) (name : Name) (list : List X)
    (words : memory.words ≡ m.memory.words ++ Local at true true false ∷ []) (change : ChangesList (list_in m.memory) (list_in memory) (length m.memory.words) (Some list)) where
  -- the objects after this one is created
  abbrev with_one : Movement X K
  with_one = record m { memory = memory; records = m.records ++ new_record name (length list) ∷ []; order = length m.records ∷ m.order }

  word-new : word_of with_one (length m.records) ≡ Some (Local at true true false)
  word-new = rw (words, tracked.same_length) (slice_get-push_last m.memory.words (Local at true true false))

  list-new : list_in memory (length m.records) ≡ Some list
  list-new = rw tracked.same_length change.here

  disjoint : (p : ℕ) → p ≢ length m.records → p ≢ length m.memory.words
  disjoint p ne same = ne (same ∙ sym tracked.same_length)

  others : Others meaning content m with_one (length m.records)
  others = record {
    words = λ p ne. rw words (slice_get-push_other m.memory.words (Local at true true false) p (disjoint p ne));
    records = slice_get-push_other m.records (new_record name (length list));
    lists = λ p ne. change.others p (disjoint p ne);
  }

  -- every other object keeps its word and its record
  pub changes-made : ChangesObject m with_one (length m.records)
  changes-made = record { words = others.words; records = others.records }

  -- the new object has no ticket
  pub here-made : (is_of : K → List ℕ → Type 0) (id : List ℕ) → AreHere is_of id m → AreHere is_of id with_one
  here-made is_of id here = here-one is_of id m with_one (length m.records) changes-made here (rw (slice_get-push_last m.records (new_record name (length list))) tt)

  -- the new object is local, and has no pin
  pub last-made : (is_local with_one (length m.records) ≡ true) × (pins_of with_one (length m.records) ≡ 0)
  last-made = (
    rw (words, tracked.same_length) (ap is_some (place-push_last m.memory.words (Local at true true false))),
    ap (λ e. option_map_or (λ (object_record : ObjectRecord K). object_record.pins) e 0) (slice_get-push_last m.records (new_record name (length list))),
  )

  pub lists-made : ChangesList (list_of meaning content m) (list_of meaning content with_one) (length m.records) (Some list)
  lists-made = list-one meaning content m with_one (length m.records) others (Some list) (rw list-new refl)

  pub clean-made : AreClean meaning content m → AreClean meaning content with_one
  clean-made clean = clean-one meaning content m with_one (length m.records) others clean
      (λ c. let d : dirty with_one (length m.records) ≡ true = ap (λ w. option_map_or is_dirty w false) word-new in let both = sym d ∙ c in cc)

  ordered-made : (p : ℕ) → has (length m.records ∷ m.order) p ≡ is_local with_one p
  ordered-made p = elim (cases_eq p (length m.records)) [
    | inl same ↦ subst (λ k. has (length m.records ∷ m.order) k ≡ is_local with_one k) (sym same) (has-cons_same m.order (length m.records) ∙ rw (words, tracked.same_length) (ap is_some (sym (place-push_last m.memory.words (Local at true true false)))))
    | inr ne ↦ has-cons_other m.order (length m.records) p ne ∙ tracked.ordered p ∙ rw words (ap is_some (sym (place-push_other m.memory.words (Local at true true false) p (disjoint p ne))))
  ]

  -- the new object was not in the order of use
  pub not-yet : has m.order (length m.records) ≡ false
  not-yet = tracked.ordered (length m.records) ∙ rw tracked.same_length (ap is_some (place-end m.memory.words))

  pub tracked-made : 0 < length list → length m.records < 2 ^ 28 → AreTracked meaning content spelled with_one
  tracked-made some few = record {
    same_length = length-append m.records (new_record name (length list) ∷ []) ∙ rw (words, length-append m.memory.words (Local at true true false ∷ []), tracked.same_length) refl;
    few = omega (arith, few, length-append m.records (new_record {K = K} name (length list) ∷ []));
    each = each-one meaning content m with_one (length m.records) others spelled tracked refl refl
        (λ word e w is. rw list-new (subst (λ (k : Pointer). IsTracked meaning content spelled m.max_writes m.leavings k (Some list) e) (some-one (word_of with_one (length m.records)) w word-new)
        (subst (IsTracked meaning content spelled m.max_writes m.leavings (Local at true true false) (Some list)) (some-one (record_of with_one (length m.records)) is (slice_get-push_last m.records (new_record name (length list))))
        (tracked-new meaning content spelled m.max_writes m.leavings at name list some))));
    once = (not-yet, tracked.once);
    ordered = ordered-made;
  }

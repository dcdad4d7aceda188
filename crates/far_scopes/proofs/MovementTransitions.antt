-- The invariant of all objects after one is pinned, used, written or evicted, or becomes local again.
use Rattle.std.proofs.Common.{◌≡◌, ◌≢◌, ℕ, Bool, true, false, inl, inr, List, length, Option, Some, refl, sym, ap, subst, ◌∙◌}
use Rattle.std.specs.Prelude.{not, is_some, slice_get, slice_set}
use Rattle.std.specs.Option.{option_and_then}
use Rattle.std.proofs.lemmas.Bool.{cases_eq}
use Rattle.std.proofs.lemmas.List.{length-set}
use Rattle.std.proofs.lemmas.Option.{slice_get_within}
use Rattle.far_pointer.specs.declared.pointer.Pointer.{Pointer}
use Rattle.far_pointer.specs.declared.pointer.Pointer.TheVariants.{Remote}
use Rattle.far_scopes.specs.declared.object_record.ObjectRecord.{ObjectRecord}
use Rattle.far_scopes.specs.Recency.{has, Once}
use Rattle.far_scopes.specs.Placing.{with_word}
use Rattle.far_scopes.proofs.MemoryPlaces.{cases_option, none_or_some}
use Rattle.far_scopes.specs.Memory.{Memory, at_of, place_of, list_in}
use Rattle.far_scopes.specs.Movement.{Movement, word_of, record_of, dirty, list_of, AreClean, IsTracked, AreTracked}
use Rattle.far_scopes.proofs.MemoryWordPlaces.{slice_get-set_other, slice_get-set_same}
use Rattle.far_scopes.proofs.MovementLaws.{Others, clean-one, lists-unchanged, each-one}

pub some-one : {A : Type 0} {x y : A} (o : Option A) → o ≡ Some x → o ≡ Some y → y ≡ x
some-one o e f = cc

pub true-or-false : (b : Bool) → not b ≡ false → b ≡ false → ⊥
true-or-false true local away = cc
true-or-false false local away = cc

module _ {X K : Type 0} (meaning : List ℕ → List X) (content : K → List ℕ) (spelled : List X → List ℕ → Type 0) (m : Movement X K) (tracked : AreTracked meaning content spelled m) (o : ℕ) (object_record now : ObjectRecord K) (was : record_of m o ≡ Some object_record) where
  -- the records after the record of object o changes
  abbrev pub entries' : List (ObjectRecord K)
  entries' = slice_set m.records o now

  pub object_record-same : slice_get entries' o ≡ Some now
  object_record-same = slice_get-set_same m.records o now (slice_get_within m.records o object_record was)

  pub object_record-other : (p : ℕ) → p ≢ o → slice_get entries' p ≡ slice_get m.records p
  object_record-other p ne = slice_get-set_other m.records o p now ne

  abbrev ticket-in : Option (ObjectRecord K) → Option K
  ticket-in e = option_and_then (λ (x : ObjectRecord K). x.ticket) e

  pub ticket-same : now.ticket ≡ object_record.ticket → ticket-in (slice_get entries' o) ≡ ticket-in (slice_get m.records o)
  ticket-same same = ap ticket-in object_record-same ∙ same ∙ sym (ap ticket-in was)

  -- the local memory and the order of use change too, but no object is added or removed
  module _ (memory : Memory X) (order : List ℕ) (words : (p : ℕ) → p ≢ o → slice_get memory.words p ≡ slice_get m.memory.words p) (lists : (p : ℕ) → list_in memory p ≡ list_in m.memory p) where
    abbrev pub changed : Movement X K
    changed = record m { memory = memory; records = entries'; order = order }

    pub others : Others meaning content m changed o
    others = record { words = words; records = object_record-other; lists = λ p ne. lists p }

    pub lists-changed : now.ticket ≡ object_record.ticket → (p : ℕ) → list_of meaning content changed p ≡ list_of meaning content m p
    lists-changed same = lists-unchanged meaning content m changed o others (rw (lists o, ticket-same same) refl)

    pub clean-changed : now.ticket ≡ object_record.ticket → (dirty changed o ≡ false → dirty m o ≡ false) → AreClean meaning content m → AreClean meaning content changed
    clean-changed same marks clean = clean-one meaning content m changed o others clean (λ c. rw (lists o, ticket-same same) (clean o (marks c)))

    pub tracked-changed : length memory.words ≡ length m.memory.words → Once order → ((p : ℕ) → has order p ≡ is_some (place_of memory.words p))
        → ((word : Pointer) → slice_get memory.words o ≡ Some word → IsTracked meaning content spelled m.max_writes m.leavings word (list_in m.memory o) now) → AreTracked meaning content spelled changed
    tracked-changed same_length once ordered here = record {
      same_length = length-set m.records o now ∙ tracked.same_length ∙ sym same_length;
      few = rw (length-set m.records o now) tracked.few;
      each = each-one meaning content m changed o others spelled tracked refl refl
          (λ word e w is. subst (IsTracked meaning content spelled m.max_writes m.leavings word (list_in memory o)) (some-one (slice_get entries' o) is object_record-same) (subst (λ l. IsTracked meaning content spelled m.max_writes m.leavings word l now) (sym (lists o)) (here word w)));
      once = once;
      ordered = ordered;
    }

  -- only the object's record changes
  pub tracked-recorded : ((word : Pointer) → word_of m o ≡ Some word → IsTracked meaning content spelled m.max_writes m.leavings word (list_in m.memory o) now) → AreTracked meaning content spelled record m { records = entries' }
  tracked-recorded here = tracked-changed m.memory m.order (λ p ne. refl) (λ p. refl) refl tracked.once tracked.ordered here

  pub clean-recorded : now.ticket ≡ object_record.ticket → AreClean meaning content m → AreClean meaning content record m { records = entries' }
  clean-recorded same = clean-changed m.memory m.order (λ p ne. refl) (λ p. refl) same (λ c. c)

-- the invariant of an object with another number of pins, which is 0 if the object is away
pub tracked-pins : {X K : Type 0} (meaning : List ℕ → List X) (content : K → List ℕ) (spelled : List X → List ℕ → Type 0) (max_writes leavings : ℕ) (word : Pointer) (list : Option (List X)) (object_record : ObjectRecord K) (pins : ℕ)
    → IsTracked meaning content spelled max_writes leavings word list object_record → (word ≡ Remote → pins ≡ 0) → IsTracked meaning content spelled max_writes leavings word list record object_record { pins = pins }
tracked-pins meaning content spelled max_writes leavings word list object_record pins t away =
    record { version = t.version; left = t.left; some = t.some; long = t.long; away = λ is. (away is, (t.away is).1); copy = t.copy; far = t.far }

-- the words after one is marked as used or written: the same objects are local
module _ {X : Type 0} (memory : Memory X) (o : ℕ) (change : Pointer → Pointer) (same : (word : Pointer) → at_of (change word) ≡ at_of word) where
  pub words-other : (p : ℕ) → p ≢ o → slice_get (with_word memory o change).words p ≡ slice_get memory.words p
  words-other p ne = elim (cases_option (slice_get memory.words o)) [
    | inl none ↦ rw none refl
    | inr (word, is) ↦ rw is (slice_get-set_other memory.words o p (change word) ne)
  ]

  pub words-same : (word : Pointer) → slice_get (with_word memory o change).words o ≡ Some word → (old : Pointer) × (slice_get memory.words o ≡ Some old) × (word ≡ change old)
  words-same word now = elim (cases_option (slice_get memory.words o)) [
    | inl none ↦ absurd (none_or_some (slice_get memory.words o) none (subst (λ (words : List Pointer). slice_get words o ≡ Some word) (rw none refl) now))
    | inr (old, is) ↦ (old, is, some-one (slice_get (slice_set memory.words o (change old)) o) (slice_get-set_same memory.words o (change old) (slice_get_within memory.words o old is)) (subst (λ (words : List Pointer). slice_get words o ≡ Some word) (rw is refl) now))
  ]

  pub words-length : length (with_word memory o change).words ≡ length memory.words
  words-length = elim (cases_option (slice_get memory.words o)) [
    | inl none ↦ rw none refl
    | inr (old, is) ↦ rw is (length-set memory.words o (change old))
  ]

  pub places-unchanged : (p : ℕ) → place_of (with_word memory o change).words p ≡ place_of memory.words p
  places-unchanged p = elim (cases_option (slice_get memory.words o)) [
    | inl none ↦ rw none refl
    | inr (old, is) ↦ rw is (elim (cases_eq p o) [
      | inl e ↦ subst (λ k. place_of (slice_set memory.words o (change old)) k ≡ place_of memory.words k) (sym e) (ap (option_and_then at_of) (slice_get-set_same memory.words o (change old) (slice_get_within memory.words o old is)) ∙ same old ∙ sym (ap (option_and_then at_of) is))
      | inr ne ↦ ap (option_and_then at_of) (slice_get-set_other memory.words o p (change old) ne)
    ])
  ]

-- The invariant of all objects after one becomes local again.
use Rattle.std.proofs.Common.{◌≡◌, ◌≢◌, ℕ, zero, suc, ◌<◌, true, false, inl, inr, List, [], ◌∷◌, length, Option, Some, None, refl, sym, ap, subst, ◌∙◌, arith}
use Rattle.std.specs.Prelude.{is_some, slice_get, slice_set, option_map, IsSomeAnd}
use Rattle.std.specs.Option.{option_and_then}
use Rattle.std.proofs.lemmas.Bool.{cases_eq}
use Rattle.std.proofs.lemmas.List.{length-set}
use Rattle.far_pointer.specs.declared.pointer.At.{At}
use Rattle.far_pointer.specs.declared.pointer.Pointer.{Pointer}
use Rattle.far_pointer.specs.declared.pointer.Pointer.TheVariants.{Local, Remote}
use Rattle.far_scopes.specs.declared.object_record.ObjectRecord.{ObjectRecord}
use Rattle.far_scopes.specs.Recency.{has}
use Rattle.far_scopes.specs.Memory.{Memory, at_of, place_of, list_in, ChangesList}
use Rattle.far_scopes.specs.Movement.{Movement, word_of, record_of, is_local, list_of, AreClean, IsTracked, AreTracked}
use Rattle.far_scopes.proofs.MemoryWordPlaces.{slice_get-set_same, slice_get-set_other}
use Rattle.far_scopes.proofs.RecencyLaws.{has-cons_same, has-cons_other}
use Rattle.far_scopes.proofs.MovementLaws.{Others, clean-one, lists-unchanged, each-one}
use Rattle.far_scopes.proofs.MemoryPlaces.{cases_option}
use Rattle.far_scopes.proofs.MovementDepartures.{word-there}
use Rattle.far_scopes.proofs.MovementTransitions.{some-one}

remote-is : (word : Pointer) → is_some (at_of word) ≡ false → word ≡ Remote
remote-is (Local at d h f) away = cc
remote-is Remote away = refl

-- an object that is away has the remote word
pub word-away : (words : List Pointer) (o : ℕ) → o < length words → is_some (place_of words o) ≡ false → slice_get words o ≡ Some Remote
word-away words o within away =
    let (word, is) = word-there words o within in
    is ∙ ap Some (remote-is word (sym (ap (λ w. is_some (option_and_then at_of w)) is) ∙ away))

pub not-within : {A : Type 0} (xs : List A) (i : ℕ) → i < length xs → slice_get xs i ≡ None → ⊥
not-within [] i within none = absurd (omega (arith, within))
not-within (x ∷ xs) zero within none = cc
not-within (x ∷ xs) (suc i) within none = not-within xs i (omega (arith, within)) none

module _ {X K : Type 0} (meaning : List ℕ → List X) (content : K → List ℕ) (spelled : List X → List ℕ → Type 0) (m : Movement X K) (tracked : AreTracked meaning content spelled m) (o : ℕ) where
  -- an object that is away becomes local with the list that its ticket's content encodes
  module _ (within : o < length m.records) (list : List X) (away : is_local m o ≡ false) (means : list_of meaning content m o ≡ Some list) where
    abbrev object_record-there : (e : ObjectRecord K) × (record_of m o ≡ Some e)
    object_record-there = elim (cases_option (record_of m o)) [
      | inl none ↦ absurd (not-within m.records o within none)
      | inr some ↦ some
    ]

    abbrev object_record : ObjectRecord K
    object_record = object_record-there.0

    was : record_of m o ≡ Some object_record
    was = object_record-there.1

    its-word : o < length m.memory.words
    its-word = subst (λ n. o < n) tracked.same_length within

    pub word-was : word_of m o ≡ Some Remote
    word-was = word-away m.memory.words o its-word away

    list-was : list_in m.memory o ≡ None
    list-was = rw word-was refl

    ticket-was : option_map (λ ticket. meaning (content ticket)) object_record.ticket ≡ Some list
    ticket-was = rw (← means, list-was, was) refl

    long-was : (ticket : Option K) → option_map (λ k. meaning (content k)) ticket ≡ Some list → IsSomeAnd ticket (λ k. length (meaning (content k)) ≡ object_record.len) → length list ≡ object_record.len
    long-was None is h = cc
    long-was (Some k) is h = let same : Some (meaning (content k)) ≡ Some list = is in cc

    pub long-after_arrive : length list ≡ object_record.len
    long-after_arrive = long-was object_record.ticket ticket-was ((tracked.each o Remote object_record word-was was).away refl).1

    pub some-after_arrive : 0 < length list
    some-after_arrive = subst (λ n. 0 < n) (sym long-after_arrive) (tracked.each o Remote object_record word-was was).some

    module _ (memory : Memory X) (at : At) (words : memory.words ≡ slice_set m.memory.words o (Local at false true true)) (change : ChangesList (list_in m.memory) (list_in memory) o (Some list)) where
      -- the objects after the arrival
      abbrev after_arrive_m : Movement X K
      after_arrive_m = record m { memory = memory; order = o ∷ m.order }

      word-after_arrive : word_of after_arrive_m o ≡ Some (Local at false true true)
      word-after_arrive = rw words (slice_get-set_same m.memory.words o (Local at false true true) its-word)

      words-after_arrive : (p : ℕ) → p ≢ o → word_of after_arrive_m p ≡ word_of m p
      words-after_arrive p ne = rw words (slice_get-set_other m.memory.words o p (Local at false true true) ne)

      others-after_arrive : Others meaning content m after_arrive_m o
      others-after_arrive = record { words = words-after_arrive; records = λ p ne. refl; lists = change.others }

      pub lists-after_arrive : (p : ℕ) → list_of meaning content after_arrive_m p ≡ list_of meaning content m p
      lists-after_arrive = lists-unchanged meaning content m after_arrive_m o others-after_arrive (rw (change.here, means) refl)

      pub clean-after_arrive : AreClean meaning content m → AreClean meaning content after_arrive_m
      clean-after_arrive clean = clean-one meaning content m after_arrive_m o others-after_arrive clean (λ c. rw (change.here, was, ticket-was) refl)

      ordered-after_arrive : (p : ℕ) → has (o ∷ m.order) p ≡ is_local after_arrive_m p
      ordered-after_arrive p = elim (cases_eq p o) [
        | inl same ↦ subst (λ k. has (o ∷ m.order) k ≡ is_local after_arrive_m k) (sym same) (has-cons_same m.order o ∙ rw word-after_arrive refl)
        | inr ne ↦ has-cons_other m.order o p ne ∙ tracked.ordered p ∙ rw (words-after_arrive p ne) refl
      ]

      tracked-one-after_arrive : IsTracked meaning content spelled m.max_writes m.leavings (Local at false true true) (Some list) object_record
      tracked-one-after_arrive =
          let old = tracked.each o Remote object_record word-was was in
          record { version = old.version; left = old.left; some = old.some; long = long-after_arrive; away = λ is. cc; copy = old.copy; far = old.far }

      pub tracked-after_arrive : AreTracked meaning content spelled after_arrive_m
      tracked-after_arrive = record {
        same_length = tracked.same_length ∙ sym (ap (λ l. length l) words ∙ length-set m.memory.words o (Local at false true true));
        few = tracked.few;
        each = each-one meaning content m after_arrive_m o others-after_arrive spelled tracked refl refl
            (λ word e w there. rw change.here (subst (λ (k : Pointer). IsTracked meaning content spelled m.max_writes m.leavings k (Some list) e) (some-one (word_of after_arrive_m o) w word-after_arrive)
            (subst (IsTracked meaning content spelled m.max_writes m.leavings (Local at false true true) (Some list)) (some-one (record_of m o) there was) tracked-one-after_arrive)));
        once = (tracked.ordered o ∙ away, tracked.once);
        ordered = ordered-after_arrive;
      }

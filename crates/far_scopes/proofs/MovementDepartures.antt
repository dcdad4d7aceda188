-- The invariant of all objects after one is evicted.
use Rattle.std.proofs.Common.{◌≡◌, ◌≢◌, ℕ, ◌+◌, ◌<◌, get_or, inl, inr, List, length, Option, Some, None, IsSome, refl, sym, ap, subst, ◌∙◌, arith}
use Rattle.std.specs.Prelude.{slice_get, slice_set, All, IsSomeAnd, IfSome}
use Rattle.std.specs.Option.{option_map_or}
use Rattle.std.proofs.lemmas.Bool.{cases_eq}
use Rattle.std.proofs.lemmas.List.{length-set}
use Rattle.std.proofs.lemmas.Option.{slice_get-get_or}
use Rattle.far_pointer.specs.declared.pointer.Pointer.{Pointer}
use Rattle.far_pointer.specs.declared.pointer.Pointer.TheVariants.{Remote}
use Rattle.far_codec.specs.Spelling.{IsSpelled}
use Rattle.far_scopes.specs.declared.object_record.ObjectRecord.{ObjectRecord}
use Rattle.far_scopes.specs.Recency.{has, without}
use Rattle.far_scopes.specs.Memory.{Memory, list_in, ChangesList}
use Rattle.far_scopes.specs.Movement.{Movement, ChangesObject, word_of, record_of, is_local, pins_of, leavings_of, list_of, AreClean, IsTracked, AreTracked}
use Rattle.far_scopes.proofs.MemoryWordPlaces.{word-read, list-within, slice_get-set_same, slice_get-set_other}
use Rattle.far_scopes.proofs.RecencyLaws.{has-without_same, has-without_other, once-without}
use Rattle.far_scopes.proofs.MovementLaws.{Others, clean-one, lists-unchanged, each-one}
use Rattle.far_scopes.proofs.MovementTransitions.{some-one}

-- an object that has a number has a word
pub word-there : (words : List Pointer) (o : ℕ) → o < length words → (w : Pointer) × (slice_get words o ≡ Some w)
word-there words o within = (_, slice_get-get_or words o Remote within)

pub is-some : {A : Type 0} {x : A} (o : Option A) → o ≡ Some x → IsSome o
is-some o e = subst IsSome (sym e) refl

pub some-with : {A : Type 0} (P : A → Type 0) (o : Option A) → IsSomeAnd o P → (x : A) × (o ≡ Some x) × P x
some-with P None h = absurd h
some-with P (Some x) h = (x, refl, h)

-- bytes that spell a list decode to it
pub reads-spelled : {X : Type 0} (meaning : List ℕ → List X) (in_range : X → Type 0) (has_spelling : List X → Type 0) (spelling : List X → List ℕ) → ((list : List X) → All in_range list → has_spelling list → meaning (spelling list) ≡ list)
    → (bytes : List ℕ) (list : List X) → IsSpelled in_range has_spelling spelling list bytes → meaning bytes ≡ list
reads-spelled meaning in_range has_spelling spelling reads_back bytes list is = ap meaning is.is ∙ reads_back list is.range is.has

module _ {X K : Type 0} (meaning : List ℕ → List X) (content : K → List ℕ) (spelled : List X → List ℕ → Type 0) (m : Movement X K) (tracked : AreTracked meaning content spelled m) (o : ℕ) where
  -- a local object whose list is spelled by this ticket's content is evicted
  module _ (object_record : ObjectRecord K) (read : object_record ≡ get_or m.records o object_record) (ticket : K) (reads : (list : List X) → spelled list (content ticket) → meaning (content ticket) ≡ list) (copied : IsSomeAnd (list_in m.memory o) (λ list. spelled list (content ticket))) where
    found : (list : List X) × (list_in m.memory o ≡ Some list) × spelled list (content ticket)
    found = some-with (λ list. spelled list (content ticket)) (list_in m.memory o) copied

    abbrev list : List X
    list = found.0

    means : meaning (content ticket) ≡ list
    means = reads list found.2

    there-word : o < length m.memory.words
    there-word = list-within m.memory o (is-some (list_in m.memory o) found.1)

    there : o < length m.records
    there = subst (λ n. o < n) (sym tracked.same_length) there-word

    pub object_record-was : record_of m o ≡ Some object_record
    object_record-was = word-read m.records o object_record there read

    abbrev left-behind : ObjectRecord K
    left-behind = record object_record { leavings = object_record.leavings + 1; ticket = Some ticket }

    module _ (memory : Memory X) (words : memory.words ≡ slice_set m.memory.words o Remote) (change : ChangesList (list_in m.memory) (list_in memory) o None) where
      -- the objects after the eviction
      abbrev gone : Movement X K
      gone = record m { memory = memory; records = slice_set m.records o left-behind; order = without m.order o }

      object_record-gone : record_of gone o ≡ Some left-behind
      object_record-gone = slice_get-set_same m.records o left-behind there

      word-gone : word_of gone o ≡ Some Remote
      word-gone = rw words (slice_get-set_same m.memory.words o Remote there-word)

      words-gone : (p : ℕ) → p ≢ o → word_of gone p ≡ word_of m p
      words-gone p ne = rw words (slice_get-set_other m.memory.words o p Remote ne)

      others-gone : Others meaning content m gone o
      others-gone = record { words = words-gone; records = λ p ne. slice_get-set_other m.records o p left-behind ne; lists = change.others }

      -- every other object keeps its word and its record
      pub changes-gone : ChangesObject m gone o
      changes-gone = record { words = others-gone.words; records = others-gone.records }

      pub lists-gone : (p : ℕ) → list_of meaning content gone p ≡ list_of meaning content m p
      lists-gone = lists-unchanged meaning content m gone o others-gone (rw (change.here, object_record-gone, found.1) (ap Some means))

      pub clean-gone : AreClean meaning content m → AreClean meaning content gone
      clean-gone clean = clean-one meaning content m gone o others-gone clean (λ c. rw change.here refl)

      ordered-gone : (p : ℕ) → has (without m.order o) p ≡ is_local gone p
      ordered-gone p = elim (cases_eq p o) [
        | inl same ↦ subst (λ k. has (without m.order o) k ≡ is_local gone k) (sym same) (has-without_same m.order o tracked.once ∙ rw word-gone refl)
        | inr ne ↦ has-without_other m.order o p ne ∙ tracked.ordered p ∙ rw (words-gone p ne) refl
      ]

      module _ (unpinned : pins_of m o ≡ 0) (left : leavings_of m o < m.leavings) where
        tracked-one-gone : IsTracked meaning content spelled m.max_writes m.leavings Remote None left-behind
        tracked-one-gone =
            let (word, w) = word-there m.memory.words o there-word in
            let old = tracked.each o word object_record w object_record-was in
            let long : length list ≡ object_record.len = subst (λ l. IfSome l (λ xs. length xs ≡ object_record.len)) found.1 old.long in
            let fewer : object_record.leavings < m.leavings = subst (λ e. option_map_or (λ (x : ObjectRecord K). x.leavings) e 0 < m.leavings) object_record-was left in
            record {
              version = old.version;
              left = omega (arith, fewer);
              some = old.some;
              long = tt;
              away = λ remote. (subst (λ e. option_map_or (λ (x : ObjectRecord K). x.pins) e 0 ≡ 0) object_record-was unpinned, ap (λ l. length l) means ∙ long);
              copy = refl;
              far = rw means found.2;
            }

        pub tracked-gone : AreTracked meaning content spelled gone
        tracked-gone = record {
          same_length = length-set m.records o left-behind ∙ tracked.same_length ∙ sym (ap (λ l. length l) words ∙ length-set m.memory.words o Remote);
          few = rw (length-set m.records o left-behind) tracked.few;
          each = each-one meaning content m gone o others-gone spelled tracked refl refl
              (λ word e w there. rw change.here (subst (λ (k : Pointer). IsTracked meaning content spelled m.max_writes m.leavings k None e) (some-one (word_of gone o) w word-gone)
              (subst (IsTracked meaning content spelled m.max_writes m.leavings Remote None) (some-one (record_of gone o) there object_record-gone) tracked-one-gone)));
          once = once-without m.order o tracked.once;
          ordered = ordered-gone;
        }

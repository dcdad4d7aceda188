-- The invariant of all objects after the last one is removed.
use Rattle.std.proofs.Common.{zero, suc, take, ◌≡◌, ◌≢◌, ℕ, ◌+◌, ◌-◌, ◌≤◌, inl, inr, List, [], ◌∷◌, length, Option, Some, None, refl, sym, ap, subst, ◌∙◌, arith}
use Rattle.std.specs.Prelude.{slice_get}
use Rattle.std.proofs.lemmas.Bool.{cases_eq}
use Rattle.std.proofs.lemmas.List.{length-take-le}
use Rattle.std.proofs.lemmas.Option.{slice_get_past}
use Rattle.far_scopes.specs.Recency.{has, without}
use Rattle.far_scopes.specs.Memory.{Memory, list_in, ChangesList}
use Rattle.far_scopes.specs.Movement.{Movement, ChangesObject, word_of, record_of, is_local, list_of, AreClean, AreHere, AreTracked}
use Rattle.far_scopes.proofs.MovementFrames.{here-one}
use Rattle.far_scopes.proofs.RecencyLaws.{has-without_same, has-without_other, once-without}
use Rattle.far_scopes.proofs.MovementLaws.{Others, clean-one, list-one, each-one}

module _ {X : Type 0} where
  take-same : (n : ℕ) (xs : List X) → slice_get (take n xs) n ≡ None
  take-same zero xs = refl
  take-same (suc n) [] = refl
  take-same (suc n) (x ∷ xs) = take-same n xs

  take-other : (n : ℕ) (xs : List X) (p : ℕ) → p ≢ n → length xs ≤ n + 1 → slice_get (take n xs) p ≡ slice_get xs p
  take-other zero [] p ne h = refl
  take-other zero (x ∷ xs) zero ne h = absurd (ne refl)
  take-other zero (x ∷ xs) (suc p) ne h = sym (slice_get_past xs p (omega (arith, h)))
  take-other (suc n) [] p ne h = refl
  take-other (suc n) (x ∷ xs) zero ne h = refl
  take-other (suc n) (x ∷ xs) (suc p) ne h = take-other n xs p (λ same. ne (ap suc same)) (omega (arith, h))

  -- a list without its last element
  cut-other : (xs : List X) (p : ℕ) → p ≢ length xs - 1 → slice_get (take (length xs - 1) xs) p ≡ slice_get xs p
  cut-other xs p ne = take-other (length xs - 1) xs p ne (omega arith)

  pub cut-length : (xs : List X) → length (take (length xs - 1) xs) ≡ length xs - 1
  cut-length xs = length-take-le (length xs - 1) xs (omega arith)

module _ {X K : Type 0} (meaning : List ℕ → List X) (content : K → List ℕ) (spelled : List X → List ℕ → Type 0) (m : Movement X K) (tracked : AreTracked meaning content spelled m) (memory : Memory X)
    (words : memory.words ≡ take (length m.memory.words - 1) m.memory.words) (change : ChangesList (list_in m.memory) (list_in memory) (length m.memory.words - 1) None) where
  -- the objects after the last one is removed
  abbrev without_last : Movement X K
  without_last = record m { memory = memory; records = take (length m.records - 1) m.records; order = without m.order (length m.records - 1) }

  abbrev last : ℕ
  last = length m.records - 1

  last-is : last ≡ length m.memory.words - 1
  last-is = ap (λ n. n - 1) tracked.same_length

  before : (p : ℕ) → p ≢ last → p ≢ length m.memory.words - 1
  before p ne same = ne (same ∙ sym last-is)

  no-word : word_of without_last last ≡ None
  no-word = rw (words, last-is) (take-same (length m.memory.words - 1) m.memory.words)

  no-object_record : record_of without_last last ≡ None
  no-object_record = take-same last m.records

  words-other : (p : ℕ) → p ≢ last → word_of without_last p ≡ word_of m p
  words-other p ne = rw words (cut-other m.memory.words p (before p ne))

  others-unmade : Others meaning content m without_last last
  others-unmade = record {
    words = words-other;
    records = cut-other m.records;
    lists = λ p ne. change.others p (before p ne);
  }

  pub lists-unmade : ChangesList (list_of meaning content m) (list_of meaning content without_last) last None
  lists-unmade = list-one meaning content m without_last last others-unmade None (rw (last-is, change.here) (rw (← last-is, no-object_record) refl))

  pub clean-unmade : AreClean meaning content m → AreClean meaning content without_last
  clean-unmade clean = clean-one meaning content m without_last last others-unmade clean
      (λ c. lists-unmade.here ∙ rw no-object_record refl)

  ordered-unmade : (p : ℕ) → has (without m.order last) p ≡ is_local without_last p
  ordered-unmade p = elim (cases_eq p last) [
    | inl same ↦ subst (λ k. has (without m.order last) k ≡ is_local without_last k) (sym same) (has-without_same m.order last tracked.once ∙ rw no-word refl)
    | inr ne ↦ has-without_other m.order last p ne ∙ tracked.ordered p ∙ rw (words-other p ne) refl
  ]

  no_some : {A : Type 0} {x : A} (o : Option A) → o ≡ None → o ≡ Some x → ⊥
  no_some o e f = cc

  pub tracked-unmade : AreTracked meaning content spelled without_last
  tracked-unmade = record {
    same_length = cut-length m.records ∙ last-is ∙ sym (ap (λ l. length l) words ∙ cut-length m.memory.words);
    few = rw (cut-length m.records) (omega (arith, tracked.few));
    each = each-one meaning content m without_last last others-unmade spelled tracked refl refl
        (λ word e w is. absurd (no_some (record_of without_last last) no-object_record is));
    once = once-without m.order last tracked.once;
    ordered = ordered-unmade;
  }

  pub changes-unmade : ChangesObject m without_last last
  changes-unmade = record { words = others-unmade.words; records = others-unmade.records }

  pub here-unmade : (is_of : K → List ℕ → Type 0) (id : List ℕ) → AreHere is_of id m → AreHere is_of id without_last
  here-unmade is_of id here = here-one is_of id m without_last last changes-unmade here (rw no-object_record tt)

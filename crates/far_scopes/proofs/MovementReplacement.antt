-- The invariant of all objects after the list of one is replaced.
use Rattle.std.proofs.Common.{◌≡◌, ◌≢◌, ℕ, ◌+◌, ◌<◌, get_or, nat_lt, Bool, true, false, inl, inr, List, length, Some, None, refl, sym, ap, subst, ◌∙◌}
use Rattle.std.specs.Prelude.{not, is_some, slice_set}
use Rattle.std.specs.Option.{option_and_then}
use Rattle.std.proofs.lemmas.Bool.{cases_eq}
use Rattle.std.proofs.lemmas.List.{length-set}
use Rattle.far_pointer.specs.declared.pointer.At.{At}
use Rattle.far_pointer.specs.declared.pointer.Pointer.{Pointer}
use Rattle.far_pointer.specs.declared.pointer.Pointer.TheVariants.{Local, Remote}
use Rattle.far_pointer.specs.Layout.{with_dirty, with_hot, with_at}
use Rattle.far_scopes.specs.declared.object_record.ObjectRecord.{ObjectRecord}
use Rattle.far_scopes.specs.Recency.{has}
use Rattle.far_scopes.specs.Memory.{Memory, at_of, list_in, ChangesList}
use Rattle.far_scopes.specs.Placing.{spot, replaced as replaced_in}
use Rattle.far_scopes.specs.Movement.{Movement, has_copy, word_of, record_of, is_local, dirty, version_of, list_of, AreClean, IsTracked, AreTracked}
use Rattle.far_scopes.specs.Refusing.{absent, written_out, write_refusal, replace_refusal}
use Rattle.far_scopes.specs.Effects.{after_write}
use Rattle.far_scopes.proofs.MemoryWordPlaces.{word-read, slice_get-set_same, slice_get-set_other}
use Rattle.far_scopes.proofs.MemoryLaws.{at-dirty_hot}
use Rattle.far_scopes.proofs.MovementLaws.{Others, clean-one, list-one, each-one}
use Rattle.far_scopes.proofs.MovementTransitions.{some-one, words-other}
use Rattle.far_scopes.proofs.RefusingLaws.{two-none, free-parts, local-replaced}
use Rattle.std.proofs.lemmas.Option.{slice_get-get_or}

-- the word of a local object after its part moved
local-at : (word : Pointer) (to : At) → is_some (at_of word) ≡ true → is_some (at_of (with_at word to)) ≡ true
local-at (Local at d h f) to local = refl
local-at Remote to local = cc

not-remote : (word : Pointer) → is_some (at_of word) ≡ true → word ≡ Remote → ⊥
not-remote (Local at d h f) local is = cc
not-remote Remote local is = cc

copy-at : (word : Pointer) (to : At) → has_copy (with_at word to) ≡ has_copy word
copy-at (Local at d h f) to = refl
copy-at Remote to = refl

true-false : (b : Bool) → b ≡ true → b ≡ false → ⊥
true-false b one other = cc

module _ {X K : Type 0} (meaning : List ℕ → List X) (content : K → List ℕ) (spelled : List X → List ℕ → Type 0) (m : Movement X K) (tracked : AreTracked meaning content spelled m) (o : ℕ) (within : o < length m.records) (object_record : ObjectRecord K) (read : object_record ≡ get_or m.records o object_record) (list : List X) (free : replace_refusal m o (length list) ≡ None)
    (memory : Memory X) (is : memory ≡ replaced_in m.memory o list) (change : ChangesList (list_in m.memory) (list_in memory) o (Some list)) where
  pub object_record-was : record_of m o ≡ Some object_record
  object_record-was = word-read m.records o object_record within read

  its-word : o < length m.memory.words
  its-word = subst (λ k. o < k) tracked.same_length within

  abbrev pub word : Pointer
  word = get_or m.memory.words o Remote

  word-was : word_of m o ≡ Some word
  word-was = slice_get-get_or m.memory.words o Remote its-word

  its-place : is_some (at_of word) ≡ true
  its-place = sym (ap (λ w. is_some (option_and_then at_of w)) word-was) ∙ local-replaced m o (length list) free

  -- the location of the new part
  abbrev to : At
  to = spot m.memory.state (length list)

  words-are : memory.words ≡ slice_set m.memory.words o (with_at word to)
  words-are = ap (λ k. k.words) is ∙ rw word-was refl

  abbrev now : ObjectRecord K
  now = record object_record { len = length list }

  -- the objects after the list is replaced, before the object is marked as written
  abbrev mid : Movement X K
  mid = record m { memory = memory; records = slice_set m.records o now }

  object_record-mid : record_of mid o ≡ Some now
  object_record-mid = slice_get-set_same m.records o now within

  word-mid : word_of mid o ≡ Some (with_at word to)
  word-mid = rw words-are (slice_get-set_same m.memory.words o (with_at word to) its-word)

  words-mid : (p : ℕ) → p ≢ o → word_of mid p ≡ word_of m p
  words-mid p ne = rw words-are (slice_get-set_other m.memory.words o p (with_at word to) ne)

  records-mid : (p : ℕ) → p ≢ o → record_of mid p ≡ record_of m p
  records-mid p ne = slice_get-set_other m.records o p now ne

  others-mid : Others meaning content m mid o
  others-mid = record { words = words-mid; records = records-mid; lists = change.others }

  local-mid : is_local mid o ≡ true
  local-mid = ap (λ w. is_some (option_and_then at_of w)) word-mid ∙ local-at word to its-place

  ordered-mid : (p : ℕ) → has m.order p ≡ is_local mid p
  ordered-mid p = elim (cases_eq p o) [
    | inl same ↦ subst (λ k. has m.order k ≡ is_local mid k) (sym same) (tracked.ordered o ∙ local-replaced m o (length list) free ∙ sym local-mid)
    | inr ne ↦ tracked.ordered p ∙ rw (words-mid p ne) refl
  ]

  tracked-one-mid : 0 < length list → IsTracked meaning content spelled m.max_writes m.leavings (with_at word to) (Some list) now
  tracked-one-mid some =
      let old = tracked.each o word object_record word-was object_record-was in
      record { version = old.version; left = old.left; some = some; long = refl; away = λ gone. absurd (not-remote (with_at word to) (local-at word to its-place) gone); copy = copy-at word to ∙ old.copy; far = old.far }

  pub tracked-mid : 0 < length list → AreTracked meaning content spelled mid
  tracked-mid some = record {
    same_length = length-set m.records o now ∙ tracked.same_length ∙ sym (ap (λ l. length l) words-are ∙ length-set m.memory.words o (with_at word to));
    few = rw (length-set m.records o now) tracked.few;
    each = each-one meaning content m mid o others-mid spelled tracked refl refl
        (λ w e ws es. rw change.here (subst (λ (k : Pointer). IsTracked meaning content spelled m.max_writes m.leavings k (Some list) e) (some-one (word_of mid o) ws word-mid)
        (subst (IsTracked meaning content spelled m.max_writes m.leavings (with_at word to) (Some list)) (some-one (record_of mid o) es object_record-mid) (tracked-one-mid some))));
    once = tracked.once;
    ordered = ordered-mid;
  }

  version-mid : version_of mid o ≡ version_of m o
  version-mid = rw (object_record-mid, object_record-was) refl

  pub free-mid : write_refusal mid o ≡ None
  free-mid = two-none (absent mid o).0 (written_out mid o).0 (absent mid o).1 (written_out mid o).1 (ap not local-mid) (ap (λ v. not (nat_lt v m.max_writes)) version-mid ∙ (free-parts m o (length list) free).1)

  -- the objects after the object is marked as written
  module _ (new : Movement X K) (marks : new ≡ after_write mid o) where
    pub lists-new : ((p : ℕ) → list_of meaning content new p ≡ list_of meaning content mid p) → ChangesList (list_of meaning content m) (list_of meaning content new) o (Some list)
    lists-new same =
        let changes = list-one meaning content m mid o others-mid (Some list) (rw change.here refl) in
        record { here = same o ∙ changes.here; others = λ p ne. same p ∙ changes.others p ne }

    others-new : ((p : ℕ) → list_in new.memory p ≡ list_in memory p) → Others meaning content m new o
    others-new parts = record {
      words = λ p ne. ap (λ k. word_of k p) marks ∙ words-other memory o (λ w. with_hot (with_dirty w) true) at-dirty_hot p ne ∙ words-mid p ne;
      records = λ p ne. ap (λ k. record_of k p) marks ∙ rw object_record-mid (slice_get-set_other (slice_set m.records o now) o p (record now { version = now.version + 1 }) ne) ∙ records-mid p ne;
      lists = λ p ne. parts p ∙ change.others p ne;
    }

    pub clean-new : ((p : ℕ) → list_in new.memory p ≡ list_in memory p) → dirty new o ≡ true → AreClean meaning content m → AreClean meaning content new
    clean-new parts is_dirty clean = clean-one meaning content m new o (others-new parts) clean (λ c. absurd (true-false (dirty new o) is_dirty c))

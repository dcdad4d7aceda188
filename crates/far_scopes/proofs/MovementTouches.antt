-- The invariant of all objects after one is used or written.
use Rattle.std.proofs.Common.{◌≡◌, ℕ, ◌+◌, ◌<◌, Bool, true, false, inl, inr, List, length, Option, Some, None, refl, sym, ap, subst, ◌∙◌, arith}
use Rattle.std.specs.Prelude.{is_some, slice_get, slice_set, IfSome}
use Rattle.std.specs.Option.{option_map_or, option_and_then}
use Rattle.far_pointer.specs.declared.pointer.Pointer.{Pointer}
use Rattle.far_pointer.specs.declared.pointer.Pointer.TheVariants.{Local, Remote}
use Rattle.far_pointer.specs.Layout.{is_dirty, with_dirty, with_hot}
use Rattle.far_scopes.specs.declared.object_record.ObjectRecord.{ObjectRecord}
use Rattle.far_scopes.specs.Recency.{after_use}
use Rattle.far_scopes.specs.Memory.{at_of, list_in}
use Rattle.far_scopes.specs.Placing.{after_heat, after_mark}
use Rattle.far_scopes.specs.Movement.{Movement, has_copy, record_of, is_local, dirty, list_of, AreClean, AreTracked}
use Rattle.far_scopes.proofs.RecencyLaws.{has-after_use, once-after_use}
use Rattle.far_scopes.proofs.MemoryLaws.{at-dirty_hot, at-hot}
use Rattle.far_scopes.proofs.MovementLaws.{Others, clean-one, each-one}
use Rattle.far_scopes.proofs.MovementTransitions.{words-other, words-same, words-length, places-unchanged, some-one, tracked-changed, clean-changed, lists-changed}
use Rattle.far_scopes.proofs.MemoryPlaces.{cases_option}
use Rattle.far_scopes.proofs.MemoryWordPlaces.{slice_get-set_same}
use Rattle.std.proofs.lemmas.Option.{slice_get_within}

-- a mark evicts no object, and makes no far copy
remote-hot : (word : Pointer) → with_hot word true ≡ Remote → word ≡ Remote
remote-hot (Local at dirty hot far) is = cc
remote-hot Remote is = refl

copy-hot : (word : Pointer) → has_copy (with_hot word true) ≡ has_copy word
copy-hot (Local at dirty hot far) = refl
copy-hot Remote = refl

dirty-hot : (word : Pointer) → is_dirty (with_hot word true) ≡ is_dirty word
dirty-hot (Local at dirty hot far) = refl
dirty-hot Remote = refl

remote-mark : (word : Pointer) → with_hot (with_dirty word) true ≡ Remote → word ≡ Remote
remote-mark (Local at dirty hot far) is = cc
remote-mark Remote is = refl

copy-mark : (word : Pointer) → has_copy (with_hot (with_dirty word) true) ≡ has_copy word
copy-mark (Local at dirty hot far) = refl
copy-mark Remote = refl

-- a word that was marked as written is dirty, if it is local
dirty-mark : (word : Pointer) → is_some (at_of word) ≡ true → is_dirty (with_hot (with_dirty word) true) ≡ true
dirty-mark (Local at dirty hot far) local = refl
dirty-mark Remote local = cc

no-place : (word : Option Pointer) → word ≡ None → is_some (option_and_then at_of word) ≡ true → ⊥
no-place None none there = cc
no-place (Some word) none there = cc

place-local : (found : Option Pointer) (word : Pointer) → found ≡ Some word → is_some (option_and_then at_of found) ≡ true → is_some (at_of word) ≡ true
place-local None word is there = cc
place-local (Some other) word is there = subst (λ w. is_some (at_of w) ≡ true) (some-one (Some other) is refl) there

true-is-not-false : (b : Bool) → b ≡ true → b ≡ false → ⊥
true-is-not-false b one other = cc

module _ {X K : Type 0} (meaning : List ℕ → List X) (content : K → List ℕ) (spelled : List X → List ℕ → Type 0) (m : Movement X K) (tracked : AreTracked meaning content spelled m) (o : ℕ) where
  -- the object is used
  module _ (lists : (p : ℕ) → list_in (after_heat m.memory o) p ≡ list_in m.memory p) where
    abbrev heat : Pointer → Pointer
    heat word = with_hot word true

    abbrev after_touch_m : Movement X K
    after_touch_m = record m { memory = after_heat m.memory o; order = after_use m.order o }

    others-after_touch : Others meaning content m after_touch_m o
    others-after_touch = record { words = words-other m.memory o heat at-hot; records = λ p ne. refl; lists = λ p ne. lists p }

    pub tracked-after_touch : AreTracked meaning content spelled after_touch_m
    tracked-after_touch = record {
      same_length = tracked.same_length ∙ sym (words-length m.memory o heat at-hot);
      few = tracked.few;
      each = each-one meaning content m after_touch_m o others-after_touch spelled tracked refl refl
          (λ word object_record now was. let w = words-same m.memory o heat at-hot word now in let t = tracked.each o w.0 object_record w.1 was in
          record { version = t.version; left = t.left; some = t.some; long = subst (λ l. IfSome l (λ xs. length xs ≡ object_record.len)) (sym (lists o)) t.long; away = λ is. t.away (remote-hot w.0 (sym w.2 ∙ is)); copy = ap has_copy w.2 ∙ copy-hot w.0 ∙ t.copy; far = t.far });
      once = once-after_use m.order o tracked.once;
      ordered = λ p. has-after_use m.order o p ∙ tracked.ordered p ∙ sym (ap is_some (places-unchanged m.memory o heat at-hot p));
    }

    pub lists-after_touch : (p : ℕ) → list_of meaning content after_touch_m p ≡ list_of meaning content m p
    lists-after_touch p = rw (lists p) refl

    dirty-after_touch : dirty after_touch_m o ≡ dirty m o
    dirty-after_touch = elim (cases_option (slice_get m.memory.words o)) [
      | inl none ↦ rw none (ap (λ w. option_map_or is_dirty w false) none)
      | inr (word, is) ↦ rw is (ap (λ w. option_map_or is_dirty w false) (slice_get-set_same m.memory.words o (with_hot word true) (slice_get_within m.memory.words o word is)) ∙ dirty-hot word)
    ]

    pub clean-after_touch : AreClean meaning content m → AreClean meaning content after_touch_m
    clean-after_touch clean = clean-one meaning content m after_touch_m o others-after_touch clean (λ c. rw (lists o) (clean o (sym dirty-after_touch ∙ c)))

  -- the object is written
  module _ (object_record : ObjectRecord K) (was : record_of m o ≡ Some object_record) (local : is_local m o ≡ true) (left : object_record.version < m.max_writes) (lists : (p : ℕ) → list_in (after_mark m.memory o) p ≡ list_in m.memory p) where
    abbrev mark : Pointer → Pointer
    mark word = with_hot (with_dirty word) true

    abbrev now : ObjectRecord K
    now = record object_record { version = object_record.version + 1 }

    abbrev pub after_write_m : Movement X K
    after_write_m = record m { memory = after_mark m.memory o; records = slice_set m.records o now; order = after_use m.order o }

    pub tracked-after_write : AreTracked meaning content spelled after_write_m
    tracked-after_write = tracked-changed meaning content spelled m tracked o object_record now was (after_mark m.memory o) (after_use m.order o) (words-other m.memory o mark at-dirty_hot) lists (words-length m.memory o mark at-dirty_hot) (once-after_use m.order o tracked.once)
        (λ p. has-after_use m.order o p ∙ tracked.ordered p ∙ sym (ap is_some (places-unchanged m.memory o mark at-dirty_hot p)))
        (λ word is. let w = words-same m.memory o mark at-dirty_hot word is in let t = tracked.each o w.0 object_record w.1 was in
        record { version = omega (arith, left); left = t.left; some = t.some; long = t.long; away = λ gone. t.away (remote-mark w.0 (sym w.2 ∙ gone)); copy = ap has_copy w.2 ∙ copy-mark w.0 ∙ t.copy; far = t.far })

    pub dirty-after_write : dirty after_write_m o ≡ true
    dirty-after_write = elim (cases_option (slice_get m.memory.words o)) [
      | inl none ↦ absurd (no-place (slice_get m.memory.words o) none local)
      | inr (word, is) ↦ rw (is) (ap (λ w. option_map_or is_dirty w false) (slice_get-set_same m.memory.words o (mark word) (slice_get_within m.memory.words o word is)) ∙ dirty-mark word (place-local (slice_get m.memory.words o) word is local))
    ]

    pub clean-after_write : AreClean meaning content m → AreClean meaning content after_write_m
    clean-after_write = clean-changed meaning content spelled m tracked o object_record now was (after_mark m.memory o) (after_use m.order o) (words-other m.memory o mark at-dirty_hot) lists refl (λ clean. absurd (true-is-not-false (dirty after_write_m o) dirty-after_write clean))

    pub lists-same : (p : ℕ) → list_of meaning content after_write_m p ≡ list_of meaning content m p
    lists-same = lists-changed meaning content spelled m tracked o object_record now was (after_mark m.memory o) (after_use m.order o) (words-other m.memory o mark at-dirty_hot) lists refl

    pub local-still : is_local after_write_m o ≡ true
    local-still = ap is_some (places-unchanged m.memory o mark at-dirty_hot o) ∙ local

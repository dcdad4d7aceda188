-- The invariant of all objects after the lists of several are replaced, and before they count as written.
use Rattle.std.proofs.Common.{◌≡◌, ℕ, ◌<◌, ◌⊎◌, true, false, inl, inr, List, [], ◌∷◌, length, map, Option, Some, None, refl, sym, ap, subst, ◌∙◌}
use Rattle.std.specs.Prelude.{not, nat_lt, is_some, slice_index_or, All, slice_get, option_map}
use Rattle.std.specs.Option.{option_map_or, option_and_then}
use Rattle.far_types.specs.FirstOf.{first_of}
use Rattle.far_pointer.specs.declared.pointer.Pointer.{Pointer}
use Rattle.far_pointer.specs.Layout.{is_dirty}
use Rattle.far_scopes.specs.declared.object_record.ObjectRecord.{ObjectRecord}
use Rattle.far_scopes.specs.declared.replacement.Replacement.{Replacement}
use Rattle.far_scopes.specs.Recency.{has}
use Rattle.far_scopes.specs.Memory.{Memory, at_of, list_in}
use Rattle.far_scopes.specs.Movement.{Movement, word_of, record_of, is_local, version_of, ticket_of, meant, list_of, AreClean, IsTracked, AreTracked}
use Rattle.far_scopes.specs.Refusing.{absent, written_out, write_refusal, first_absent, any_written_out}
use Rattle.far_scopes.specs.Replacing.{AreListedOnce, IsUnlisted, ChangesLists, AreCleanElsewhere, replaced_all}
use Rattle.far_scopes.specs.Effects.{with_lens}
use Rattle.far_scopes.proofs.RefusingLaws.{none-one, two-none}
use Rattle.far_scopes.proofs.RefusingReplacements.{none-listed, all-local}
use Rattle.far_scopes.proofs.ReplacingPlaces.{length-moved}
use Rattle.far_scopes.proofs.ReplacingRecords.{IsMoved, BothMoved, moved-local, moved-dirty, moved-copy, moved-remote, all-moved, len_of, length-lens, lens-other, listed}

-- a word that moved, and its object's record with another length
module _ {X K : Type 0} (meaning : List ℕ → List X) (content : K → List ℕ) (spelled : List X → List ℕ → Type 0) (max_writes leavings : ℕ) (old new : Pointer) (moved : IsMoved old new) (list : Option (List X)) (object_record : ObjectRecord K)
    (t : IsTracked meaning content spelled max_writes leavings old list object_record) where
  tracked-moved : IsTracked meaning content spelled max_writes leavings new list object_record
  tracked-moved = record { version = t.version; left = t.left; some = t.some; long = t.long; away = λ gone. t.away (moved-remote old new moved gone); copy = moved-copy old new moved ∙ t.copy; far = t.far }

  tracked-relisted : (now : List X) → 0 < length now → is_some (at_of old) ≡ true → IsTracked meaning content spelled max_writes leavings new (Some now) (len_of (length now) object_record)
  tracked-relisted now some local = record {
    version = t.version;
    left = t.left;
    some = some;
    long = refl;
    away = λ gone. absurd (let never = sym local ∙ ap (λ w. is_some (at_of w)) (moved-remote old new moved gone) in cc);
    copy = moved-copy old new moved ∙ t.copy;
    far = t.far;
  }

-- the old word and the old record, if the new ones exist
word-behind : (old new : Option Pointer) (now : Pointer) → BothMoved old new → new ≡ Some now → (word : Pointer) × (old ≡ Some word) × IsMoved word now
word-behind old new now (inl (none, none')) is = absurd (let never = sym none' ∙ is in cc)
word-behind old new now (inr (word, other, was, here, moved)) is =
    let same : other ≡ now = (let both = sym here ∙ is in cc) in
    (word, was, subst (IsMoved word) same moved)

object_record-behind : {K : Type 0} (n : ℕ) (old : Option (ObjectRecord K)) (now : ObjectRecord K) → option_map (len_of n) old ≡ Some now → (object_record : ObjectRecord K) × (old ≡ Some object_record) × (len_of n object_record ≡ now)
object_record-behind n None now is = cc
object_record-behind n (Some object_record) now is = (object_record, refl, cc)

both-local : (old new : Option Pointer) → BothMoved old new → is_some (option_and_then at_of new) ≡ is_some (option_and_then at_of old)
both-local old new (inl (none, none')) = rw (none, none') refl
both-local old new (inr (word, now, was, is, moved)) = rw (was, is) (moved-local word now moved)

both-dirty : (old new : Option Pointer) → BothMoved old new → option_map_or is_dirty new false ≡ option_map_or is_dirty old false
both-dirty old new (inl (none, none')) = rw (none, none') refl
both-dirty old new (inr (word, now, was, is, moved)) = rw (was, is) (moved-dirty word now moved)

module _ {X K : Type 0} (meaning : List ℕ → List X) (content : K → List ℕ) (spelled : List X → List ℕ → Type 0) (m : Movement X K) (tracked : AreTracked meaning content spelled m) (lists : List (Replacement X))
    (some : All (λ r. 0 < length r.list.items) lists) (once : AreListedOnce lists) (here : first_absent m (map (λ r. r.object) lists) ≡ None)
    (memory : Memory X) (is : memory ≡ replaced_all m.memory lists) (change : ChangesLists (list_in m.memory) (list_in memory) lists) where
  abbrev pub mid : Movement X K
  mid = record m { memory = memory; records = with_lens m.records lists }

  words-mid : (p : ℕ) → BothMoved (word_of m p) (word_of mid p)
  words-mid p = subst (λ (w : Memory X). BothMoved (word_of m p) (slice_get w.words p)) (sym is) (all-moved m.memory.state m.memory.words lists p)

  local-mid : (p : ℕ) → is_local mid p ≡ is_local m p
  local-mid p = both-local (word_of m p) (word_of mid p) (words-mid p)

  -- the facts about a listed object
  abbrev Has : ℕ → List X → Type 0
  Has p list = (list_in memory p ≡ Some list) × (0 < length list) × (is_local m p ≡ true)

  which : (p : ℕ) → IsUnlisted lists p ⊎ ((list : List X) × Has p list × ((records : List (ObjectRecord K)) → slice_get (with_lens records lists) p ≡ option_map (len_of (length list)) (slice_get records p)))
  which p = listed Has lists once (λ k d lt. (change.here k d lt, some k d lt, all-local m lists here k d lt)) p

  ticket-mid : (p : ℕ) → ticket_of mid p ≡ ticket_of m p
  ticket-mid p = elim (which p) [
    | inl un ↦ ap (λ e. option_and_then (λ (x : ObjectRecord K). x.ticket) e) (lens-other m.records lists p un)
    | inr (list, has, lens) ↦ ap (λ e. option_and_then (λ (x : ObjectRecord K). x.ticket) e) (lens m.records) ∙ same-ticket (length list) (slice_get m.records p)
  ]
    where
      same-ticket : (n : ℕ) (e : Option (ObjectRecord K)) → option_and_then (λ (x : ObjectRecord K). x.ticket) (option_map (len_of n) e) ≡ option_and_then (λ (x : ObjectRecord K). x.ticket) e
      same-ticket n None = refl
      same-ticket n (Some e) = refl

  version-mid : (p : ℕ) → version_of mid p ≡ version_of m p
  version-mid p = elim (which p) [
    | inl un ↦ ap (λ e. option_map_or (λ (x : ObjectRecord K). x.version) e 0) (lens-other m.records lists p un)
    | inr (list, has, lens) ↦ ap (λ e. option_map_or (λ (x : ObjectRecord K). x.version) e 0) (lens m.records) ∙ same-version (length list) (slice_get m.records p)
  ]
    where
      same-version : (n : ℕ) (e : Option (ObjectRecord K)) → option_map_or (λ (x : ObjectRecord K). x.version) (option_map (len_of n) e) 0 ≡ option_map_or (λ (x : ObjectRecord K). x.version) e 0
      same-version n None = refl
      same-version n (Some e) = refl

  each-mid : (p : ℕ) (word : Pointer) (object_record : ObjectRecord K) → word_of mid p ≡ Some word → record_of mid p ≡ Some object_record → IsTracked meaning content spelled m.max_writes m.leavings word (list_in memory p) object_record
  each-mid p word object_record w e =
      let from = word-behind (word_of m p) (word_of mid p) word (words-mid p) w in
      elim (which p) [
        | inl un ↦ rw (change.others p un) (tracked-moved meaning content spelled m.max_writes m.leavings from.0 word from.2 (list_in m.memory p) object_record (tracked.each p from.0 object_record from.1 (sym (lens-other m.records lists p un) ∙ e)))
        | inr (list, has, lens) ↦
            let old = object_record-behind (length list) (slice_get m.records p) object_record (sym (lens m.records) ∙ e) in
            rw (has.0, ← old.2) (tracked-relisted meaning content spelled m.max_writes m.leavings from.0 word from.2 (list_in m.memory p) old.0 (tracked.each p from.0 old.0 from.1 old.1) list has.1 (sym (ap (λ x. is_some (option_and_then at_of x)) from.1) ∙ has.2))
      ]

  pub tracked-mid : AreTracked meaning content spelled mid
  tracked-mid = record {
    same_length = length-lens m.records lists ∙ tracked.same_length ∙ sym (ap (λ (w : Memory X). length w.words) is ∙ length-moved m.memory.state m.memory.words lists);
    few = rw (length-lens m.records lists) tracked.few;
    each = each-mid;
    once = tracked.once;
    ordered = λ p. tracked.ordered p ∙ sym (local-mid p);
  }

  list-other : (p : ℕ) → IsUnlisted lists p → list_of meaning content mid p ≡ list_of meaning content m p
  list-other p un = rw (change.others p un, ticket-mid p) refl

  lists-mid : ChangesLists (list_of meaning content m) (list_of meaning content mid) lists
  lists-mid = record { here = λ k d lt. rw (change.here k d lt) refl; others = list-other }

  pub lists-new : (new : Movement X K) → ((p : ℕ) → list_of meaning content new p ≡ list_of meaning content mid p) → ChangesLists (list_of meaning content m) (list_of meaning content new) lists
  lists-new new same = record { here = λ k d lt. same _ ∙ lists-mid.here k d lt; others = λ p un. same p ∙ lists-mid.others p un }

  pub clean-mid : AreClean meaning content m → AreCleanElsewhere meaning content mid lists
  clean-mid clean p un c = list-other p un ∙ clean p (sym (both-dirty (word_of m p) (word_of mid p) (words-mid p)) ∙ c) ∙ ap (option_map (meant meaning content)) (sym (ticket-mid p))

  pub free-mid : first_of (any_written_out m lists ∷ []) ≡ None → All (λ r. write_refusal mid r.object ≡ None) lists
  free-mid free k d lt =
      let o : ℕ = (slice_index_or lists k d).object in
      let left = none-listed (λ (r : Replacement X). (written_out m r.object).0) lists (none-one (any_written_out m lists).0 (any_written_out m lists).1 free) k d lt in
      two-none (absent mid o).0 (written_out mid o).0 (absent mid o).1 (written_out mid o).1 (ap not (local-mid o ∙ all-local m lists here k d lt)) (ap (λ v. not (nat_lt v m.max_writes)) (version-mid o) ∙ left)

-- Replacing the lists of several objects: the words and the region, list by list.
use Rattle.std.proofs.Common.{◌≡◌, ◌≢◌, ℕ, ◌<◌, ◌-◌, true, false, inl, inr, List, [], ◌∷◌, ◌++◌, length, Some, refl, ap, ◌∙◌, arith}
use Rattle.std.specs.Prelude.{All, slice_get}
use Rattle.std.specs.Option.{option_and_then}
use Rattle.std.proofs.lemmas.List.{length-set, set-append_left}
use Rattle.std.proofs.lemmas.List.Elements.{All-head, All-tail}
use Rattle.far_pointer.specs.declared.pointer.At.{At}
use Rattle.far_pointer.specs.declared.pointer.Pointer.{Pointer}
use Rattle.far_pointer.specs.declared.pointer.Pointer.TheVariants.{Local}
use Rattle.far_pointer.specs.Layout.{with_at}
use Rattle.far_log.specs.RegionState.{RegionState}
use Rattle.far_scopes.specs.declared.replacement.Replacement.{Replacement}
use Rattle.far_scopes.specs.Memory.{Memory, at_of, place_of}
use Rattle.far_scopes.specs.Placing.{spot, with_new, with_object}
use Rattle.far_scopes.specs.Replacing.{with_place, IsUnlisted, with_all, without_all, moved_all, replaced_all, after_take_over}
use Rattle.far_scopes.proofs.MemoryPlaces.{cases_option}
use Rattle.far_scopes.proofs.MemoryWordPlaces.{slice_get-set_other, slice_get-push_other, place-push_last, place-push_other, last-of, take-last}

-- a word with another location
place-length : (words : List Pointer) (o : ℕ) (at : At) → length (with_place words o at) ≡ length words
place-length words o at = elim (cases_option (slice_get words o)) [
  | inl none ↦ rw none refl
  | inr (word, is) ↦ rw is (length-set words o (with_at word at))
]

place-other : (words : List Pointer) (o : ℕ) (at : At) (p : ℕ) → p ≢ o → slice_get (with_place words o at) p ≡ slice_get words p
place-other words o at p ne = elim (cases_option (slice_get words o)) [
  | inl none ↦ rw none refl
  | inr (word, is) ↦ rw is (slice_get-set_other words o p (with_at word at) ne)
]

place-push : (words : List Pointer) (word : Pointer) (o : ℕ) (at : At) → o < length words → with_place (words ++ word ∷ []) o at ≡ with_place words o at ++ word ∷ []
place-push words word o at within = elim (cases_option (slice_get words o)) [
  | inl none ↦ rw (slice_get-push_other words word o (λ e. omega (arith, within, e)), none) refl
  | inr (was, is) ↦ rw (slice_get-push_other words word o (λ e. omega (arith, within, e)), is) (set-append_left words (word ∷ []) o (with_at was at) within)
]

module _ {X : Type 0} where
  pub length-moved : (state : RegionState X) (words : List Pointer) (rs : List (Replacement X)) → length (moved_all state words rs) ≡ length words
  length-moved state words [] = refl
  length-moved state words (r ∷ rs) = place-length (moved_all (with_new state r.list.items) words rs) r.object (spot state (length r.list.items)) ∙ length-moved (with_new state r.list.items) words rs

  -- the word of an object that is not listed does not change
  pub moved-other : (state : RegionState X) (words : List Pointer) (rs : List (Replacement X)) (p : ℕ) → IsUnlisted rs p → slice_get (moved_all state words rs) p ≡ slice_get words p
  moved-other state words [] p un = refl
  moved-other state words (r ∷ rs) p un =
      place-other (moved_all (with_new state r.list.items) words rs) r.object (spot state (length r.list.items)) p (All-head (λ (s : Replacement X). p ≢ s.object) r rs un)
      ∙ moved-other (with_new state r.list.items) words rs p (All-tail (λ (s : Replacement X). p ≢ s.object) r rs un)

  module _ (words : List Pointer) (word : Pointer) where
    -- an extra object after the listed ones stays after them
    moved-push : (state : RegionState X) (rs : List (Replacement X)) → All (λ r. r.object < length words) rs → moved_all state (words ++ word ∷ []) rs ≡ moved_all state words rs ++ word ∷ []
    moved-push state [] within = refl
    moved-push state (r ∷ rs) within =
        let rest = moved_all (with_new state r.list.items) words rs in
        let o : r.object < length rest = omega (arith, All-head (λ (s : Replacement X). s.object < length words) r rs within, length-moved (with_new state r.list.items) words rs) in
        ap (λ ws. with_place ws r.object (spot state (length r.list.items))) (moved-push (with_new state r.list.items) rs (All-tail (λ (s : Replacement X). s.object < length words) r rs within))
        ∙ place-push rest word r.object (spot state (length r.list.items)) o

    without-push : (state : RegionState X) (rs : List (Replacement X)) → All (λ r. r.object < length words) rs → without_all state (words ++ word ∷ []) rs ≡ without_all state words rs
    without-push state [] within = refl
    without-push state (r ∷ rs) within =
        let o = All-head (λ (s : Replacement X). s.object < length words) r rs within in
        rw (without-push state rs (All-tail (λ (s : Replacement X). s.object < length words) r rs within), place-push_other words word r.object (λ e. omega (arith, o, e))) refl

  -- the first of several lists is placed as the list of an extra object; the other lists are placed and taken over before it
  module _ (words : List Pointer) (state : RegionState X) (r : Replacement X) (rs : List (Replacement X)) (within : All (λ s. s.object < length words) rs) where
    abbrev n : ℕ
    n = length r.list.items

    abbrev further : Pointer
    further = Local (spot state n) true true false

    -- the words of the original objects, after the others are taken over
    abbrev rest : List Pointer
    rest = moved_all (with_new state r.list.items) words rs

    abbrev between : Memory X
    between = replaced_all (with_object record { words = words; state = state } r.list.items) rs

    words-between : between.words ≡ rest ++ further ∷ []
    words-between = moved-push words further (with_new state r.list.items) rs within

    pub last-between : length between.words - 1 ≡ length words
    last-between = last-of between.words rest further words-between ∙ length-moved (with_new state r.list.items) words rs

    pub place-last : place_of between.words (length between.words - 1) ≡ Some (spot state n)
    place-last = rw (last-of between.words rest further words-between) (ap (λ ws. place_of ws (length rest)) words-between ∙ place-push_last rest further)

    pub place-first : IsUnlisted rs r.object → r.object < length words → place_of between.words r.object ≡ place_of words r.object
    place-first un lt =
        ap (λ ws. place_of ws r.object) words-between
        ∙ place-push_other rest further r.object (λ e. omega (arith, lt, e, length-moved (with_new state r.list.items) words rs))
        ∙ ap (option_and_then at_of) (moved-other (with_new state r.list.items) words rs r.object un)

    pub after_take_over-is : IsUnlisted rs r.object → r.object < length words → after_take_over between r.object ≡ replaced_all record { words = words; state = state } (r ∷ rs)
    after_take_over-is un lt = rw (place-last, take-last between.words rest further words-between, place-first un lt, without-push words further (with_all (with_new state r.list.items) rs) rs within) refl

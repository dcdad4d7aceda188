-- The words and records of objects after the lists of several are replaced, one by one.
use Rattle.std.proofs.Common.{◌≡◌, ◌≢◌, ℕ, ◌⊎◌, suc, inl, inr, List, [], ◌∷◌, length, Option, Some, None, refl, sym, ap, subst, ◌∙◌, arith}
use Rattle.std.specs.Prelude.{is_some, All, slice_get, option_map}
use Rattle.std.proofs.lemmas.Bool.{cases_eq}
use Rattle.std.proofs.lemmas.List.{length-set}
use Rattle.std.proofs.lemmas.List.Elements.{All-head, All-tail, All-cons, All-nil}
use Rattle.std.proofs.lemmas.Option.{slice_get_within}
use Rattle.far_pointer.specs.declared.pointer.At.{At}
use Rattle.far_pointer.specs.declared.pointer.Pointer.{Pointer}
use Rattle.far_pointer.specs.declared.pointer.Pointer.TheVariants.{Local, Remote}
use Rattle.far_pointer.specs.Layout.{is_dirty, with_at}
use Rattle.far_log.specs.RegionState.{RegionState}
use Rattle.far_scopes.specs.declared.object_record.ObjectRecord.{ObjectRecord}
use Rattle.far_scopes.specs.declared.replacement.Replacement.{Replacement}
use Rattle.far_scopes.specs.Memory.{at_of}
use Rattle.far_scopes.specs.Placing.{spot, with_new}
use Rattle.far_scopes.specs.Movement.{has_copy}
use Rattle.far_scopes.specs.Replacing.{with_place, AreListedOnce, IsUnlisted, moved_all}
use Rattle.far_scopes.specs.Effects.{with_record, with_lens}
use Rattle.far_scopes.proofs.MemoryPlaces.{cases_option}
use Rattle.far_scopes.proofs.MemoryWordPlaces.{slice_get-set_same, slice_get-set_other}

-- a word is the same, or differs only in its location
abbrev pub IsMoved : Pointer → Pointer → Type 0
IsMoved old new = (new ≡ old) ⊎ ((at : At) × (new ≡ with_at old at))

pub moved-local : (old new : Pointer) → IsMoved old new → is_some (at_of new) ≡ is_some (at_of old)
moved-local old new (inl same) = ap (λ w. is_some (at_of w)) same
moved-local (Local at d h f) new (inr (to, is)) = ap (λ w. is_some (at_of w)) is
moved-local Remote new (inr (to, is)) = ap (λ w. is_some (at_of w)) is

pub moved-dirty : (old new : Pointer) → IsMoved old new → is_dirty new ≡ is_dirty old
moved-dirty old new (inl same) = ap is_dirty same
moved-dirty (Local at d h f) new (inr (to, is)) = ap is_dirty is
moved-dirty Remote new (inr (to, is)) = ap is_dirty is

pub moved-copy : (old new : Pointer) → IsMoved old new → has_copy new ≡ has_copy old
moved-copy old new (inl same) = ap has_copy same
moved-copy (Local at d h f) new (inr (to, is)) = ap has_copy is
moved-copy Remote new (inr (to, is)) = ap has_copy is

pub moved-remote : (old new : Pointer) → IsMoved old new → new ≡ Remote → old ≡ Remote
moved-remote old new (inl same) gone = sym same ∙ gone
moved-remote (Local at d h f) new (inr (to, is)) gone = absurd (let no = sym is ∙ gone in cc)
moved-remote Remote new (inr (to, is)) gone = refl

-- two words are missing, or are the same, or differ only in their location
abbrev pub BothMoved : Option Pointer → Option Pointer → Type 0
BothMoved old new = ((old ≡ None) × (new ≡ None)) ⊎ ((word : Pointer) × (now : Pointer) × (old ≡ Some word) × (new ≡ Some now) × IsMoved word now)

both-same : (one : Option Pointer) → BothMoved one one
both-same None = inl (refl, refl)
both-same (Some word) = inr (word, word, refl, refl, inl refl)

moved-again : (old mid : Pointer) (to : At) → IsMoved old mid → IsMoved old (with_at mid to)
moved-again old mid to (inl same) = inr (to, ap (λ w. with_at w to) same)
moved-again (Local at d h f) mid to (inr (via, is)) = inr (to, ap (λ w. with_at w to) is)
moved-again Remote mid to (inr (via, is)) = inr (to, ap (λ w. with_at w to) is)

both-placed : (words : List Pointer) (o : ℕ) (to : At) (p : ℕ) (old : Option Pointer) → BothMoved old (slice_get words p) → BothMoved old (slice_get (with_place words o to) p)
both-placed words o to p old (inl (none, none')) = inl (none, stays)
  where
    stays : slice_get (with_place words o to) p ≡ None
    stays = elim (cases_option (slice_get words o)) [
      | inl gone ↦ rw gone none'
      | inr (word, is) ↦ elim (cases_eq p o) [
        | inl same ↦ absurd (let no = sym none' ∙ ap (slice_get words) same ∙ is in cc)
        | inr ne ↦ rw is (slice_get-set_other words o p (with_at word to) ne ∙ none')
      ]
    ]
both-placed words o to p old (inr (word, now, was, is, moved)) = elim (cases_eq p o) [
  | inl same ↦
      let there : slice_get words o ≡ Some now = ap (slice_get words) (sym same) ∙ is in
      inr (word, with_at now to, was, rw (same, there) (slice_get-set_same words o (with_at now to) (slice_get_within words o now there)), moved-again word now to moved)
  | inr ne ↦ elim (cases_option (slice_get words o)) [
    | inl none ↦ inr (word, now, was, rw none is, moved)
    | inr (at_o, here) ↦ inr (word, now, was, rw here (slice_get-set_other words o p (with_at at_o to) ne ∙ is), moved)
  ]
]

-- a record with another length
module _ {K : Type 0} where
  abbrev pub len_of : ℕ → ObjectRecord K → ObjectRecord K
  len_of n object_record = record object_record { len = n }

  object_record-other : (records : List (ObjectRecord K)) (o n p : ℕ) → p ≢ o → slice_get (with_record records o (len_of n)) p ≡ slice_get records p
  object_record-other records o n p ne = elim (cases_option (slice_get records o)) [
    | inl none ↦ rw none refl
    | inr (object_record, is) ↦ rw is (slice_get-set_other records o p (len_of n object_record) ne)
  ]

  object_record-same : (records : List (ObjectRecord K)) (o n : ℕ) → slice_get (with_record records o (len_of n)) o ≡ option_map (len_of n) (slice_get records o)
  object_record-same records o n = elim (cases_option (slice_get records o)) [
    | inl none ↦ rw none none
    | inr (object_record, is) ↦ rw is (slice_get-set_same records o (len_of n object_record) (slice_get_within records o object_record is))
  ]

module _ {X : Type 0} where
  pub all-moved : (state : RegionState X) (words : List Pointer) (rs : List (Replacement X)) (p : ℕ) → BothMoved (slice_get words p) (slice_get (moved_all state words rs) p)
  all-moved state words [] p = both-same (slice_get words p)
  all-moved state words (r ∷ rs) p = both-placed (moved_all (with_new state r.list.items) words rs) r.object (spot state (length r.list.items)) p (slice_get words p) (all-moved (with_new state r.list.items) words rs p)

  pub once-head : (r : Replacement X) (rs : List (Replacement X)) → AreListedOnce (r ∷ rs) → IsUnlisted rs r.object
  once-head r rs once k d lt = once 0 (suc k) d (omega arith) (omega (arith, lt))

  pub once-tail : (r : Replacement X) (rs : List (Replacement X)) → AreListedOnce (r ∷ rs) → AreListedOnce rs
  once-tail r rs once i j d lt within = once (suc i) (suc j) d (omega (arith, lt)) (omega (arith, within))

  module _ {K : Type 0} where
    pub length-lens : (records : List (ObjectRecord K)) (rs : List (Replacement X)) → length (with_lens records rs) ≡ length records
    length-lens records [] = refl
    length-lens records (r ∷ rs) = length-lens (with_record records r.object (len_of (length r.list.items))) rs ∙ elim (cases_option (slice_get records r.object)) [
      | inl none ↦ rw none refl
      | inr (object_record, is) ↦ rw is (length-set records r.object (len_of (length r.list.items) object_record))
    ]

    -- the record of an object that is not listed does not change
    pub lens-other : (records : List (ObjectRecord K)) (rs : List (Replacement X)) (p : ℕ) → IsUnlisted rs p → slice_get (with_lens records rs) p ≡ slice_get records p
    lens-other records [] p un = refl
    lens-other records (r ∷ rs) p un =
        lens-other (with_record records r.object (len_of (length r.list.items))) rs p (All-tail (λ (s : Replacement X). p ≢ s.object) r rs un)
        ∙ object_record-other records r.object (length r.list.items) p (All-head (λ (s : Replacement X). p ≢ s.object) r rs un)

    -- an object is not listed, or has a new list with every property of listed ones, and its record has the list's length
    pub listed : (P : ℕ → List X → Type 0) (rs : List (Replacement X)) → AreListedOnce rs → All (λ r. P r.object r.list.items) rs → (p : ℕ)
        → IsUnlisted rs p ⊎ ((list : List X) × P p list × ((records : List (ObjectRecord K)) → slice_get (with_lens records rs) p ≡ option_map (len_of (length list)) (slice_get records p)))
    listed P [] once all p = inl (All-nil (λ (s : Replacement X). p ≢ s.object))
    listed P (r ∷ rs) once all p = elim (cases_eq p r.object) [
      | inl same ↦ inr (
        r.list.items,
        subst (λ k. P k r.list.items) (sym same) (All-head (λ (s : Replacement X). P s.object s.list.items) r rs all),
        λ records.
            rw same (lens-other (with_record records r.object (len_of (length r.list.items))) rs r.object (once-head r rs once) ∙ object_record-same records r.object (length r.list.items)),
      )
      | inr ne ↦ elim (listed P rs (once-tail r rs once) (All-tail (λ (s : Replacement X). P s.object s.list.items) r rs all) p) [
        | inl un ↦ inl (All-cons (λ (s : Replacement X). p ≢ s.object) r rs ne un)
        | inr (list, holds, lens) ↦ inr (list, holds, λ records. lens (with_record records r.object (len_of (length r.list.items))) ∙ ap (option_map (len_of (length list))) (object_record-other records r.object (length r.list.items) p ne))
      ]
    ]

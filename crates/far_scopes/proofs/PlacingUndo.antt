-- Removing what was just placed or made restores the state before.
use Rattle.std.proofs.Common.{◌≡◌, ℕ, zero, suc, ◌≤◌, nat_eq, cond, true, false, inl, inr, List, [], ◌∷◌, ◌++◌, length, filter, unwrap_or, Some, None, refl, ap, subst, ◌∙◌, arith, append-nil}
use Rattle.std.specs.Prelude.{not, slice_set}
use Rattle.std.proofs.lemmas.Bool.{cases_Bool, cases_lt, eq-eqb}
use Rattle.std.proofs.lemmas.List.{get_or-set_same, set-get_or}
use Rattle.std.proofs.lemmas.List.Elements.{filter-append}
use Rattle.far_types.specs.declared.name.Name.{Name}
use Rattle.far_pointer.specs.declared.pointer.Pointer.{Pointer}
use Rattle.far_pointer.specs.declared.pointer.Pointer.TheVariants.{Local}
use Rattle.far_log.specs.RegionState.{Part, SegmentState, RegionState, IsLayout, fill_of, list_at, segment_of, target_of, IsRegion}
use Rattle.far_log.specs.Effects.{with_part, without_part}
use Rattle.far_log.proofs.RegionStateLayouts.{no-list-at-fill}
use Rattle.far_log.proofs.RegionStateLaws.{layout-segment}
use Rattle.far_scopes.specs.Memory.{Memory}
use Rattle.far_scopes.specs.Placing.{spot, with_new, without_at, with_object, after_remove_last}
use Rattle.far_scopes.specs.Movement.{Movement}
use Rattle.far_scopes.specs.Effects.{new_record, after_create, after_uncreate}
use Rattle.far_scopes.proofs.MemoryWordPlaces.{last-of, take-last, place-push_last}
use Rattle.far_scopes.proofs.RecencyLaws.{without-cons}

module _ {A : Type 0} where
  set-twice : (xs : List A) (k : ℕ) (a b : A) → slice_set (slice_set xs k a) k b ≡ slice_set xs k b
  set-twice [] k a b = refl
  set-twice (x ∷ xs) zero a b = refl
  set-twice (x ∷ xs) (suc k) a b = ap (λ l. x ∷ l) (set-twice xs k a b)

  set-past : (xs : List A) (k : ℕ) (a : A) → length xs ≤ k → slice_set xs k a ≡ xs
  set-past [] k a past = refl
  set-past (x ∷ xs) zero a past = absurd (omega (arith, past))
  set-past (x ∷ xs) (suc k) a past = ap (λ l. x ∷ l) (set-past xs k a (omega (arith, past)))

module _ {X : Type 0} where
  filter-free : (ps : List (Part X)) (k : ℕ) → list_at ps k ≡ None → filter (λ p. not (nat_eq p.offset k)) ps ≡ ps
  filter-free [] k free = refl
  filter-free (p ∷ ps) k free = elim (cases_Bool (nat_eq p.offset k)) [
    | inl same ↦ (let found = subst (λ b. cond b (Some p.list) (list_at ps k) ≡ None) same free in cc)
    | inr ne ↦ rw ne (ap (λ l. p ∷ l) (filter-free ps k (subst (λ b. cond b (Some p.list) (list_at ps k) ≡ None) ne free)))
  ]

  part-dropped : (s : SegmentState X) (list : List X) → IsLayout s → without_part (with_part s list) (fill_of s) ≡ s
  part-dropped s list layout =
      let q : Part X = record { offset = fill_of s; list = list } in
      let rest : filter (λ p. not (nat_eq p.offset (fill_of s))) (s.parts ++ q ∷ []) ≡ s.parts =
      filter-append (λ p. not (nat_eq p.offset (fill_of s))) s.parts (q ∷ []) ∙ rw (eq-eqb (fill_of s) (fill_of s) refl, filter-free s.parts (fill_of s) (no-list-at-fill 0 s.size s.parts layout)) (append-nil s.parts) in
      ap (λ (parts : List (Part X)). let t : SegmentState X = record { parts = parts; size = s.size } in t) rest

  state-undone : (state : RegionState X) (list : List X) → IsRegion state → without_at (with_new state list) (Some (spot state (length list))) ≡ state
  state-undone state list region =
      let k : ℕ = unwrap_or (target_of state (length list)) 0 in
      let none : SegmentState X = record { parts = []; size = 0 } in
      elim (cases_lt k (length state)) [
        | inl within ↦ rw (get_or-set_same state k (with_part (segment_of state k) list) none within, part-dropped (segment_of state k) list (layout-segment state k region within))
            (set-twice state k (with_part (segment_of state k) list) (segment_of state k) ∙ set-get_or state k none)
        | inr past ↦ set-twice state k _ _ ∙ set-past state k _ past
      ]

  -- the local memory
  pub after_remove_last-with_object : (memory : Memory X) (list : List X) → IsRegion memory.state → after_remove_last (with_object memory list) ≡ memory
  after_remove_last-with_object memory list region =
      let word : Pointer = Local (spot memory.state (length list)) true true false in
      rw (take-last (memory.words ++ word ∷ []) memory.words word refl, last-of (memory.words ++ word ∷ []) memory.words word refl, place-push_last memory.words word, state-undone memory.state list region) refl

-- all objects, if the local memory is restored
pub after_uncreate-after_create : {X K : Type 0} (m : Movement X K) (name : Name) (list : List X) → after_remove_last (with_object m.memory list) ≡ m.memory → after_uncreate (after_create m name list) ≡ m
after_uncreate-after_create {K = K} m name list back =
    let object_record = new_record {K = K} name (length list) in
    rw (back, take-last (m.records ++ object_record ∷ []) m.records object_record refl, last-of (m.records ++ object_record ∷ []) m.records object_record refl, without-cons m.order (length m.records)) refl

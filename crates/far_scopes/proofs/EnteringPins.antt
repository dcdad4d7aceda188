-- Pins that are added one after another, and removed again.
use Rattle.std.proofs.Common.{◌≡◌, ℕ, zero, suc, ◌+◌, ◌-◌, ◌<◌, ◌≤◌, Bool, true, false, inl, inr, List, [], ◌∷◌, ◌++◌, length, take, get_or, Some, None, refl, sym, ap, subst, ◌∙◌, arith}
use Rattle.std.specs.Prelude.{not, IsTrue, ◌==◌, slice_get, slice_set}
use Rattle.std.specs.Option.{option_map_or}
use Rattle.std.proofs.lemmas.List.{length-set, set-set}
use Rattle.std.proofs.Math.Seq.{take-suc}
use Rattle.std.proofs.lemmas.Bool.{ne_eqb}
use Rattle.far_scopes.specs.declared.object_record.ObjectRecord.{ObjectRecord}
use Rattle.far_scopes.specs.Movement.{Movement, pins_of}
use Rattle.far_scopes.specs.Effects.{with_record, after_pin, after_unpin}
use Rattle.far_scopes.specs.Entering.{after_pin_all}
use Rattle.far_scopes.proofs.MemoryPlaces.{cases_option}
use Rattle.far_scopes.proofs.MemoryWordPlaces.{slice_get-set_same}
use Rattle.std.proofs.lemmas.Option.{slice_get_within}

set-same : {A : Type 0} (xs : List A) (i : ℕ) (x : A) → slice_get xs i ≡ Some x → slice_set xs i x ≡ xs
set-same [] i x e = refl
set-same (z ∷ xs) zero x e = let is : x ≡ z = cc in rw is refl
set-same (z ∷ xs) (suc i) x e = ap (λ l. z ∷ l) (set-same xs i x e)

pub length-with : {K : Type 0} (records : List (ObjectRecord K)) (o : ℕ) (change : ObjectRecord K → ObjectRecord K) → length (with_record records o change) ≡ length records
length-with records o change = elim (cases_option (slice_get records o)) [
  | inl none ↦ rw none refl
  | inr (object_record, is) ↦ rw is (length-set records o (change object_record))
]

there-is : {A : Type 0} (xs : List A) (o : ℕ) → o < length xs → slice_get xs o ≡ None → ⊥
there-is [] o within none = omega (arith, within)
there-is (x ∷ xs) zero within none = cc
there-is (x ∷ xs) (suc o) within none = there-is xs o (omega (arith, within)) none

module _ {X K : Type 0} where
  pub length-after_pin_all : (m : Movement X K) (objects : List ℕ) → length (after_pin_all m objects).records ≡ length m.records
  length-after_pin_all m [] = refl
  length-after_pin_all m (o ∷ objects) = length-after_pin_all (after_pin m o) objects ∙ length-with m.records o (λ object_record. record object_record { pins = object_record.pins + 1 })

  pub memory-after_pin_all : (m : Movement X K) (objects : List ℕ) → (after_pin_all m objects).memory ≡ m.memory
  memory-after_pin_all m [] = refl
  memory-after_pin_all m (o ∷ objects) = memory-after_pin_all (after_pin m o) objects

  pub after_pin_all-last : (m : Movement X K) (objects : List ℕ) (o : ℕ) → after_pin_all m (objects ++ o ∷ []) ≡ after_pin (after_pin_all m objects) o
  after_pin_all-last m [] o = refl
  after_pin_all-last m (p ∷ objects) o = after_pin_all-last (after_pin m p) objects o

  -- a pin is added and removed
  pub after_unpin-after_pin : (m : Movement X K) (o : ℕ) → after_unpin (after_pin m o) o ≡ m
  after_unpin-after_pin m o = elim (cases_option (slice_get m.records o)) [
    | inl none ↦ rw (none, none) refl
    | inr (object_record, is) ↦
        let now : ObjectRecord K = record object_record { pins = object_record.pins + 1 } in
        let there : slice_get (slice_set m.records o now) o ≡ Some now = slice_get-set_same m.records o now (slice_get_within m.records o object_record is) in
        let back : slice_set (slice_set m.records o now) o object_record ≡ m.records = set-set m.records o now object_record ∙ set-same m.records o object_record is in
        let less : object_record.pins + 1 - 1 ≡ object_record.pins = omega arith in
        rw (is, there, less, back) refl
  ]

  pub pins-after_pin : (m : Movement X K) (o : ℕ) → o < length m.records → (pins_of (after_pin m o) o == 0) ≡ false
  pins-after_pin m o within = elim (cases_option (slice_get m.records o)) [
    | inl none ↦ absurd (there-is m.records o within none)
    | inr (object_record, is) ↦ rw is (ap (λ e. option_map_or (λ (x : ObjectRecord K). x.pins) e 0 == 0) (slice_get-set_same m.records o record object_record { pins = object_record.pins + 1 } within) ∙ ne_eqb (object_record.pins + 1) 0 (λ none. omega (arith, none)))
  ]

  -- the last pin that was added is removed
  pub undo-one : (m self new : Movement X K) (objects : List ℕ) (left : ℕ) (result : Bool) → 0 < left → left ≤ length objects → get_or objects (left - 1) 0 < length self.records → self ≡ after_pin_all m (take left objects)
      → result ≡ not (pins_of self (get_or objects (left - 1) 0) == 0) → (IsTrue result → new ≡ after_unpin self (get_or objects (left - 1) 0)) → new ≡ after_pin_all m (take (left - 1) objects)
  undo-one m self new objects left result some within there is answer taken =
      let o : ℕ = get_or objects (left - 1) 0 in
      let before : Movement X K = after_pin_all m (take (left - 1) objects) in
      let count : suc (left - 1) ≡ left = omega (arith, some) in
      let last : take left objects ≡ take (left - 1) objects ++ o ∷ [] = ap (λ n. take n objects) (sym count) ∙ take-suc objects (left - 1) 0 (omega (arith, some, within)) in
      let self-is : self ≡ after_pin before o = is ∙ ap (after_pin_all m) last ∙ after_pin_all-last m (take (left - 1) objects) o in
      let inside : o < length before.records = omega (arith, there, ap (λ (x : Movement X K). length x.records) self-is, length-with before.records o (λ object_record. record object_record { pins = object_record.pins + 1 })) in
      let had : result ≡ true = answer ∙ ap not (ap (λ x. pins_of x o == 0) self-is ∙ pins-after_pin before o inside) in
      taken (subst IsTrue (sym had) refl) ∙ ap (λ x. after_unpin x o) self-is ∙ after_unpin-after_pin before o

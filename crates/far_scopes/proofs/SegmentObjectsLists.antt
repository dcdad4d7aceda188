-- The objects of a segment, found one after another.
use Rattle.std.proofs.Common.{◌≡◌, ◌≢◌, ℕ, ◌+◌, ◌<◌, inl, inr, Bool, List, [], ◌∷◌, ◌++◌, length, map, eqb, Some, None, sym, subst, ◌∙◌, arith}
use Rattle.std.proofs.lemmas.Bool.{cases_eq, eq-eqb, ne_eqb}
use Rattle.std.proofs.lemmas.List.{map_push, length-map, get_or-map}
use Rattle.std.proofs.lemmas.List.Elements.{All-weaker, All-push, All-get_or, Contains-append_left, Contains-push}
use Rattle.std.specs.List.Sorted.{IsPermutation, IsNonDecreasing, IsNonDecreasingBy}
use Rattle.std.proofs.lemmas.List.Sorted.{All-permutation, Contains-permutation, IsPermutation-map}
use Rattle.std.proofs.lemmas.Map.Keys.{IsDistinct-IsPermutation}
use Rattle.std.proofs.lemmas.Map.Made.{AllPairs-from_IsDistinct, IsDistinct-from_AllPairs}
use Rattle.std.proofs.lemmas.Bool.Decides.{Decides-eqb}
use Rattle.std.proofs.lemmas.List.Quantifiers.{all_pairs_push}
use Rattle.far_pointer.specs.declared.pointer.Pointer.{Pointer}
use Rattle.far_scopes.specs.declared.memory.compaction.SegmentObject.{SegmentObject}
use Rattle.far_scopes.specs.SegmentObjects.{offset_of, AreObjects}
use Rattle.far_scopes.proofs.MemoryPlaces.{same_some, none_or_some}

flips : (x y : ℕ) → eqb x y ≡ eqb y x
flips x y = elim (cases_eq x y) [
  | inl same ↦ eq-eqb x y same ∙ sym (eq-eqb y x (sym same))
  | inr ne ↦ ne_eqb x y ne ∙ sym (ne_eqb y x (λ e. ne (sym e)))
]

module _ (words : List Pointer) (segment : ℕ) (hot : Bool) where
  abbrev Sound : ℕ → SegmentObject → Type 0
  Sound n found = (found.object < n) × (offset_of words segment hot found.object ≡ Some found.offset)

  more-sound : (n : ℕ) (found : SegmentObject) → Sound n found → Sound (n + 1) found
  more-sound n found h = (omega (arith, h.0), h.1)

  -- the next object is not in the segment, or has another hot bit
  pub objects-past : (n : ℕ) (found : List SegmentObject) → AreObjects words segment hot n found → offset_of words segment hot n ≡ None → AreObjects words segment hot (n + 1) found
  objects-past n found h none = record {
    sound = All-weaker (Sound n) (Sound (n + 1)) (more-sound n) found h.sound;
    whole = λ o offset lt is. elim (cases_eq o n) [
      | inl same ↦ absurd (none_or_some (offset_of words segment hot n) none (subst (λ k. offset_of words segment hot k ≡ Some offset) same is))
      | inr ne ↦ h.whole o offset (omega (arith, lt)) is
    ];
    once = h.once;
  }

  -- the next object is in the segment and has this hot bit
  pub objects-push : (n offset : ℕ) (found : List SegmentObject) → AreObjects words segment hot n found → offset_of words segment hot n ≡ Some offset → AreObjects words segment hot (n + 1) (found ++ record { object = n; offset = offset } ∷ [])
  objects-push n offset found h some =
      let next : SegmentObject = record { object = n; offset = offset } in
      record {
        sound = All-push (Sound (n + 1)) found next (All-weaker (Sound n) (Sound (n + 1)) (more-sound n) found h.sound) (omega arith, some);
        whole = λ o at lt is. elim (cases_eq o n) [
          | inl same ↦
              let place : at ≡ offset = same_some (offset_of words segment hot n) (subst (λ k. offset_of words segment hot k ≡ Some at) same is) some in
              rw (same, place) (Contains-push found next)
          | inr ne ↦ Contains-append_left found (next ∷ []) record { object = o; offset = at } (h.whole o at (omega (arith, lt)) is)
        ];
        once = rw (map_push (λ (f : SegmentObject). f.object) found next) (all_pairs_push (λ (o p : ℕ). o ≢ p) (map (λ (f : SegmentObject). f.object) found) n h.once
            (λ k d lt e. let within : k < length found = omega (arith, lt, length-map found (λ (f : SegmentObject). f.object)) in
            let read = get_or-map (λ (f : SegmentObject). f.object) found k next d within in
            let below = All-get_or (Sound n) found k next within h.sound in
            omega (arith, below.0, read, e)));
      }

  -- reordering them keeps the same objects
  pub objects-moved : (n : ℕ) (found others : List SegmentObject) → IsPermutation found others → AreObjects words segment hot n found → AreObjects words segment hot n others
  objects-moved n found others moves h = record {
    sound = All-permutation (Sound n) found others moves h.sound;
    whole = λ o offset lt is. Contains-permutation found others record { object = o; offset = offset } moves (h.whole o offset lt is);
    once = AllPairs-from_IsDistinct Decides-eqb (map (λ (f : SegmentObject). f.object) others)
        (IsDistinct-IsPermutation eqb flips (map (λ (f : SegmentObject). f.object) found) (map (λ (f : SegmentObject). f.object) others) (IsPermutation-map (λ (f : SegmentObject). f.object) found others moves)
        (IsDistinct-from_AllPairs Decides-eqb (map (λ (f : SegmentObject). f.object) found) h.once));
  }

-- objects by ascending offset
pub sorted-mapped : (objects : List SegmentObject) → IsNonDecreasingBy (λ f. f.offset) objects → IsNonDecreasing (map (λ (f : SegmentObject). f.offset) objects)
sorted-mapped objects h = λ i j d le lt.
    let none : SegmentObject = record { object = 0; offset = 0 } in
    let within : j < length objects = omega (arith, lt, length-map objects (λ (f : SegmentObject). f.offset)) in
    omega (arith, h i j none le within, get_or-map (λ (f : SegmentObject). f.offset) objects i none d (omega (arith, le, within)), get_or-map (λ (f : SegmentObject). f.offset) objects j none d within)

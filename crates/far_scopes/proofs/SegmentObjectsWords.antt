-- The words of objects that are updated one after another.
use Rattle.std.proofs.Common.{◌≡◌, ◌≢◌, ℕ, ◌+◌, ◌<◌, inl, inr, false, List, length, length-set, get_or, map, Some, refl, sym, ap, ◌∙◌, arith}
use Rattle.std.specs.Prelude.{slice_get, slice_set, slice_index, AllPairs}
use Rattle.std.proofs.lemmas.Bool.{cases_eq, cases_lt}
use Rattle.std.proofs.lemmas.List.{length-map, get_or-map, get_or_default}
use Rattle.std.proofs.lemmas.Option.{slice_get_within}
use Rattle.far_pointer.specs.declared.pointer.Pointer.{Pointer}
use Rattle.far_pointer.specs.Layout.{with_hot, with_at}
use Rattle.far_scopes.specs.declared.memory.compaction.SegmentObject.{SegmentObject}
use Rattle.far_scopes.specs.SegmentObjects.{Settles}
use Rattle.far_scopes.proofs.MemoryWordPlaces.{slice_get-set_same, slice_get-set_other}

-- no object is in the list twice
pub disjoint-at : (objects : List SegmentObject) (i j : ℕ) (d : SegmentObject) → AllPairs (λ o p. o ≢ p) (map (λ (f : SegmentObject). f.object) objects) → i ≢ j → i < length objects → j < length objects → (get_or objects i d).object ≢ (get_or objects j d).object
disjoint-at objects i j d once ne first second same =
    let one = get_or-map (λ (f : SegmentObject). f.object) objects i d 0 first in
    let two = get_or-map (λ (f : SegmentObject). f.object) objects j d 0 second in
    let long = length-map objects (λ (f : SegmentObject). f.object) in
    elim (cases_lt i j) [
      | inl less ↦ once i j 0 less (omega (arith, second, long)) (one ∙ same ∙ sym two)
      | inr more ↦ once j i 0 (let lt : j < i = omega (arith, more, ne) in lt) (omega (arith, first, long)) (two ∙ sym same ∙ sym one)
    ]

pub settles-none : (words : List Pointer) (objects : List SegmentObject) (to : ℕ) (offsets : List ℕ) → Settles words words objects to offsets 0
settles-none words objects to offsets = record { long = refl; here = λ k d lt. absurd (omega (arith, lt)); others = λ p h. refl }

-- one more object is updated
pub settles-more : (old new : List Pointer) (objects : List SegmentObject) (to : ℕ) (offsets : List ℕ) (k : ℕ) (found : SegmentObject) (word : Pointer)
    → AllPairs (λ o p. o ≢ p) (map (λ (f : SegmentObject). f.object) objects) → k < length objects → found ≡ get_or objects k found → slice_get new found.object ≡ Some word
    → Settles old new objects to offsets k → Settles old (slice_set new found.object (with_hot (with_at word record { segment = to; offset = slice_index offsets k }) false)) objects to offsets (k + 1)
settles-more old new objects to offsets k found word once lt is read h =
    let next : Pointer = with_hot (with_at word record { segment = to; offset = slice_index offsets k }) false in
    let at-k : (d : SegmentObject) → (get_or objects k d).object ≡ found.object = λ d. ap (λ f. f.object) (sym (is ∙ get_or_default objects k found d lt)) in
    let was : slice_get old found.object ≡ Some word = sym (h.others found.object (λ j d less same. disjoint-at objects j k d once (λ e. omega (arith, e, less)) (omega (arith, less, lt)) lt (same ∙ sym (at-k d)))) ∙ read in
    record {
      long = length-set new found.object next ∙ h.long;
      here = λ j d less. elim (cases_eq j k) [
        | inl same ↦ rw (same, at-k d, was) (slice_get-set_same new found.object next (slice_get_within new found.object word read))
        | inr ne ↦ slice_get-set_other new found.object (get_or objects j d).object next (λ e. disjoint-at objects j k d once ne (omega (arith, less, ne, lt)) lt (e ∙ sym (at-k d))) ∙ h.here j d (omega (arith, less, ne))
      ];
      others = λ p none. slice_get-set_other new found.object p next (λ e. none k found (omega arith) (at-k found ∙ sym e)) ∙ h.others p (λ j d less. none j d (omega (arith, less)));
    }

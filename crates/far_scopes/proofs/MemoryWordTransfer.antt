-- The local memory after an object takes over the location of the last object, which is removed.
use Rattle.std.proofs.Common.{◌≡◌, ◌≢◌, ℕ, ◌<◌, ◌-◌, List, [], ◌∷◌, ◌++◌, length, get_or, Some, None, refl, sym, ap, ◌∙◌, arith}
use Rattle.std.specs.Prelude.{slice_set}
use Rattle.std.proofs.Math.Seq.{take-append_seam}
use Rattle.far_pointer.specs.declared.pointer.At.{At}
use Rattle.far_pointer.specs.declared.pointer.Pointer.{Pointer}
use Rattle.far_pointer.specs.Layout.{with_at}
use Rattle.far_log.specs.RegionState.{RegionState, part_of, segment_of, IsRegion}
use Rattle.far_log.specs.Effects.{ChangesOnly, with_segment, without_part}
use Rattle.far_scopes.specs.Memory.{Memory, at_of, place_of, list_in, IsMemory}
use Rattle.far_scopes.specs.Replacing.{after_take_over}
use Rattle.far_scopes.proofs.MemoryWordPlaces.{word-read, place-read, place-set_same, place-set_other, place-push_last, place-push_other, place-end, last-of}
use Rattle.far_scopes.proofs.MemoryLaws.{at-moved}
use Rattle.far_scopes.proofs.MemoryPlaceTransfer.{own-after_take_over, list-after_take_over, lists-elsewhere}

module _ {X : Type 0} (rest words : List Pointer) (last word : Pointer) (is : words ≡ rest ++ last ∷ []) (state state' : RegionState X) (m : IsMemory words state)
    (o : ℕ) (lt : o < length words - 1) (to at : At) (lies : at_of last ≡ Some to) (read : word ≡ get_or rest o word) (here : at_of word ≡ Some at) where
  within : o < length rest
  within = omega (arith, lt, last-of words rest last is)

  abbrev pub words' : List Pointer
  words' = slice_set rest o (with_at word to)

  was : place_of words o ≡ Some at
  was = ap (λ ws. place_of ws o) is ∙ place-push_other rest last o (λ e. omega (arith, within, e)) ∙ place-read rest o word at within read here

  lay : place_of words (length rest) ≡ Some to
  lay = ap (λ ws. place_of ws (length rest)) is ∙ place-push_last rest last ∙ lies

  now : place_of words' o ≡ Some to
  now = place-set_same rest o (with_at word to) within ∙ at-moved word at to here

  gone : place_of words' (length rest) ≡ None
  gone = place-set_other rest o (with_at word to) (length rest) (λ e. omega (arith, within, e)) ∙ place-end rest

  others : (p : ℕ) → p ≢ o → p ≢ length rest → place_of words' p ≡ place_of words p
  others p ne ne' = place-set_other rest o (with_at word to) p ne ∙ sym (ap (λ ws. place_of ws p) is ∙ place-push_other rest last p ne')

  not-last : o ≢ length rest
  not-last e = omega (arith, within, e)

  pub take_over-is : state' ≡ with_segment state at.segment (without_part (segment_of state at.segment) at.offset) → (let new : Memory X = record { words = words'; state = state' } in new) ≡ after_take_over record { words = words; state = state } o
  take_over-is dropped =
      let there = word-read rest o word within read in
      rw (last-of words rest last is, lay, was, is, take-append_seam rest (last ∷ []), there, dropped) refl

  module _ (change : ChangesOnly state state' at None) where
    pub memory-after_take_over : IsRegion state' → IsMemory words' state'
    memory-after_take_over region = record {
      region = region;
      own = own-after_take_over (place_of words) (place_of words') (part_of state) (part_of state') m.own o (length rest) not-last at to was lay now gone others change.here change.others;
    }

    pub list-here : list_in record { words = words'; state = state' } o ≡ list_in record { words = words; state = state } (length words - 1)
    list-here = rw (last-of words rest last is) (list-after_take_over (place_of words) (place_of words') (part_of state) (part_of state') m.own o (length rest) not-last at to was lay now gone others change.here change.others)

    pub lists-others : (p : ℕ) → p ≢ o → p ≢ length words - 1 → list_in record { words = words'; state = state' } p ≡ list_in record { words = words; state = state } p
    lists-others p ne ne' = lists-elsewhere (place_of words) (place_of words') (part_of state) (part_of state') m.own o (length rest) not-last at to was lay now gone others change.here change.others p ne (λ e. ne' (e ∙ sym (last-of words rest last is)))

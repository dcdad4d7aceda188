-- A list in chunks: reading it, writing to it, and appending to it.
use Rattle.std.proofs.Common.{◌≡◌, ℕ, ◌+◌, ◌<◌, ◌≤◌, ◌^◌, List, [], ◌∷◌, ◌++◌, Some, length, get_or, take, sym, ap, ◌∙◌, arith, length-append, length-set, length-take}
use Rattle.std.proofs.lemmas.List.{take_all, take_more_set}
use Rattle.std.proofs.Math.Seq.{take-set-lt}
use Rattle.std.proofs.lemmas.Option.{slice_get-get_or}
use Rattle.std.specs.Prelude.{vec_capacity, slice_get, slice_set}
use Rattle.std.specs.declared.vec.Vec.{Vec}
use Rattle.far_log.specs.Chunking.{items_of, AreChunks, IsPlaceOf, IsChunked}
use Rattle.far_log.proofs.ChunkingLayout.{ends-within, get-take, chunk-there, in-chunk, read-chunk, write-chunk, chunks-set, last-chunk, push-chunk}

module _ {X Z : Type 0} (cs : List (Vec X Z)) (len : ℕ) where
  pub index-within : (now : List X) (index : ℕ) → take len (items_of cs) ≡ now → index < length now → index < len
  index-within now index is lt = omega (arith, lt, ap length is, length-take len (items_of cs))

  pub length-shown : IsChunked cs len → length (take len (items_of cs)) ≡ len
  length-shown h = omega (arith, h.within, length-take len (items_of cs))

  module _ (index number at : ℕ) (place : IsPlaceOf index number at) where
    pub reached : IsChunked cs len → index < len → number < length cs
    reached h lt = chunk-there 64 cs number h.chunks (omega (arith, place.index_is, h.within, lt))

    pub chunk-is : (c : Vec X Z) → c ≡ get_or cs number c → number < length cs → slice_get cs number ≡ Some c
    chunk-is c is lt = slice_get-get_or cs number c lt ∙ ap Some (sym is)

    pub holds : (c : Vec X Z) → IsChunked cs len → index < len → slice_get cs number ≡ Some c → at < length c.items
    holds c h lt here = in-chunk 64 cs number at c h.chunks here place.within (omega (arith, place.index_is, h.within, lt))

    pub shown-read : (c : Vec X Z) → IsChunked cs len → index < len → slice_get cs number ≡ Some c → slice_get (take len (items_of cs)) index ≡ slice_get c.items at
    shown-read c h lt here =
        get-take len (items_of cs) index lt ∙ ap (slice_get (items_of cs)) (sym place.index_is) ∙ read-chunk 64 cs number at c h.chunks here (holds c h lt here)

    written : (c d : Vec X Z) (x : X) → AreChunks 64 cs → slice_get cs number ≡ Some c → at < length c.items → d.items ≡ slice_set c.items at x → items_of (slice_set cs number d) ≡ slice_set (items_of cs) index x
    written c d x h here lt is = write-chunk 64 cs number at c d x h here lt is ∙ ap (λ i. slice_set (items_of cs) i x) place.index_is

    pub chunked-written : (c d : Vec X Z) (x : X) → IsChunked cs len → index < len → slice_get cs number ≡ Some c → d.items ≡ slice_set c.items at x → vec_capacity d ≡ vec_capacity c → IsChunked (slice_set cs number d) len
    chunked-written c d x h lt here is capacity = record {
      chunks = chunks-set 64 cs number c d h.chunks here (ap length is ∙ length-set c.items at x) capacity;
      within = omega (arith, h.within, ap length (written c d x h.chunks here (holds c h lt here) is), length-set (items_of cs) index x);
      few = h.few;
    }

    pub shown-after_write : (c d : Vec X Z) (x : X) → IsChunked cs len → index < len → slice_get cs number ≡ Some c → d.items ≡ slice_set c.items at x → take len (items_of (slice_set cs number d)) ≡ slice_set (take len (items_of cs)) index x
    shown-after_write c d x h lt here is = ap (take len) (written c d x h.chunks here (holds c h lt here) is) ∙ take-set-lt len (items_of cs) index x lt

    -- appending an element at a place that was used before
    module _ (c d : Vec X Z) (x : X) (h : AreChunks 64 cs) (next : index ≡ len) (few : len < 2 ^ 32) (here : slice_get cs number ≡ Some c) (lt : at < length c.items) (is : d.items ≡ slice_set c.items at x) (capacity : vec_capacity d ≡ vec_capacity c) where
      more : len < length (items_of cs)
      more = omega (arith, ends-within 64 cs number c h here, place.index_is, next, lt)

      pub chunked-reused : IsChunked (slice_set cs number d) (len + 1)
      chunked-reused = record {
        chunks = chunks-set 64 cs number c d h here (ap length is ∙ length-set c.items at x) capacity;
        within = omega (arith, more, ap length (written c d x h here lt is), length-set (items_of cs) index x);
        few = omega (arith, few);
      }

      pub shown-reused : take (len + 1) (items_of (slice_set cs number d)) ≡ take len (items_of cs) ++ x ∷ []
      shown-reused = ap (take (len + 1)) (written c d x h here lt is) ∙ ap (λ i. take (len + 1) (slice_set (items_of cs) i x)) next ∙ take_more_set (items_of cs) len x more

    -- appending an element at a new place, after all others
    module _ (c d : Vec X Z) (x : X) (h : AreChunks 64 cs) (next : index ≡ len) (within : len ≤ length (items_of cs)) (few : len < 2 ^ 32) (here : slice_get cs number ≡ Some c) (behind : length c.items ≤ at) where
      pub all-used : len ≡ length (items_of cs)
      all-used = let last = last-chunk 64 cs number c h here (omega (arith, place.within, behind)) in omega (arith, last.0, place.index_is, next, behind, within)

      pub has-size : length c.items < vec_capacity c
      has-size = let last = last-chunk 64 cs number c h here (omega (arith, place.within, behind)) in omega (arith, last.1, place.within, behind)

      module _ (is : d.items ≡ c.items ++ x ∷ []) (capacity : vec_capacity d ≡ vec_capacity c) where
        pub chunked-pushed : IsChunked (slice_set cs number d) (len + 1)
        chunked-pushed =
            let pushed = push-chunk 64 cs number c d x h here (omega (arith, place.within, behind)) is capacity in
            record {
              chunks = pushed.0;
              within = omega (arith, ap length pushed.1, all-used, length-append (items_of cs) (x ∷ []));
              few = omega (arith, few);
            }

        pub shown-pushed : take (len + 1) (items_of (slice_set cs number d)) ≡ take len (items_of cs) ++ x ∷ []
        shown-pushed =
            let pushed = push-chunk 64 cs number c d x h here (omega (arith, place.within, behind)) is capacity in
            ap (take (len + 1)) pushed.1 ∙ take_all (len + 1) (items_of cs ++ x ∷ []) (omega (arith, all-used, length-append (items_of cs) (x ∷ [])))
            ∙ ap (λ xs. xs ++ x ∷ []) (sym (take_all len (items_of cs) (omega (arith, all-used))))

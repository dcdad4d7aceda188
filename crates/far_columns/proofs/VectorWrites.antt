-- Overwritten elements.
use Rattle.std.proofs.Common.{◌≡◌, ℕ, suc, ◌+◌, ◌-◌, ◌*◌, ◌/◌, ◌%◌, ◌<◌, ◌≤◌, List, [], ◌∷◌, ◌++◌, length, take, drop, get_or, replicate, Option, Some, inl, inr, refl, sym, ap, subst, ◌∙◌, arith, length-append}
use Rattle.std.specs.Prelude.{IsSomeAnd, slice_set}
use Rattle.std.proofs.lemmas.Bool.{cases_eq}
use Rattle.std.proofs.lemmas.List.{length-take-le, length-drop, take-take, drop-take, drop-drop, drop-replicate, set_split}
use Rattle.std.proofs.Math.Seq.{take-append-add, drop-append-add}
use Rattle.far_columns.specs.Vector.{Vector, IsShaped, IsVector, WritesPlaces, KeepsOthers, places, elements, object_at}
use Rattle.far_columns.proofs.VectorPlaces.{range-places}
use Rattle.far_columns.proofs.VectorLaws.{object-there, place-is, list-there, length-all, length-elements}

module _ {X : Type 0} where
  pub take-after : (xs ys : List X) (n k : ℕ) → k ≡ length xs + n → take k (xs ++ ys) ≡ xs ++ take n ys
  take-after xs ys n k e = rw e (take-append-add xs ys n)

  pub drop-after : (xs ys : List X) (n k : ℕ) → k ≡ length xs + n → drop k (xs ++ ys) ≡ drop n ys
  drop-after xs ys n k e = rw e (drop-append-add xs ys n)

  module _ (all range : List X) (i len : ℕ) (within : i + length range ≤ len) (enough : len ≤ length all) where
    abbrev after : List X
    after = drop (i + length range) all

    front-long : length (take i all) ≡ i
    front-long = length-take-le i all (omega (arith, within, enough))

    len-is : len ≡ i + length range + (len - (i + length range))
    len-is = omega (arith, within)

    -- a range that is written over some of the first `len` elements changes no others
    take-written : take len (take i all ++ (range ++ after)) ≡ take i (take len all) ++ (range ++ drop (i + length range) (take len all))
    take-written =
        let rest : drop (i + length range) (take len all) ≡ take (len - (i + length range)) after =
        ap (λ n. drop (i + length range) (take n all)) len-is ∙ drop-take (i + length range) (len - (i + length range)) all in
        take-after (take i all) (range ++ after) (len - i) len (omega (arith, front-long, within))
        ∙ ap (λ l. take i all ++ l) (take-after range after (len - (i + length range)) (len - i) (omega (arith, within)))
        ∙ ap (λ l. l ++ (range ++ take (len - (i + length range)) after)) (sym (take-take i len all (omega (arith, within))))
        ∙ ap (λ l. take i (take len all) ++ (range ++ l)) (sym rest)

    drop-written : drop len (take i all ++ (range ++ after)) ≡ drop len all
    drop-written =
        drop-after (take i all) (range ++ after) (len - i) len (omega (arith, front-long, within))
        ∙ drop-after range after (len - (i + length range)) (len - i) (omega (arith, within))
        ∙ drop-drop (len - (i + length range)) (i + length range) all
        ∙ ap (λ n. drop n all) (sym len-is)

  length-written : (list range : List X) (a size : ℕ) → length list ≡ size → a + length range ≤ size → length (take a list ++ (range ++ drop (a + length range) list)) ≡ size
  length-written list range a size long fits =
      let one = length-append (take a list) (range ++ drop (a + length range) list) in
      let two = length-append range (drop (a + length range) list) in
      let front = length-take-le a list (omega (arith, long, fits)) in
      let back = length-drop (a + length range) list in
      omega (arith, one, two, front, back, long, fits)

module _ {X : Type 0} (old new : ℕ → Option (List X)) (v : Vector X) (shaped : IsShaped v) (is : IsVector old v) (i : ℕ) where
  -- a range written over the list of one object is written over the places
  pub places-after_write : i < length v.objects * v.size → KeepsOthers old new (object_at v i) → (range list : List X) → i % v.size + length range ≤ v.size → old (object_at v i) ≡ Some list → new (object_at v i) ≡ Some (take (i % v.size) list ++ (range ++ drop (i % v.size + length range) list)) → WritesPlaces old new v i range
  places-after_write there others range list fits had has =
      let o : ℕ = object_at v i in
      let long : length list ≡ v.size = (let own = list-there v shaped i there old is in subst (λ l. IsSomeAnd l (λ xs. length xs ≡ v.size)) had own) in
      record {
        whole = λ k d within. elim (cases_eq (get_or v.objects k d) o) [
          | inl same ↦ rw (same, has) (length-written list range (i % v.size) v.size long fits)
          | inr ne ↦ rw (others (get_or v.objects k d) ne) (is.whole k d within)
        ];
        places = range-places old new v.size v.objects shaped.sorted is.whole (i / v.size) o (object-there v shaped i there) others (i % v.size) (length range) range refl fits (rw (has, had) refl) i (place-is v shaped i there);
      }

  module _ (range : List X) (writes : WritesPlaces old new v i range) where
    all-long : length (places old v.objects) ≡ length v.objects * v.size
    all-long = length-all old v shaped is

    module _ (within : i + length range ≤ v.len) where
      pub elements-after_write : elements new v ≡ take i (elements old v) ++ (range ++ drop (i + length range) (elements old v))
      elements-after_write = ap (take v.len) writes.places ∙ take-written (places old v.objects) range i v.len within (omega (arith, all-long, shaped.enough))

      pub vector-after_write : IsVector new v
      vector-after_write = record {
        whole = writes.whole;
        unused = ap (drop v.len) writes.places ∙ drop-written (places old v.objects) range i v.len within (omega (arith, all-long, shaped.enough)) ∙ is.unused;
      }

-- an overwritten element
pub one-written : {X : Type 0} (xs : List X) (i : ℕ) (x : X) → i < length xs → take i xs ++ ((x ∷ []) ++ drop (i + length (x ∷ [])) xs) ≡ slice_set xs i x
one-written xs i x within = let e : i + length (x ∷ []) ≡ suc i = omega arith in rw e (sym (set_split xs i x within))

-- an element written to the first unused place
module _ {X : Type 0} (old new : ℕ → Option (List X)) (v : Vector X) (shaped : IsShaped v) (is : IsVector old v) (x : X) (writes : WritesPlaces old new v v.len (x ∷ [])) (space : v.len < length v.objects * v.size) where
  abbrev filled : Vector X
  filled = record v { len = v.len + 1 }

  abbrev unused-after : List X
  unused-after = drop (v.len + length (x ∷ [])) (places old v.objects)

  used-long : length (take v.len (places old v.objects)) ≡ v.len
  used-long = length-elements old v shaped is

  pub elements-filled : elements new filled ≡ elements old v ++ x ∷ []
  elements-filled = ap (take (v.len + 1)) writes.places ∙ take-after (take v.len (places old v.objects)) (x ∷ unused-after) 1 (v.len + 1) (omega (arith, used-long))

  pub vector-filled : IsVector new filled
  vector-filled = record {
    whole = writes.whole;
    unused =
        ap (drop (v.len + 1)) writes.places
        ∙ drop-after (take v.len (places old v.objects)) (x ∷ unused-after) 1 (v.len + 1) (omega (arith, used-long))
        ∙ sym (drop-drop 1 v.len (places old v.objects))
        ∙ ap (drop 1) is.unused
        ∙ drop-replicate 1 (length v.objects * v.size - v.len) v.default_value
        ∙ ap (λ n. replicate n v.default_value) (let e : length v.objects * v.size - v.len - 1 ≡ length v.objects * v.size - (v.len + 1) = omega arith in e);
  }

  pub shaped-filled : IsShaped filled
  shaped-filled = record { some = shaped.some; short = shaped.short; few = shaped.few; sorted = shaped.sorted; enough = omega (arith, space); needed = omega (arith, shaped.needed) }

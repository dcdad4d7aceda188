-- The elements of a vector, in the lists of its objects.
use Rattle.std.proofs.Common.{◌≡◌, ℕ, suc, ◌+◌, ◌-◌, ◌*◌, ◌/◌, ◌%◌, ◌<◌, ◌≤◌, List, ◌++◌, length, take, drop, get_or, Option, Some, refl, sym, ap, ◌∙◌, arith}
use Rattle.std.specs.Prelude.{IsSomeAnd, slice_get, slice_range}
use Rattle.std.proofs.lemmas.Nat.{div_below, mod_below, div-add-mod'}
use Rattle.std.proofs.lemmas.Option.{slice_get-get_or}
use Rattle.std.proofs.lemmas.List.{get_or-take, get_or_append_left, length-take-le, length-drop, take-take, drop-take, take-append-le, drop-append-le}
use Rattle.std.proofs.Math.Seq.{get_or-append-add, drop-append-add}
use Rattle.far_columns.specs.Vector.{Vector, IsShaped, IsVector, places, elements, object_at}
use Rattle.far_columns.proofs.VectorPlaces.{list_at, length-places, places-split, length-own, length-before}

module _ {X : Type 0} (v : Vector X) (shaped : IsShaped v) (i : ℕ) (there : i < length v.objects * v.size) where
  pub group-within : i / v.size < length v.objects
  group-within = div_below i v.size (length v.objects) shaped.some there

  pub object-there : slice_get v.objects (i / v.size) ≡ Some (object_at v i)
  object-there = slice_get-get_or v.objects (i / v.size) 0 group-within

  pub place-is : i ≡ i / v.size * v.size + i % v.size
  place-is = sym (div-add-mod' i v.size)

  module _ (lists : ℕ → Option (List X)) (is : IsVector lists v) where
    -- the object with a place has a list
    pub list-there : IsSomeAnd (lists (object_at v i)) (λ list. length list ≡ v.size)
    list-there = is.whole (i / v.size) 0 group-within

module _ {X : Type 0} (lists : ℕ → Option (List X)) (v : Vector X) (shaped : IsShaped v) (is : IsVector lists v) where
  pub length-all : length (places lists v.objects) ≡ length v.objects * v.size
  length-all = length-places lists v.size v.objects is.whole

  pub length-elements : length (elements lists v) ≡ v.len
  length-elements = length-take-le v.len (places lists v.objects) (omega (arith, length-all, shaped.enough))

  module _ (i : ℕ) (there : i < length v.objects * v.size) where
    abbrev front : List X
    front = places lists (take (i / v.size) v.objects)

    abbrev own : List X
    own = list_at lists (object_at v i)

    abbrev back : List X
    back = places lists (drop (suc (i / v.size)) v.objects)

    split : places lists v.objects ≡ front ++ (own ++ back)
    split = places-split lists v.objects (i / v.size) (object_at v i) (object-there v shaped i there)

    at-front : i ≡ length front + i % v.size
    at-front = place-is v shaped i there ∙ ap (λ n. n + i % v.size) (sym (length-before lists v.size v.objects is.whole (i / v.size) (object_at v i) (object-there v shaped i there)))

    pub own-long : length own ≡ v.size
    own-long = length-own lists v.size v.objects is.whole (i / v.size) (object_at v i) (object-there v shaped i there)

    in-own : i % v.size < length own
    in-own = omega (arith, own-long, mod_below i v.size shaped.some)

    -- a place, as an index in the list of its row group
    place-in : (d : X) → get_or (places lists v.objects) i d ≡ get_or own (i % v.size) d
    place-in d =
        ap (λ l. get_or l i d) split
        ∙ ap (λ n. get_or (front ++ (own ++ back)) n d) at-front
        ∙ get_or-append-add front (own ++ back) (i % v.size) d
        ∙ get_or_append_left own back d (i % v.size) in-own

    -- the elements from a place on
    rest-in : drop i (places lists v.objects) ≡ drop (i % v.size) own ++ back
    rest-in =
        ap (drop i) split
        ∙ ap (λ n. drop n (front ++ (own ++ back))) at-front
        ∙ drop-append-add front (own ++ back) (i % v.size)
        ∙ drop-append-le (i % v.size) own back (omega (arith, in-own))

  -- an element of the vector is an element of its row group's list
  pub element-is : (i : ℕ) → i < v.len → (d : X) → get_or (elements lists v) i d ≡ get_or (list_at lists (object_at v i)) (i % v.size) d
  element-is i within d = get_or-take v.len (places lists v.objects) i d within ∙ place-in i (omega (arith, within, shaped.enough)) d

  -- a part within one row group is a part of the row group's list
  pub part-is : (from to : ℕ) → from < to → to ≤ v.len → from % v.size + (to - from) ≤ v.size → slice_range (elements lists v) from to ≡ take (to - from) (drop (from % v.size) (list_at lists (object_at v from)))
  part-is from to some within fits =
      let there : from < length v.objects * v.size = omega (arith, some, within, shaped.enough) in
      let long = own-long from there in
      let left = length-drop (from % v.size) (own from there) in
      ap (λ n. take (to - from) (drop from (take n (places lists v.objects)))) (let e : v.len ≡ from + (v.len - from) = omega (arith, some, within) in e)
      ∙ ap (take (to - from)) (drop-take from (v.len - from) (places lists v.objects))
      ∙ take-take (to - from) (v.len - from) (drop from (places lists v.objects)) (omega (arith, within))
      ∙ ap (take (to - from)) (rest-in from there)
      ∙ take-append-le (to - from) (drop (from % v.size) (own from there)) (back from there) (omega (arith, long, left, fits))

-- a part that is not empty and ends in the row group in which it begins fits into that row group
pub part-fits : (size from to : ℕ) → 0 < size → from < to → from / size ≡ (to - 1) / size → from % size + (to - from) ≤ size
part-fits size from to some more same =
    let here = div-add-mod' from size in
    let last = div-add-mod' (to - 1) size in
    let below = mod_below (to - 1) size some in
    let rows : from / size * size ≡ (to - 1) / size * size = ap (λ g. g * size) same in
    omega (arith, here, last, below, rows)

module _ {X : Type 0} (lists : ℕ → Option (List X)) (v : Vector X) (shaped : IsShaped v) (is : IsVector lists v) where
  -- the element in the list of its object
  pub get-is : (i : ℕ) → i < v.len → (list : List X) → lists (object_at v i) ≡ Some list → (x : X) → x ≡ get_or list (i % v.size) x → slice_get (elements lists v) i ≡ Some x
  get-is i within list has x read =
      slice_get-get_or (elements lists v) i x (omega (arith, length-elements lists v shaped is, within))
      ∙ ap Some (element-is lists v shaped is i within x ∙ (rw has (sym read)))

  -- the part in the list of its object
  pub part-lent : (from to : ℕ) → from < to → to ≤ v.len → from / v.size ≡ (to - 1) / v.size → (list : List X) → lists (object_at v from) ≡ Some list → take (from % v.size + (to - from) - from % v.size) (drop (from % v.size) list) ≡ slice_range (elements lists v) from to
  part-lent from to some within same list has =
      let e : from % v.size + (to - from) - from % v.size ≡ to - from = omega arith in
      rw e (sym (part-is lists v shaped is from to some within (part-fits v.size from to shaped.some some same) ∙ rw has refl))

-- The list of a row group's object: its elements, and the values of unused places.
use Rattle.std.proofs.Common.{◌≡◌, ℕ, zero, suc, ◌+◌, ◌-◌, ◌*◌, ◌<◌, ◌≤◌, List, [], ◌∷◌, ◌++◌, length, take, drop, get_or, Option, Some, refl, sym, ap, subst, ◌∙◌, arith, mul-le-mul_right}
use Rattle.std.specs.Prelude.{replicate, slice_get, IsSomeAnd}
use Rattle.std.proofs.lemmas.List.{take_all, take-append-le, take-append-drop, take-replicate, drop-append-le, length-drop}
use Rattle.std.proofs.lemmas.Option.{slice_get_within, get_or_from_slice_get}
use Rattle.std.proofs.Math.Seq.{drop-append_seam}
use Rattle.far_columns.specs.Vector.{Vector, IsShaped, IsVector, places, elements, group_list}
use Rattle.far_columns.proofs.VectorPlaces.{list_at, some-at, places-split, length-own, length-before}
use Rattle.far_columns.proofs.VectorLaws.{length-elements}

-- the first elements of a list and of a long enough tail: the first elements of the list, then as many of the tail as are missing
filled : {X : Type 0} (size n : ℕ) (xs : List X) (b : X) → size ≤ length xs + n → take size (xs ++ replicate n b) ≡ take size xs ++ replicate (size - length (take size xs)) b
filled zero n xs b fits = refl
filled (suc k) n [] b fits = take-replicate (suc k) n b (omega (arith, fits)) ∙ ap (λ m. replicate m b) (let e : suc k ≡ suc k - 0 = omega arith in e)
filled (suc k) n (x ∷ xs) b fits =
    let e : k - length (take k xs) ≡ suc k - suc (length (take k xs)) = omega arith in
    ap (λ l. x ∷ l) (filled k n xs b (omega (arith, fits)) ∙ ap (λ m. take k xs ++ replicate m b) e)

pub list-of-group : {X : Type 0} (lists : ℕ → Option (List X)) (v : Vector X) (g o : ℕ) → IsShaped v → IsVector lists v → slice_get v.objects g ≡ Some o → lists o ≡ Some (group_list v (elements lists v) g)
list-of-group lists v g o shaped is here =
    let os = v.objects in
    let all = places lists os in
    let own = list_at lists o in
    let front = places lists (take g os) in
    let back = places lists (drop (suc g) os) in
    let within : g < length os = slice_get_within os g o here in
    let long : length own ≡ v.size = length-own lists v.size os is.whole g o here in
    let before : length front ≡ g * v.size = length-before lists v.size os is.whole g o here in
    let size = v.size in
    let used = elements lists v in
    let count : length used ≡ v.len = length-elements lists v shaped is in
    let more : suc g * size ≤ length os * size = mul-le-mul_right {m = suc g} {n = length os} size (omega (arith, within)) in
    let from : g * size ≤ v.len = omega (arith, more, shaped.needed) in
    let n = length os * size - v.len in
    let joined : all ≡ used ++ replicate n v.default_value = sym (take-append-drop v.len all) ∙ ap (λ l. used ++ l) is.unused in
    let cut : take size (drop (g * size) all) ≡ own =
    ap (λ m. take size (drop m all)) (sym before)
    ∙ ap (λ l. take size (drop (length front) l)) (places-split lists os g o here)
    ∙ ap (take size) (drop-append_seam front (own ++ back))
    ∙ take-append-le size own back (omega (arith, long))
    ∙ take_all size own (omega (arith, long)) in
    let rest = drop (g * size) used in
    let left : length rest ≡ length used - g * size = length-drop (g * size) used in
    let parts : take size (drop (g * size) all) ≡ take size rest ++ replicate (size - length (take size rest)) v.default_value =
    ap (λ l. take size (drop (g * size) l)) joined
    ∙ ap (take size) (drop-append-le (g * size) used (replicate n v.default_value) (omega (arith, from, count)))
    ∙ filled size n rest v.default_value (omega (arith, left, count, more, from, shaped.enough)) in
    let at : get_or os g o ≡ o = get_or_from_slice_get os g o o here in
    let there = subst (λ p. IsSomeAnd (lists p) (λ list. length list ≡ size)) at (is.whole g o within) in
    some-at (lists o) size there ∙ ap Some (sym cut ∙ parts)

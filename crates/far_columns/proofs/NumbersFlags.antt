-- Pieces with the flags of their places.
use Rattle.std.proofs.Common.{◌≡◌, ℕ, ◌+◌, ◌≤◌, Bool, Option, None, ℤ, List, [], ◌∷◌, ◌++◌, length, map, take, drop, refl, sym, ap, subst, ◌∙◌, arith, length-append, All}
use Rattle.std.specs.List.{flat_map}
use Rattle.std.specs.Prelude.{slice_range, ◌-◌, suc}
use Rattle.std.proofs.lemmas.List.{take-append-drop, length-take-le, length-drop}
use Rattle.std.proofs.lemmas.List.Elements.{All-cons}
use Rattle.far_scopes.specs.Movement.{Movement}
use Rattle.far_columns.specs.Vector.{Vector, IsShaped, IsVector}
use Rattle.far_columns.specs.Refusing.{pieces_refusal}
use Rattle.far_columns.proofs.VectorLaws.{length-elements}
use Rattle.far_columns.proofs.RefusingParts.{range-free}
use Rattle.far_columns.specs.Numbers.{Numbers, number_lists, numbers_in, with_flags}

-- there are as many flagged pieces as pieces
pub length-with_flags : (pieces : List Numbers) (flags : List Bool) → length (with_flags pieces flags) ≡ length pieces
length-with_flags [] flags = refl
length-with_flags (piece ∷ pieces) flags = ap suc (length-with_flags pieces (drop (length piece) flags))

-- the flagged pieces have the numbers of the pieces
pub values-with_flags : (pieces : List Numbers) (flags : List Bool) → map (λ (lent : Numbers × List Bool). lent.0) (with_flags pieces flags) ≡ pieces
values-with_flags [] flags = refl
values-with_flags (piece ∷ pieces) flags = ap (λ rest. piece ∷ rest) (values-with_flags pieces (drop (length piece) flags))

pub joined-values : (pieces : List Numbers) (flags : List Bool) → flat_map (λ (lent : Numbers × List Bool). lent.0) (with_flags pieces flags) ≡ flat_map (λ piece. piece) pieces
joined-values [] flags = refl
joined-values (piece ∷ pieces) flags = ap (λ rest. piece ++ rest) (joined-values pieces (drop (length piece) flags))

-- the flags of the pieces, joined, are all flags, if there are as many flags as places
module _ (piece : List (Option ℤ)) (pieces : List Numbers) (flags : List Bool) (same_length : length flags ≡ length (flat_map (λ piece. piece) (piece ∷ pieces))) where
  both : length flags ≡ length piece + length (flat_map (λ piece. piece) pieces)
  both = same_length ∙ length-append piece (flat_map (λ piece. piece) pieces)

  within : length piece ≤ length flags
  within = omega (arith, both)

  rest : length (drop (length piece) flags) ≡ length (flat_map (λ piece. piece) pieces)
  rest = omega (arith, length-drop (length piece) flags, both)

pub joined-flags : (pieces : List Numbers) (flags : List Bool) → length flags ≡ length (flat_map (λ piece. piece) pieces) → flat_map (λ (lent : Numbers × List Bool). lent.1) (with_flags pieces flags) ≡ flags
joined-flags [] [] same_length = refl
joined-flags [] (flag ∷ flags) same_length = absurd (omega (arith, same_length))
joined-flags (piece ∷ pieces) flags same_length =
    ap (λ more. take (length piece) flags ++ more) (joined-flags pieces (drop (length piece) flags) (rest piece pieces flags same_length))
    ∙ take-append-drop (length piece) flags

-- each piece has as many flags as places
pub same_length-flags : (pieces : List Numbers) (flags : List Bool) → length flags ≡ length (flat_map (λ piece. piece) pieces) → All (λ (lent : Numbers × List Bool). length lent.1 ≡ length lent.0) (with_flags pieces flags)
same_length-flags [] flags same_length = λ k d inside. absurd (omega (arith, inside))
same_length-flags (piece ∷ pieces) flags same_length = All-cons (λ (lent : Numbers × List Bool). length lent.1 ≡ length lent.0) (piece, take (length piece) flags) (with_flags pieces (drop (length piece) flags))
    (length-take-le (length piece) flags (within piece pieces flags same_length))
    (same_length-flags pieces (drop (length piece) flags) (rest piece pieces flags same_length))

-- the length of a range is the difference of its bounds
pub length-range : {A : Type 0} (xs : List A) (from to : ℕ) → from ≤ to → to ≤ length xs → length (slice_range xs from to) ≡ to - from
length-range xs from to low within = length-take-le (to - from) (drop from xs) (omega (arith, length-drop from xs, low, within))

-- a part that is lent has as many flags as places
pub flags-same_length : {K : Type 0} (content : K → List ℕ) (m : Movement (Option ℤ) K) (v : Vector (Option ℤ)) (shaped : IsShaped v) (is : IsVector (number_lists content m) v) (alive : List Bool) (from to : ℕ) → length alive ≡ v.len → None ≡ pieces_refusal m v from to
    → (flags : List Bool) (joined : Numbers) → flags ≡ slice_range alive from to → joined ≡ slice_range (numbers_in content m v) from to → length flags ≡ length joined
flags-same_length content m v shaped is alive from to same_length free flags joined own other =
    let range = range-free m v from to (sym free) in
    let len = length-elements (number_lists content m) v shaped is in
    ap (λ l. length l) own
    ∙ length-range alive from to range.0 (subst (λ n. to ≤ n) (sym same_length) range.1)
    ∙ sym (length-range (numbers_in content m v) from to range.0 (subst (λ n. to ≤ n) (sym len) range.1))
    ∙ sym (ap (λ l. length l) other)

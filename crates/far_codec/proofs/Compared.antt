-- What comparing two slices of bytes shows.
use Rattle.std.proofs.Common.{◌≡◌, ℕ, Bool, true, false, eqb, List, refl, sym, ap, ◌∙◌}
use Rattle.std.specs.Prelude.{not}
use Rattle.std.specs.Cmp.Lexicographic.{pointwise}
use Rattle.std.proofs.lemmas.Slice.Eq.{slice_eq-Decides}
use Rattle.std.proofs.lemmas.Bool.Decides.{Decides-eqb}

not_false : (b : Bool) → not b ≡ false → b ≡ true
not_false true e = refl
not_false false e = absurd cc

pub same_if_not_ne : (r : Bool) (xs ys : List ℕ) → r ≡ not (pointwise eqb xs ys) → r ≡ false → xs ≡ ys
same_if_not_ne r xs ys is e = (slice_eq-Decides Decides-eqb xs ys (pointwise eqb xs ys) refl).0 (not_false (pointwise eqb xs ys) (sym is ∙ e))

pub differ_if_ne : (r : Bool) (xs ys : List ℕ) → r ≡ not (pointwise eqb xs ys) → r ≡ true → ¬ (xs ≡ ys)
differ_if_ne r xs ys is e same =
    let equal : pointwise eqb xs ys ≡ true = (slice_eq-Decides Decides-eqb xs ys (pointwise eqb xs ys) refl).1 same in
    let no : not (pointwise eqb xs ys) ≡ false = ap not equal in
    absurd cc

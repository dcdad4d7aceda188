-- Lines of an answer that are written one after another.
use Rattle.std.proofs.Common.{◌≡◌, ◌∙◌, ◌<◌, ℕ, ◌+◌, List, length, drop, Option, Some, None, inl, inr, sym, ap, subst, arith, drop-drop}
use Rattle.std.specs.Prelude.{pos, set, slice_get, IsSomeAnd}
use Rattle.std.proofs.lemmas.Bool.{cases_lt}
use Rattle.std.proofs.lemmas.List.{drop-set-lt, get_or-set_other, get_or-set_same, length-set}
use Rattle.std.proofs.lemmas.Option.{slice_get-get_or, slice_get_within}
use Rattle.far_types.specs.declared.answer.Answer.{Answer}
use Rattle.far_types.specs.declared.answer.Answer.TheVariants as answer
use Rattle.far_c.specs.declared.answer.FcLine.{FcLine}
use Rattle.far_c.specs.Answering.{AreLinesAt, IsLineAt, IsPast, lines_in}

-- a list after one element is set
module _ {A : Type 0} (xs : List A) (k : ℕ) (x : A) (inside : k < length xs) where
  at-same : slice_get (set xs k x) k ≡ Some x
  at-same = slice_get-get_or (set xs k x) k x (rw length-set inside) ∙ ap Some (get_or-set_same xs k x x inside)

  at-other : (j : ℕ) → j < k → slice_get (set xs k x) j ≡ slice_get xs j
  at-other j less = slice_get-get_or (set xs k x) j x (rw length-set (omega (arith, less, inside)))
      ∙ ap Some (get_or-set_other xs k j x x (λ same. omega (arith, same, less)))
      ∙ sym (slice_get-get_or xs j x (omega (arith, less, inside)))

-- writing one more line
pub one-more : (answer : Answer) (from k : ℕ) (lines : List FcLine) (line : FcLine) → k < length lines → IsLineAt answer (from + k) line → AreLinesAt answer from k lines → AreLinesAt answer from (k + 1) (set lines k line)
one-more answer from k lines line inside is before j below = elim (cases_lt j k) [
  | inl less ↦ subst Is (sym (at-other lines k line inside j less)) (before j less)
  | inr past ↦ last (let same : j ≡ k = omega (arith, past, below) in same)
]
  where
    Is : Option FcLine → Type 0
    Is found = IsSomeAnd found (λ l. IsLineAt answer (from + j) l)

    last : j ≡ k → Is (slice_get (set lines k line) j)
    last same = subst (λ i. IsSomeAnd (slice_get (set lines k line) i) (λ l. IsLineAt answer (from + i) l)) (sym same) (subst (λ o. IsSomeAnd o (λ l. IsLineAt answer (from + k) l)) (sym (at-same lines k line inside)) is)

-- the lines after it are unchanged
pub rest-stays : (k : ℕ) (before lines : List FcLine) (line : FcLine) → drop k lines ≡ drop k before → drop (k + 1) (set lines k line) ≡ drop (k + 1) before
rest-stays k before lines line same = drop-set-lt (k + 1) lines k line (omega arith) ∙ sym (drop-drop 1 k lines) ∙ ap (drop 1) same ∙ drop-drop 1 k before

-- an answer has a line at each index below its number of lines
pub there-is : (answer : Answer) (index : ℕ) → index < lines_in answer → ¬ (IsPast answer index)
there-is (answer.Totals lines) index below past = (let some = slice_get-get_or lines index (None, 0, pos 0) below in cc)
there-is (answer.Extrema lines) index below past = (let some = slice_get-get_or lines index (None, pos 0, pos 0) below in cc)

-- Worked examples: the answers of aggregates over a few rows. Each is computed, so a wrong definition fails.
use Rattle.std.specs.Prelude.{◌≡◌, ℕ, ℤ, pos, negsuc, List, [], ◌∷◌, Option, None, Some, codes}
use Rattle.far_types.specs.declared.cell.Cell.{Cell}
use Rattle.far_types.specs.declared.cell.Cell.TheVariants as cell
use Rattle.far_types.specs.declared.key.Key.TheVariants as key
use Rattle.far_types.specs.declared.filter.Op.TheVariants as op
use Rattle.far_types.specs.declared.filter.Test.{Test}
use Rattle.far_types.specs.declared.filter.Test.TheVariants as test
use Rattle.far_types.specs.declared.spec.Fold.{Fold}
use Rattle.far_types.specs.declared.spec.Fold.TheVariants as fold
use Rattle.far_types.specs.declared.spec.Spec.{Spec}
use Rattle.far_types.specs.declared.answer.Answer.TheVariants as answer
use Rattle.far_types.specs.Answers.{answer_over}

-- an aggregate of column 0, with or without the key column 1
abbrev pub of_column : Fold → Option ℕ → List Test → Spec
of_column f k tests = record { fold = f; value = 0; key = k; filter = tests }

-- a row of a number and a text
abbrev pub row : ℤ → List ℕ → List Cell
row number text = cell.Int number ∷ cell.Text text ∷ []

-- the text `a`
abbrev pub a : List ℕ
a = codes "a"

-- the text `b`
abbrev pub b : List ℕ
b = codes "b"

-- over no rows, totals without a key column have the line of zeros, totals with one have no line, and extrema have none
abbrev pub OverNoRows : Type 0
OverNoRows =
    (answer_over (of_column fold.Totals None []) [] ≡ answer.Totals ((None, 0, pos 0) ∷ []))
    × (answer_over (of_column fold.Extrema None []) [] ≡ answer.Extrema [])
    × (answer_over (of_column fold.Totals (Some 1) []) [] ≡ answer.Totals [])

-- totals by key of 5 a, 7 b, 5 a; and without the second row, so without a line for b
abbrev pub TotalsByKey : Type 0
TotalsByKey =
    (answer_over (of_column fold.Totals (Some 1) [])
    (row (pos 5) a ∷ row (pos 7) b ∷ row (pos 5) a ∷ [])
    ≡ answer.Totals ((Some (key.Text a), 2, pos 10) ∷ (Some (key.Text b), 1, pos 7) ∷ []))
    × (answer_over (of_column fold.Totals (Some 1) []) (row (pos 5) a ∷ row (pos 5) a ∷ [])
    ≡ answer.Totals ((Some (key.Text a), 2, pos 10) ∷ []))

-- the sum is exact, even below the least number of 64 bits
abbrev pub ExactSum : Type 0
ExactSum =
    answer_over (of_column fold.Totals None [])
    (row (negsuc 9223372036854775807) a ∷ row (negsuc 9223372036854775807) a ∷ [])
    ≡ answer.Totals ((None, 2, negsuc 18446744073709551615) ∷ [])

-- extrema of 3, 3, 9; then with one 3, and then without a 3
abbrev pub LeastAndGreatest : Type 0
LeastAndGreatest =
    (answer_over (of_column fold.Extrema None [])
    (row (pos 3) a ∷ row (pos 3) a ∷ row (pos 9) a ∷ [])
    ≡ answer.Extrema ((None, pos 3, pos 9) ∷ []))
    × (answer_over (of_column fold.Extrema None []) (row (pos 3) a ∷ row (pos 9) a ∷ [])
    ≡ answer.Extrema ((None, pos 3, pos 9) ∷ []))
    × (answer_over (of_column fold.Extrema None []) (row (pos 9) a ∷ [])
    ≡ answer.Extrema ((None, pos 9, pos 9) ∷ []))

-- extrema by key of 5 ab, 4 ab, 9 b, 8 ab, over the rows whose number is above 4 and whose text begins with a
abbrev pub Filtered : Type 0
Filtered =
    answer_over
    (of_column fold.Extrema (Some 1) (test.Int 0 op.Gt (pos 4) ∷ test.TextBegins 1 a ∷ []))
    (row (pos 5) (codes "ab")
    ∷ row (pos 4) (codes "ab")
    ∷ row (pos 9) b
    ∷ row (pos 8) (codes "ab")
    ∷ [])
    ≡ answer.Extrema ((Some (key.Text (codes "ab")), pos 5, pos 8) ∷ [])

-- the rows 5 a, nothing a, 7 nothing
abbrev pub some_missing : List (List Cell)
some_missing = row (pos 5) a
    ∷ (cell.Missing ∷ cell.Text a ∷ [])
    ∷ (cell.Int (pos 7) ∷ cell.Missing ∷ [])
    ∷ []

-- rows without a value are not folded, nor, with a key column, rows without a key
abbrev pub WithMissing : Type 0
WithMissing =
    (answer_over (of_column fold.Totals (Some 1) []) some_missing
    ≡ answer.Totals ((Some (key.Text a), 1, pos 5) ∷ []))
    × (answer_over (of_column fold.Totals None (test.Int 0 op.Ne (pos 9) ∷ [])) some_missing
    ≡ answer.Totals ((None, 2, pos 12) ∷ []))

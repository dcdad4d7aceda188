-- Worked examples of tests, and of the aggregates that a schema allows.
use Rattle.std.specs.Prelude.{◌≡◌, ℕ, pos, negsuc, Bool, true, false, [], ◌∷◌, map, Option, None, Some, codes, replicate}
use Rattle.far_types.specs.declared.cell.Kind.TheVariants as kind
use Rattle.far_types.specs.declared.filter.Op.TheVariants as op
use Rattle.far_types.specs.declared.filter.Test.{Test}
use Rattle.far_types.specs.declared.filter.Test.TheVariants as test
use Rattle.far_types.specs.declared.spec.Fold.TheVariants as fold
use Rattle.far_types.specs.declared.spec.Spec.{Spec}
use Rattle.far_types.specs.declared.refusal.Refusal.{Refusal}
use Rattle.far_types.specs.declared.refusal.Refusal.TheVariants as refusal
use Rattle.far_types.specs.Cells.{cells_of}
use Rattle.far_types.specs.Filters.{compares, passes}
use Rattle.far_types.specs.Bounds.{spec_refusal}
use Rattle.far_types.specs.Examples.{of_column, row, a}

-- 4 compared with 4, and -5 with 4, by each operator
abbrev pub Comparisons : Type 0
Comparisons =
    (map (λ o. compares o (pos 4) (pos 4))
    (op.Eq ∷ op.Ne ∷ op.Lt ∷ op.Le ∷ op.Gt ∷ op.Ge ∷ [])
    ≡ true ∷ false ∷ false ∷ true ∷ false ∷ true ∷ [])
    × (map (λ o. compares o (negsuc 4) (pos 4))
    (op.Eq ∷ op.Ne ∷ op.Lt ∷ op.Le ∷ op.Gt ∷ op.Ge ∷ [])
    ≡ false ∷ true ∷ true ∷ true ∷ false ∷ false ∷ [])

-- whether the row 5 ab passes a test
abbrev pub holds_of_ab : Test → Bool
holds_of_ab t = passes t (cells_of (row (pos 5) (codes "ab")))

-- ab equals ab, not a. It begins with the empty text and with a, not with abc. A test of the wrong kind or of a missing column fails
abbrev pub TestsOfTexts : Type 0
TestsOfTexts =
    (map (λ text. holds_of_ab (test.TextIs 1 text)) (codes "ab" ∷ a ∷ [])
    ≡ true ∷ false ∷ [])
    × (map (λ text. holds_of_ab (test.TextBegins 1 text)) ([] ∷ a ∷ codes "abc" ∷ [])
    ≡ true ∷ true ∷ false ∷ [])
    × (map holds_of_ab
    (test.TextBegins 0 [] ∷ test.Int 1 op.Ne (pos 9) ∷ test.Int 2 op.Ne (pos 9) ∷ [])
    ≡ false ∷ false ∷ false ∷ [])

-- why a table with a column of numbers and a text column refuses an aggregate
abbrev pub refusal_of : Spec → Option Refusal
refusal_of spec = spec_refusal (kind.Int ∷ kind.Text ∷ []) spec

-- totals of the numbers by a key column, with a test
abbrev pub of_numbers : ℕ → Test → Spec
of_numbers key t = of_column fold.Totals (Some key) (t ∷ [])

-- four tests are allowed and five are not; a constant of 4,096 bytes is allowed and one of 4,097 is not. Then each column must exist, the
-- key's too. Then a test must be of its column's kind, and the values must be numbers
abbrev pub AllowedAggregates : Type 0
AllowedAggregates =
    (refusal_of (of_column fold.Extrema (Some 0) (replicate 4 (test.TextIs 1 a))) ≡ None)
    × (refusal_of (of_column fold.Extrema (Some 9) (replicate 5 (test.TextIs 9 a)))
    ≡ Some refusal.BadSpec)
    × (refusal_of (of_numbers 1 (test.TextBegins 1 (replicate 4096 97))) ≡ None)
    × (refusal_of (of_numbers 1 (test.TextBegins 1 (replicate 4097 97))) ≡ Some refusal.BadSpec)
    × (refusal_of (of_numbers 2 (test.TextIs 0 a)) ≡ Some refusal.NoColumn)
    × (refusal_of (of_numbers 1 (test.TextIs 2 a)) ≡ Some refusal.NoColumn)
    × (refusal_of (of_numbers 1 (test.TextIs 0 a)) ≡ Some refusal.WrongKind)
    × (refusal_of (of_numbers 1 (test.Int 1 op.Ne (pos 9))) ≡ Some refusal.WrongKind)
    × (refusal_of (record { fold = fold.Totals; value = 1; key = None; filter = [] })
    ≡ Some refusal.WrongKind)

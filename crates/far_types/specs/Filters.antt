-- Which rows a filter keeps.
use Rattle.std.specs.Prelude.{ℕ, ℤ, Bool, false, not, List, Option, None, Some, ◌==◌, int_lt, int_le}
use Rattle.std.specs.List.{list_all, starts_with}
use Rattle.std.specs.Ordering.{int_eq}
use Rattle.std.specs.Cmp.Lexicographic.{pointwise}
use Rattle.far_types.specs.declared.cell.Cell.{Cell}
use Rattle.far_types.specs.declared.cell.Cell.TheVariants as cell
use Rattle.far_types.specs.declared.filter.Op.{Op}
use Rattle.far_types.specs.declared.filter.Op.TheVariants as op
use Rattle.far_types.specs.declared.filter.Test.{Test}
use Rattle.far_types.specs.declared.filter.Test.TheVariants as test
use Rattle.far_types.specs.Cells.{Cells}

-- whether a number and a constant satisfy a comparison
abbrev pub compares : Op → ℤ → ℤ → Bool
compares op.Eq number constant = int_eq number constant
compares op.Ne number constant = not (int_eq number constant)
compares op.Lt number constant = int_lt number constant
compares op.Le number constant = int_le number constant
compares op.Gt number constant = int_lt constant number
compares op.Ge number constant = int_le constant number

-- whether a cell passes a test of numbers: a text and a missing cell fail, even with `!=`
abbrev pub number_passes : (ℤ → Bool) → Option Cell → Bool
number_passes holds (Some (cell.Int number)) = holds number
number_passes holds (Some (cell.Text text)) = false
number_passes holds (Some cell.Missing) = false
number_passes holds None = false

-- whether a cell passes a test of texts: a number and a missing cell fail
abbrev pub text_passes : (List ℕ → Bool) → Option Cell → Bool
text_passes holds (Some (cell.Int number)) = false
text_passes holds (Some (cell.Text text)) = holds text
text_passes holds (Some cell.Missing) = false
text_passes holds None = false

-- whether a row passes a test of one column: texts are compared by bytes
abbrev pub passes : Test → Cells → Bool
passes (test.Int column op value) cells = number_passes (λ number. compares op number value)
    (cells column)
passes (test.TextIs column constant) cells = text_passes (λ text. pointwise ◌==◌ text constant)
    (cells column)
passes (test.TextBegins column constant) cells = text_passes
    (λ text. starts_with ◌==◌ text constant) (cells column)

-- whether a filter keeps a row: the row must pass all tests
abbrev pub keeps : List Test → Cells → Bool
keeps tests cells = list_all (λ test. passes test cells) tests

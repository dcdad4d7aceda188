-- The aggregates that lines spell, by the words of each part.
use Rattle.std.specs.Prelude.{ℕ, ℤ, pos, List, [], ◌∷◌, Option, None, Some, option_map, option_and_then, slice_get, codes, if◌then◌else◌}
use Rattle.far_types.specs.declared.cell.Kind.{Kind}
use Rattle.far_types.specs.declared.cell.Kind.TheVariants as kind
use Rattle.far_types.specs.declared.filter.Op.{Op}
use Rattle.far_types.specs.declared.filter.Op.TheVariants as op
use Rattle.far_types.specs.declared.filter.Test.{Test}
use Rattle.far_types.specs.declared.filter.Test.TheVariants as test
use Rattle.far_types.specs.declared.spec.Fold.{Fold}
use Rattle.far_types.specs.declared.spec.Fold.TheVariants as fold
use Rattle.far_types.specs.declared.spec.Spec.{Spec}
use Rattle.far_script.specs.declared.watch.Operator.{Operator}
use Rattle.far_script.specs.declared.watch.Operator.TheVariants as operator
use Rattle.far_script.specs.Numbers.{number_of, signed_number_of}
use Rattle.far_script.specs.Words.{word_in, after, number_in, words_in, is_next, reads}

-- FOLD
abbrev pub fold_of : List ℕ → Option Fold
fold_of word =
    if reads word (codes "totals") then Some fold.Totals
    else if reads word (codes "extrema") then Some fold.Extrema
    else None

-- OPERATOR
abbrev pub operator_of : List ℕ → Option Operator
operator_of word =
    if reads word (codes "=") then Some (operator.Compares op.Eq)
    else if reads word (codes "!=") then Some (operator.Compares op.Ne)
    else if reads word (codes "<") then Some (operator.Compares op.Lt)
    else if reads word (codes "<=") then Some (operator.Compares op.Le)
    else if reads word (codes ">") then Some (operator.Compares op.Gt)
    else if reads word (codes ">=") then Some (operator.Compares op.Ge)
    else if reads word (codes "^=") then Some operator.Begins
    else None

-- the test of texts with this operator: only `=` has one here
abbrev pub text_test : ℕ → Op → List ℕ → Option Test
text_test column op.Eq constant = Some (test.TextIs column constant)
text_test column op.Ne constant = None
text_test column op.Lt constant = None
text_test column op.Le constant = None
text_test column op.Gt constant = None
text_test column op.Ge constant = None

-- the test of numbers with this operator, if the constant is a number
abbrev pub number_test : ℕ → Op → Option ℤ → Option Test
number_test column op None = None
number_test column op (Some value) = Some (test.Int column op value)

-- the first test, or the other if there is none
abbrev pub or_else : Option Test → Option Test → Option Test
or_else None other = other
or_else (Some first) other = Some first

-- the test of a constant with an operator of numbers, by the column's kind. Column of numbers: with a number, if the
-- constant reads as one; else with a text. Column of texts: with the text, if the operator is `=`; else with a number, if
-- the constant reads as one. No such column: with a number if the constant reads as one; else with the text if the operator
-- is `=`; else with 0. The table then refuses it
abbrev pub compared : Option Kind → ℕ → Op → List ℕ → Option Test
compared (Some kind.Int) column op constant = or_else
    (number_test column op (signed_number_of constant)) (Some (test.TextIs column constant))
compared (Some kind.Text) column op constant = or_else (text_test column op constant)
    (number_test column op (signed_number_of constant))
compared None column op constant =
    or_else (number_test column op (signed_number_of constant))
    (or_else (text_test column op constant) (Some (test.Int column op (pos 0))))

-- a test of a column by an operator and a constant
abbrev pub test_by : Option Kind → ℕ → Operator → List ℕ → Option Test
test_by column_kind column (operator.Compares op) constant = compared column_kind column op constant
test_by column_kind column operator.Begins constant = Some (test.TextBegins column constant)

-- the same test, if the constant is not empty
abbrev pub test_with : Option Kind → ℕ → Operator → List ℕ → Option Test
test_with column_kind column operator [] = None
test_with column_kind column operator (c ∷ cs) = test_by column_kind column operator (c ∷ cs)

-- COLUMN OPERATOR CONSTANT
abbrev pub test_of : List Kind → List ℕ → List ℕ → List ℕ → Option Test
test_of kinds column operator constant =
    option_and_then
    (λ c. option_and_then (λ o. test_with (slice_get kinds c) c o constant)
    (operator_of operator)) (number_of column)

-- [if COLUMN OPERATOR CONSTANT]..
abbrev pub tests_of : List Kind → List (List ℕ) → Option (List Test)
tests_of kinds [] = Some []
tests_of kinds (clause ∷ []) = None
tests_of kinds (clause ∷ column ∷ []) = None
tests_of kinds (clause ∷ column ∷ operator ∷ []) = None
tests_of kinds (clause ∷ column ∷ operator ∷ constant ∷ words) =
    if reads clause (codes "if")
    then option_and_then (λ test. option_map (λ tests. test ∷ tests) (tests_of kinds words))
    (test_of kinds column operator constant)
    else None

-- the aggregate with the tests that the rest of the line spells
abbrev pub with_tests : List Kind → Fold → ℕ → Option ℕ → Option (List ℕ) → Option Spec
with_tests kinds f v k left = option_map
    (λ tests. record { fold = f; value = v; key = k; filter = tests })
    (tests_of kinds (words_in left))

-- [by COLUMN] [if COLUMN OPERATOR CONSTANT]..
abbrev pub with_key : List Kind → Fold → ℕ → Option (List ℕ) → Option Spec
with_key kinds f v left =
    if is_next left (codes "by")
    then option_and_then (λ k. with_tests kinds f v (Some k) (after (after left)))
    (number_in (after left))
    else with_tests kinds f v None left

-- FOLD COLUMN [by COLUMN] [if COLUMN OPERATOR CONSTANT]..
abbrev pub spec_of : List Kind → Option (List ℕ) → Option Spec
spec_of kinds left = option_and_then
    (λ f. option_and_then (λ v. with_key kinds f v (after (after left))) (number_in (after left)))
    (option_and_then fold_of (word_in left))

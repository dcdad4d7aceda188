-- Aggregates as C passes them.
use Rattle.std.specs.Prelude.{ℕ, ◌==◌, Bool, cond, map, Option, None, Some}
use Rattle.far_types.specs.declared.filter.Op.{Op}
use Rattle.far_types.specs.declared.filter.Op.TheVariants as op
use Rattle.far_types.specs.declared.filter.Test.{Test}
use Rattle.far_types.specs.declared.filter.Test.TheVariants as test
use Rattle.far_types.specs.declared.spec.Fold.{Fold}
use Rattle.far_types.specs.declared.spec.Fold.TheVariants as fold
use Rattle.far_types.specs.declared.spec.Spec.{Spec}
use Rattle.far_c.specs.declared.spec.FcTest.{FcTest}
use Rattle.far_c.specs.declared.spec.FcSpec.{FcSpec}

-- the fold with this code
abbrev pub fold_of : ℕ → Fold
fold_of n = cond (n == 0) fold.Totals fold.Extrema

-- the comparison of numbers with this code
abbrev pub op_of : ℕ → Op
op_of n = cond (n == 0) op.Eq
    (cond (n == 1) op.Ne
    (cond (n == 2) op.Lt
    (cond (n == 3) op.Le
    (cond (n == 4) op.Gt op.Ge))))

-- a test: of a text for the codes 6 and 7, otherwise of a number
abbrev pub test_of : FcTest → Test
test_of t = cond (t.op == 6) (test.TextIs t.column t.text.now)
    (cond (t.op == 7) (test.TextBegins t.column t.text.now)
    (test.Int t.column (op_of t.op) t.number))

-- the key column, if there is one
abbrev pub key_of : Bool → ℕ → Option ℕ
key_of has key = cond has (Some key) None

-- an aggregate
abbrev pub spec_of : FcSpec → Spec
spec_of s = record {
  fold = fold_of s.fold;
  value = s.value;
  key = key_of s.has_key s.key;
  filter = map test_of s.tests.now;
}

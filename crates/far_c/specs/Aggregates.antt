-- Aggregates as C receives them.
use Rattle.std.specs.Prelude.{◌≡◌, ℕ, length, min, is_some, unwrap_or}
use Rattle.far_types.specs.declared.spec.Fold.{Fold}
use Rattle.far_types.specs.declared.spec.Fold.TheVariants as fold
use Rattle.far_types.specs.declared.spec.Spec.{Spec}
use Rattle.far_c.specs.declared.aggregates.FcAggregate.{FcAggregate}

-- the number of a fold
abbrev pub fold_code : Fold → ℕ
fold_code fold.Totals = 0
fold_code fold.Extrema = 1

-- the aggregate's fold and columns, and the number of its tests: a table allows at most 4
pub record IsAggregateOf (spec : Spec) (about : FcAggregate) : Type 0 where
  pub fold : about.fold ≡ fold_code spec.fold
  pub value : about.value ≡ spec.value
  pub has_key : about.has_key ≡ is_some spec.key
  pub key : about.key ≡ unwrap_or spec.key 0
  pub tests : about.tests ≡ min (length spec.filter) 4

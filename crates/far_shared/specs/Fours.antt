-- The joint answers of four tables.
use Rattle.std.specs.Prelude.{◌≡◌, ◌≢◌, ◌⊎◌, ℕ, ◌+◌, ◌≤◌, ◌^◌, List, ◌++◌, Option, Some, option_map}
use Rattle.std.specs.Option.{option_map_or}
use Rattle.far_types.specs.declared.answer.Answer.{Answer}
use Rattle.far_types.specs.declared.answer.Answer.TheVariants as answer
use Rattle.far_types.specs.declared.cell.Cell.{Cell}
use Rattle.far_types.specs.declared.spec.Fold.{Fold}
use Rattle.far_types.specs.declared.spec.Fold.TheVariants as fold
use Rattle.far_types.specs.declared.spec.Spec.{Spec}
use Rattle.far_types.specs.declared.refusal.Refusal.{Refusal}
use Rattle.far_types.specs.declared.refusal.Refusal.TheVariants as refusal
use Rattle.far_types.specs.Table.{Table, Registered, rows_of, left}
use Rattle.far_table.specs.Watching.{aggregate_at}

-- the specification of the aggregate with a number
abbrev pub spec_at : Table → ℕ → Option Spec
spec_at table a = option_map (λ aggregate. aggregate.spec) (aggregate_at table a)

-- two tables have the same schema, and the same aggregate under a number
abbrev pub AreLike : ℕ → Table → Table → Type 0
AreLike a one other = (spec : Spec)
    × (spec_at one a ≡ Some spec)
    × (spec_at other a ≡ Some spec)
    × (one.schema ≡ other.schema)

-- four tables have the same schema, and the same aggregate under a number
pub record AreAlike (a : ℕ) (one two three four : Table) : Type 0 where
  pub second : AreLike a one two
  pub third : AreLike a one three
  pub fourth : AreLike a one four

-- the number of row groups that are still pending in an aggregate
abbrev pub pending_in : Option Registered → ℕ
pending_in aggregate = option_map_or (λ there. left there.pending) aggregate 0

-- the number of row groups that are still pending in four tables
abbrev pub pending_in_all : ℕ → Table → Table → Table → Table → ℕ
pending_in_all a one two three four = pending_in (aggregate_at one a)
    + pending_in (aggregate_at two a)
    + pending_in (aggregate_at three a)
    + pending_in (aggregate_at four a)

-- the rows of four tables, one table after another
abbrev pub all_rows : Table → Table → Table → Table → List (List Cell)
all_rows one two three four = rows_of one.places
    ++ (rows_of two.places ++ (rows_of three.places ++ rows_of four.places))

-- an answer is of this kind
abbrev pub IsOf : Fold → Answer → Type 0
IsOf fold.Totals (answer.Totals lines) = Unit {0}
IsOf fold.Totals (answer.Extrema lines) = ⊥
IsOf fold.Extrema (answer.Totals lines) = ⊥
IsOf fold.Extrema (answer.Extrema lines) = Unit {0}

-- why tables with this many pending row groups do not answer: some are pending, or memory ran out
abbrev pub LeftRefusal : ℕ → Refusal → Type 0
LeftRefusal some given = ((some ≢ 0) × (given ≡ refusal.Building some))
    ⊎ ((some ≡ 0) × (given ≡ refusal.NoMemory))

-- why any tables with this many pending row groups do not answer: as above, or with `NoMemory` if the number does not fit 32 bits, which
-- never occurs in four stripes
abbrev pub AnyRefusal : ℕ → Refusal → Type 0
AnyRefusal some given = LeftRefusal some given ⊎ ((2 ^ 32 ≤ some) × (given ≡ refusal.NoMemory))

-- why any four tables do not answer: their schemas or their aggregates differ, or they are alike and row groups are pending or
-- memory ran out
abbrev pub FourRefusal : ℕ → Table → Table → Table → Table → Refusal → Type 0
FourRefusal a one two three four given = ((given ≡ refusal.NoAggregate)
    × ¬ (AreAlike a one two three four))
    ⊎ (AreAlike a one two three four × AnyRefusal (pending_in_all a one two three four) given)

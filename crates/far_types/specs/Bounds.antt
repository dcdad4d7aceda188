-- What a schema, limits and an aggregate's specification may be.
use Rattle.std.specs.Prelude.{ℕ, ◌≤◌, ◌^◌, ◌==◌, Bool, true, false, not, ◌&&◌, ◌||◌, nat_lt, max, List, [], ◌∷◌, length, Option, None, Some, slice_get}
use Rattle.std.specs.Option.{option_map_or}
use Rattle.std.specs.List.{list_any, list_all}
use Rattle.far_types.specs.declared.cell.Kind.{Kind}
use Rattle.far_types.specs.declared.cell.Kind.TheVariants as kind
use Rattle.far_types.specs.declared.limits.Limits.{Limits}
use Rattle.far_types.specs.declared.filter.Test.{Test}
use Rattle.far_types.specs.declared.filter.Test.TheVariants as test
use Rattle.far_types.specs.declared.spec.Spec.{Spec}
use Rattle.far_types.specs.declared.refusal.Refusal.{Refusal}
use Rattle.far_types.specs.declared.refusal.Refusal.TheVariants as refusal
use Rattle.far_types.specs.FirstOf.{first_of}

-- a table has 1 to 16 columns
abbrev pub IsSchema : List Kind → Type 0
IsSchema kinds = (1 ≤ length kinds) × (length kinds ≤ 16)

-- what a table's limits may be
pub record AreLimits (limits : Limits) : Type 0 where
  pub group_low : 1 ≤ limits.group
  pub group_high : limits.group ≤ 65536
  pub places_low : 1 ≤ limits.places
  pub places_high : limits.places ≤ 2 ^ 24
  pub edits_low : 1 ≤ limits.edits
  pub edits_high : limits.edits ≤ 2 ^ 40
  pub int_segments_low : 1 ≤ limits.int_segments
  pub int_segments_high : limits.int_segments ≤ 1024
  pub int_size_low : limits.group ≤ limits.int_size
  pub int_size_high : limits.int_size ≤ 1048576
  pub text_segments_low : 1 ≤ limits.text_segments
  pub text_segments_high : limits.text_segments ≤ 1024
  pub text_size_low : 64 ≤ limits.text_size
  pub text_size_high : limits.text_size ≤ 16777216

-- the usual limits of a table, in row groups of g places
abbrev pub usual_limits : ℕ → Limits
usual_limits g = record {
  group = g;
  places = 16777216;
  edits = 1099511627776;
  int_segments = 64;
  int_size = max g 4096;
  text_segments = 64;
  text_size = 65536;
}

-- the column that a test reads
abbrev pub column_of : Test → ℕ
column_of (test.Int column op value) = column
column_of (test.TextIs column constant) = column
column_of (test.TextBegins column constant) = column

-- whether a test's constant is a text of more than 4,096 bytes
abbrev pub has_long_constant : Test → Bool
has_long_constant (test.Int column op value) = false
has_long_constant (test.TextIs column constant) = nat_lt 4096 (length constant)
has_long_constant (test.TextBegins column constant) = nat_lt 4096 (length constant)

-- whether there is such a column, and it is a column of numbers
abbrev pub is_int : Option Kind → Bool
is_int (Some kind.Int) = true
is_int (Some kind.Text) = false
is_int None = false

-- whether there is such a column, and it is a text column
abbrev pub is_text : Option Kind → Bool
is_text (Some kind.Int) = false
is_text (Some kind.Text) = true
is_text None = false

-- whether a test fits its column: a test of numbers needs a column of numbers, a test of texts a text column
abbrev pub has_its_kind : List Kind → Test → Bool
has_its_kind schema (test.Int column op value) = is_int (slice_get schema column)
has_its_kind schema (test.TextIs column constant) = is_text (slice_get schema column)
has_its_kind schema (test.TextBegins column constant) = is_text (slice_get schema column)

-- whether an aggregate needs a column: for a test, for its key or for its value
abbrev pub needs : Spec → ℕ → Bool
needs spec column = list_any (λ test. column_of test == column) spec.filter
    || option_map_or (λ key. key == column) spec.key false
    || spec.value == column

-- whether all columns that an aggregate needs are among the first `columns` ones
abbrev pub is_within : ℕ → Spec → Bool
is_within columns spec = list_all (λ test. nat_lt (column_of test) columns) spec.filter
    && option_map_or (λ key. nat_lt key columns) spec.key true
    && nat_lt spec.value columns

-- why a table with this schema refuses an aggregate: the first refusal that applies
abbrev pub spec_refusal : List Kind → Spec → Option Refusal
spec_refusal schema spec = first_of (
    (nat_lt 4 (length spec.filter) || list_any has_long_constant spec.filter, refusal.BadSpec)
    ∷ (not (is_within (length schema) spec), refusal.NoColumn)
    ∷ (
      not (is_int (slice_get schema spec.value) && list_all (has_its_kind schema) spec.filter),
      refusal.WrongKind,
    )
    ∷ [])

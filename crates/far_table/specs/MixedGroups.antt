-- A row group as it is lent for a recount: local columns in place, and other columns from their contents, which were read.
use Rattle.std.specs.Prelude.{◌≡◌, ℕ, ◌<◌, ◌≤◌, ◌==◌, Bool, true, false, List, length, All, IsSome}
use Rattle.std.specs.List.{find}
use Rattle.far_types.specs.declared.spec.Spec.{Spec}
use Rattle.far_types.specs.Bounds.{needs}
use Rattle.far_types.specs.Table.{Place}
use Rattle.far_codec.specs.Lent.{IsForm}
use Rattle.far_offload.specs.Columns.{cells_meant}
use Rattle.far_rows.specs.Rows.{Rows}
use Rattle.far_aggregates.specs.Lending.{IsOfPlaces}
use Rattle.far_table.specs.Groups.{GroupRows, places_here, has_column}

-- a row group, and the aggregate for which it is lent
pub record MixedRows (K : Type 0) : Type 0 where
  pub group : GroupRows K
  pub spec : Spec

-- an aggregate of at most 4 tests that needs only columns of the rows
pub record MayFold {K : Type 0} (r : Rows K) (spec : Spec) : Type 0 where
  pub tests : length spec.filter ≤ 4
  pub columns : (column : ℕ) → needs spec column ≡ true → column < length r.column_indexes

module _ {K : Type 0} where
  -- the places of the row group
  abbrev pub places_mixed : (K → List ℕ) → MixedRows K → List Place
  places_mixed content m = places_here content m.group

  -- the columns that the aggregate needs are available
  abbrev pub has_needed : MixedRows K → ℕ → Bool
  has_needed m column = needs m.spec column

  module _ (content : K → List ℕ) (g : GroupRows K) where
    -- a content is the far form of its column in the row group
    pub record IsRead (read : ℕ × List ℕ) : Type 0 where
      pub form : IsForm read.1
      pub cells : IsOfPlaces (places_here content g) (read.0, cells_meant read.1)

    -- contents of columns that are away: each column below n that the aggregate needs has one
    pub record AreReadBelow (n : ℕ) (spec : Spec) (contents : List (ℕ × List ℕ)) : Type 0 where
      pub each : All IsRead contents
      pub all : (column : ℕ) → column < n
          → needs spec column ≡ true
          → has_column g column ≡ false
          → IsSome (find (λ read. read.0 == column) contents)

    -- contents of all columns that the aggregate needs and that are away
    pub record AreRead (spec : Spec) (contents : List (ℕ × List ℕ)) : Type 0 where
      pub each : All IsRead contents
      pub all : (column : ℕ) → needs spec column ≡ true
          → has_column g column ≡ false
          → IsSome (find (λ read. read.0 == column) contents)

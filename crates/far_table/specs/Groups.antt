-- A row group of rows over objects, as it is lent to aggregates.
use Rattle.std.specs.Prelude.{◌≡◌, ℕ, Bool, true, List, length, Option, None, Some, is_none, option_map, slice_get, slice_index_or, IsSome, IfSome}
use Rattle.far_types.specs.Table.{Place, in_group}
use Rattle.far_rows.specs.declared.lent_column.LentColumn.{LentColumn}
use Rattle.far_rows.specs.Rows.{Rows, all_cells}
use Rattle.far_rows.specs.Places.{places_in}
use Rattle.far_rows.specs.Lending.{IsLent, cells_lent}
use Rattle.far_rows.specs.Jobs.{evac_refusal}

-- rows, and the number of one of their row groups
pub record GroupRows (K : Type 0) : Type 0 where
  pub rows : Rows K
  pub group : ℕ

module _ {K : Type 0} where
  -- the places of the row group
  abbrev pub places_here : (K → List ℕ) → GroupRows K → List Place
  places_here content g = in_group g.rows.size g.group (places_in content g.rows)

  -- whether a column exists and its object of the row group is local
  abbrev pub has_column : GroupRows K → ℕ → Bool
  has_column g column = is_none (evac_refusal g.rows column g.group)

  module _ (content : K → List ℕ) (g : GroupRows K) where
    -- the row group lends a column: its cells, if the column exists and its object is local
    pub record IsLentOf (column : ℕ) (found : Option LentColumn) : Type 0 where
      pub there : has_column g column ≡ true → IsSome found
      pub form : IfSome found IsLent
      pub cells : IfSome found
          (λ lent. option_map (in_group g.rows.size g.group)
          (slice_get (all_cells content g.rows) column)
          ≡ Some (cells_lent lent))

    -- the row group lends these columns, and the flags of its places
    pub record AreLent (columns : List (Option LentColumn)) (flags : List Bool) : Type 0 where
      pub count : length columns ≡ 16
      pub lent : (column : ℕ) → IsLentOf column (slice_index_or columns column None)
      pub alive : flags ≡ in_group g.rows.size g.group g.rows.alive

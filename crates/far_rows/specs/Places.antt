-- The places of a table, from its columns and its flags.
use Rattle.std.specs.Prelude.{◌≡◌, ℕ, Bool, List, map, All, slice_index_or}
use Rattle.std.specs.List.{enumerate_from}
use Rattle.far_types.specs.declared.cell.Cell.{Cell}
use Rattle.far_types.specs.declared.cell.Cell.TheVariants.{Missing}
use Rattle.far_types.specs.declared.limits.Limits.{Limits}
use Rattle.far_types.specs.declared.edit.Edit.{Edit}
use Rattle.far_types.specs.Edits.{text_object_length, places_after}
use Rattle.far_types.specs.Table.{Place}
use Rattle.far_rows.specs.Rows.{Rows, all_cells}

-- the row at a place: each column's cell there
abbrev pub row_at : List (List Cell) → ℕ → List Cell
row_at columns place = map (λ cells. slice_index_or cells place Missing) columns

-- the places of some columns: for each flag, in order, the row at that place
abbrev pub places_of : List (List Cell) → List Bool → List Place
places_of columns flags =
    map (λ at. record { cells = row_at columns at.0; alive = at.1 }) (enumerate_from 0 flags)

module _ {K : Type 0} where
  -- the places of rows, whose objects may be local or away
  abbrev pub places_in : (K → List ℕ) → Rows K → List Place
  places_in content r = places_of (all_cells content r) r.alive

  -- the rows belong to a table with these limits
  pub record AreOf (limits : Limits) (r : Rows K) : Type 0 where
    pub group : r.size ≡ limits.group
    pub limit : All (λ c. c.limit ≡ limits.text_size) r.texts

  -- the lengths of the text objects that an insert writes, in the order of the text columns
  abbrev pub text_parts : (K → List ℕ) → Limits → Rows K → Edit → ℕ → List ℕ
  text_parts content limits r edit g =
      map (λ c. text_object_length limits c.column g (places_after edit (places_in content r)))
      r.texts

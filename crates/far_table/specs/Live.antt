-- A table's parts, and how edits change them.
use Rattle.std.specs.Prelude.{◌≡◌, ℕ, ◌≤◌, ◌^◌, List, None, Some, option_map, slice_get, slice_set, false}
use Rattle.far_types.specs.declared.edit.Edit.{Edit}
use Rattle.far_types.specs.declared.edit.Edit.TheVariants as edit
use Rattle.far_types.specs.Edits.{after_edit}
use Rattle.far_aggregates.specs.Accumulators.{RegistryEntry, Keeps, registered_of}
use Rattle.far_rows.specs.declared.new_cell.NewCell.{NewCell}
use Rattle.far_rows.specs.ColumnIndexes.{Values, kind_of, row_of}
use Rattle.far_rows.specs.Rows.{Rows}
use Rattle.far_rows.specs.Effects.{IsPushed, IsSet}
use Rattle.far_rows.specs.Setting.{cell_of, kind_in}
use Rattle.far_table.specs.State.{LiveState, AreChecked}
use Rattle.far_table.specs.TableRows.{TableRows}
use Rattle.far_table.specs.Edits.{edit_due}

module _ {K : Type 0} where
  -- the table of these rows and aggregates
  abbrev pub state_of : TableRows K → ℕ → List RegistryEntry → LiveState K
  state_of t registrations registry = record {
    table = record {
      schema = t.schema;
      limits = t.limits;
      places = t.places;
      edits = t.edits;
      registrations = registrations;
      aggregates = registered_of registry;
    };
    rows = t.held;
  }

  -- the invariant of a table's parts: the aggregates are those of its current places
  pub record IsLive (t : TableRows K) (registrations : ℕ)
      (registry : List RegistryEntry) : Type 0 where
    pub registrations_few : registrations ≤ 2 ^ 32
    pub kept : Keeps t.limits.group t.places registry
    pub checked : AreChecked t.schema (registered_of registry)

  -- how an edit changes the rows. A set writes a value of its column's kind, even if it is missing, so it writes the column's object
  -- whatever the cell was before
  abbrev pub Moves : (K → List ℕ) → Rows K → Edit → Rows K → Type 0
  Moves content old (edit.Insert row) new = (values : Values)
      × (row_of old.column_indexes values ≡ row)
      × IsPushed content old values new
  Moves content old (edit.Set p c cell) new = (value : NewCell) × (cell_of value ≡ cell)
      × (option_map kind_of (slice_get old.column_indexes c) ≡ Some (kind_in value))
      × IsSet content old c p value new
  Moves content old (edit.Remove p) new = new ≡ record old { alive = slice_set old.alive p false }

  -- an edit is made
  pub record IsEdited (content : K → List ℕ) (old : LiveState K) (e : Edit)
      (new : LiveState K) : Type 0 where
    pub due : edit_due old e ≡ None
    pub table : new.table ≡ after_edit e old.table
    pub rows : Moves content old.rows e new.rows

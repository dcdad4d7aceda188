-- The rows of a table in the plain table's words, and the objects that hold them.
use Rattle.std.specs.Prelude.{◌≡◌, ℕ, ◌≤◌, List, [], map, length}
use Rattle.far_types.specs.declared.cell.Kind.{Kind}
use Rattle.far_types.specs.declared.limits.Limits.{Limits}
use Rattle.far_types.specs.Bounds.{AreLimits}
use Rattle.far_types.specs.Cells.{RowFits}
use Rattle.far_types.specs.Table.{Place}
use Rattle.far_table.specs.State.{LiveState}
use Rattle.far_scopes.specs.Movement.{Movement, version_of}
use Rattle.far_aggregates.specs.Accumulators.{PlacesFit}
use Rattle.far_rows.specs.ColumnIndexes.{Values, kind_of, row_of}
use Rattle.far_rows.specs.Rows.{Rows}
use Rattle.far_rows.specs.Places.{AreOf, places_in}
use Rattle.far_rows.specs.Opening.{empty_rows}

-- the columns' kinds, the limits, the places, the number of accepted edits, the new row, which is the one loaded last and may be
-- appended, and the rows over objects that hold the places
pub record TableRows (K : Type 0) : Type 0 where
  pub schema : List Kind
  pub limits : Limits
  pub places : List Place
  pub edits : ℕ
  pub new_row : Values
  pub held : Rows K

module _ {K : Type 0} where
  -- the places are those that the rows hold, local or away
  abbrev pub rows_in : (K → List ℕ) → List Kind → Limits → Rows K → Values → ℕ → TableRows K
  rows_in content schema limits held new_row edits = record {
    schema = schema;
    limits = limits;
    places = places_in content held;
    edits = edits;
    new_row = new_row;
    held = held;
  }

  -- a table with only the parts that the refusal of an edit depends on
  abbrev pub asked : TableRows K → LiveState K
  asked t = record {
    table = record {
      schema = t.schema;
      limits = t.limits;
      places = t.places;
      edits = t.edits;
      registrations = 0;
      aggregates = [];
    };
    rows = t.held;
  }

  -- objects may be written as often as the table may be edited, and none was written more often than the table was edited
  pub record AreWritten {X : Type 0} (limits : Limits) (edits : ℕ) (m : Movement X K) : Type 0 where
    pub max_writes : m.max_writes ≡ limits.edits
    pub versions : (o : ℕ) → version_of m o ≤ edits

  -- the invariant of the parts of such rows
  pub record AreTableRows (content : K → List ℕ) (schema : List Kind) (limits : Limits)
      (held : Rows K) (new_row : Values) (edits : ℕ) : Type 0 where
    pub bounds : AreLimits limits
    pub kinds : map kind_of held.column_indexes ≡ schema
    pub layout : AreOf limits held
    pub few : length held.alive ≤ limits.places
    pub edits_few : edits ≤ limits.edits
    pub numbers_written : AreWritten limits edits held.number_objects
    pub texts_written : AreWritten limits edits held.text_objects
    pub numbers : length new_row.numbers ≡ length held.numbers
    pub texts : length new_row.texts ≡ length held.texts
    pub fit : PlacesFit (places_in content held)
    pub new_row_fit : RowFits (row_of held.column_indexes new_row)

  -- rows of a new table
  pub record AreOpened (kinds : List Kind) (bounds : Limits) (number : ℕ)
      (t : TableRows K) : Type 0 where
    pub schema : t.schema ≡ kinds
    pub limits : t.limits ≡ bounds
    pub places : t.places ≡ []
    pub edits : t.edits ≡ 0
    pub held : t.held ≡ empty_rows kinds bounds number

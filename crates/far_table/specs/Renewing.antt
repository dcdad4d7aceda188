-- Rows of a table whose far copies move to another store: everything else is unchanged.
use Rattle.far_rows.specs.Renewal.{RowsTickets, renewed_rows}
use Rattle.far_table.specs.TableRows.{TableRows}

module _ {K L : Type 0} where
  -- the rows of a table under these tickets
  abbrev pub renewed_table_rows : TableRows K → RowsTickets L → TableRows L
  renewed_table_rows t tickets = record {
    schema = t.schema;
    limits = t.limits;
    places = t.places;
    edits = t.edits;
    new_row = t.new_row;
    held = renewed_rows t.held tickets;
  }

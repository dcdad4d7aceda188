-- The cells of a place, borrowed column by column.
use Rattle.far_types.specs.declared.cell.Cell.{Cell}
use Rattle.far_types.specs.Lent.{int_cell, lent_cell}
use Rattle.far_rows.specs.declared.place_row.PlaceCell.{PlaceCell}
use Rattle.far_rows.specs.declared.place_row.PlaceCell.TheVariants as place

-- the cell that is read from a place's cell
abbrev pub place_cell : PlaceCell → Cell
place_cell (place.Number number) = int_cell number.now
place_cell (place.Lent cell) = lent_cell cell

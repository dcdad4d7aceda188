-- A row with one cell changed, by the number of the column.
-- Internal: no public contract cites it.
use Rattle.std.specs.Prelude.{ℕ, ◌==◌, cond, Some}
use Rattle.far_types.specs.declared.cell.Cell.{Cell}
use Rattle.far_types.specs.Cells.{Cells}

-- the cells of a row with another cell in a column that it has
abbrev pub with_cell_at : ℕ → Cell → Cells → Cells
with_cell_at column cell cells number = cond (number == column) (Some cell) (cells number)

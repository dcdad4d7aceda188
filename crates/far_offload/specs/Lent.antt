-- The cells of a column, for each form of its values.
use Rattle.std.specs.Prelude.{List, [], map}
use Rattle.far_types.specs.declared.cell.Cell.{Cell}
use Rattle.far_types.specs.Lent.{int_cell, text_cell}
use Rattle.far_offload.specs.declared.column.ColumnValues.{ColumnValues}
use Rattle.far_offload.specs.declared.column.ColumnValues.TheVariants as values

-- the cells of a column, for each form of its values
abbrev pub cells_lent : ColumnValues → List Cell
cells_lent (values.Numbers numbers) = map int_cell numbers.now
cells_lent (values.Ints numbers) = map int_cell numbers
cells_lent (values.Texts texts) = map text_cell texts
cells_lent values.Nowhere = []

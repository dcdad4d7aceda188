-- Cells, tests and specifications as C passes them.
use Rattle.std.specs.Prelude.{◌==◌, if◌then◌else◌, List, map}
use Rattle.far_types.specs.declared.cell.Cell.{Cell}
use Rattle.far_types.specs.declared.cell.Cell.TheVariants as cell
use Rattle.far_c.specs.declared.cell.FcCell.{FcCell}

-- by its kind: a number, a text or no value
abbrev pub cell_of : FcCell → Cell
cell_of c = if c.kind == 1 then cell.Int c.number else
    (if c.kind == 2 then cell.Text c.text.now else cell.Missing)

-- the cells of a row, in the order of the columns
abbrev pub row_of : List FcCell → List Cell
row_of cells = map cell_of cells

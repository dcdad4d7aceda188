use Rattle.std.proofs.Common.{get_or, sym, ap, ◌∙◌}
use Rattle.far_types.specs.declared.cell.Cell.TheVariants.{Missing}
use Rattle.far_offload.specs.declared.column.ColumnValues.{ColumnValues}
use Rattle.far_types.specs.Lent.{int_cell, text_cell}
use Rattle.far_offload.specs.Columns.{cell_of}
use Rattle.far_offload.specs.Lent.{cells_lent}
use Rattle.far_offload.proofs.LentCells.{int_here, text_here}
use Rattle.far_offload.proofs.column.Column.cell.Goals as goal

pub returns-in-None-clause-cell : goal.returns-in-None-clause-cell
returns-in-None-clause-cell c =
    ap int_cell c.in-None.ensures.number
    ∙ sym (int_here c.in-Ints.numbers c.args.place)
    ∙ ap (λ (values : ColumnValues). get_or (cells_lent values) c.args.place Missing) (sym c.in-Ints.is)
    ∙ ap (cell_of c.args.place) c.self.view_is

pub returns-in-Some-get-clause-cell : goal.returns-in-Some-get-clause-cell
returns-in-Some-get-clause-cell c =
    ap text_cell c.in-Some-get.ensures
    ∙ sym (text_here c.in-Texts.texts c.args.place)
    ∙ ap (λ (values : ColumnValues). get_or (cells_lent values) c.args.place Missing) (sym c.in-Texts.is)
    ∙ ap (cell_of c.args.place) c.self.view_is

pub returns-in-None-get-clause-cell : goal.returns-in-None-get-clause-cell
returns-in-None-get-clause-cell c =
    ap text_cell c.in-None-get.ensures
    ∙ sym (text_here c.in-Texts.texts c.args.place)
    ∙ ap (λ (values : ColumnValues). get_or (cells_lent values) c.args.place Missing) (sym c.in-Texts.is)
    ∙ ap (cell_of c.args.place) c.self.view_is

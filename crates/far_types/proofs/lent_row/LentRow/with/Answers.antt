use Rattle.std.proofs.Common.{◌∙◌, ap, slice_set}
use Rattle.far_types.specs.Lent.{lent_cell}
use Rattle.far_types.proofs.LentLaws.{shown-set}
use Rattle.far_types.proofs.lent_row.LentRow.with.Goals as goal

pub returns-then-column-row : goal.returns-then-column-row
returns-then-column-row c =
    shown-set lent_cell c.row.inside.cells c.row.inside.width c.args.column c.args.cell c.if-column-row.true
    ∙ ap (λ row. slice_set row c.args.column (lent_cell c.args.cell)) c.row.view_is

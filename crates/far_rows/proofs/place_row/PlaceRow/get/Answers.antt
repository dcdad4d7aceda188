use Rattle.std.proofs.Common.{◌∙◌, Some, ap, arith, slice_get}
use Rattle.far_rows.specs.PlaceRows.{place_cell}
use Rattle.far_types.proofs.LentLaws.{shown-here, shown-past}
use Rattle.far_rows.proofs.place_row.PlaceRow.get.Goals as goal

pub returns-then-column-self : goal.returns-then-column-self
returns-then-column-self c =
    ap Some c.lend.ensures
    ∙ shown-here place_cell c.self.inside.cells c.self.inside.width c.args.column _ (omega (arith, c.self.invariant.0, c.self.invariant.1)) c.if-column-self.true
    ∙ ap (λ row. slice_get row c.args.column) c.self.view_is

pub returns-else-column-self : goal.returns-else-column-self
returns-else-column-self c =
    shown-past place_cell c.self.inside.cells c.self.inside.width c.args.column (omega (arith, c.self.invariant.0, c.self.invariant.1)) c.if-column-self.false
    ∙ ap (λ row. slice_get row c.args.column) c.self.view_is

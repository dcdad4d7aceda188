use Rattle.std.proofs.Common.{map, ap, ◌∙◌}
use Rattle.far_types.specs.Table.{Place}
use Rattle.far_rows.specs.Rows.{all_cells}
use Rattle.far_table.specs.Groups.{GroupRows, places_here}
use Rattle.far_table.proofs.Groups.{flags-lent}
use Rattle.far_table.proofs.row_group.RowGroupLendGroup.alive.Goals as goal

pub returns : goal.returns
returns g c =
    let content = g.S.FarTickets.content in
    let rows = c.self.inside.rows.now in
    c.self.invariant.alive
    ∙ flags-lent (all_cells content rows) rows.alive rows.size c.self.inside.group
    ∙ ap (λ (lent : GroupRows g.row.S-Ticket.Denot). map (λ (place : Place). place.alive) (places_here content lent)) c.self.view_is

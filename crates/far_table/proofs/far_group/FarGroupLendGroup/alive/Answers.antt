use Rattle.std.proofs.Common.{map, ap, ◌∙◌}
use Rattle.far_types.specs.Table.{Place}
use Rattle.far_rows.specs.Rows.{all_cells}
use Rattle.far_table.specs.FarGroups.{FarRows, places_there}
use Rattle.far_table.proofs.Groups.{flags-lent}
use Rattle.far_table.proofs.far_group.FarGroupLendGroup.alive.Goals as goal

pub returns : goal.returns
returns g c =
    let content = g.S.FarTickets.content in
    let rows = c.self.inside.rows.now in
    c.self.invariant.same_flags
    ∙ c.self.invariant.copies.alive
    ∙ flags-lent (all_cells content rows) rows.alive rows.size c.self.inside.build.now.group
    ∙ ap (λ (lent : FarRows g.row.S-Ticket.Denot). map (λ (place : Place). place.alive) (places_there content lent)) c.self.view_is

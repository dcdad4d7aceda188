use Rattle.std.proofs.Common.{map, ap, ◌∙◌}
use Rattle.far_types.specs.Table.{Place}
use Rattle.far_table.specs.MixedGroups.{MixedRows, places_mixed}
use Rattle.far_table.proofs.mixed_group.MixedGroupLendGroup.alive.Goals as goal

pub returns : goal.returns
returns g c =
    let content = g.S.FarTickets.content in
    c.alive.ensures ∙ ap (λ (m : MixedRows g.row.S-Ticket.Denot). map (λ (place : Place). place.alive) (places_mixed content m)) c.self.view_is

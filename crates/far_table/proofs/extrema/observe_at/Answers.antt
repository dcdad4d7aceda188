use Rattle.std.proofs.Common.{ap, ◌∙◌}
use Rattle.far_types.specs.Answers.{extrema}
use Rattle.far_types.specs.Effects.{joined_extrema}
use Rattle.far_aggregates.specs.Accumulators.{pairs_here}
use Rattle.far_table.specs.MixedGroups.{MixedRows, places_mixed}
use Rattle.far_table.proofs.extrema.observe_at.Goals as goal

pub returns-clause-extrema : goal.returns-clause-extrema
returns-clause-extrema g c =
    let content = g.S.FarTickets.content in
    let observed = c.args.observed.now in
    c.in_ok-observe_group.ensures.ok ∙ ap (λ (m : MixedRows g.row.S-Ticket.Denot). joined_extrema observed (extrema (pairs_here c.args.spec.now (places_mixed content m)))) c.new.ensures

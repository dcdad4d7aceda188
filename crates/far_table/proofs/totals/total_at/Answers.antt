use Rattle.std.proofs.Common.{◌-◌, sym, ap, subst, ◌∙◌}
use Rattle.std.proofs.lemmas.Result.{on_ok_weaker}
use Rattle.far_types.specs.Answers.{totals}
use Rattle.far_types.specs.Effects.{joined_totals}
use Rattle.far_groups.specs.Live.{CanJoin}
use Rattle.far_aggregates.specs.Accumulators.{pairs_here}
use Rattle.far_table.specs.MixedGroups.{MixedRows, places_mixed}
use Rattle.far_table.proofs.PiecesRuns.{live_of}
use Rattle.far_table.proofs.totals.total_at.Goals as goal

pub scan_totals-requires-clause-can_join : goal.scan_totals-requires-clause-can_join
scan_totals-requires-clause-can_join g c =
    let content = g.S.FarTickets.content in
    subst (λ (m : MixedRows g.row.S-Ticket.Denot). CanJoin c.args.live.now.totals (totals (pairs_here c.args.spec.now (places_mixed content m)))) (sym c.new.ensures) c.requires.can_join

pub returns-clause-totals : goal.returns-clause-totals
returns-clause-totals g c =
    let content = g.S.FarTickets.content in
    let live = c.args.live.now in
    on_ok_weaker c.scan_totals.result (λ is. is ∙ ap (λ (m : MixedRows g.row.S-Ticket.Denot). live_of (live.left - 1) (joined_totals live.totals (totals (pairs_here c.args.spec.now (places_mixed content m))))) c.new.ensures) c.scan_totals.ensures.ok

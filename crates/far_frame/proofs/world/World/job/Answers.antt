use Rattle.std.proofs.Common.{IfSome, subst}
use Rattle.far_frame.specs.Jobs.{IsJobAt}
use Rattle.far_frame.specs.Worlds.{World}
use Rattle.far_frame.proofs.CarryingLaws.{lent-here}
use Rattle.far_frame.proofs.world.World.job.Goals as goal

pub returns-clause-here : goal.returns-clause-here
returns-clause-here g c =
    let is_of = g.S.FarTickets.is_of in
    let inside = c.self.inside in
    subst (λ (w : World g.row.S-Ticket.Denot). IfSome c.get.result (λ job. IsJobAt is_of w.store job.now)) c.self.view_is
    (lent-here is_of (g.S.FarTickets.store_id inside.store) inside.jobs c.args.n c.get.result c.self.invariant.jobs_at c.get.ensures)

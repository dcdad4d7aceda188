use Rattle.std.proofs.Common.{subst, sym}
use Rattle.far_frame.specs.Jobs.{IsJobAt}
use Rattle.far_frame.specs.Waiting.{AreJobsAt}
use Rattle.far_frame.specs.Worlds.{World}
use Rattle.far_frame.proofs.WorldsLaws.{more-here}
use Rattle.far_frame.proofs.world.World.add.Goals as goal

pub invariant_of-self-2 : goal.invariant_of-self-2
invariant_of-self-2 g c =
    let is_of = g.S.FarTickets.is_of in
    let inside = c.self.inside in
    let id = g.S.FarTickets.store_id inside.store in
    let here : IsJobAt is_of id c.args.job = subst (λ (w : World g.row.S-Ticket.Denot). IsJobAt is_of w.store c.args.job) (sym c.self.view_is) c.requires.here in
    record {
      rows_at = c.self.invariant.rows_at;
      jobs_at = subst (AreJobsAt is_of id) (sym c.in_ok-add.ensures.added) (more-here is_of id inside.jobs inside.begun c.args.job c.self.invariant.jobs_at here);
    }

use Rattle.std.proofs.Common.{true, subst, sym}
use Rattle.far_frame.specs.Waiting.{AreJobsAt}
use Rattle.far_frame.proofs.WorldsLaws.{ended-here}
use Rattle.far_frame.proofs.world.World.give_up.Goals as goal

pub invariant_of-self : goal.invariant_of-self
invariant_of-self g c =
    let is_of = g.S.FarTickets.is_of in
    let inside = c.self.inside in
    let id = g.S.FarTickets.store_id inside.store in
    record {
      rows_at = c.self.invariant.rows_at;
      jobs_at = subst (AreJobsAt is_of id) (sym c.spend.ensures) (ended-here is_of id true inside.jobs c.args.n c.self.invariant.jobs_at);
    }

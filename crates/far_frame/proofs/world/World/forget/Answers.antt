use Rattle.std.proofs.Common.{◌∙◌, ap, sym}
use Rattle.std.specs.Option.{option_copied}
use Rattle.far_frame.proofs.WorldsLaws.{job-here}
use Rattle.far_frame.proofs.world.World.forget.Goals as goal

pub forget_contents-requires-clause-here : goal.forget_contents-requires-clause-here
forget_contents-requires-clause-here g c κs within =
    let inside = c.self.inside in
    job-here g.S.FarTickets.is_of (g.S.FarTickets.store_id inside.store) inside.jobs c.args.n c.in-Some.job.now c.self.invariant.jobs_at (sym c.get.ensures ∙ ap option_copied c.in-Some.is)

use Rattle.std.proofs.Common.{◌∙◌, ap, sym}
use Rattle.std.specs.Option.{option_copied}
use Rattle.far_frame.proofs.CarryingLaws.{wanted-here}
use Rattle.far_frame.proofs.WorldsLaws.{job-here}
use Rattle.far_frame.proofs.world.World.deliver.Goals as goal

pub wanted-requires-clause-here : goal.wanted-requires-clause-here
wanted-requires-clause-here g c κs within =
    let inside = c.self.inside in
    job-here g.S.FarTickets.is_of (g.S.FarTickets.store_id inside.store) inside.jobs c.args.n c.in-Some.job.now c.self.invariant.jobs_at (sym c.get.ensures ∙ ap option_copied c.in-Some.is)

pub deliver-requires-clause-here : goal.deliver-requires-clause-here
deliver-requires-clause-here g c =
    let is_of = g.S.FarTickets.is_of in
    let inside = c.self.inside in
    let id = g.S.FarTickets.store_id inside.store in
    let here = job-here is_of id inside.jobs c.args.n c.in-Some.job.now c.self.invariant.jobs_at (sym c.get.ensures ∙ ap option_copied c.in-Some.is) in
    wanted-here is_of id g.S.FarTickets.number_of c.in-Some.job.now.work c.args.number c.in-Some-wanted.ticket.now here (sym c.wanted.ensures ∙ ap option_copied c.in-Some-wanted.is)

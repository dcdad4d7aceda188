use Rattle.std.proofs.Common.{◌∙◌, ap, sym}
use Rattle.std.specs.Option.{option_copied}
use Rattle.far_frame.proofs.CarryingLaws.{ticket-here}
use Rattle.far_frame.proofs.WorldsLaws.{job-here}
use Rattle.far_frame.proofs.world.World.wanted.Goals as goal

pub number-requires : goal.number-requires
number-requires g c =
    let is_of = g.S.FarTickets.is_of in
    let inside = c.self.inside in
    let id = g.S.FarTickets.store_id inside.store in
    let job = c.in-Some.job.now in
    let here = job-here is_of id inside.jobs c.args.n job c.self.invariant.jobs_at (sym c.get.ensures ∙ ap option_copied c.in-Some.is) in
    ticket-here is_of id job.work c.args.index c.in-Some-ticket.ticket.now here (sym c.ticket.ensures ∙ ap option_copied c.in-Some-ticket.is)

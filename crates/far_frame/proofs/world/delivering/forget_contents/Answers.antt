use Rattle.std.proofs.Common.{◌∙◌, ap, subst, sym}
use Rattle.std.specs.Option.{option_copied}
use Rattle.far_frame.proofs.CarryingLaws.{ticket-here}
use Rattle.far_frame.proofs.world.delivering.forget_contents.Goals as goal

pub forget-requires : goal.forget-requires
forget-requires g c =
    let is_of = g.S.FarTickets.is_of in
    let ticket = c.in-Some.ticket.now in
    subst (is_of ticket) (sym c.loop-index.invariant)
    (ticket-here is_of _ c.args.job.now.work c.loop-index.index ticket c.requires.here (sym c.ticket.ensures ∙ ap option_copied c.in-Some.is))

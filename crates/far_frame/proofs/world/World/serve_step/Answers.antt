use Rattle.far_frame.proofs.WorldsLaws.{table-moved}
use Rattle.far_frame.proofs.world.World.serve_step.Goals as goal

pub invariant_of-self-in-Lend : goal.invariant_of-self-in-Lend
invariant_of-self-in-Lend g c =
    let inside = c.self-in-Lend.inside in
    table-moved g.S.FarTickets.is_of (g.S.FarTickets.store_id inside.store) inside.frame c.lend.new.frame inside.jobs c.lend.ensures.here c.self-in-Lend.invariant

pub invariant_of-self-in-Pin : goal.invariant_of-self-in-Pin
invariant_of-self-in-Pin g c =
    let inside = c.self-in-Pin.inside in
    table-moved g.S.FarTickets.is_of (g.S.FarTickets.store_id inside.store) inside.frame c.pin.new.frame inside.jobs c.pin.ensures.here c.self-in-Pin.invariant

pub invariant_of-self-in-Unpin : goal.invariant_of-self-in-Unpin
invariant_of-self-in-Unpin g c =
    let inside = c.self-in-Unpin.inside in
    table-moved g.S.FarTickets.is_of (g.S.FarTickets.store_id inside.store) inside.frame c.unpin.new.frame inside.jobs c.unpin.ensures.here c.self-in-Unpin.invariant

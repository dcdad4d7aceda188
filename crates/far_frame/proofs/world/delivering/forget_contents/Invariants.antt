use Rattle.std.proofs.Common.{◌≡◌}
use Rattle.far_frame.proofs.world.delivering.forget_contents.Given as goal

abbrev pub invariant-loop-index : goal.invariant-loop-index
invariant-loop-index g l = g.S.FarTickets.store_id l.store ≡ g.S.FarTickets.store_id l.fn.store

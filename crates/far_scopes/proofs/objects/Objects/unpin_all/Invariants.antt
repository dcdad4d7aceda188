use Rattle.std.proofs.Common.{◌≡◌, ◌≤◌, length}
use Rattle.std.specs.Prelude.{take}
use Rattle.far_scopes.specs.Movement.{Movement}
use Rattle.far_scopes.specs.Entering.{after_pin_all}
use Rattle.far_scopes.proofs.objects.Objects.unpin_all.Given as goal

abbrev pub invariant-loop-left : goal.invariant-loop-left
invariant-loop-left g l =
    (l.left ≤ length l.objects)
    × (length l.self.records ≡ length l.fn.self.records)
    × ((m : Movement g.row.T.Denot g.row.S-Ticket.Denot) → l.fn.self ≡ after_pin_all m l.objects → l.self ≡ after_pin_all m (take l.left l.objects))

abbrev pub decreases-loop-left : goal.decreases-loop-left
decreases-loop-left g l = l.left

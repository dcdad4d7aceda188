use Rattle.std.proofs.Common.{◌≡◌, length, None}
use Rattle.std.specs.Prelude.{take, drop}
use Rattle.far_scopes.specs.Movement.{AreClean}
use Rattle.far_scopes.specs.Refusing.{first_absent}
use Rattle.far_scopes.specs.Entering.{after_pin_all, pins_overflow}
use Rattle.far_scopes.proofs.objects.Objects.pin_all.Given as goal

abbrev pub invariant-loop-k : goal.invariant-loop-k
invariant-loop-k g l =
    (l.self ≡ after_pin_all l.fn.self (take l.k l.objects))
    × (length l.self.records ≡ length l.fn.self.records)
    × (pins_overflow l.fn.self l.objects ≡ pins_overflow l.self (drop l.k l.objects))
    × (first_absent l.self (drop l.k l.objects) ≡ None)
    × (AreClean g.T.Elem.meaning g.S.FarTickets.content l.fn.self → AreClean g.T.Elem.meaning g.S.FarTickets.content l.self)

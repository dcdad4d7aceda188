use Rattle.std.proofs.Common.{◌≡◌, ◌+◌, ◌≤◌, length}
use Rattle.std.specs.Prelude.{drop}
use Rattle.far_scopes.specs.Movement.{AreClean}
use Rattle.far_scopes.specs.Entering.{after_close}
use Rattle.far_scopes.proofs.objects.Objects.close.Given as goal

abbrev pub invariant-loop-o : goal.invariant-loop-o
invariant-loop-o g l =
    (length l.self.records ≡ length l.fn.self.records)
    × ((after_close l.fn.self l.fn.scope).0 ≡ (after_close l.self (drop l.o-index l.fn.scope)).0)
    × ((after_close l.fn.self l.fn.scope).1 ≡ l.taken + (after_close l.self (drop l.o-index l.fn.scope)).1)
    × (l.taken ≤ l.o-index)
    × (AreClean g.T.Elem.meaning g.S.FarTickets.content l.fn.self → AreClean g.T.Elem.meaning g.S.FarTickets.content l.self)

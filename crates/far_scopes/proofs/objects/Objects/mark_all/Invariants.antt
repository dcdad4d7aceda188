use Rattle.std.proofs.Common.{◌≡◌, ℕ, length, None}
use Rattle.std.specs.Prelude.{drop, All}
use Rattle.far_scopes.specs.Movement.{list_of}
use Rattle.far_scopes.specs.Refusing.{write_refusal}
use Rattle.far_scopes.specs.Replacing.{AreListedOnce, AreCleanElsewhere}
use Rattle.far_scopes.specs.Effects.{after_write_all}
use Rattle.far_scopes.proofs.objects.Objects.mark_all.Given as goal

abbrev pub invariant-loop-replacement : goal.invariant-loop-replacement
invariant-loop-replacement g l =
    (after_write_all l.fn.self l.lists ≡ after_write_all l.self (drop l.replacement-index l.lists))
    × (length l.self.records ≡ length l.fn.self.records)
    × All (λ r. write_refusal l.self r.object ≡ None) (drop l.replacement-index l.lists)
    × AreListedOnce (drop l.replacement-index l.lists)
    × ((p : ℕ) → list_of g.T.Elem.meaning g.S.FarTickets.content l.self p ≡ list_of g.T.Elem.meaning g.S.FarTickets.content l.fn.self p)
    × (AreCleanElsewhere g.T.Elem.meaning g.S.FarTickets.content l.fn.self l.lists → AreCleanElsewhere g.T.Elem.meaning g.S.FarTickets.content l.self (drop l.replacement-index l.lists))

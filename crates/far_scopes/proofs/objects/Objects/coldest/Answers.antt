use Rattle.std.proofs.Common.{◌≡◌, sym, ap, subst, ◌∙◌}
use Rattle.far_codec.specs.Spelling.{IsSpelled}
use Rattle.far_scopes.specs.Movement.{AreTracked}
use Rattle.far_scopes.specs.Coldest.{coldest}
use Rattle.far_scopes.specs.Cool.{cool_in}
use Rattle.far_scopes.proofs.ColdestLaws.{coldest-hot, coldest-local, coldest-unpinned, coldest-exactly}
use Rattle.far_scopes.proofs.objects.Objects.coldest.Goals as goal

pub returns-then-cool-eq0 : goal.returns-then-cool-eq0
returns-then-cool-eq0 g c =
    let tracked = subst (AreTracked g.T.Elem.meaning g.S.FarTickets.content (IsSpelled g.T.Elem.in_range g.T.Elem.has_spelling g.T.Elem.spelling)) c.self.view_is c.self.invariant in
    let none : cool_in c.args.self.now.memory.words ≡ 0 = ap (λ m. cool_in m.memory.words) (sym c.self.view_is) ∙ sym c.cool.ensures ∙ c.if-cool-eq0.true in
    let is : coldest c.args.self.now ≡ c.last_unpinned.result = coldest-hot c.args.self.now tracked.ordered none ∙ sym c.last_unpinned.ensures in
    record {
      coldest = sym is;
      local = coldest-local c.args.self.now tracked.ordered c.last_unpinned.result is;
      unpinned = coldest-unpinned c.args.self.now tracked.ordered c.last_unpinned.result is;
      none = coldest-exactly c.args.self.now tracked.ordered c.last_unpinned.result is;
    }

pub returns : goal.returns
returns g c =
    let tracked = subst (AreTracked g.T.Elem.meaning g.S.FarTickets.content (IsSpelled g.T.Elem.in_range g.T.Elem.has_spelling g.T.Elem.spelling)) c.self.view_is c.self.invariant in
    let is : coldest c.args.self.now ≡ c.first_cold.result = sym c.first_cold.ensures in
    record {
      coldest = sym is;
      local = coldest-local c.args.self.now tracked.ordered c.first_cold.result is;
      unpinned = coldest-unpinned c.args.self.now tracked.ordered c.first_cold.result is;
      none = coldest-exactly c.args.self.now tracked.ordered c.first_cold.result is;
    }

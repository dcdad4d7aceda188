use Rattle.std.proofs.Common.{◌≡◌, ℕ, sym, subst}
use Rattle.far_scopes.specs.Memory.{list_in}
use Rattle.far_scopes.specs.Placing.{after_heat}
use Rattle.far_scopes.specs.Movement.{AreClean, AreHere}
use Rattle.far_scopes.proofs.MovementTouches.{tracked-after_touch, lists-after_touch, clean-after_touch}
use Rattle.far_scopes.proofs.objects.Objects.touch.Goals as goal

pub invariant_of-self : goal.invariant_of-self
invariant_of-self g c =
    let lists : (p : ℕ) → list_in (after_heat c.self.inside.memory c.args.o) p ≡ list_in c.self.inside.memory p = subst (λ memory. (p : ℕ) → list_in memory p ≡ list_in c.self.inside.memory p) c.heat.ensures.heated c.heat.ensures.lists in
    rw (c.heat.ensures.heated, c.touch.ensures) (tracked-after_touch g.T.Elem.meaning g.S.FarTickets.content _ _ c.self.invariant c.args.o lists)

pub returns-clause-keeps : goal.returns-clause-keeps
returns-clause-keeps g c =
    let lists : (p : ℕ) → list_in (after_heat c.self.inside.memory c.args.o) p ≡ list_in c.self.inside.memory p = subst (λ memory. (p : ℕ) → list_in memory p ≡ list_in c.self.inside.memory p) c.heat.ensures.heated c.heat.ensures.lists in
    record {
      lists = λ p. rw (← c.self.view_is, c.heat.ensures.heated) (lists-after_touch g.T.Elem.meaning g.S.FarTickets.content _ _ c.self.invariant c.args.o lists p);
      copies = record {
        clean = λ clean. rw c.heat.ensures.heated (clean-after_touch g.T.Elem.meaning g.S.FarTickets.content _ _ c.self.invariant c.args.o lists (subst (AreClean g.T.Elem.meaning g.S.FarTickets.content) (sym c.self.view_is) clean));
        store = λ id here. subst (AreHere g.S.FarTickets.is_of id) (sym c.self.view_is) here;
      };
    }

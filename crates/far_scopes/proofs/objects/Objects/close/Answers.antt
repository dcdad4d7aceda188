use Rattle.std.proofs.Common.{◌≡◌, ◌∙◌, ap, subst}
use Rattle.std.proofs.lemmas.List.{drop_all}
use Rattle.far_scopes.specs.Movement.{list_of, AreHere}
use Rattle.far_scopes.specs.Entering.{after_close}
use Rattle.far_scopes.proofs.MovementFrames.{here-closed}
use Rattle.far_scopes.proofs.MovementRecords.{lists-closed}
use Rattle.far_scopes.proofs.objects.Objects.close.Goals as goal

pub returns-clause-keeps : goal.returns-clause-keeps
returns-clause-keeps g c =
    let none = drop_all c.loop-o.o-index c.args.scope (rw (← c.scope.view_is, ← c.deref-o-items.ensures.value) c.loop-o-test.false) in
    let all : (after_close c.args.self.now c.args.scope).0 ≡ c.loop-o.self = c.loop-o.invariant.1 ∙ ap (λ objects. (after_close c.loop-o.self objects).0) none in
    record {
      lists = λ p. subst (λ m. list_of g.T.Elem.meaning g.S.FarTickets.content m p ≡ list_of g.T.Elem.meaning g.S.FarTickets.content c.args.self.now p) all (lists-closed g.T.Elem.meaning g.S.FarTickets.content c.args.self.now c.args.scope p);
      copies = record {
        clean = c.loop-o.invariant.4;
        store = λ id here. subst (AreHere g.S.FarTickets.is_of id) all (here-closed g.S.FarTickets.is_of id c.args.self.now c.args.scope here);
      };
    }

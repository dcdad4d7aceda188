use Rattle.std.proofs.Common.{refl, sym, subst}
use Rattle.far_scopes.specs.Movement.{Movement, AreClean, AreHere}
use Rattle.far_scopes.proofs.MovementCompaction.{tracked-compacted, clean-compacted}
use Rattle.far_scopes.proofs.objects.Objects.compact.Goals as goal

pub invariant_of-self-2 : goal.invariant_of-self-2
invariant_of-self-2 g c =
    tracked-compacted g.T.Elem.meaning g.S.FarTickets.content _ c.compact.new.self c.args.segment c.in_ok-compact.ensures.ok c.in_ok-compact.ensures.lists _ c.self.invariant

pub returns-clause-keeps : goal.returns-clause-keeps
returns-clause-keeps g c =
    let old : Movement g.row.T.Denot g.row.S-Ticket.Denot = record { number = c.self.inside.number; max_writes = c.self.inside.max_writes; leavings = c.self.inside.leavings; memory = c.self.inside.memory; records = c.self.inside.records.items; order = c.self.inside.order } in
    record {
      lists = λ p. rw (← c.self.view_is, c.in_ok-compact.ensures.lists p) refl;
      copies = record {
        clean = λ clean. clean-compacted g.T.Elem.meaning g.S.FarTickets.content old c.compact.new.self c.args.segment c.in_ok-compact.ensures.ok c.in_ok-compact.ensures.lists (subst (AreClean g.T.Elem.meaning g.S.FarTickets.content) (sym c.self.view_is) clean);
        store = λ id here. subst (AreHere g.S.FarTickets.is_of id) (sym c.self.view_is) here;
      };
    }

pub returns-clause-full : goal.returns-clause-full
returns-clause-full g c = rw (← c.self.view_is) c.in_ok-compact.ensures.full

pub returns-in_err-compact-clause-keeps : goal.returns-in_err-compact-clause-keeps
returns-in_err-compact-clause-keeps g c = record {
  lists = λ p. rw (← c.self.view_is, c.in_err-compact.ensures.err) refl;
  copies = record {
    clean = rw (← c.self.view_is, c.in_err-compact.ensures.err) (λ clean. clean);
    store = λ id here. subst (AreHere g.S.FarTickets.is_of id) (sym c.self.view_is) here;
  };
}

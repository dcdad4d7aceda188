use Rattle.std.proofs.Common.{◌≡◌, ◌-◌, length, true, sym, ap, subst}
use Rattle.far_scopes.specs.Memory.{place_of}
use Rattle.far_scopes.specs.Movement.{is_local}
use Rattle.far_scopes.proofs.MemoryWordPlaces.{some-true}
use Rattle.far_scopes.proofs.MovementUndo.{cut-length, tracked-unmade, lists-unmade, clean-unmade, changes-unmade, here-unmade}
use Rattle.far_scopes.proofs.objects.Objects.uncreate.Goals as goal

pub remove_last-requires-after_bounds : goal.remove_last-requires-after_bounds
remove_last-requires-after_bounds g c =
    let local = subst (λ m. is_local m (length m.records - 1) ≡ true) (sym c.self.view_is) c.requires.local in
    λ κs outlives. some-true (place_of c.self.inside.memory.words (length c.self.inside.memory.words - 1)) (rw (← c.self.invariant.same_length) local)

pub invariant_of-self : goal.invariant_of-self
invariant_of-self g c = rw (c.remove.ensures, c.len.ensures, c.pop.new.self.ok.0, c.pop.ensures.rest, c.self.inside.records.ok.0, cut-length c.self.inside.records.items) (tracked-unmade g.T.Elem.meaning g.S.FarTickets.content _ _ c.self.invariant c.remove_last.new.self (ap (λ m. m.words) c.remove_last.ensures.removed) c.remove_last.ensures.list)

pub returns-clause-list : goal.returns-clause-list
returns-clause-list g c = rw (← c.self.view_is, c.pop.ensures.rest, c.self.inside.records.ok.0) (lists-unmade g.T.Elem.meaning g.S.FarTickets.content _ _ c.self.invariant c.remove_last.new.self (ap (λ m. m.words) c.remove_last.ensures.removed) c.remove_last.ensures.list)

pub returns-clause-copies : goal.returns-clause-copies
returns-clause-copies g c = record {
  clean = rw (← c.self.view_is, c.pop.ensures.rest, c.self.inside.records.ok.0) (clean-unmade g.T.Elem.meaning g.S.FarTickets.content _ _ c.self.invariant c.remove_last.new.self (ap (λ m. m.words) c.remove_last.ensures.removed) c.remove_last.ensures.list);
  store = rw (← c.self.view_is, c.pop.ensures.rest, c.self.inside.records.ok.0) (λ id. here-unmade g.T.Elem.meaning g.S.FarTickets.content _ _ c.self.invariant c.remove_last.new.self (ap (λ m. m.words) c.remove_last.ensures.removed) c.remove_last.ensures.list g.S.FarTickets.is_of id);
}

pub returns-clause-others : goal.returns-clause-others
returns-clause-others g c =
    let changes = changes-unmade g.T.Elem.meaning g.S.FarTickets.content _ _ c.self.invariant c.remove_last.new.self (ap (λ m. m.words) c.remove_last.ensures.removed) c.remove_last.ensures.list in
    rw (← c.self.view_is, c.pop.ensures.rest, c.self.inside.records.ok.0) record { words = changes.words; records = changes.records }

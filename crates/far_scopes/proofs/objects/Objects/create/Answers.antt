use Rattle.std.proofs.Common.{◌≡◌, ◌<◌, ◌^◌, length, refl, sym, ap, subst, ◌∙◌}
use Rattle.far_scopes.specs.Placing.{after_remove_last}
use Rattle.far_scopes.proofs.PlacingUndo.{after_uncreate-after_create}
use Rattle.far_scopes.proofs.MovementCreations.{tracked-made, changes-made, here-made, lists-made, clean-made, last-made}
use Rattle.far_scopes.proofs.ReplacingFits.{fits-next}
use Rattle.far_scopes.proofs.objects.Objects.create.Goals as goal

pub invariant_of-self-2 : goal.invariant_of-self-2
invariant_of-self-2 g c = rw (c.push_reserved.ensures.items, c.in_ok-add.ensures.ok, c.len-o.ensures, c.reserve.new.self.ok.0, c.reserve.ensures.items) (tracked-made g.T.Elem.meaning g.S.FarTickets.content _ _ c.self.invariant c.add-2.new.self _ c.args.name c.args.items.now (ap (λ m. m.words) c.in_default.ensures.ok) c.in_default.ensures.list c.requires.some (subst (λ m. length m.records < 2 ^ 28) (sym c.self.view_is) c.requires.few))

pub returns-clause-created : goal.returns-clause-created
returns-clause-created g c =
    let back = subst (λ memory. after_remove_last memory ≡ c.self.inside.memory) c.in_default.ensures.ok c.in_default.ensures.undone in
    let changes = changes-made g.T.Elem.meaning g.S.FarTickets.content _ _ c.self.invariant c.add-2.new.self _ c.args.name c.args.items.now (ap (λ m. m.words) c.in_default.ensures.ok) c.in_default.ensures.list in
    record {
      state = rw (← c.self.view_is, c.push_reserved.ensures.items, c.in_ok-add.ensures.ok, c.len-o.ensures, c.reserve.new.self.ok.0, c.reserve.ensures.items, c.in_default.ensures.ok) refl;
      list = rw (← c.self.view_is, c.push_reserved.ensures.items, c.reserve.ensures.items) (lists-made g.T.Elem.meaning g.S.FarTickets.content _ _ c.self.invariant c.add-2.new.self _ c.args.name c.args.items.now (ap (λ m. m.words) c.in_default.ensures.ok) c.in_default.ensures.list);
      undone = rw (← c.self.view_is, c.push_reserved.ensures.items, c.in_ok-add.ensures.ok, c.len-o.ensures, c.reserve.new.self.ok.0, c.reserve.ensures.items, c.in_default.ensures.ok) (after_uncreate-after_create _ c.args.name c.args.items.now back);
      last = rw (← c.self.view_is, c.push_reserved.ensures.items, c.reserve.ensures.items) (last-made g.T.Elem.meaning g.S.FarTickets.content _ _ c.self.invariant c.add-2.new.self _ c.args.name c.args.items.now (ap (λ m. m.words) c.in_default.ensures.ok) c.in_default.ensures.list);
      next = λ lens. rw (← c.self.view_is, c.in_default.ensures.ok) (fits-next c.self.inside.memory.state c.args.items.now lens (sym c.fits.ensures ∙ c.if-not-fits.false));
      others = rw (← c.self.view_is, c.push_reserved.ensures.items, c.reserve.ensures.items) record { words = changes.words; records = changes.records };
    }

pub returns-clause-copies : goal.returns-clause-copies
returns-clause-copies g c = record {
  clean = rw (← c.self.view_is, c.push_reserved.ensures.items, c.reserve.ensures.items) (clean-made g.T.Elem.meaning g.S.FarTickets.content _ _ c.self.invariant c.add-2.new.self _ c.args.name c.args.items.now (ap (λ m. m.words) c.in_default.ensures.ok) c.in_default.ensures.list);
  store = rw (← c.self.view_is, c.push_reserved.ensures.items, c.reserve.ensures.items) (λ id. here-made g.T.Elem.meaning g.S.FarTickets.content _ _ c.self.invariant c.add-2.new.self _ c.args.name c.args.items.now (ap (λ m. m.words) c.in_default.ensures.ok) c.in_default.ensures.list g.S.FarTickets.is_of id);
}

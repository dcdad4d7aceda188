use Rattle.std.proofs.Common.{◌≡◌, ◌<◌, length, Some, false, sym, ap, subst}
use Rattle.far_scopes.specs.Movement.{list_of, is_local, AreHere}
use Rattle.far_scopes.proofs.MovementArrivals.{word-was, some-after_arrive, tracked-after_arrive, lists-after_arrive, clean-after_arrive}
use Rattle.far_scopes.proofs.objects.Objects.arrive.Goals as goal

pub bring-requires-clause-some : goal.bring-requires-clause-some
bring-requires-clause-some g c =
    let within = subst (λ m. c.args.o < length m.records) (sym c.self.view_is) c.requires.within in
    let away = subst (λ m. is_local m c.args.o ≡ false) (sym c.self.view_is) c.requires.away in
    let means = subst (λ m. list_of g.T.Elem.meaning g.S.FarTickets.content m c.args.o ≡ Some c.args.items.now) (sym c.self.view_is) c.requires.meant in
    λ κs outlives. some-after_arrive g.T.Elem.meaning g.S.FarTickets.content _ _ c.self.invariant c.args.o within c.args.items.now away means

pub bring-requires-clause-away : goal.bring-requires-clause-away
bring-requires-clause-away g c =
    let within = subst (λ m. c.args.o < length m.records) (sym c.self.view_is) c.requires.within in
    let away = subst (λ m. is_local m c.args.o ≡ false) (sym c.self.view_is) c.requires.away in
    let means = subst (λ m. list_of g.T.Elem.meaning g.S.FarTickets.content m c.args.o ≡ Some c.args.items.now) (sym c.self.view_is) c.requires.meant in
    λ κs outlives. word-was g.T.Elem.meaning g.S.FarTickets.content _ _ c.self.invariant c.args.o within c.args.items.now away means

pub invariant_of-self-in_default : goal.invariant_of-self-in_default
invariant_of-self-in_default g c =
    let within = subst (λ m. c.args.o < length m.records) (sym c.self.view_is) c.requires.within in
    let away = subst (λ m. is_local m c.args.o ≡ false) (sym c.self.view_is) c.requires.away in
    let means = subst (λ m. list_of g.T.Elem.meaning g.S.FarTickets.content m c.args.o ≡ Some c.args.items.now) (sym c.self.view_is) c.requires.meant in
    rw (c.in_ok-add.ensures.ok) (tracked-after_arrive g.T.Elem.meaning g.S.FarTickets.content _ _ c.self.invariant c.args.o within c.args.items.now away means c.bring.new.self _ (ap (λ m. m.words) c.in_default.ensures.ok) c.in_default.ensures.list)

pub returns-clause-keeps : goal.returns-clause-keeps
returns-clause-keeps g c =
    let within = subst (λ m. c.args.o < length m.records) (sym c.self.view_is) c.requires.within in
    let away = subst (λ m. is_local m c.args.o ≡ false) (sym c.self.view_is) c.requires.away in
    let means = subst (λ m. list_of g.T.Elem.meaning g.S.FarTickets.content m c.args.o ≡ Some c.args.items.now) (sym c.self.view_is) c.requires.meant in
    record {
      lists = rw (← c.self.view_is) (lists-after_arrive g.T.Elem.meaning g.S.FarTickets.content _ _ c.self.invariant c.args.o within c.args.items.now away means c.bring.new.self _ (ap (λ m. m.words) c.in_default.ensures.ok) c.in_default.ensures.list);
      copies = record {
        clean = rw (← c.self.view_is) (clean-after_arrive g.T.Elem.meaning g.S.FarTickets.content _ _ c.self.invariant c.args.o within c.args.items.now away means c.bring.new.self _ (ap (λ m. m.words) c.in_default.ensures.ok) c.in_default.ensures.list);
        store = λ id here. subst (AreHere g.S.FarTickets.is_of id) (sym c.self.view_is) here;
      };
    }

use Rattle.std.proofs.Common.{◌≡◌, ◌<◌, refl, sym, ap, subst}
use Rattle.std.specs.Prelude.{IsSomeAnd}
use Rattle.far_codec.specs.Spelling.{IsSpelled}
use Rattle.far_scopes.specs.Memory.{list_in}
use Rattle.far_scopes.specs.Movement.{pins_of, leavings_of}
use Rattle.far_scopes.proofs.MovementDepartures.{reads-spelled, object_record-was, tracked-gone, changes-gone, lists-gone, clean-gone}
use Rattle.far_scopes.proofs.objects.Objects.leave.Goals as goal

pub invariant_of-self : goal.invariant_of-self
invariant_of-self g c =
    let copied = subst (λ m. IsSomeAnd (list_in m.memory c.args.o) (λ list. IsSpelled g.T.Elem.in_range g.T.Elem.has_spelling g.T.Elem.spelling list (g.S.FarTickets.content c.args.ticket.now))) (sym c.self.view_is) c.requires.copied in
    rw (c.remove.ensures, c.again.ensures) (tracked-gone g.T.Elem.meaning g.S.FarTickets.content _ _ c.self.invariant c.args.o c.index_mut-object_record.result.now c.index_mut-object_record.ensures.value c.args.ticket.now (reads-spelled g.T.Elem.meaning g.T.Elem.in_range g.T.Elem.has_spelling g.T.Elem.spelling (g.met.T.Elem g.world.𝓛 g.world.𝓜 g.world.𝓡 ((λ s x. x), (λ x. x), (λ x. x), λ x. x)).reads_back (g.S.FarTickets.content c.args.ticket.now)) copied c.send_away.new.self (ap (λ m. m.words) c.send_away.ensures.away) c.send_away.ensures.list
    (subst (λ m. pins_of m c.args.o ≡ 0) (sym c.self.view_is) c.requires.unpinned) (subst (λ m. leavings_of m c.args.o < m.leavings) (sym c.self.view_is) c.requires.left))

pub returns-clause-departed : goal.returns-clause-departed
returns-clause-departed g c =
    let copied = subst (λ m. IsSomeAnd (list_in m.memory c.args.o) (λ list. IsSpelled g.T.Elem.in_range g.T.Elem.has_spelling g.T.Elem.spelling list (g.S.FarTickets.content c.args.ticket.now))) (sym c.self.view_is) c.requires.copied in
    let changes = changes-gone g.T.Elem.meaning g.S.FarTickets.content _ _ c.self.invariant c.args.o c.index_mut-object_record.result.now c.index_mut-object_record.ensures.value c.args.ticket.now (reads-spelled g.T.Elem.meaning g.T.Elem.in_range g.T.Elem.has_spelling g.T.Elem.spelling (g.met.T.Elem g.world.𝓛 g.world.𝓜 g.world.𝓡 ((λ s x. x), (λ x. x), (λ x. x), λ x. x)).reads_back (g.S.FarTickets.content c.args.ticket.now)) copied c.send_away.new.self (ap (λ m. m.words) c.send_away.ensures.away) c.send_away.ensures.list in
    record {
      state = rw (c.remove.ensures, c.again.ensures, c.send_away.ensures.away, ← c.self.view_is, object_record-was g.T.Elem.meaning g.S.FarTickets.content _ _ c.self.invariant c.args.o c.index_mut-object_record.result.now c.index_mut-object_record.ensures.value c.args.ticket.now (reads-spelled g.T.Elem.meaning g.T.Elem.in_range g.T.Elem.has_spelling g.T.Elem.spelling (g.met.T.Elem g.world.𝓛 g.world.𝓜 g.world.𝓡 ((λ s x. x), (λ x. x), (λ x. x), λ x. x)).reads_back (g.S.FarTickets.content c.args.ticket.now)) copied) refl;
      others = rw (c.again.ensures, ← c.self.view_is) record { words = changes.words; records = changes.records };
    }

pub returns-clause-lists : goal.returns-clause-lists
returns-clause-lists g c =
    let copied = subst (λ m. IsSomeAnd (list_in m.memory c.args.o) (λ list. IsSpelled g.T.Elem.in_range g.T.Elem.has_spelling g.T.Elem.spelling list (g.S.FarTickets.content c.args.ticket.now))) (sym c.self.view_is) c.requires.copied in
    rw (c.again.ensures, ← c.self.view_is) (lists-gone g.T.Elem.meaning g.S.FarTickets.content _ _ c.self.invariant c.args.o c.index_mut-object_record.result.now c.index_mut-object_record.ensures.value c.args.ticket.now (reads-spelled g.T.Elem.meaning g.T.Elem.in_range g.T.Elem.has_spelling g.T.Elem.spelling (g.met.T.Elem g.world.𝓛 g.world.𝓜 g.world.𝓡 ((λ s x. x), (λ x. x), (λ x. x), λ x. x)).reads_back (g.S.FarTickets.content c.args.ticket.now)) copied c.send_away.new.self (ap (λ m. m.words) c.send_away.ensures.away) c.send_away.ensures.list)

pub returns-clause-clean : goal.returns-clause-clean
returns-clause-clean g c =
    let copied = subst (λ m. IsSomeAnd (list_in m.memory c.args.o) (λ list. IsSpelled g.T.Elem.in_range g.T.Elem.has_spelling g.T.Elem.spelling list (g.S.FarTickets.content c.args.ticket.now))) (sym c.self.view_is) c.requires.copied in
    rw (c.again.ensures, ← c.self.view_is) (clean-gone g.T.Elem.meaning g.S.FarTickets.content _ _ c.self.invariant c.args.o c.index_mut-object_record.result.now c.index_mut-object_record.ensures.value c.args.ticket.now (reads-spelled g.T.Elem.meaning g.T.Elem.in_range g.T.Elem.has_spelling g.T.Elem.spelling (g.met.T.Elem g.world.𝓛 g.world.𝓜 g.world.𝓡 ((λ s x. x), (λ x. x), (λ x. x), λ x. x)).reads_back (g.S.FarTickets.content c.args.ticket.now)) copied c.send_away.new.self (ap (λ m. m.words) c.send_away.ensures.away) c.send_away.ensures.list)

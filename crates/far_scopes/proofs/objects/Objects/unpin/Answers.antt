use Rattle.std.proofs.Common.{◌≡◌, ◌<◌, ◌-◌, length, refl, sym, subst}
use Rattle.std.proofs.lemmas.Bool.{ne_eqb}
use Rattle.far_scopes.specs.Movement.{pins_of, list_of, AreClean, AreHere}
use Rattle.far_scopes.proofs.MemoryWordPlaces.{word-read}
use Rattle.far_scopes.proofs.MovementTransitions.{tracked-recorded, tracked-pins, clean-recorded}
use Rattle.far_scopes.proofs.MovementFrames.{here-recorded}
use Rattle.far_scopes.proofs.MovementRecords.{lists-unpinned}
use Rattle.far_scopes.proofs.objects.Objects.unpin.Goals as goal

pub invariant_of-self-2 : goal.invariant_of-self-2
invariant_of-self-2 g c =
    let within = subst (λ m. c.args.o < length m.records) (sym c.self.view_is) c.requires in
    let was = word-read c.self.inside.records.items c.args.o c.index_mut-object_record.result.now within c.index_mut-object_record.ensures.value in
    tracked-recorded g.T.Elem.meaning g.S.FarTickets.content _ _ c.self.invariant c.args.o c.index_mut-object_record.result.now _ was
    (λ word is. let t = c.self.invariant.each c.args.o word c.index_mut-object_record.result.now is was in tracked-pins g.T.Elem.meaning g.S.FarTickets.content _ _ _ word _ c.index_mut-object_record.result.now _ t (λ away. absurd (c.if-object_record-eq0.false (t.away away).0)))

pub returns-clause-unpinned : goal.returns-clause-unpinned
returns-clause-unpinned g c =
    let within = subst (λ m. c.args.o < length m.records) (sym c.self.view_is) c.requires in
    let was = word-read c.self.inside.records.items c.args.o c.index_mut-object_record.result.now within c.index_mut-object_record.ensures.value in
    rw (← c.self.view_is, was) refl

pub returns-clause-keeps : goal.returns-clause-keeps
returns-clause-keeps g c =
    let within = subst (λ m. c.args.o < length m.records) (sym c.self.view_is) c.requires in
    let was = word-read c.self.inside.records.items c.args.o c.index_mut-object_record.result.now within c.index_mut-object_record.ensures.value in
    record {
      lists = λ p. subst (λ m. list_of g.T.Elem.meaning g.S.FarTickets.content m p ≡ list_of g.T.Elem.meaning g.S.FarTickets.content c.args.self.now p) (sym (returns-clause-unpinned g c)) (lists-unpinned g.T.Elem.meaning g.S.FarTickets.content c.args.self.now c.args.o p);
      copies = record {
        clean = λ clean. clean-recorded g.T.Elem.meaning g.S.FarTickets.content _ _ c.self.invariant c.args.o c.index_mut-object_record.result.now _ was refl (subst (AreClean g.T.Elem.meaning g.S.FarTickets.content) (sym c.self.view_is) clean);
        store = λ id here. subst (AreHere g.S.FarTickets.is_of id) (sym (returns-clause-unpinned g c)) (here-recorded c.args.self.now c.args.o g.S.FarTickets.is_of id here (λ object_record. record object_record { pins = object_record.pins - 1 }) (λ e. refl));
      };
    }

pub returns-clause-refused : goal.returns-clause-refused
returns-clause-refused g c =
    let within = subst (λ m. c.args.o < length m.records) (sym c.self.view_is) c.requires in
    let was = word-read c.self.inside.records.items c.args.o c.index_mut-object_record.result.now within c.index_mut-object_record.ensures.value in
    let pins : pins_of c.args.self.now c.args.o ≡ c.index_mut-object_record.result.now.pins = rw (← c.self.view_is, was) refl in
    rw (pins, ne_eqb c.index_mut-object_record.result.now.pins 0 c.if-object_record-eq0.false) refl

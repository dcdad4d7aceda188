use Rattle.std.proofs.Common.{◌≡◌, ◌<◌, false, length, None, refl, sym, subst}
use Rattle.far_log.specs.RegionState.{fits_in}
use Rattle.far_scopes.specs.Refusing.{replace_refusal}
use Rattle.far_scopes.proofs.RefusingLaws.{free-placed}
use Rattle.far_scopes.proofs.MovementReplacement.{object_record-was, tracked-mid, free-mid, lists-new, clean-new}
use Rattle.far_scopes.specs.Effects.{after_replace}
use Rattle.far_scopes.specs.Movement.{AreHere, ChangesObject}
use Rattle.far_scopes.proofs.MovementFrames.{here-replaced, others-after_replace}
use Rattle.far_scopes.proofs.objects.Objects.replace.Goals as goal

pub invariant_of-self-2 : goal.invariant_of-self-2
invariant_of-self-2 g c =
    let within = subst (λ m. c.args.o < length m.records) (sym c.self.view_is) c.requires.within in
    let free = subst (λ m. replace_refusal m c.args.o (length c.args.items.now) ≡ None) (sym c.self.view_is) (free-placed c.args.self.now c.args.o (length c.args.items.now) c.in_ok-may_write_if_placed.ensures.free (λ none. let never = c.in_ok-replace.ensures.full.1 (subst (λ m. fits_in m.memory.state (length c.args.items.now) ≡ false) (sym c.self.view_is) none) in cc)) in
    tracked-mid g.T.Elem.meaning g.S.FarTickets.content _ _ c.self.invariant c.args.o within c.index_mut.result.now c.index_mut.ensures.value c.args.items.now free c.replace.new.self c.in_ok-replace.ensures.ok c.in_ok-replace.ensures.list c.requires.some

pub mark-requires-clause-free : goal.mark-requires-clause-free
mark-requires-clause-free g c κs outlives =
    let within = subst (λ m. c.args.o < length m.records) (sym c.self.view_is) c.requires.within in
    let free = subst (λ m. replace_refusal m c.args.o (length c.args.items.now) ≡ None) (sym c.self.view_is) (free-placed c.args.self.now c.args.o (length c.args.items.now) c.in_ok-may_write_if_placed.ensures.free (λ none. let never = c.in_ok-replace.ensures.full.1 (subst (λ m. fits_in m.memory.state (length c.args.items.now) ≡ false) (sym c.self.view_is) none) in cc)) in
    free-mid g.T.Elem.meaning g.S.FarTickets.content _ _ c.self.invariant c.args.o within c.index_mut.result.now c.index_mut.ensures.value c.args.items.now free c.replace.new.self c.in_ok-replace.ensures.ok c.in_ok-replace.ensures.list

pub returns-clause-replaced : goal.returns-clause-replaced
returns-clause-replaced g c =
    let within = subst (λ m. c.args.o < length m.records) (sym c.self.view_is) c.requires.within in
    let free = subst (λ m. replace_refusal m c.args.o (length c.args.items.now) ≡ None) (sym c.self.view_is) (free-placed c.args.self.now c.args.o (length c.args.items.now) c.in_ok-may_write_if_placed.ensures.free (λ none. let never = c.in_ok-replace.ensures.full.1 (subst (λ m. fits_in m.memory.state (length c.args.items.now) ≡ false) (sym c.self.view_is) none) in cc)) in
    let state : c.mark.new.self ≡ after_replace c.args.self.now c.args.o c.args.items.now = rw (c.mark.ensures.written, c.in_ok-replace.ensures.ok, ← c.self.view_is, object_record-was g.T.Elem.meaning g.S.FarTickets.content _ _ c.self.invariant c.args.o within c.index_mut.result.now c.index_mut.ensures.value c.args.items.now free c.replace.new.self c.in_ok-replace.ensures.ok c.in_ok-replace.ensures.list) refl in
    record {
      state = state;
      list = rw (← c.self.view_is) (lists-new g.T.Elem.meaning g.S.FarTickets.content _ _ c.self.invariant c.args.o within c.index_mut.result.now c.index_mut.ensures.value c.args.items.now free c.replace.new.self c.in_ok-replace.ensures.ok c.in_ok-replace.ensures.list c.mark.new.self c.mark.ensures.written c.mark.ensures.lists);
      others = subst (λ m. ChangesObject c.args.self.now m c.args.o) (sym state) (others-after_replace c.args.self.now c.args.o c.args.items.now);
    }

pub returns-clause-copies : goal.returns-clause-copies
returns-clause-copies g c =
    let within = subst (λ m. c.args.o < length m.records) (sym c.self.view_is) c.requires.within in
    let free = subst (λ m. replace_refusal m c.args.o (length c.args.items.now) ≡ None) (sym c.self.view_is) (free-placed c.args.self.now c.args.o (length c.args.items.now) c.in_ok-may_write_if_placed.ensures.free (λ none. let never = c.in_ok-replace.ensures.full.1 (subst (λ m. fits_in m.memory.state (length c.args.items.now) ≡ false) (sym c.self.view_is) none) in cc)) in
    record {
      clean = rw (← c.self.view_is) (clean-new g.T.Elem.meaning g.S.FarTickets.content _ _ c.self.invariant c.args.o within c.index_mut.result.now c.index_mut.ensures.value c.args.items.now free c.replace.new.self c.in_ok-replace.ensures.ok c.in_ok-replace.ensures.list c.mark.new.self c.mark.ensures.written c.mark.ensures.parts c.mark.ensures.dirty);
      store = λ id here. subst (AreHere g.S.FarTickets.is_of id) (sym (returns-clause-replaced g c).state) (here-replaced c.args.self.now c.args.o c.args.items.now g.S.FarTickets.is_of id here);
    }

pub returns-clause-free : goal.returns-clause-free
returns-clause-free g c = free-placed c.args.self.now c.args.o (length c.args.items.now) c.in_ok-may_write_if_placed.ensures.free (λ none. let never = c.in_ok-replace.ensures.full.1 (subst (λ m. fits_in m.memory.state (length c.args.items.now) ≡ false) (sym c.self.view_is) none) in cc)

use Rattle.std.proofs.Common.{◌≡◌, inl, inr, [], ◌∷◌, length, map, true, None, refl, sym, ap, subst, ◌∙◌}
use Rattle.std.proofs.lemmas.List.{with_items_is}
use Rattle.std.specs.Option.{option_or}
use Rattle.far_types.specs.FirstOf.{first_of}
use Rattle.far_scopes.specs.Movement.{AreClean, AreHere}
use Rattle.far_scopes.specs.Refusing.{refusal_in, first_absent, any_written_out, IsReplaceAllRefused}
use Rattle.far_scopes.specs.Replacing.{no_space_for_all, first_fits}
use Rattle.far_scopes.specs.Effects.{with_lens}
use Rattle.far_scopes.proofs.MovementFrames.{here-replaced_all}
use Rattle.far_scopes.proofs.ReplacingRecords.{length-lens}
use Rattle.far_scopes.proofs.RefusingReplacements.{all-placed, refusal-is, checked-free, err-handed, absent-no-memory}
use Rattle.far_scopes.proofs.ReplacingMovement.{tracked-mid, lists-new, clean-mid, free-mid}
use Rattle.far_scopes.proofs.objects.Objects.replace_all.Goals as goal

pub replace_all-requires-clause-local : goal.replace_all-requires-clause-local
replace_all-requires-clause-local g c κs within = rw (← c.self.view_is) at (all-placed c.args.self.now c.args.lists.now (sym c.in_ok-all_here.ensures))

pub returns-in_err-all_here-clause-refused : goal.returns-in_err-all_here-clause-refused
returns-in_err-all_here-clause-refused g c =
    err-handed c.from_residual.result c.in_err-all_here.field-0.0 (IsReplaceAllRefused c.args.self.now c.args.lists.now)
    record {
      reason = inl (ap (λ away. option_or away (first_of (no_space_for_all c.args.self.now.memory.state c.args.lists.now ∷ any_written_out c.args.self.now c.args.lists.now ∷ []))) (sym c.in_err-all_here.ensures));
      memory = λ memory. absurd (absent-no-memory c.args.self.now (map (λ r. r.object) c.args.lists.now) c.in_err-all_here.field-0.0 (sym c.in_err-all_here.ensures) memory);
    }
    c.from_residual.ensures.1

pub returns-in_err-replace_all-clause-copies : goal.returns-in_err-replace_all-clause-copies
returns-in_err-replace_all-clause-copies g c = record {
  clean = rw (← c.self.view_is, c.in_err-replace_all.ensures.err) (λ clean. clean);
  store = λ id here. subst (AreHere g.S.FarTickets.is_of id) (sym c.self.view_is) here;
}

pub returns-in_err-replace_all-clause-refused : goal.returns-in_err-replace_all-clause-refused
returns-in_err-replace_all-clause-refused g c =
    let here = sym c.in_ok-all_here.ensures in
    let all = refusal-is c.args.self.now c.args.lists.now (refusal_in c.all_writable-checked.result) here c.all_writable-checked.ensures in
    let state = ap (λ m. option_or (first_of (no_space_for_all m.memory.state c.args.lists.now ∷ [])) (refusal_in c.all_writable-checked.result)) c.self.view_is in
    err-handed c.from_residual-in_err-replace_all.result c.in_err-replace_all.field-0.0 (IsReplaceAllRefused c.args.self.now c.args.lists.now)
    record {
      reason = elim c.in_err-replace_all.ensures.refused [
        | inl stated ↦ inl (all ∙ sym state ∙ stated)
        | inr memory ↦ inr (here, memory)
      ];
      memory = λ memory. subst (λ m. first_fits m.memory.state c.args.lists.now ≡ true) c.self.view_is (c.in_err-replace_all.ensures.memory memory);
    }
    c.from_residual-in_err-replace_all.ensures.1

pub invariant_of-self-2 : goal.invariant_of-self-2
invariant_of-self-2 g c =
    let here = subst (λ m. first_absent m (map (λ r. r.object) c.args.lists.now) ≡ None) (sym c.self.view_is) (sym c.in_ok-all_here.ensures) in
    let records = c.set_lens.ensures ∙ ap (λ es. with_lens es c.args.lists.now) c.deref_mut.ensures.value in
    let items = with_items_is c.self.inside.records c.set_lens.new.records (ap (λ es. length es) records ∙ length-lens c.self.inside.records.items c.args.lists.now ∙ sym c.self.inside.records.ok.0) in
    rw (items, records) (tracked-mid g.T.Elem.meaning g.S.FarTickets.content _ _ c.self.invariant c.args.lists.now c.requires.some c.requires.once here c.replace_all.new.self c.in_ok-replace_all.ensures.replaced.state c.in_ok-replace_all.ensures.replaced.each)

pub mark_all-requires-clause-free : goal.mark_all-requires-clause-free
mark_all-requires-clause-free g c κs within =
    let here = subst (λ m. first_absent m (map (λ r. r.object) c.args.lists.now) ≡ None) (sym c.self.view_is) (sym c.in_ok-all_here.ensures) in
    let records = c.set_lens.ensures ∙ ap (λ es. with_lens es c.args.lists.now) c.deref_mut.ensures.value in
    let items = with_items_is c.self.inside.records c.set_lens.new.records (ap (λ es. length es) records ∙ length-lens c.self.inside.records.items c.args.lists.now ∙ sym c.self.inside.records.ok.0) in
    let checked = sym c.all_writable-checked.ensures ∙ checked-free _ _ c.in_ok-replace_all.ensures.free in
    let free = subst (λ m. first_of (any_written_out m c.args.lists.now ∷ []) ≡ None) (sym c.self.view_is) checked in
    rw (items, records) (free-mid g.T.Elem.meaning g.S.FarTickets.content _ _ c.self.invariant c.args.lists.now c.requires.some c.requires.once here c.replace_all.new.self c.in_ok-replace_all.ensures.replaced.state c.in_ok-replace_all.ensures.replaced.each free)

pub returns-clause-replaced : goal.returns-clause-replaced
returns-clause-replaced g c =
    let here = subst (λ m. first_absent m (map (λ r. r.object) c.args.lists.now) ≡ None) (sym c.self.view_is) (sym c.in_ok-all_here.ensures) in
    let records = c.set_lens.ensures ∙ ap (λ es. with_lens es c.args.lists.now) c.deref_mut.ensures.value in
    let long = ap (λ es. length es) records ∙ length-lens c.self.inside.records.items c.args.lists.now in
    let items = with_items_is c.self.inside.records c.set_lens.new.records (ap (λ es. length es) records ∙ length-lens c.self.inside.records.items c.args.lists.now ∙ sym c.self.inside.records.ok.0) in
    record {
      state = rw (c.mark_all.ensures.written, items, records, c.in_ok-replace_all.ensures.replaced.state, ← c.self.view_is) refl;
      each = rw (← c.self.view_is) (lists-new g.T.Elem.meaning g.S.FarTickets.content _ _ c.self.invariant c.args.lists.now c.requires.some c.requires.once here c.replace_all.new.self c.in_ok-replace_all.ensures.replaced.state c.in_ok-replace_all.ensures.replaced.each c.mark_all.new.self (rw (items, records) at c.mark_all.ensures.lists));
      count = c.mark_all.ensures.count ∙ ap (λ es. length es) items ∙ long ∙ ap (λ m. length m.records) c.self.view_is;
    }

pub returns-clause-copies : goal.returns-clause-copies
returns-clause-copies g c =
    let here = subst (λ m. first_absent m (map (λ r. r.object) c.args.lists.now) ≡ None) (sym c.self.view_is) (sym c.in_ok-all_here.ensures) in
    let records = c.set_lens.ensures ∙ ap (λ es. with_lens es c.args.lists.now) c.deref_mut.ensures.value in
    let items = with_items_is c.self.inside.records c.set_lens.new.records (ap (λ es. length es) records ∙ length-lens c.self.inside.records.items c.args.lists.now ∙ sym c.self.inside.records.ok.0) in
    record {
      clean = λ clean. (rw (items, records) at c.mark_all.ensures.clean) (clean-mid g.T.Elem.meaning g.S.FarTickets.content _ _ c.self.invariant c.args.lists.now c.requires.some c.requires.once here c.replace_all.new.self c.in_ok-replace_all.ensures.replaced.state c.in_ok-replace_all.ensures.replaced.each (subst (AreClean g.T.Elem.meaning g.S.FarTickets.content) (sym c.self.view_is) clean));
      store = λ id here. rw c.mark_all.ensures.written (here-replaced_all g.S.FarTickets.is_of id c.args.self.now _ c.args.lists.now (items ∙ records ∙ ap (λ m. with_lens m.records c.args.lists.now) c.self.view_is) here);
    }

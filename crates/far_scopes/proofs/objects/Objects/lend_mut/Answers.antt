use Rattle.std.proofs.Common.{◌≡◌, ℕ, true, Some, refl, sym, ap, subst, ◌∙◌}
use Rattle.far_codec.specs.Spelling.{IsSpelled}
use Rattle.far_scopes.specs.Movement.{is_local, list_of, AreClean}
use Rattle.far_scopes.specs.Memory.{list_in, ChangesList}
use Rattle.far_scopes.specs.Effects.{after_write, after_overwrite}
use Rattle.far_scopes.proofs.MovementLaws.{long-read}
use Rattle.far_scopes.proofs.MovementOverwrites.{tracked-after_overwrite, list-since, clean-after_overwrite}
use Rattle.far_scopes.proofs.MovementFrames.{others-after_overwrite, here-after_write}
use Rattle.far_scopes.proofs.objects.Objects.lend_mut.Goals as goal

pub lend_mut-requires-clause-long : goal.lend_mut-requires-clause-long
lend_mut-requires-clause-long g c = λ κs le. long-read _ _ _ _ c.self.invariant c.args.o c.index.result.now (subst (λ m. is_local m c.args.o ≡ true) (sym c.self.view_is) c.mark.ensures.local) c.index.ensures

pub invariant_of-self-lent : goal.invariant_of-self-lent
invariant_of-self-lent g c w = tracked-after_overwrite g.T.Elem.meaning g.S.FarTickets.content _ _ c.args.o 0 w c.self.invariant

pub returns : goal.returns
returns g c =
    let parts : (p : ℕ) → list_in (after_write c.args.self.now c.args.o).memory p ≡ list_in c.args.self.now.memory p = subst (λ m. (p : ℕ) → list_in m.memory p ≡ list_in c.args.self.now.memory p) c.mark.ensures.written c.mark.ensures.parts in
    let is = c.self.view_is ∙ c.mark.ensures.written in (
      (refl, λ w. ap (λ m. after_overwrite m c.args.o 0 w) is),
      record {
        writes_back = tt;
        lent = sym (parts c.args.o) ∙ subst (λ m. list_in m.memory c.args.o ≡ Some c.lend_mut.result.now) is c.lend_mut.ensures.lent;
        alone = λ list long.
            let change = subst (λ m. ChangesList (list_in m.memory) (list_in (after_overwrite m c.args.o 0 list).memory) c.args.o (Some list)) c.self.view_is (c.lend_mut.ensures.alone list long) in
            subst (λ m. ChangesList (list_of g.T.Elem.meaning g.S.FarTickets.content c.args.self.now) (list_of g.T.Elem.meaning g.S.FarTickets.content (after_overwrite m c.args.o 0 list)) c.args.o (Some list)) c.mark.ensures.written
            (list-since g.T.Elem.meaning g.S.FarTickets.content (IsSpelled g.T.Elem.in_range g.T.Elem.has_spelling g.T.Elem.spelling) c.mark.new.self c.args.o 0 list list change c.args.self.now c.mark.ensures.lists);
        keeps = record {
          clean = λ list long clean.
              let change = subst (λ m. ChangesList (list_in m.memory) (list_in (after_overwrite m c.args.o 0 list).memory) c.args.o (Some list)) c.self.view_is (c.lend_mut.ensures.alone list long) in
              subst (λ m. AreClean g.T.Elem.meaning g.S.FarTickets.content (after_overwrite m c.args.o 0 list)) c.mark.ensures.written
              (clean-after_overwrite g.T.Elem.meaning g.S.FarTickets.content (IsSpelled g.T.Elem.in_range g.T.Elem.has_spelling g.T.Elem.spelling) c.mark.new.self c.args.o 0 list list change c.mark.ensures.dirty (c.mark.ensures.clean clean));
          others = others-after_overwrite c.args.self.now c.args.o 0;
          store = λ list id here. here-after_write c.args.self.now c.args.o g.S.FarTickets.is_of id here;
        };
      },
    )

use Rattle.std.proofs.Common.{◌≡◌, ◌≤◌, ◌-◌, ◌++◌, List, length, take, drop, Some, refl, sym, ap, subst, ◌∙◌}
use Rattle.std.specs.Prelude.{IsSomeAnd, slice_range}
use Rattle.far_codec.specs.Spelling.{IsSpelled}
use Rattle.far_scopes.specs.Movement.{list_of, AreClean}
use Rattle.far_scopes.specs.Memory.{list_in, ChangesList}
use Rattle.far_scopes.specs.Effects.{after_overwrite}
use Rattle.far_scopes.proofs.MovementOverwrites.{tracked-after_overwrite, range-since, clean-range}
use Rattle.far_scopes.proofs.MovementFrames.{others-after_overwrite, here-after_write}
use Rattle.far_scopes.proofs.objects.Objects.lend_range_mut.Goals as goal

pub lend_range_mut-requires-clause-within : goal.lend_range_mut-requires-clause-within
lend_range_mut-requires-clause-within g c =
    λ κs le. subst (λ m. IsSomeAnd (list_in m.memory c.args.o) (λ list. c.args.to ≤ length list)) (sym c.self.view_is) (subst (λ l. IsSomeAnd l (λ list. c.args.to ≤ length list)) (sym (c.mark.ensures.parts c.args.o)) c.requires.there)

pub invariant_of-self-lent : goal.invariant_of-self-lent
invariant_of-self-lent g c w = tracked-after_overwrite g.T.Elem.meaning g.S.FarTickets.content _ _ c.args.o c.args.from w c.self.invariant

pub returns : goal.returns
returns g c =
    let is = c.self.view_is ∙ c.mark.ensures.written in
    let part = c.mark.ensures.parts c.args.o in (
      (refl, λ w. ap (λ m. after_overwrite m c.args.o c.args.from w) is),
      record {
        writes_back = tt;
        lent = subst (λ l. IsSomeAnd l (λ list. c.lend_range_mut.result.now ≡ slice_range list c.args.from c.args.to)) (ap (λ m. list_in m.memory c.args.o) c.self.view_is ∙ part) c.lend_range_mut.ensures.lent;
        alone =
            let alone = subst (λ m. IsSomeAnd (list_in m.memory c.args.o) (λ list. (range : List g.row.T.Denot) → length range ≡ c.args.to - c.args.from → ChangesList (list_in m.memory) (list_in (after_overwrite m c.args.o c.args.from range).memory) c.args.o (Some (take c.args.from list ++ (range ++ drop c.args.to list))))) c.self.view_is c.lend_range_mut.ensures.alone in
            subst (λ m. IsSomeAnd (list_in c.args.self.now.memory c.args.o) (λ list. (range : List g.row.T.Denot) → length range ≡ c.args.to - c.args.from → ChangesList (list_of g.T.Elem.meaning g.S.FarTickets.content c.args.self.now) (list_of g.T.Elem.meaning g.S.FarTickets.content (after_overwrite m c.args.o c.args.from range)) c.args.o (Some (take c.args.from list ++ (range ++ drop c.args.to list))))) c.mark.ensures.written
            (range-since g.T.Elem.meaning g.S.FarTickets.content (IsSpelled g.T.Elem.in_range g.T.Elem.has_spelling g.T.Elem.spelling) c.args.self.now c.mark.new.self c.args.o c.args.from c.args.to c.mark.ensures.parts c.mark.ensures.lists alone);
        keeps = record {
          clean = λ range long clean.
              let alone = subst (λ m. IsSomeAnd (list_in m.memory c.args.o) (λ list. (range : List g.row.T.Denot) → length range ≡ c.args.to - c.args.from → ChangesList (list_in m.memory) (list_in (after_overwrite m c.args.o c.args.from range).memory) c.args.o (Some (take c.args.from list ++ (range ++ drop c.args.to list))))) c.self.view_is c.lend_range_mut.ensures.alone in
              subst (λ m. AreClean g.T.Elem.meaning g.S.FarTickets.content (after_overwrite m c.args.o c.args.from range)) c.mark.ensures.written
              (clean-range g.T.Elem.meaning g.S.FarTickets.content (IsSpelled g.T.Elem.in_range g.T.Elem.has_spelling g.T.Elem.spelling) c.args.self.now c.mark.new.self c.args.o c.args.from c.args.to c.mark.ensures.parts c.mark.ensures.lists c.mark.ensures.dirty alone range long (c.mark.ensures.clean clean));
          others = others-after_overwrite c.args.self.now c.args.o c.args.from;
          store = λ list id here. here-after_write c.args.self.now c.args.o g.S.FarTickets.is_of id here;
        };
      },
    )

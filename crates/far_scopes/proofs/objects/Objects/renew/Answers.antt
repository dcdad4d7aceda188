use Rattle.std.proofs.Common.{◌≡◌, ℕ, IsSome, inl, inr, [], ◌++◌, sym, ap, subst, refl, ◌∙◌}
use Rattle.std.proofs.lemmas.List.{append-nil}
use Rattle.std.specs.Iterator.Adapters.{zip_first, zip_second}
use Rattle.std.specs.Vec.Iter.{into_iter_items}
use Rattle.far_codec.specs.Spelling.{IsSpelled}
use Rattle.far_scopes.specs.Memory.{place_of, list_in}
use Rattle.far_scopes.specs.Movement.{list_of, AreClean, AreHere}
use Rattle.far_scopes.proofs.RenewalLaws.{records-renewed, none-left, here-renewed, lists-renewed, clean-renewed, tracked-renewed}
use Rattle.far_scopes.proofs.objects.Objects.renew.Given as given
use Rattle.far_scopes.proofs.objects.Objects.renew.Goals as goal

-- the records are those of the objects, each with its ticket of the renewal
made : (g : given.Over) (c : goal.After-forget_copies g) → c.loop-object_record.records.items ≡ records-renewed c.args.self.records c.args.renewal
made g c =
    let olds = into_iter_items (zip_first c.loop-object_record.object_record-iterator) in
    let tickets = into_iter_items (zip_second c.loop-object_record.object_record-iterator) in
    let inv = c.loop-object_record.invariant in
    let none : records-renewed olds tickets ≡ [] = none-left olds tickets inv.2 (elim c.in-None.ensures.steps [
      | inl (rest, spent) ↦ inl (sym inv.3 ∙ spent.0)
      | inr (rest, spent) ↦ inr (sym inv.4 ∙ spent.0)
    ]) in
    sym (append-nil c.loop-object_record.records.items) ∙ ap (λ l. c.loop-object_record.records.items ++ l) (sym none) ∙ inv.0

pub returns-clause-renewed : goal.returns-clause-renewed
returns-clause-renewed g c = rw (made g c, c.forget_copies.ensures.renewed, ← c.self.view_is) refl

pub invariant_of-result : goal.invariant_of-result
invariant_of-result g c =
    rw (made g c, c.forget_copies.ensures.renewed, ← c.self.view_is)
    (tracked-renewed g.T.Elem.meaning g.S.FarTickets.content g.N.FarTickets.content (IsSpelled g.T.Elem.in_range g.T.Elem.has_spelling g.T.Elem.spelling) _ c.args.renewal (rw c.self.view_is c.requires) c.self.invariant)

pub returns-clause-lists : goal.returns-clause-lists
returns-clause-lists g c =
    let placed : (p : ℕ) → IsSome (place_of c.args.self.memory.words p) → IsSome (list_in c.args.self.memory p) = rw (← c.self.view_is) c.forget_copies.ensures.placed in
    λ p. ap (λ m. list_of g.T.Elem.meaning g.N.FarTickets.content m p) (returns-clause-renewed g c)
    ∙ lists-renewed g.T.Elem.meaning g.S.FarTickets.content g.N.FarTickets.content (IsSpelled g.T.Elem.in_range g.T.Elem.has_spelling g.T.Elem.spelling) c.args.self c.args.renewal c.requires placed p

pub returns-clause-clean : goal.returns-clause-clean
returns-clause-clean g c = subst (AreClean g.T.Elem.meaning g.N.FarTickets.content) (sym (returns-clause-renewed g c)) (clean-renewed g.T.Elem.meaning g.S.FarTickets.content g.N.FarTickets.content (IsSpelled g.T.Elem.in_range g.T.Elem.has_spelling g.T.Elem.spelling) c.args.self c.args.renewal c.requires)

pub returns-clause-store : goal.returns-clause-store
returns-clause-store g c = λ id here. subst (AreHere g.N.FarTickets.is_of id) (sym (returns-clause-renewed g c)) (here-renewed g.T.Elem.meaning g.S.FarTickets.content g.N.FarTickets.content (IsSpelled g.T.Elem.in_range g.T.Elem.has_spelling g.T.Elem.spelling) c.args.self c.args.renewal c.requires g.N.FarTickets.is_of id here)

use Rattle.std.proofs.Common.{◌≡◌, ◌+◌, length, drop, None, refl, sym, ap, subst, ◌∙◌}
use Rattle.std.specs.Prelude.{All}
use Rattle.std.proofs.lemmas.List.Elements.{All-head}
use Rattle.far_scopes.specs.Refusing.{write_refusal}
use Rattle.far_scopes.specs.Replacing.{AreListedOnce, AreCleanElsewhere}
use Rattle.far_scopes.specs.Effects.{after_write_all}
use Rattle.far_scopes.proofs.EnteringPins.{length-with}
use Rattle.far_scopes.proofs.ReplacingRecords.{once-tail}
use Rattle.far_scopes.proofs.RefusingWrites.{next-is, free-rest, clean-rest}
use Rattle.far_scopes.proofs.objects.Objects.mark_all.Goals as goal

pub mark-requires-clause-free : goal.mark-requires-clause-free
mark-requires-clause-free g c κs within =
    let next = next-is c.args.lists.now c.loop-replacement.replacement-index c.replacement-item.result c.loop-replacement-test.true c.replacement-item.is in
    All-head (λ r. write_refusal c.loop-replacement.self r.object ≡ None) c.replacement-item.result (drop (c.loop-replacement.replacement-index + 1) c.args.lists.now)
    (subst (λ rs. All (λ r. write_refusal c.loop-replacement.self r.object ≡ None) rs) next c.loop-replacement.invariant.2)

pub loop-replacement-preserved : goal.loop-replacement-preserved
loop-replacement-preserved g c =
    let next = next-is c.args.lists.now c.loop-replacement.replacement-index c.replacement-item.result c.loop-replacement-test.true c.replacement-item.is in
    let m = c.loop-replacement.self in
    let r = c.replacement-item.result in
    let rest = drop (c.loop-replacement.replacement-index + 1) c.args.lists.now in
    let free = subst (λ rs. All (λ s. write_refusal m s.object ≡ None) rs) next c.loop-replacement.invariant.2 in
    let once = subst (λ rs. AreListedOnce rs) next c.loop-replacement.invariant.3 in (
      c.loop-replacement.invariant.0 ∙ ap (after_write_all m) next ∙ ap (λ w. after_write_all w rest) (sym c.mark.ensures.written),
      ap (λ w. length w.records) c.mark.ensures.written ∙ length-with m.records r.object _ ∙ c.loop-replacement.invariant.1,
      free-rest m c.mark.new.self r.object c.mark.ensures.written r rest refl once free,
      once-tail r rest once,
      λ p. c.mark.ensures.lists p ∙ c.loop-replacement.invariant.4 p,
      λ clean. clean-rest m c.mark.new.self r.object c.mark.ensures.written r rest refl g.T.Elem.meaning g.S.FarTickets.content c.mark.ensures.dirty c.mark.ensures.lists
          (subst (λ rs. AreCleanElsewhere g.T.Elem.meaning g.S.FarTickets.content m rs) next (c.loop-replacement.invariant.5 clean)),
    )

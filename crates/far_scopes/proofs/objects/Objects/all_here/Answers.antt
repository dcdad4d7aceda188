use Rattle.std.proofs.Common.{Some, refl, sym, ap, map, ◌∙◌}
use Rattle.far_scopes.specs.Refusing.{first_absent}
use Rattle.far_scopes.proofs.RefusingLaws.{not-not, away-is}
use Rattle.far_scopes.proofs.RefusingWrites.{next-is}
use Rattle.far_scopes.proofs.objects.Objects.all_here.Goals as goal

pub returns-then-is_away : goal.returns-then-is_away
returns-then-is_away g c =
    let next = next-is c.args.lists.now c.loop-replacement.replacement-index c.replacement-item.result c.loop-replacement-test.true c.replacement-item.is in
    sym (c.loop-replacement.invariant ∙ ap (λ rs. first_absent c.args.self.now (map (λ r. r.object) rs)) next ∙ rw (away-is _ c.if-is_away.ensures) (ap Some (sym c.absent.ensures)))

pub loop-replacement-preserved : goal.loop-replacement-preserved
loop-replacement-preserved g c =
    let next = next-is c.args.lists.now c.loop-replacement.replacement-index c.replacement-item.result c.loop-replacement-test.true c.replacement-item.is in
    c.loop-replacement.invariant ∙ ap (λ rs. first_absent c.args.self.now (map (λ r. r.object) rs)) next ∙ rw (not-not _ (sym c.if-is_away.ensures)) refl

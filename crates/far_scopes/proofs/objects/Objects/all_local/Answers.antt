use Rattle.std.proofs.Common.{Some, refl, sym, ap, ◌∙◌}
use Rattle.std.proofs.lemmas.List.{at_drop_more}
use Rattle.far_scopes.specs.Refusing.{first_absent}
use Rattle.far_scopes.proofs.RefusingLaws.{not-not, away-is}
use Rattle.far_scopes.proofs.objects.Objects.all_local.Goals as goal

pub returns-then-is_away : goal.returns-then-is_away
returns-then-is_away g c =
    sym (c.loop-o.invariant ∙ at_drop_more (first_absent c.args.self.now) c.args.objects.now c.loop-o.o-index 0 c.loop-o-test.true ∙ rw (away-is _ c.if-is_away.ensures) (ap Some (sym c.absent.ensures)))

pub loop-o-preserved : goal.loop-o-preserved
loop-o-preserved g c =
    c.loop-o.invariant ∙ at_drop_more (first_absent c.args.self.now) c.args.objects.now c.loop-o.o-index 0 c.loop-o-test.true ∙ rw (not-not _ (sym c.if-is_away.ensures)) refl

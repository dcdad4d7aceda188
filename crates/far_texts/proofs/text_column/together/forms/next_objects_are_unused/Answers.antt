use Rattle.std.proofs.Common.{◌≤◌, length, sym, subst}
use Rattle.std.specs.Prelude.{All}
use Rattle.std.proofs.lemmas.List.{take_all}
use Rattle.std.proofs.lemmas.List.Elements.{All-more}
use Rattle.far_texts.specs.Texts.{Texts, HasGroups, IsTextColumn, lists_of}
use Rattle.far_texts.proofs.MovementInUse.{no-list}
use Rattle.far_texts.proofs.text_column.together.forms.next_objects_are_unused.Goals as goal

pub next_object_is_unused-requires-after_bounds : goal.next_object_is_unused-requires-after_bounds
next_object_is_unused-requires-after_bounds g c κs within =
    subst (IsTextColumn (lists_of g.S.FarTickets.content c.args.objects.now)) (sym c.column-item.is) (c.requires c.loop-column.column-index c.column-item.result c.loop-column-test.true)

pub loop-column-preserved : goal.loop-column-preserved
loop-column-preserved g c =
    let n = length c.args.objects.now.records in (
      All-more (λ (t : Texts). length t.objects ≤ n) c.args.columns.now c.loop-column.column-index c.column-item.result c.loop-column-test.true c.loop-column.invariant.0 (subst (λ (t : Texts). length t.objects ≤ n) c.column-item.is c.next_object_is_unused.ensures.objects),
      All-more HasGroups c.args.columns.now c.loop-column.column-index c.column-item.result c.loop-column-test.true c.loop-column.invariant.1 (subst HasGroups c.column-item.is c.next_object_is_unused.ensures.groups),
    )

pub returns-clause-objects : goal.returns-clause-objects
returns-clause-objects g c =
    let n = length c.args.objects.now.records in
    subst (All (λ (t : Texts). length t.objects ≤ n)) (take_all c.loop-column.column-index c.args.columns.now c.loop-column-test.false) c.loop-column.invariant.0

pub returns-clause-groups : goal.returns-clause-groups
returns-clause-groups g c = subst (All HasGroups) (take_all c.loop-column.column-index c.args.columns.now c.loop-column-test.false) c.loop-column.invariant.1

pub returns-clause-fresh : goal.returns-clause-fresh
returns-clause-fresh g c = no-list _ g.S.FarTickets.content _ c.args.objects.now c.number-number.ensures.tracked

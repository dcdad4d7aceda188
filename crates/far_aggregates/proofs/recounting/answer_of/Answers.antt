use Rattle.std.proofs.Common.{length, sym, ap, subst, ◌∙◌, arith}
use Rattle.std.specs.Vec.Iter.{into_iter_items}
use Rattle.std.proofs.lemmas.Result.{IfErr-weaker, IfOk-weaker}
use Rattle.far_types.specs.Answers.{answer_over}
use Rattle.far_types.specs.Table.{rows_of}
use Rattle.far_aggregates.proofs.RecountingLaws.{AreMerged, length-partials, none-merged, one-merged, none-left, memory-alone}
use Rattle.far_aggregates.proofs.recounting.answer_of.Goals as goal

pub loop-partial-init : goal.loop-partial-init
loop-partial-init c =
    let spec = c.args.spec.now in
    let items = c.args.partials.items in
    let gives = c.into_iter-partial-iterator.ensures.into_iter_gives in
    let m = c.requires.partials in
    let long = ap length m.2 ∙ length-partials spec c.args.size m.0 0 _ in (
      gives.1 ∙ c.args.partials.ok.0 ∙ ap length (sym gives.0),
      subst (AreMerged spec c.args.size c.args.places items c.in_ok-aggregate.aggregate 0) (sym gives.0)
          (none-merged spec c.args.size c.args.places items c.in_ok-clone.field-0 c.in_ok-clone.ensures.equal c.in_ok-aggregate.aggregate c.in_ok-aggregate.ensures.registered c.in_ok-aggregate.ensures.kept long),
    )

pub loop-partial-preserved : goal.loop-partial-preserved
loop-partial-preserved c =
    let spec = c.args.spec.now in
    let items = c.args.partials.items in
    let inv = c.loop-partial.invariant in
    let steps = c.in-Some.ensures.steps in
    let rest = into_iter_items c.next.new.self in
    let are = subst (AreMerged spec c.args.size c.args.places items c.loop-partial.aggregate c.loop-partial.number) steps.0 inv.1 in
    let given = c.in_ok-merge_next.ensures in
    let long = ap length steps.0 in (
      omega (arith, inv.0, steps.1, long),
      one-merged spec c.args.size c.args.places items c.loop-partial.aggregate c.merge_next.new.aggregate c.loop-partial.number c.in-Some.partial rest are given.spec given.pending given.kept,
    )

pub returns-clause-answer : goal.returns-clause-answer
returns-clause-answer c =
    let spec = c.args.spec.now in
    let inv = c.loop-partial.invariant in
    IfOk-weaker c.answer.result _ _ (λ answer given all long those.
    (given c.args.size all c.requires.size (inv.1.kept all long those)).1 ∙ ap (λ s. answer_over s (rows_of all)) inv.1.same_spec) c.answer.ensures.ok

pub returns-clause-memory : goal.returns-clause-memory
returns-clause-memory c =
    let spec = c.args.spec.now in
    let a = c.loop-partial.aggregate in
    let inv = c.loop-partial.invariant in
    let m = c.requires.partials in
    let rest = into_iter_items c.loop-partial.partial-iterator in
    let none = none-left spec c.args.size c.args.places c.args.partials.items a c.loop-partial.number rest inv.1 (sym inv.0 ∙ c.in-None.ensures.steps.0) in
    IfErr-weaker c.answer.result _ _ (λ e given. memory-alone a e none (given c.args.size m.0 (inv.1.kept m.0 m.1 m.2))) c.answer.ensures.err

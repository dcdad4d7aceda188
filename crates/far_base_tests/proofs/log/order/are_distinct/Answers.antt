use Rattle.std.proofs.Common.{inl, inr}
use Rattle.std.proofs.lemmas.Bool.{cases_lt}
use Rattle.far_base_tests.proofs.Distinct.{not-behind}
use Rattle.far_base_tests.proofs.log.order.are_distinct.Goals as goal

pub loop-i-preserved : goal.loop-i-preserved
loop-i-preserved c = λ i j d lt distinct within.
    elim (cases_lt i c.loop-i.i) [
      | inl under ↦ c.loop-i.invariant i j d under distinct within
      | inr here ↦ not-behind c.args.order.now c.loop-i.i i j d c.loop-i-test.true lt here distinct within c.if-contains.ensures.cases
    ]

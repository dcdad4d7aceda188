use Rattle.std.proofs.Common.{Option, subst, ℕ}
use Rattle.far_aggregates.specs.Lending.{IsLent}
use Rattle.far_aggregates.proofs.LendingLaws.{test-at_hand, at_hand}
use Rattle.far_aggregates.proofs.needed.needed_columns.Goals as goal

pub lent-requires-3 : goal.lent-requires-3
lent-requires-3 g c = test-at_hand (g.G.LendGroup.has c.args.group.now) c.args.spec.now 0 c.test_column.result c.requires c.test_column.ensures

pub lent-requires-4 : goal.lent-requires-4
lent-requires-4 g c = test-at_hand (g.G.LendGroup.has c.args.group.now) c.args.spec.now 1 c.test_column-2.result c.requires c.test_column-2.ensures

pub lent-requires-5 : goal.lent-requires-5
lent-requires-5 g c = test-at_hand (g.G.LendGroup.has c.args.group.now) c.args.spec.now 2 c.test_column-3.result c.requires c.test_column-3.ensures

pub lent-requires-6 : goal.lent-requires-6
lent-requires-6 g c = test-at_hand (g.G.LendGroup.has c.args.group.now) c.args.spec.now 3 c.test_column-4.result c.requires c.test_column-4.ensures

pub returns : goal.returns
returns g c =
    let here = g.G.LendGroup.places c.args.group.now in
    let value = c.args.spec.now.value in
    at_hand c.args.spec.now here c.lent.result c.lent-2.result c.lent-3.result c.lent-4.result c.lent-5.result c.lent-6.result c.requires.tests c.lent.ensures c.lent-2.ensures
    (subst (λ (o : Option ℕ). IsLent here value o c.lent-3.result) c.test_column.ensures c.lent-3.ensures)
    (subst (λ (o : Option ℕ). IsLent here value o c.lent-4.result) c.test_column-2.ensures c.lent-4.ensures)
    (subst (λ (o : Option ℕ). IsLent here value o c.lent-5.result) c.test_column-3.ensures c.lent-5.ensures)
    (subst (λ (o : Option ℕ). IsLent here value o c.lent-6.result) c.test_column-4.ensures c.lent-6.ensures)

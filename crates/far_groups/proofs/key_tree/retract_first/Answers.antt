use Rattle.std.proofs.Common.{◌-◌, take, sym, ap, ◌∙◌, subst, Some}
use Rattle.far_groups.specs.CountSums.{CanRetractAll, without_all}
use Rattle.far_groups.specs.KeyTree.{keyed_by, by_kind}
use Rattle.far_groups.proofs.CountSumsMerge.{first_retracted}
use Rattle.far_groups.proofs.key_tree.retract_first.Goals as goal

pub take-requires-clause-there : goal.take-requires-clause-there
take-requires-clause-there g c =
    let keyed = keyed_by g.K.TreeKey.as_key in
    (first_retracted (by_kind g.K.TreeKey.as_key c.loop-key.tree.entries) c.loop-key.left (keyed c.loop-key.key-iterator) (keyed c.next.new.self) (Some (g.K.TreeKey.as_key c.in-Some.key.now), c.in-Some.count_sum.now)
    (ap keyed c.in-Some.ensures.steps) c.if-left-eq0.false c.loop-key.invariant.there).0

pub loop-key-preserved : goal.loop-key-preserved
loop-key-preserved g c =
    let keyed = keyed_by g.K.TreeKey.as_key in
    let left = c.loop-key.left - 1 in
    let first = first_retracted (by_kind g.K.TreeKey.as_key c.loop-key.tree.entries) c.loop-key.left (keyed c.loop-key.key-iterator) (keyed c.next.new.self) (Some (g.K.TreeKey.as_key c.in-Some.key.now), c.in-Some.count_sum.now)
    (ap keyed c.in-Some.ensures.steps) c.if-left-eq0.false c.loop-key.invariant.there in
    record {
      valid_sums = c.take.ensures.valid_sums;
      there = subst (λ m. CanRetractAll m (take left (keyed c.next.new.self))) (sym c.take.ensures.less) first.1;
      rest = ap (λ m. without_all m (take left (keyed c.next.new.self))) c.take.ensures.less ∙ first.2 ∙ c.loop-key.invariant.rest;
    }

use Rattle.std.proofs.Common.{◌-◌, take, sym, ap, ◌∙◌, subst}
use Rattle.far_groups.specs.CountSums.{totals_of, CanRetractAll, without_all}
use Rattle.far_groups.proofs.CountSumsMerge.{take_split}
use Rattle.far_groups.proofs.count_sums.retract_first.Goals as goal

pub loop-key-preserved : goal.loop-key-preserved
loop-key-preserved c =
    let split = take_split c.loop-key.left c.loop-key.key-iterator c.next.new.self (c.in-Some.key.now, c.in-Some.count_sum.now) c.in-Some.ensures.steps c.if-left-eq0.false in
    record {
      valid_sums = c.take.ensures.valid_sums;
      there = subst (λ m. CanRetractAll m (take (c.loop-key.left - 1) c.next.new.self)) (sym c.take.ensures.less) (subst (CanRetractAll (totals_of c.loop-key.count_sums.entries)) split c.loop-key.invariant.there).1;
      rest = ap (λ m. without_all m (take (c.loop-key.left - 1) c.next.new.self)) c.take.ensures.less ∙ ap (without_all (totals_of c.loop-key.count_sums.entries)) (sym split) ∙ c.loop-key.invariant.rest;
    }

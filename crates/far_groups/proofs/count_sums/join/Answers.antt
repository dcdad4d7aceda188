use Rattle.std.proofs.Common.{refl, take, sym, ap, ◌∙◌, subst}
use Rattle.far_types.proofs.AnswersByKeyMaps.{sorted_distinct, with_all, with_all-push, with_all-joined}
use Rattle.far_types.specs.Effects.{add_count_sums}
use Rattle.far_groups.specs.CountSums.{totals_of, AreCountSums, with_count_sum}
use Rattle.far_groups.proofs.CountSumsMerge.{CanAddAll, take_whole, take_more, can_add, undone}
use Rattle.far_groups.proofs.count_sums.join.Goals as goal

pub loop-key-init : goal.loop-key-init
loop-key-init c =
    let given = c.into_iter-key-iterator.ensures.into_iter_gives in
    let distinct = sorted_distinct c.args.other.now.entries given.5 in
    record {
      valid_sums = c.requires.valid_sums;
      place = sym given.0;
      rest = subst (CanAddAll (totals_of c.args.count_sums.now.entries)) (sym given.0) (can_add (totals_of c.args.count_sums.now.entries) c.args.other.now.entries distinct c.requires.other_valid_sums c.requires.can_join);
      joined = refl;
    }

pub loop-key-preserved : goal.loop-key-preserved
loop-key-preserved c =
    let here = c.in-Some.ensures.steps in
    let more = take_more c.loop-key.done c.args.other.now.entries c.next.new.self (c.in-Some.key.now, c.in-Some.count_sum.now) (c.loop-key.invariant.place ∙ here) in
    let start = totals_of c.args.count_sums.now.entries in
    record {
      valid_sums = c.in-Ok.ensures.valid_sums;
      place = more.1;
      rest = subst (λ m. CanAddAll m c.next.new.self) (sym c.in-Ok.ensures.ok) (subst (CanAddAll (totals_of c.loop-key.count_sums.entries)) here c.loop-key.invariant.rest).2;
      joined =
          c.in-Ok.ensures.ok
          ∙ ap (λ m. with_count_sum m c.in-Some.key.now c.in-Some.count_sum.now) c.loop-key.invariant.joined
          ∙ sym (with_all-push add_count_sums start (take c.loop-key.done c.args.other.now.entries) (c.in-Some.key.now, c.in-Some.count_sum.now))
          ∙ ap (with_all add_count_sums start) (sym more.0);
    }

pub retract_first-requires-clause-there : goal.retract_first-requires-clause-there
retract_first-requires-clause-there c =
    let distinct = sorted_distinct c.args.other.now.entries c.into_iter-key-iterator.ensures.into_iter_gives.5 in
    (undone (totals_of c.args.count_sums.now.entries) (totals_of c.add_under.new.count_sums.entries) c.loop-key.done c.args.other.now.entries distinct c.requires.valid_sums (ap totals_of c.in-Err.ensures.err ∙ c.loop-key.invariant.joined)).0

pub returns-in-Err-clause-err : goal.returns-in-Err-clause-err
returns-in-Err-clause-err c =
    let distinct = sorted_distinct c.args.other.now.entries c.into_iter-key-iterator.ensures.into_iter_gives.5 in
    c.retract_first.ensures ∙ (undone (totals_of c.args.count_sums.now.entries) (totals_of c.add_under.new.count_sums.entries) c.loop-key.done c.args.other.now.entries distinct c.requires.valid_sums (ap totals_of c.in-Err.ensures.err ∙ c.loop-key.invariant.joined)).1

pub returns-in-Err-clause-valid_sums : goal.returns-in-Err-clause-valid_sums
returns-in-Err-clause-valid_sums c = subst AreCountSums (sym (returns-in-Err-clause-err c)) c.requires.valid_sums

pub returns-clause-ok : goal.returns-clause-ok
returns-clause-ok c =
    let distinct = sorted_distinct c.args.other.now.entries c.into_iter-key-iterator.ensures.into_iter_gives.5 in
    c.loop-key.invariant.joined
    ∙ ap (with_all add_count_sums (totals_of c.args.count_sums.now.entries)) (take_whole c.loop-key.done c.args.other.now.entries (c.loop-key.invariant.place ∙ c.in-None.ensures.steps.0))
    ∙ with_all-joined add_count_sums (totals_of c.args.count_sums.now.entries) c.args.other.now.entries distinct

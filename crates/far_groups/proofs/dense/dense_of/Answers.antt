use Rattle.std.proofs.Common.{rules, to_z, of_z, ◌≡◌, ◌+◌, ◌^◌, ◌≤◌, Option, sym, ap, ◌∙◌, subst}
use Rattle.std.specs.Int.{w64}
use Rattle.std.specs.FinMap as fin
use Rattle.far_types.specs.declared.key.Key.{Key}
use Rattle.far_types.specs.Answers.{Totals}
use Rattle.far_types.proofs.AnswersByKeyMaps.{sorted_distinct, with_all}
use Rattle.far_types.specs.Effects.{add_count_sums, count_in}
use Rattle.far_groups.specs.CountSums.{AreCountSums, with_count_sum}
use Rattle.far_groups.specs.KeyTree.{numbered, number_key}
use Rattle.far_groups.specs.Dense.{by_place}
use Rattle.far_groups.proofs.CountSumsLaws.{AreCountSums-empty}
use Rattle.far_groups.proofs.CountSumsMerge.{CanAddAll}
use Rattle.far_groups.proofs.CopiesLaws.{all_copied, can_copy}
use Rattle.far_groups.proofs.KeyTreeLaws.{ascend_numbers}
use Rattle.far_groups.proofs.dense.dense_of.Goals as goal

pub loop-number-init : goal.loop-number-init
loop-number-init c =
    let given = c.into_iter-number-iterator.ensures.into_iter_gives in
    let numbers = c.args.numbers.now.entries in
    let distinct = sorted_distinct (numbered numbers) (ascend_numbers numbers given.5) in
    let empty = ap by_place c.in_ok-dense.ensures.items in
    record {
      valid_sums = subst AreCountSums (sym empty) AreCountSums-empty;
      rest = subst (λ m. CanAddAll m (numbered c.into_iter-number-iterator.result)) (sym empty) (subst (λ es. CanAddAll fin.empty (numbered es)) (sym given.0) (can_copy (numbered numbers) distinct c.requires.valid_sums));
      copied = (λ i. with_all add_count_sums (empty i) (numbered (given.0 i))) ∙ all_copied (numbered numbers) distinct;
    }

pub add-requires-clause-more_valid_sums : goal.add-requires-clause-more_valid_sums
add-requires-clause-more_valid_sums c = (subst (CanAddAll (by_place c.loop-number.dense.items)) (ap numbered c.in-Some.ensures.steps) c.loop-number.invariant.rest).0

pub add-requires-clause-capacity : goal.add-requires-clause-capacity
add-requires-clause-capacity c =
    let number = c.in-Some.number.now in
    let back : to_z w64 (of_z w64 number) ≡ number = search rules in
    subst (λ key. count_in (fin.get (by_place c.loop-number.dense.items) key) + c.in-Some.count_sum.now.0 ≤ 2 ^ 26) (ap number_key (sym back ∙ c.place_of-place.ensures))
    (subst (CanAddAll (by_place c.loop-number.dense.items)) (ap numbered c.in-Some.ensures.steps) c.loop-number.invariant.rest).1

pub loop-number-preserved : goal.loop-number-preserved
loop-number-preserved c =
    let here = ap numbered c.in-Some.ensures.steps in
    let number = c.in-Some.number.now in
    let more = c.in-Some.count_sum.now in
    let old = by_place c.loop-number.dense.items in
    let back : to_z w64 (of_z w64 number) ≡ number = search rules in
    let added : by_place c.add.new.dense.items ≡ with_count_sum old (number_key number) more =
    c.in_ok-add.ensures.ok ∙ ap (λ (key : Option Key). with_count_sum old key more) (sym (ap number_key (sym back ∙ c.place_of-place.ensures))) in
    record {
      valid_sums = c.in_ok-add.ensures.valid_sums;
      rest = subst (λ m. CanAddAll m (numbered c.next.new.self)) (sym added) (subst (CanAddAll old) here c.loop-number.invariant.rest).2;
      copied = ap (λ (m : Totals). with_all add_count_sums m (numbered c.next.new.self)) added ∙ sym (ap (with_all add_count_sums old) here) ∙ c.loop-number.invariant.copied;
    }

use Rattle.std.proofs.Common.{rules, to_z, of_z, ◌≡◌, ℕ, ◌+◌, ◌^◌, ◌≤◌, ◌<◌, Option, None, length, sym, ap, ◌∙◌, subst, arith}
use Rattle.std.specs.Prelude.{ℤ}
use Rattle.std.specs.Int.{w64}
use Rattle.std.specs.FinMap as fin
use Rattle.far_types.specs.Effects.{count_in}
use Rattle.far_groups.specs.CountSums.{AreCountSums, with_count_sum}
use Rattle.far_groups.specs.KeyTree.{by_number, number_key}
use Rattle.far_groups.specs.Dense.{place_number}
use Rattle.far_groups.proofs.CountSumsLaws.{no_count, some_count, AreCountSums-empty}
use Rattle.far_groups.proofs.DensePlaces.{next_new, next_none, next_more, next_count_sum}
use Rattle.far_groups.proofs.dense.numbers_of.Goals as goal
use Rattle.far_groups.proofs.dense.numbers_of.Goals.{then-count_sum-ne0+in_ok-add, else-count_sum-ne0}

pub loop-place-init : goal.loop-place-init
loop-place-init c =
    let empty = ap by_number c.new-numbers.ensures.empty in
    record { valid_sums = subst AreCountSums (sym empty) AreCountSums-empty; same = empty }

pub add-requires-clause-more_valid_sums : goal.add-requires-clause-more_valid_sums
add-requires-clause-more_valid_sums c =
    next_count_sum c.args.dense.now.items c.loop-place.place c.index-count_sum.result.now (omega arith) c.index-count_sum.ensures (some_count c.count_sum.view_is c.if-count_sum-ne0.true) c.requires

pub add-requires-clause-capacity : goal.add-requires-clause-capacity
add-requires-clause-capacity c =
    let places = c.args.dense.now.items in
    let place = c.loop-place.place in
    let count_sum = c.index-count_sum.result.now in
    let within : place < length places = omega (arith, c.loop-place-test.true, c.len-place-end.ensures) in
    let key : to_z w64 (of_z w64 c.number_at.result) ≡ place_number place = search rules in
    let none : fin.get (by_number c.loop-place.numbers.entries) (number_key (to_z w64 (of_z w64 c.number_at.result))) ≡ None =
    (λ i. fin.get (c.loop-place.invariant.same i) (number_key (key i))) ∙ next_new places place count_sum within c.index-count_sum.ensures (some_count c.count_sum.view_is c.if-count_sum-ne0.true) in
    let few = (next_count_sum places place count_sum within c.index-count_sum.ensures (some_count c.count_sum.view_is c.if-count_sum-ne0.true) c.requires).1 in
    subst (λ (o : Option (ℕ × ℤ)). count_in o + count_sum.0 ≤ 2 ^ 26) (sym none) (omega (arith, few))

pub loop-place-preserved : goal.loop-place-preserved
loop-place-preserved c =
    let places = c.args.dense.now.items in
    let place = c.loop-place.place in
    let count_sum = c.index-count_sum.result.now in
    let within : place < length places = omega (arith, c.loop-place-test.true, c.len-place-end.ensures) in
    elim c.if-count_sum-ne0.branch [
      | then-count_sum-ne0+in_ok-add w ↦
          let key : to_z w64 (of_z w64 w.number_at.result) ≡ place_number place = search rules in
          let same =
          w.in_ok-add.ensures.ok
          ∙ (λ i. with_count_sum (c.loop-place.invariant.same i) (number_key (key i)) count_sum)
          ∙ next_more places place count_sum within c.index-count_sum.ensures (some_count c.count_sum.view_is w.if-count_sum-ne0.true) in
          rw w.numbers-is (record { valid_sums = w.in_ok-add.ensures.valid_sums; same = same })
      | else-count_sum-ne0 w ↦
          let same = c.loop-place.invariant.same ∙ ap by_number (sym (next_none places place count_sum within c.index-count_sum.ensures (no_count c.count_sum.view_is w.if-count_sum-ne0.false))) in
          rw w.numbers-is (record { valid_sums = c.loop-place.invariant.valid_sums; same = same })
    ]

use Rattle.std.proofs.Common.{◌≡◌, ◌+◌, ◌^◌, ◌≤◌, ◌<◌, length, sym, ap, ◌∙◌, subst, arith}
use Rattle.std.specs.FinMap as fin
use Rattle.far_types.specs.Answers.{Totals}
use Rattle.far_types.specs.Effects.{count_in, joined_totals}
use Rattle.far_groups.specs.CountSums.{AreCountSums, with_count_sum}
use Rattle.far_groups.specs.KeyTree.{by_number}
use Rattle.far_groups.specs.Dense.{place_key, by_place}
use Rattle.far_groups.proofs.CountSumsLaws.{no_count, some_count}
use Rattle.far_groups.proofs.DensePlaces.{next_none, next_joined, next_count_sum, next_capacity, no_places}
use Rattle.far_groups.proofs.dense.join.Goals as goal
use Rattle.far_groups.proofs.dense.join.Goals.{then-more-ne0, else-more-ne0}

pub loop-place-init : goal.loop-place-init
loop-place-init c = record {
  valid_sums = subst AreCountSums (sym c.grow.ensures.same) c.requires.valid_sums;
  long = omega (arith, c.in_ok-grow.ensures.len, c.len.ensures);
  joined = c.grow.ensures.same ∙ sym (no_places (by_place c.args.dense.now.items) c.args.other.now.items);
}

pub add_existing-there-requires-clause-more_valid_sums : goal.add_existing-there-requires-clause-more_valid_sums
add_existing-there-requires-clause-more_valid_sums c =
    next_count_sum c.args.other.now.items c.loop-place.place c.index-more.result.now (omega arith) c.index-more.ensures (some_count c.more.view_is c.if-more-ne0.true) c.requires.other_valid_sums

pub add_existing-there-requires-clause-capacity : goal.add_existing-there-requires-clause-capacity
add_existing-there-requires-clause-capacity c =
    let more = c.index-more.result.now in
    subst (λ (m : Totals). count_in (fin.get m (place_key c.loop-place.place)) + more.0 ≤ 2 ^ 26) (sym c.loop-place.invariant.joined)
    (next_capacity c.args.other.now.items c.loop-place.place more (omega arith) c.index-more.ensures (some_count c.more.view_is c.if-more-ne0.true) (by_place c.args.dense.now.items) c.requires.can_join)

pub loop-place-preserved : goal.loop-place-preserved
loop-place-preserved c =
    let others = c.args.other.now.items in
    let place = c.loop-place.place in
    let more = c.index-more.result.now in
    let start = by_place c.args.dense.now.items in
    let invariant = c.loop-place.invariant in
    let within : place < length others = omega (arith, c.loop-place-test.true, c.len.ensures) in
    elim c.if-more-ne0.branch [
      | then-more-ne0 w ↦
          let added = w.add_existing-there.ensures in
          let there = added.there (omega (arith, within, invariant.long)) in
          let long : length w.add_existing-there.new.dense.items ≡ length c.loop-place.dense.items = added.len in
          let joined =
          added.added there
          ∙ ap (λ (m : Totals). with_count_sum m (place_key place) more) invariant.joined
          ∙ next_joined others place more within c.index-more.ensures (some_count c.more.view_is w.if-more-ne0.true) start in
          rw w.dense-is (record { valid_sums = added.valid_sums; long = omega (arith, long, invariant.long); joined = joined })
      | else-more-ne0 w ↦
          let joined = invariant.joined ∙ ap (λ es. joined_totals start (by_number es)) (sym (next_none others place more within c.index-more.ensures (no_count c.more.view_is w.if-more-ne0.false))) in
          rw w.dense-is (record { valid_sums = invariant.valid_sums; long = invariant.long; joined = joined })
    ]

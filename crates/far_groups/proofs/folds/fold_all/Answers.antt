use Rattle.std.proofs.Common.{◌≡◌, ◌+◌, ◌^◌, ◌<◌, ℕ, ℤ, refl, sym, ap, ◌∙◌, subst, arith}
use Rattle.std.specs.Int.{w64}
use Rattle.std.specs.FinMap as fin
use Rattle.std.proofs.lemmas.Int.{to_z-of_z}
use Rattle.std.proofs.lemmas.Option.{slice_get_read}
use Rattle.far_types.specs.Answers.{Totals}
use Rattle.far_types.specs.Effects.{with_pair, count_in}
use Rattle.far_groups.specs.CountSums.{AreCountSums, with_count_sum}
use Rattle.far_groups.specs.ByKey.{totals_in}
use Rattle.far_groups.proofs.CountSumsLaws.{with_count_sum-one}
use Rattle.far_groups.proofs.FoldsLaws.{can_at, pairs-next, first_fold}
use Rattle.far_groups.proofs.folds.fold_all.Goals as goal

pub add_under-requires-clause-capacity : goal.add_under-requires-clause-capacity
add_under-requires-clause-capacity c =
    let pairs = c.args.pairs.now in
    let pair = c.index-pairs-i.result in
    let there = slice_get_read pairs _ c.loop-i.i pair refl (omega arith) c.index-pairs-i.is in
    let may = can_at (totals_in c.args.count_sums.now) pairs c.loop-i.i pair there c.requires.can in
    let few : count_in (fin.get (totals_in c.loop-i.count_sums) pair.0) < 2 ^ 26 = subst (λ (m : Totals). count_in (fin.get m pair.0) < 2 ^ 26) (sym c.loop-i.invariant.folded) may.1 in
    let one : c.of.result.0 ≡ 1 = ap (λ (t : ℕ × ℤ). t.0) c.of.ensures.value in
    omega arith

pub undo_first-requires-clause-folded : goal.undo_first-requires-clause-folded
undo_first-requires-clause-folded c =
    let start = totals_in c.args.count_sums.now in
    (start, (c.requires.valid_sums, first_fold start c.args.pairs.now c.loop-i.i c.requires.can, c.in-Err.ensures.err ∙ c.loop-i.invariant.folded))

pub returns-in-Err-clause-err : goal.returns-in-Err-clause-err
returns-in-Err-clause-err c =
    let start = totals_in c.args.count_sums.now in
    c.undo_first.ensures start (c.requires.valid_sums, first_fold start c.args.pairs.now c.loop-i.i c.requires.can, c.in-Err.ensures.err ∙ c.loop-i.invariant.folded)

pub returns-in-Err-clause-valid_sums : goal.returns-in-Err-clause-valid_sums
returns-in-Err-clause-valid_sums c = subst AreCountSums (sym (returns-in-Err-clause-err c)) c.requires.valid_sums

pub loop-i-preserved : goal.loop-i-preserved
loop-i-preserved c =
    let start = totals_in c.args.count_sums.now in
    let before = totals_in c.loop-i.count_sums in
    let pairs = c.args.pairs.now in
    let pair = c.index-pairs-i.result in
    let there = slice_get_read pairs _ c.loop-i.i pair refl (omega arith) c.index-pairs-i.is in
    let may = can_at start pairs c.loop-i.i pair there c.requires.can in
    let one : c.of.result ≡ (1, pair.1) = c.of.ensures.value ∙ ap (λ (v : ℤ). (1, v)) (to_z-of_z w64 pair.1 may.0) in
    record {
      valid_sums = c.in-Ok.ensures.valid_sums;
      folded =
          c.in-Ok.ensures.ok
          ∙ ap (with_count_sum before pair.0) one
          ∙ with_count_sum-one before pair.0 pair.1
          ∙ ap (λ (m : Totals). with_pair m pair) c.loop-i.invariant.folded
          ∙ sym (pairs-next start pairs (c.loop-i.i + 1) c.loop-i.i pair there refl);
    }

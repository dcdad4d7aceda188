use Rattle.std.proofs.Common.{◌≡◌, ◌+◌, ◌-◌, ℕ, ℤ, take, refl, sym, ap, ◌∙◌, subst, arith}
use Rattle.std.specs.Int.{w64}
use Rattle.std.specs.FinMap as fin
use Rattle.std.proofs.lemmas.Int.{to_z-of_z}
use Rattle.std.proofs.lemmas.Option.{slice_get_read}
use Rattle.far_types.specs.Answers.{Totals}
use Rattle.far_groups.specs.CountSums.{LeavesCountSum, without_count_sum}
use Rattle.far_groups.specs.ByKey.{totals_in}
use Rattle.far_groups.specs.Folds.{with_pairs}
use Rattle.far_groups.proofs.FoldsLaws.{pairs-next, fewer_fold, fits_at, folded_count_sums, last_leaves, last_undone}
use Rattle.far_groups.proofs.folds.undo_first.Goals as goal

pub take-requires-clause-there : goal.take-requires-clause-there
take-requires-clause-there c =
    let start = c.requires.folded.0 in
    let came = c.requires.folded.1 in
    let pairs = c.args.pairs.now in
    let pair = c.index-pairs-count.result in
    let n = c.args.count - 1 - c.loop-done.done in
    let there = slice_get_read pairs _ n pair refl (omega arith) c.index-pairs-count.is in
    let fits = fits_at start pairs n c.args.count pair there (omega arith) came.1 in
    let one : c.of.result ≡ (1, pair.1) = c.of.ensures.value ∙ ap (λ (v : ℤ). (1, v)) (to_z-of_z w64 pair.1 fits) in
    let before = with_pairs start (take n pairs) in
    let is = c.loop-done.invariant.rest start came ∙ pairs-next start pairs (c.args.count - c.loop-done.done) n pair there (omega arith) in
    let valid_sums = folded_count_sums start (take n pairs) came.0 (fewer_fold start pairs n c.args.count (omega arith) came.1) in
    subst (λ (t : ℕ × ℤ). LeavesCountSum t (fin.get (totals_in c.loop-done.count_sums) pair.0)) (sym one)
    (subst (λ (m : Totals). LeavesCountSum (1, pair.1) (fin.get m pair.0)) (sym is) (last_leaves before pair valid_sums))

pub loop-done-preserved : goal.loop-done-preserved
loop-done-preserved c =
    let pairs = c.args.pairs.now in
    let pair = c.index-pairs-count.result in
    let n = c.args.count - 1 - c.loop-done.done in
    let there = slice_get_read pairs _ n pair refl (omega arith) c.index-pairs-count.is in
    record {
      valid_sums = c.take.ensures.valid_sums;
      rest = λ start came.
          let fits = fits_at start pairs n c.args.count pair there (omega arith) came.1 in
          let one : c.of.result ≡ (1, pair.1) = c.of.ensures.value ∙ ap (λ (v : ℤ). (1, v)) (to_z-of_z w64 pair.1 fits) in
          let before = with_pairs start (take n pairs) in
          let is = c.loop-done.invariant.rest start came ∙ pairs-next start pairs (c.args.count - c.loop-done.done) n pair there (omega arith) in
          let valid_sums = folded_count_sums start (take n pairs) came.0 (fewer_fold start pairs n c.args.count (omega arith) came.1) in
          let fewer : n ≡ c.args.count - (c.loop-done.done + 1) = omega arith in
          c.take.ensures.less
          ∙ ap (without_count_sum (totals_in c.loop-done.count_sums) pair.0) one
          ∙ ap (λ (m : Totals). without_count_sum m pair.0 (1, pair.1)) is
          ∙ last_undone before pair valid_sums
          ∙ ap (λ k. with_pairs start (take k pairs)) fewer;
    }

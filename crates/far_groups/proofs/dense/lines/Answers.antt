use Rattle.std.proofs.Common.{◌≡◌, ◌<◌, ◌/◌, ◌==◌, ◌+◌, ℕ, ◌++◌, ◌∷◌, [], false, length, get_or, sym, ap, ◌∙◌, subst, arith}
use Rattle.std.specs.Prelude.{ℤ, pos}
use Rattle.std.proofs.lemmas.Bool.Decides.{nat_tests}
use Rattle.std.proofs.lemmas.List.{get_or_default}
use Rattle.far_groups.specs.Dense.{place_key, rank_place}
use Rattle.far_groups.proofs.CountSumsLaws.{no_count, some_count}
use Rattle.far_groups.proofs.PlaceNumbers.{rank_within}
use Rattle.far_groups.proofs.RankedLaws.{LinesBefore, of_rank, no_line, one_line_more}
use Rattle.far_groups.proofs.dense.lines.Goals as goal
use Rattle.far_groups.proofs.dense.lines.Goals.{then-count_sum-ne0+in_ok-push, else-count_sum-ne0}

not_zero : (n : ℕ) → (n ≡ 0 → ⊥) → (n == 0) ≡ false
not_zero n h = grind (arith, nat_tests)

pub loop-rank-preserved : goal.loop-rank-preserved
loop-rank-preserved c =
    let places = c.args.dense.now.items in
    let rank = c.loop-rank.rank in
    let count_sum = c.index-count_sum.result.now in
    let within : rank < length places = omega (arith, c.loop-rank-test.true, c.len-rank-end.ensures) in
    let len : c.len-below.result ≡ length places = omega (arith, c.len-below.ensures) in
    let place : c.place_of_rank-place.result ≡ rank_place (length places / 2) rank = c.place_of_rank-place.ensures ∙ ap (λ (n : ℕ). rank_place (n / 2) rank) len in
    let inside : c.place_of_rank-place.result < length places = (let there = rank_within (length places) rank within in omega (arith, there, place)) in
    let is : of_rank places rank ≡ count_sum =
    sym (c.index-count_sum.ensures ∙ get_or_default places c.place_of_rank-place.result count_sum (0, pos 0) inside ∙ ap (λ (k : ℕ). get_or places k (0, pos 0)) place) in
    elim c.if-count_sum-ne0.branch [
      | then-count_sum-ne0+in_ok-push w ↦
          let some = not_zero count_sum.0 (some_count c.count_sum.view_is w.if-count_sum-ne0.true) in
          let line = w.line.ensures ∙ ap (λ (k : ℕ). (place_key k, count_sum.0, count_sum.1)) place in
          subst (LinesBefore places (rank + 1)) (sym (ap (λ lines. lines.items) w.lines-is ∙ w.in_ok-push.ensures.items ∙ ap (λ one. c.loop-rank.lines.items ++ one ∷ []) line))
          (one_line_more places rank count_sum c.loop-rank.lines.items within is some c.loop-rank.invariant)
      | else-count_sum-ne0 w ↦
          let none = no_count c.count_sum.view_is w.if-count_sum-ne0.false in
          subst (LinesBefore places (rank + 1)) (sym (ap (λ lines. lines.items) w.lines-is))
          (no_line places rank c.loop-rank.lines.items within (ap (λ (t : ℕ × ℤ). t.0) is ∙ none) c.loop-rank.invariant)
    ]

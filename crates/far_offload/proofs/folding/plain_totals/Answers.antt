use Rattle.std.proofs.Common.{◌≡◌, ℕ, ℤ, [], None, length, sym, ap, ◌∙◌, arith}
use Rattle.std.specs.FinMap as fin
use Rattle.std.specs.List.{enumerate_from}
use Rattle.far_types.specs.Answers.{Totals, totals}
use Rattle.far_types.specs.Effects.{joined_totals, count_in}
use Rattle.far_groups.specs.Live.{TotalsState}
use Rattle.far_groups.proofs.CountSumsLaws.{no_count, some_count}
use Rattle.far_groups.proofs.LivePairs.{counted}
use Rattle.far_offload.specs.Partials.{values_over}
use Rattle.far_offload.proofs.PartialsLaws.{plain-pairs, added-totals, no-totals}
use Rattle.far_offload.proofs.folding.plain_totals.Goals as goal
use Rattle.far_offload.proofs.folding.plain_totals.Goals.{then-count_sum-ne0+in_ok-add_rows, else-count_sum-ne0}

abbrev live_of : ℕ → Totals → TotalsState
live_of left totals = record { left = left; totals = totals }

pub add_rows-requires-clause-capacity : goal.add_rows-requires-clause-capacity
add_rows-requires-clause-capacity c =
    let none = counted [] None in
    omega (arith, ap (λ (m : Totals). count_in (fin.get m None)) c.new-live.ensures.empty, none, c.count_sum_of-count_sum.ensures.few)

pub returns : goal.returns
returns c = record {
  totals =
      let spec = c.args.spec.now in
      let columns = c.args.columns.now in
      let alive = c.args.alive.now in
      let values = values_over spec columns alive in
      let pairs = ap totals (sym (plain-pairs spec columns (enumerate_from 0 alive) c.requires.plain)) in
      let count : c.count_sum_of-count_sum.result.0 ≡ length values = ap (λ (t : ℕ × ℤ). t.0) c.count_sum_of-count_sum.ensures.count_sum in
      elim c.if-count_sum-ne0.branch [
        | then-count_sum-ne0+in_ok-add_rows w ↦
            w.live-is
            ∙ w.in_ok-add_rows.ensures.ok
            ∙ ap (λ (n : ℕ). live_of n (joined_totals c.new-live.result.totals (fin.insert fin.empty None c.count_sum_of-count_sum.result))) c.new-live.ensures.left
            ∙ ap (live_of 0) (ap (λ (m : Totals). joined_totals m (fin.insert fin.empty None c.count_sum_of-count_sum.result)) c.new-live.ensures.empty
            ∙ ap (λ (t : ℕ × ℤ). joined_totals fin.empty (fin.insert fin.empty None t)) c.count_sum_of-count_sum.ensures.count_sum
            ∙ added-totals values (λ h. some_count c.count_sum.view_is w.if-count_sum-ne0.true (count ∙ h))
            ∙ pairs)
        | else-count_sum-ne0 w ↦
            w.live-is
            ∙ ap (λ (n : ℕ). live_of n c.new-live.result.totals) c.new-live.ensures.left
            ∙ ap (live_of 0) (c.new-live.ensures.empty ∙ sym (no-totals values (omega (arith, count, no_count c.count_sum.view_is w.if-count_sum-ne0.false))) ∙ pairs)
      ];
}

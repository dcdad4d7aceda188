use Rattle.std.proofs.Common.{ℕ, ◌++◌, [], map, sym, ap, ◌∙◌, Option}
use Rattle.std.specs.Prelude.{ℤ}
use Rattle.far_types.specs.declared.key.Key.{Key}
use Rattle.far_types.specs.declared.answer.Answer.TheVariants as answer
use Rattle.far_types.specs.Answers.{totals, lines_by_key, or_zero}
use Rattle.far_types.proofs.AnswersByKeyMaps.{entries-by_key}
use Rattle.far_groups.specs.CountSums.{totals_of}
use Rattle.far_shared.proofs.LinesMerge.{four_lists}
use Rattle.far_shared.proofs.merging.merge_totals.Goals as goal

pub returns : goal.returns
returns c = record {
  ok = λ p q r s hp hq hr hs.
      let key = c.args.key in
      let first = c.in_ok-add_totals.ensures.ok key [] p (ap totals_of c.new-count_sums.ensures.empty) hp in
      let second = c.in_ok-add_totals-2.ensures.ok key ([] ++ p) q first hq in
      let third = c.in_ok-add_totals-3.ensures.ok key (([] ++ p) ++ q) r second hr in
      let fourth = c.in_ok-add_totals-4.ensures.ok key ((([] ++ p) ++ q) ++ r) s third hs in
      ap answer.Totals
      (c.in_ok-lines.ensures.lines
      ∙ ap (or_zero key)
      (c.in_ok-lines_of.ensures.ok
      ∙ ap (map (λ (entry : Option Key × (ℕ × ℤ)). (entry.0, entry.1.0, entry.1.1))) (sym (entries-by_key c.add_totals-4.new.count_sums.entries c.lines_of.ensures.ordered))
      ∙ ap lines_by_key (fourth ∙ ap totals (four_lists p q r s))));
}

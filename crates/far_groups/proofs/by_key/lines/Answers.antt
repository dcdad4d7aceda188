use Rattle.std.proofs.Common.{ℕ, Option, map, sym, ap, ◌∙◌}
use Rattle.std.specs.Prelude.{ℤ}
use Rattle.std.proofs.lemmas.Result.{IfOk-weaker}
use Rattle.far_types.specs.declared.key.Key.{Key}
use Rattle.far_types.specs.declared.key.Key.TheVariants.{Int, Text}
use Rattle.far_types.specs.Answers.{lines_by_key}
use Rattle.far_types.proofs.AnswersByKeyMaps.{entries-by_key}
use Rattle.far_groups.specs.declared.by_key.Form.{Form}
use Rattle.far_groups.specs.KeyTree.{keyed_by, numbered}
use Rattle.far_groups.specs.Dense.{in_order}
use Rattle.far_groups.specs.ByKey.{in_form}
use Rattle.far_groups.proofs.RankedLaws.{in_order_totals, in_order_ascends}
use Rattle.far_groups.proofs.KeyTreeLaws.{ascend_numbers, ascend_texts, shown}
use Rattle.far_groups.proofs.ByKeyLaws.{one_line, one_ascends}
use Rattle.far_groups.proofs.by_key.lines.Goals as goal

pub returns-in-Plain : goal.returns-in-Plain
returns-in-Plain c = record {
  ok =
      let count_sum = c.in-Plain.count_sum in
      IfOk-weaker c.plain_line.result _ _ (λ lines is.
      is
      ∙ ap (map (λ (entry : Option Key × (ℕ × ℤ)). (entry.0, entry.1.0, entry.1.1))) (sym (entries-by_key (one_line count_sum) (one_ascends count_sum)))
      ∙ ap (λ (form : Form). lines_by_key (in_form form)) (sym c.in-Plain.is)) c.plain_line.ensures.ok;
}

pub returns-in-Dense : goal.returns-in-Dense
returns-in-Dense c = record {
  ok =
      let places = c.in-Dense.dense.items in
      let numbers = in_order places in
      IfOk-weaker c.lines.result _ _ (λ lines is.
      is
      ∙ sym (shown Int numbers)
      ∙ ap (map (λ (entry : Option Key × (ℕ × ℤ)). (entry.0, entry.1.0, entry.1.1))) (sym (entries-by_key (numbered numbers) (in_order_ascends places)))
      ∙ ap lines_by_key (in_order_totals places)
      ∙ ap (λ (form : Form). lines_by_key (in_form form)) (sym c.in-Dense.is)) c.lines.ensures.ok;
}

pub returns-in-Numbered : goal.returns-in-Numbered
returns-in-Numbered c = record {
  ok =
      let numbers = c.in-Numbered.numbers.entries in
      IfOk-weaker c.lines-in-Numbered.result _ _ (λ lines is.
      is
      ∙ sym (shown Int numbers)
      ∙ ap (map (λ (entry : Option Key × (ℕ × ℤ)). (entry.0, entry.1.0, entry.1.1))) (sym (entries-by_key (numbered numbers) (ascend_numbers numbers c.lines-in-Numbered.ensures.ordered)))
      ∙ ap (λ (form : Form). lines_by_key (in_form form)) (sym c.in-Numbered.is)) c.lines-in-Numbered.ensures.ok;
}

pub returns-in-Texts : goal.returns-in-Texts
returns-in-Texts c = record {
  ok =
      let texts = c.in-Texts.texts.entries in
      IfOk-weaker c.lines-in-Texts.result _ _ (λ lines is.
      is
      ∙ sym (shown Text texts)
      ∙ ap (map (λ (entry : Option Key × (ℕ × ℤ)). (entry.0, entry.1.0, entry.1.1))) (sym (entries-by_key (keyed_by Text texts) (ascend_texts texts c.lines-in-Texts.ensures.ordered)))
      ∙ ap (λ (form : Form). lines_by_key (in_form form)) (sym c.in-Texts.is)) c.lines-in-Texts.ensures.ok;
}

pub returns-in-Keyed : goal.returns-in-Keyed
returns-in-Keyed c = record {
  ok =
      IfOk-weaker c.lines-in-Keyed.result _ _ (λ lines is.
      is
      ∙ ap (map (λ (entry : Option Key × (ℕ × ℤ)). (entry.0, entry.1.0, entry.1.1))) (sym (entries-by_key c.in-Keyed.keys.entries c.lines-in-Keyed.ensures.ordered))
      ∙ ap (λ (form : Form). lines_by_key (in_form form)) (sym c.in-Keyed.is)) c.lines-in-Keyed.ensures.ok;
}

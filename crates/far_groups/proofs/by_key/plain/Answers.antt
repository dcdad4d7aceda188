use Rattle.std.proofs.Common.{ℕ, Option, None, pos, unwrap_or, sym, ap, ◌∙◌}
use Rattle.std.specs.Prelude.{ℤ}
use Rattle.std.specs.FinMap as fin
use Rattle.far_types.proofs.AnswersByKeyMaps.{get_at}
use Rattle.far_types.specs.declared.key.Key.TheVariants.{Int, Text}
use Rattle.far_groups.specs.declared.by_key.Form.{Form}
use Rattle.far_groups.specs.Dense.{entries_from}
use Rattle.far_groups.specs.ByKey.{in_form}
use Rattle.far_groups.proofs.KeyTreeLaws.{get_other}
use Rattle.far_groups.proofs.ByKeyLaws.{get_plain}
use Rattle.far_groups.proofs.by_key.plain.Goals as goal

abbrev shown : Option (ℕ × ℤ) → ℕ × ℤ
shown o = unwrap_or o (0, pos 0)

abbrev under_none : Form → ℕ × ℤ
under_none form = shown (fin.get (in_form form) None)

pub returns-in-Plain : goal.returns-in-Plain
returns-in-Plain c = ap shown (sym (get_plain c.in-Plain.count_sum)) ∙ ap under_none (sym c.in-Plain.is)

pub returns-in-Dense : goal.returns-in-Dense
returns-in-Dense c = ap shown (sym (get_other Int (entries_from 0 c.in-Dense.field-0.items) None (λ n e. cc))) ∙ ap under_none (sym c.in-Dense.is)

pub returns-in-Numbered : goal.returns-in-Numbered
returns-in-Numbered c = ap shown (sym (get_other Int c.in-Numbered.field-0.entries None (λ n e. cc))) ∙ ap under_none (sym c.in-Numbered.is)

pub returns-in-Texts : goal.returns-in-Texts
returns-in-Texts c = ap shown (sym (get_other Text c.in-Texts.field-0.entries None (λ t e. cc))) ∙ ap under_none (sym c.in-Texts.is)

pub returns-in-Keyed : goal.returns-in-Keyed
returns-in-Keyed c =
    c.unwrap_or.ensures
    ∙ ap shown (c.copied.ensures ∙ c.get.ensures.value ∙ sym (get_at c.in-Keyed.keys.entries None))
    ∙ ap under_none (sym c.in-Keyed.is)

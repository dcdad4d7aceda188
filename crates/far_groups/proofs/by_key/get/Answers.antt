use Rattle.std.proofs.Common.{refl, sym, ap, ◌∙◌, subst, IsSome}
use Rattle.std.specs.FinMap as fin
use Rattle.far_types.specs.declared.key.Key.TheVariants.{Int, Text}
use Rattle.far_types.proofs.AnswersByKeyMaps.{get_at}
use Rattle.far_groups.specs.declared.by_key.Form.{Form}
use Rattle.far_groups.specs.ByKey.{in_form}
use Rattle.far_groups.proofs.KeyTreeLaws.{get_number, get_text, get_other}
use Rattle.far_groups.proofs.DensePlaces.{get_elsewhere}
use Rattle.far_groups.proofs.ByKeyLaws.{get_plain, get_under_key}
use Rattle.far_groups.proofs.by_key.get.Goals as goal

pub returns-in-None : goal.returns-in-None
returns-in-None c = sym (get_plain c.in-Plain.count_sum) ∙ (λ i. fin.get (in_form (sym c.in-Plain.is i)) (sym c.in-None.is i))

pub returns-in-Some : goal.returns-in-Some
returns-in-Some c =
    let key = c.args.key.now in
    sym (get_under_key c.in-Plain.count_sum key (subst IsSome (sym c.in-Some.is) refl)) ∙ ap (λ (form : Form). fin.get (in_form form) key) (sym c.in-Plain.is)

pub returns-in-None-place_in : goal.returns-in-None-place_in
returns-in-None-place_in c =
    let key = c.args.key.now in
    sym (get_elsewhere c.in-Dense.dense.items key c.in-None-place_in.ensures.none) ∙ ap (λ (form : Form). fin.get (in_form form) key) (sym c.in-Dense.is)

pub returns-in-Some-of : goal.returns-in-Some-of
returns-in-Some-of c =
    c.copied.ensures
    ∙ c.get-in-Some-of.ensures.value
    ∙ sym (get_number c.in-Numbered.numbers.entries c.in-Some-of.number.now)
    ∙ (λ i. fin.get (in_form (sym c.in-Numbered.is i)) (sym c.in-Some-of.ensures.some i))

pub returns-in-None-of : goal.returns-in-None-of
returns-in-None-of c =
    let key = c.args.key.now in
    sym (get_other Int c.in-Numbered.numbers.entries key c.in-None-of.ensures.none) ∙ ap (λ (form : Form). fin.get (in_form form) key) (sym c.in-Numbered.is)

pub returns-in-Some-of-2 : goal.returns-in-Some-of-2
returns-in-Some-of-2 c =
    c.copied-in-Some-of-2.ensures
    ∙ c.get-in-Some-of-2.ensures.value
    ∙ sym (get_text c.in-Texts.texts.entries c.in-Some-of-2.text.now)
    ∙ (λ i. fin.get (in_form (sym c.in-Texts.is i)) (sym c.in-Some-of-2.ensures.some i))

pub returns-in-None-of-2 : goal.returns-in-None-of-2
returns-in-None-of-2 c =
    let key = c.args.key.now in
    sym (get_other Text c.in-Texts.texts.entries key c.in-None-of-2.ensures.none) ∙ ap (λ (form : Form). fin.get (in_form form) key) (sym c.in-Texts.is)

pub returns-in-Keyed : goal.returns-in-Keyed
returns-in-Keyed c =
    let key = c.args.key.now in
    c.copied-in-Keyed.ensures ∙ c.get-in-Keyed.ensures.value ∙ sym (get_at c.in-Keyed.keys.entries key) ∙ ap (λ (form : Form). fin.get (in_form form) key) (sym c.in-Keyed.is)

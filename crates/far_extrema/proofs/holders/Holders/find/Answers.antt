use Rattle.std.proofs.Common.{rules, ◌≡◌, Some, None, sym, ◌∙◌}
use Rattle.std.specs.FinMap as fin
use Rattle.far_types.specs.declared.key.Key.TheVariants.{Int, Text}
use Rattle.far_extrema.proofs.EntriesLaws.{get_in}
use Rattle.far_extrema.proofs.holders.Holders.find.Goals as goal

pub returns-in-None : goal.returns-in-None
returns-in-None c =
    let h = c.self.inside in
    c.as_ref.ensures.value ∙ sym (get_in h.plain h.numbers h.texts.entries None) ∙ (λ i. fin.get (c.self.view_is i) (sym c.in-None.is i))

pub returns-in-Some-Int : goal.returns-in-Some-Int
returns-in-Some-Int c =
    let h = c.self.inside in
    let key : c.args.key.now ≡ Some (Int c.in-Some-Int.number) = search rules in
    c.get.ensures ∙ sym (get_in h.plain h.numbers h.texts.entries (Some (Int c.in-Some-Int.number))) ∙ (λ i. fin.get (c.self.view_is i) (sym key i))

pub returns-in-Some-Text : goal.returns-in-Some-Text
returns-in-Some-Text c =
    let h = c.self.inside in
    let key : c.args.key.now ≡ Some (Text c.in-Some-Text.text) = search rules in
    c.get-in-Some-Text.ensures.value ∙ sym (get_in h.plain h.numbers h.texts.entries (Some (Text c.in-Some-Text.text))) ∙ (λ i. fin.get (c.self.view_is i) (sym key i))

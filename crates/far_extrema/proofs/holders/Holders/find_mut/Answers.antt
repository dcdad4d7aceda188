use Rattle.std.proofs.Common.{rules, ◌≡◌, ◌∙◌, refl, IsSome, Some, None, sym, subst}
use Rattle.std.specs.FinMap as fin
use Rattle.far_types.specs.declared.key.Key.TheVariants.{Int, Text}
use Rattle.far_extrema.specs.Holders.{holders_of}
use Rattle.far_extrema.specs.Entries.{entries_in}
use Rattle.far_extrema.proofs.EntriesLaws.{get_in, plain_inserts, number_inserts, text_inserts}
use Rattle.far_extrema.proofs.holders.Holders.find_mut.Goals as goal

pub returns-in-None : goal.returns-in-None
returns-in-None c =
    let h = c.self.inside in
    let value = c.as_mut.ensures.value ∙ sym (get_in h.plain h.numbers h.texts.entries None) ∙ (λ i. fin.get (c.self.view_is i) (sym c.in-None.is i)) in (
      (refl, λ w there. plain_inserts h.plain h.numbers h.texts.entries w ∙ (λ i. fin.insert (c.self.view_is i) (sym c.in-None.is i) w), c.self.view_is),
      record { writes_back = tt; value = value },
    )

pub returns-in-Some-Int : goal.returns-in-Some-Int
returns-in-Some-Int c =
    let h = c.self.inside in
    let key : c.args.key.now ≡ Some (Int c.in-Some-Int.number) = search rules in
    let n = c.in-Some-Int.number in
    let lent = c.get_mut.follows in
    let here = sym (get_in h.plain h.numbers h.texts.entries (Some (Int n))) ∙ (λ i. fin.get (c.self.view_is i) (sym key i)) in (
      (
        refl,
        λ w there. number_inserts h.plain h.numbers (lent.lender w) h.texts.entries n w (lent.holds w (subst IsSome (sym here) there)) ∙ (λ i. fin.insert (c.self.view_is i) (sym key i) w),
        (λ i. holders_of (entries_in h.plain (lent.holds-at-none i) h.texts.entries)) ∙ c.self.view_is,
      ),
      record { writes_back = tt; value = c.get_mut.ensures.value ∙ here },
    )

pub returns-in-Some-Text : goal.returns-in-Some-Text
returns-in-Some-Text c =
    let h = c.self.inside in
    let key : c.args.key.now ≡ Some (Text c.in-Some-Text.text) = search rules in
    let t = c.in-Some-Text.text in
    let lent = c.get_mut-in-Some-Text.follows in
    let here = sym (get_in h.plain h.numbers h.texts.entries (Some (Text t))) ∙ (λ i. fin.get (c.self.view_is i) (sym key i)) in (
      (
        refl,
        λ w there. text_inserts h.plain h.numbers h.texts.entries (lent.lender w).entries t w ((lent.holds w).3 (subst IsSome (sym here) there)).0 ∙ (λ i. fin.insert (c.self.view_is i) (sym key i) w),
        (λ i. holders_of (entries_in h.plain h.numbers (lent.holds-at-none i).entries)) ∙ c.self.view_is,
      ),
      record { writes_back = tt; value = c.get_mut-in-Some-Text.ensures.value ∙ here },
    )

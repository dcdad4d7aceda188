use Rattle.std.proofs.Common.{rules, ◌≡◌, ◌∙◌, Option, Some, sym, subst}
use Rattle.std.specs.FinMap as fin
use Rattle.far_types.specs.declared.key.Key.{Key}
use Rattle.far_types.specs.declared.key.Key.TheVariants.{Int, Text}
use Rattle.far_extrema.specs.Holders.{Holders, holders_of, AreAlike, IsVacant}
use Rattle.far_extrema.specs.Entries.{entries_in}
use Rattle.far_extrema.proofs.EntriesLaws.{get_in, alike_same, plain_removes, number_goes, text_removes}
use Rattle.far_extrema.proofs.holders.Holders.remove.Goals as goal
use Rattle.far_extrema.proofs.holders.Holders.remove.Goals.{in-Some+in-Some-self-2, in-Some+in-None-1, in-None-1}

pub returns-in-None : goal.returns-in-None
returns-in-None c =
    let h = c.self.inside in
    let done = plain_removes h.plain h.numbers h.texts.entries ∙ (λ i. fin.remove (c.self.view_is i) (sym c.in-None.is i)) in
    alike_same _ _ (sym (elim c.match-self.branch [ in-Some+in-Some-self-2 w ↦ w.self-is ∙ done | in-Some+in-None-1 w ↦ w.self-is ∙ done | in-None-1 w ↦ w.self-is ∙ done ]))

pub remove-requires : goal.remove-requires
remove-requires c =
    let h = c.self.inside in
    let n = c.in-Some-Int.number in
    let key : c.args.key.now ≡ Some (Int n) = search rules in
    subst IsVacant ((λ i. fin.get (sym c.self.view_is i) (key i)) ∙ get_in h.plain h.numbers h.texts.entries (Some (Int n))) c.requires

pub returns-in-Some-Int : goal.returns-in-Some-Int
returns-in-Some-Int c =
    let h = c.self.inside in
    let n = c.in-Some-Int.number in
    let key : c.args.key.now ≡ Some (Int n) = search rules in
    let new = c.remove.new.self in
    subst (λ (old : Holders × Option Key). AreAlike (fin.remove old.0 old.1) (holders_of (entries_in h.plain new h.texts.entries))) (λ i. (c.self.view_is i, sym key i)) (number_goes h.plain h.numbers new h.texts.entries n c.remove.ensures)

pub returns-in-Some-Text : goal.returns-in-Some-Text
returns-in-Some-Text c =
    let h = c.self.inside in
    let t = c.in-Some-Text.text in
    let key : c.args.key.now ≡ Some (Text t) = search rules in
    let new = c.remove-in-Some-Text.new.texts.entries in
    alike_same _ _ (sym (text_removes h.plain h.numbers h.texts.entries new t c.remove-in-Some-Text.ensures ∙ (λ i. fin.remove (c.self.view_is i) (sym key i))))

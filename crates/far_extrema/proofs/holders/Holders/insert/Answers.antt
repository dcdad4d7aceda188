use Rattle.std.proofs.Common.{rules, ◌≡◌, ◌∙◌, Option, Some, sym, subst}
use Rattle.std.specs.FinMap as fin
use Rattle.far_types.specs.declared.key.Key.{Key}
use Rattle.far_types.specs.declared.key.Key.TheVariants.{Int, Text}
use Rattle.far_extrema.specs.Holders.{Holders, holders_of, AreAlike}
use Rattle.far_extrema.specs.Entries.{entries_in, IsTextAt}
use Rattle.far_extrema.specs.Numbers.{IsNumberPut, AreNumbersLike}
use Rattle.far_extrema.proofs.EntriesLaws.{alike_same, plain_inserts, number_puts, numbers_alike, text_inserts}
use Rattle.far_extrema.proofs.HoldersReserve.{on_ok, on_err}
use Rattle.far_extrema.proofs.holders.Holders.insert.Goals as goal

pub returns-in-None-clause-ok : goal.returns-in-None-clause-ok
returns-in-None-clause-ok c =
    let h = c.self.inside in
    let done = plain_inserts h.plain h.numbers h.texts.entries c.args.holder ∙ (λ i. fin.insert (c.self.view_is i) (sym c.in-None.is i) c.args.holder) in
    alike_same _ _ (sym done)

pub returns-in-Some-Int-clause-ok : goal.returns-in-Some-Int-clause-ok
returns-in-Some-Int-clause-ok c =
    let h = c.self.inside in
    let n = c.in-Some-Int.number in
    let key : c.args.key.now ≡ Some (Int n) = search rules in
    let new = c.insert.new.self in
    on_ok c.insert.result (λ (put : IsNumberPut h.numbers n (Some c.args.holder) new).
    subst (λ (old : Holders × Option Key). AreAlike (fin.insert old.0 old.1 c.args.holder) (holders_of (entries_in h.plain new h.texts.entries))) (λ i. (c.self.view_is i, sym key i)) (number_puts h.plain h.numbers new h.texts.entries n c.args.holder put)) c.insert.ensures.ok

pub returns-in-Some-Int-clause-err : goal.returns-in-Some-Int-clause-err
returns-in-Some-Int-clause-err c =
    let h = c.self.inside in
    let new = c.insert.new.self in
    on_err c.insert.result (λ (like : AreNumbersLike h.numbers new).
    subst (λ (old : Holders). AreAlike old (holders_of (entries_in h.plain new h.texts.entries))) c.self.view_is (numbers_alike h.plain h.numbers new h.texts.entries like)) c.insert.ensures.err

pub returns-in-Some-Text-clause-ok : goal.returns-in-Some-Text-clause-ok
returns-in-Some-Text-clause-ok c =
    let h = c.self.inside in
    let t = c.in-Some-Text.text in
    let key : c.args.key.now ≡ Some (Text t) = search rules in
    let new = c.put.new.texts.entries in
    on_ok c.put.result (λ (set : IsTextAt h.texts.entries t (Some c.args.holder) new).
    alike_same _ _ (sym (text_inserts h.plain h.numbers h.texts.entries new t c.args.holder set ∙ (λ i. fin.insert (c.self.view_is i) (sym key i) c.args.holder)))) c.put.ensures.ok

pub returns-in-Some-Text-clause-err : goal.returns-in-Some-Text-clause-err
returns-in-Some-Text-clause-err c =
    let h = c.self.inside in
    let new = c.put.new.texts.entries in
    on_err c.put.result (λ (same : new ≡ h.texts.entries). alike_same _ _ (sym ((λ i. holders_of (entries_in h.plain h.numbers (same i))) ∙ c.self.view_is))) c.put.ensures.err

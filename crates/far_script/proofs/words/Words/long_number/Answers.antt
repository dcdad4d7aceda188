use Rattle.std.proofs.Common.{◌≡◌, ◌∙◌, ap, sym, rules, Some}
use Rattle.far_script.specs.Words.{word_of, long_number_in, after}
use Rattle.far_script.proofs.NumbersFirst.{long-size}
use Rattle.far_script.proofs.words.Words.long_number.Goals as goal

pub returns-in-Some-clause-number : goal.returns-in-Some-clause-number
returns-in-Some-clause-number c =
    let held : c.args.self.now ≡ Some c.in_ok-text.text.now = search rules in
    let first = rw (c.in-Some.is, c.as_bytes.ensures.value) at c.first_number.ensures in
    sym (ap long_number_in held ∙ long-size (word_of c.in_ok-text.text.now) c.in-Some.number first.0 first.3)

pub returns-in-Some-clause-left : goal.returns-in-Some-clause-left
returns-in-Some-clause-left c =
    let held : c.args.self.now ≡ Some c.in_ok-text.text.now = search rules in
    c.rest_behind-self-inside.ensures ∙ sym (ap after held)

use Rattle.std.proofs.Common.{◌≡◌, ◌∙◌, ap, rules, Some, ◌∷◌}
use Rattle.far_script.proofs.PartLaws.{last-part}
use Rattle.far_script.specs.Words.{word_in, after, words_in, is_space}
use Rattle.far_script.proofs.WordsLaws.{some-word}
use Rattle.far_script.proofs.words.Words.word.Goals as goal

pub returns-in-Some-clause-first : goal.returns-in-Some-clause-first
returns-in-Some-clause-first c =
    let word : word_in c.args.self.now ≡ Some c.in-Some.word.now = search rules in
    let rest : after c.args.self.now ≡ Some c.in-Some.rest.now = search rules in
    some-word c.args.self.now c.in-Some.word.now word ∙ ap (λ left. c.in-Some.word.now ∷ words_in left) rest

pub returns-in-None-clause-first : goal.returns-in-None-clause-first
returns-in-None-clause-first c =
    let none = rw c.in-None.is at c.cut.ensures in
    let held : c.args.self.now ≡ Some c.in_ok-text.text.now = search rules in
    ap words_in held ∙ last-part is_space c.in_ok-text.text.now none

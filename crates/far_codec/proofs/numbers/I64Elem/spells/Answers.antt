use Rattle.std.proofs.Common.{ℕ, List, map, FitsSigned, ap, ◌∙◌, arith}
use Rattle.std.specs.Int.{w64}
use Rattle.std.proofs.lemmas.List.Elements.{All-from_recursion}
use Rattle.far_codec.specs.PlainNumbers.{plain_form}
use Rattle.far_codec.specs.Reading.{number_of}
use Rattle.far_codec.specs.PlainLaws.{numbers_again}
use Rattle.far_codec.proofs.PlainNumbersWords.{plain_found, IsBytes}
use Rattle.far_codec.proofs.numbers.I64Elem.spells.Goals as goal

pub returns-in-Some-clause-exact : goal.returns-in-Some-clause-exact
returns-in-Some-clause-exact c =
    let bytes = c.args.bytes.now in
    let fits : IsBytes bytes = λ i. omega (arith, c.type_inv.bytes i) in (
      λ h.
          plain_found bytes c.in-Some.words.now fits c.in-Some.ensures.found
          ∙ ap (λ (l : List (List ℕ)). plain_form (map number_of l)) (c.are_words.ensures.exact.0 h)
          ∙ ap plain_form (numbers_again c.args.view.now (c.are_words.ensures.range h)),
      λ e. c.are_words.ensures.exact.1 (c.in-Some.ensures.only c.args.view.now e),
    )

pub returns-in-Some-clause-range : goal.returns-in-Some-clause-range
returns-in-Some-clause-range c h = All-from_recursion (FitsSigned w64) c.args.view.now (c.are_words.ensures.range h)

use Rattle.std.proofs.Common.{ℕ, List, map, sym, ap, ◌∙◌, arith}
use Rattle.far_codec.specs.FarForm.{number_bytes, ints_form}
use Rattle.far_codec.specs.PlainNumbers.{plain_form}
use Rattle.far_codec.specs.Reading.{number_of}
use Rattle.far_codec.specs.PlainLaws.{numbers_again}
use Rattle.far_codec.proofs.PlainNumbersWords.{plain_found, IsBytes}
use Rattle.far_codec.proofs.PlainNumbersLaws.{values_of, all_there, none_missing, values_fit, words_of_values}
use Rattle.far_codec.proofs.present.spells_present.Goals as goal

pub returns-in-Some-clause-found : goal.returns-in-Some-clause-found
returns-in-Some-clause-found c h =
    let bytes = c.args.bytes.now in
    let numbers = c.args.numbers.now in
    let fits : IsBytes bytes = λ i. omega (arith, c.type_inv.bytes i) in
    let same = c.are_present.ensures.found h in
    let there = all_there numbers (none_missing numbers same.1) in
    let words = same.0 ∙ ap (map number_bytes) there ∙ words_of_values (values_of numbers) in (
      plain_found bytes c.in-Some.words.now fits c.in-Some.ensures.found
          ∙ ap (λ (l : List (List ℕ)). plain_form (map number_of l)) words
          ∙ ap plain_form (numbers_again (values_of numbers) (values_fit numbers same.1))
          ∙ ap ints_form (sym there),
      same.1,
    )

pub returns-in-Some-clause-only : goal.returns-in-Some-clause-only
returns-in-Some-clause-only c e none =
    let numbers = c.args.numbers.now in
    let there = all_there numbers none in
    c.are_present.ensures.only (c.in-Some.ensures.only (values_of numbers) (e ∙ ap ints_form there) ∙ sym (words_of_values (values_of numbers)) ∙ ap (map number_bytes) (sym there)) none

pub returns-in-None-clause-only : goal.returns-in-None-clause-only
returns-in-None-clause-only c e none =
    let numbers = c.args.numbers.now in
    absurd (c.in-None.ensures.only (values_of numbers) (e ∙ ap ints_form (all_there numbers none)))

use Rattle.std.proofs.Common.{◌≡◌, map, FitsSigned, Some, sym, ap, ◌∙◌, arith, length}
use Rattle.std.specs.Int.{w64}
use Rattle.std.proofs.lemmas.List.{length-map}
use Rattle.std.proofs.lemmas.List.Elements.{All-from_recursion, recursion_from_All}
use Rattle.far_codec.specs.PlainNumbers.{plain_form}
use Rattle.far_codec.specs.Reading.{number_of}
use Rattle.far_codec.specs.PlainLaws.{numbers_again}
use Rattle.far_codec.proofs.PlainNumbersWords.{plain_found, all_fit, IsBytes}
use Rattle.far_codec.proofs.numbers.I64Elem.unspell.Goals as goal

pub returns-in_ok-read_numbers-in-Some-clause-found : goal.returns-in_ok-read_numbers-in-Some-clause-found
returns-in_ok-read_numbers-in-Some-clause-found c =
    let numbers = c.in_ok-read_numbers-in-Some.field-0.items in
    let words = c.in-Some.words.now in
    let bytes = c.args.bytes.now in
    let fits : IsBytes bytes = λ i. omega (arith, c.type_inv.bytes i) in
    let is : numbers ≡ map number_of words = c.in_ok-read_numbers-in-Some.ensures in
    record {
      range = rw is (All-from_recursion (FitsSigned w64) (map number_of words) (all_fit bytes words fits c.in-Some.ensures.found));
      has = omega (arith, ap length is, length-map words number_of);
      is = plain_found bytes words fits c.in-Some.ensures.found ∙ ap plain_form (sym is);
    }

pub returns-in_ok-read_numbers-in-Some-clause-only : goal.returns-in_ok-read_numbers-in-Some-clause-only
returns-in_ok-read_numbers-in-Some-clause-only c list spelled =
    ap Some (c.in_ok-read_numbers-in-Some.ensures ∙ ap (map number_of) (c.in-Some.ensures.only list spelled.is) ∙ numbers_again list (recursion_from_All (FitsSigned w64) list spelled.range))

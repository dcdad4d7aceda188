use Rattle.std.proofs.Common.{◌≡◌, ◌∷◌, ◌++◌, ℕ, List, length, map, FitsSigned, sym, ap, ◌∙◌}
use Rattle.std.specs.Prelude.{is_none, IfSome}
use Rattle.std.specs.Int.{w32, w64, to_le_bytes}
use Rattle.std.specs.List.{flat_map}
use Rattle.std.proofs.lemmas.List.Elements.{All-from_recursion}
use Rattle.far_codec.specs.FarForm.{head, number_bytes}
use Rattle.far_codec.proofs.FarFormNumbers.{ints_form_is}
use Rattle.far_codec.proofs.FarFormLaws.{ints_form_length}
use Rattle.far_codec.proofs.PlainNumbersLaws.{present_form, numbers_fit}
use Rattle.far_codec.proofs.ints.encode_ints.Goals as goal

pub returns-then-all-clause-spelled : goal.returns-then-all-clause-spelled
returns-then-all-clause-spelled c =
    let numbers = c.args.numbers.now in
    let all = c.if-all.true in
    let there = c.in_ok-all.ensures.there all in
    let front : c.push_plain_head.new.form.items ≡ 1 ∷ 0 ∷ to_le_bytes w32 (length numbers) = c.in_ok-push_plain_head.ensures ∙ ap (λ (l : List ℕ). l ++ 1 ∷ 0 ∷ to_le_bytes w32 (length numbers)) c.in_ok-form.ensures.items in (
      c.in_ok-all.ensures.written all ∙ ap (λ (l : List ℕ). l ++ flat_map number_bytes numbers) front ∙ present_form numbers there,
      record { range = All-from_recursion (λ number. IfSome number (FitsSigned w64)) numbers (numbers_fit numbers there); count = c.requires },
    )

pub returns-then-all-clause-length : goal.returns-then-all-clause-length
returns-then-all-clause-length c = ap length (returns-then-all-clause-spelled c).0 ∙ ints_form_length c.args.numbers.now

pub returns-clause-spelled : goal.returns-clause-spelled
returns-clause-spelled c =
    let numbers = c.args.numbers.now in
    let front : c.push_head.new.form.items ≡ head 0 (map is_none numbers) = c.in_ok-push_head.ensures ∙ ap (λ (l : List ℕ). l ++ head 0 (map is_none numbers)) c.clear.ensures.items in (
      c.in_ok-push_words.ensures.written ∙ ap (λ (l : List ℕ). l ++ flat_map number_bytes numbers) front ∙ sym (ints_form_is numbers),
      record { range = All-from_recursion (λ number. IfSome number (FitsSigned w64)) numbers c.in_ok-push_words.ensures.range; count = c.requires },
    )

pub returns-clause-length : goal.returns-clause-length
returns-clause-length c = ap length (returns-clause-spelled c).0 ∙ ints_form_length c.args.numbers.now

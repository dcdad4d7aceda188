use Rattle.std.proofs.Common.{◌≡◌, ℕ, List, ◌∷◌, ◌++◌, length, FitsSigned, Some, sym, ap, ◌∙◌, rules}
use Rattle.std.specs.Int.{w32, w64, to_le_bytes}
use Rattle.std.specs.List.{flat_map}
use Rattle.far_codec.specs.FarForm.{number_bytes}
use Rattle.std.proofs.lemmas.List.Elements.{All-from_recursion}
use Rattle.far_codec.specs.PlainLaws.{plain_form_is}
use Rattle.far_codec.proofs.numbers.I64Elem.spell.Goals as goal

pub returns-clause-spelled : goal.returns-clause-spelled
returns-clause-spelled c =
    let head : c.push_plain_head.new.form.items ≡ 1 ∷ 0 ∷ to_le_bytes w32 (length c.args.view.now) = search rules in
    record {
      range = All-from_recursion (FitsSigned w64) c.args.view.now c.in_ok-push_words.ensures.range;
      has = c.requires;
      is = c.in_ok-push_words.ensures.written ∙ ap (λ (l : List ℕ). l ++ flat_map (λ x. number_bytes (Some x)) c.args.view.now) head ∙ sym (plain_form_is c.args.view.now);
    }

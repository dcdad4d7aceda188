use Rattle.std.proofs.Common.{◌≡◌, ◌++◌, ℕ, List, length, map, append_assoc, sym, ap, ◌∙◌}
use Rattle.std.specs.Prelude.{is_none}
use Rattle.std.specs.Int.{w32, to_le_bytes}
use Rattle.std.specs.List.{flat_map}
use Rattle.far_codec.specs.FarForm.{head}
use Rattle.far_codec.specs.TextForm.{bytes_of, ends_of}
use Rattle.far_codec.proofs.TextFormLaws.{texts_form_is}
use Rattle.far_codec.proofs.FarFormLaws.{texts_form_length}
use Rattle.far_codec.proofs.text_forms.encode_texts.Goals as goal

pub returns-clause-spelled : goal.returns-clause-spelled
returns-clause-spelled c =
    let texts = c.args.texts.now in
    let front = head 1 (map is_none texts) in
    let ends = flat_map (to_le_bytes w32) (ends_of texts) in
    let body = flat_map bytes_of texts in
    let first : c.push_head.new.form.items ≡ front = c.in_ok-push_head.ensures ∙ ap (λ (l : List ℕ). l ++ front) c.in_ok-form.ensures.items in
    let second : c.push_ends.new.form.items ≡ front ++ ends = c.in_ok-push_ends.ensures ∙ ap (λ (l : List ℕ). l ++ ends) first in (
      c.in_ok-push_texts.ensures.written ∙ ap (λ (l : List ℕ). l ++ body) second ∙ append_assoc front ends body ∙ sym (texts_form_is texts),
      record { utf8 = c.in_ok-push_texts.ensures.utf8; count = c.requires.count; bytes = c.requires.bytes },
    )

pub returns-clause-length : goal.returns-clause-length
returns-clause-length c = ap length (returns-clause-spelled c).0 ∙ texts_form_length c.args.texts.now

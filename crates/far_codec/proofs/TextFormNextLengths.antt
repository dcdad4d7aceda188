-- The length of a form after a text is appended, from its own length.
use Rattle.std.proofs.Common.{◌≡◌, ℕ, ◌+◌, ◌*◌, ◌/◌, ◌<◌, ◌≤◌, ◌^◌, Bool, true, false, cond, List, [], ◌∷◌, ◌++◌, length, get_or, map, Option, None, Some, refl, sym, ap, ◌∙◌, arith}
use Rattle.std.specs.Prelude.{is_none, is_some, ◌||◌}
use Rattle.std.specs.List.{list_any}
use Rattle.std.proofs.lemmas.List.{length-append}
use Rattle.far_types.specs.FormLengths.{text_bytes, texts_length}
use Rattle.far_codec.specs.FarForm.{some_missing}
use Rattle.far_codec.specs.TextForm.{bytes_of, texts_meaning, IsTextsForm}
use Rattle.far_codec.proofs.TextFormLengthChanges.{missing_any, missing_next, bytes_next, length_is}
use Rattle.far_codec.proofs.FarFormHeads.{version_1}
use Rattle.far_codec.proofs.FarFormLaws.{texts_form_length}
use Rattle.far_codec.proofs.FormsMeaning.{lies_so}

-- a form has a head
pub form_head : (form : List ℕ) → IsTextsForm form → 6 ≤ length form
form_head form is = (lies_so form (texts_meaning form) is.texts is.is).cells.long

cond_le : (b : Bool) (n : ℕ) → cond b n 0 ≤ n
cond_le true n = omega arith
cond_le false n = omega arith

-- a form has fewer than 2 ^ 36 bytes
pub form_small : (form : List ℕ) → IsTextsForm form → length form < 2 ^ 36
form_small form is =
    let texts = texts_meaning form in
    omega (arith, ap length is.is, texts_form_length texts, cond_le (list_any is_none texts) ((length texts + 7) / 8), is.texts.count, is.texts.bytes)

-- a text that is present is not missing
pub some_none : {T : Type 0} (o : Option T) → is_some o ≡ true → is_none o ≡ false
some_none None e = absurd cc
some_none (Some x) e = refl

-- without a mask no text is missing
pub none_without : (form : List ℕ) → IsTextsForm form → get_or form 0 0 ≡ 1 → some_missing (map is_none (texts_meaning form)) ≡ false
none_without form is first = version_1 (map is_none (texts_meaning form)) (sym (lies_so form (texts_meaning form) is.texts is.is).cells.first ∙ first)

-- if no text is missing, none is missing after a text that is present is appended
pub none_next : (form : List ℕ) (text : Option (List ℕ)) → IsTextsForm form → get_or form 0 0 ≡ 1 → is_none text ≡ false → list_any is_none (texts_meaning form ++ text ∷ []) ≡ false
none_next form text is first there =
    let texts = texts_meaning form in
    missing_next texts text ∙ ap (λ b. b || some_missing (map is_none texts)) there ∙ none_without form is first

-- after such an append the form is longer by an end and the text's bytes
pub next_length : (form : List ℕ) (text : Option (List ℕ)) → IsTextsForm form → get_or form 0 0 ≡ 1 → is_none text ≡ false → length form + 4 + length (bytes_of text) ≡ texts_length (texts_meaning form ++ text ∷ [])
next_length form text is first there =
    let texts = texts_meaning form in
    let none : list_any is_none texts ≡ false = missing_any texts ∙ none_without form is first in
    let many : length (texts ++ text ∷ []) ≡ length texts + 1 = length-append texts (text ∷ []) in
    let was : 6 + 4 * length texts + text_bytes texts ≡ texts_length texts = length_is texts texts false (length texts) (text_bytes texts) none refl refl in
    let now : 6 + 4 * (length texts + 1) + (text_bytes texts + length (bytes_of text)) ≡ texts_length (texts ++ text ∷ []) =
    length_is texts (texts ++ text ∷ []) false (length texts + 1) (text_bytes texts + length (bytes_of text)) (none_next form text is first there) many (bytes_next texts text) in
    let long : length form ≡ texts_length texts = ap length is.is ∙ texts_form_length texts in
    omega (arith, was, now, long)

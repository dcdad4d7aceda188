-- Laws that callers may cite: the length of a far form, and that different lists have different forms.
use Rattle.std.proofs.Common.{◌≡◌, ◌+◌, ◌/◌, cond, List, length, map, ◌++◌, Option, sym, ap, ◌∙◌, arith}
use Rattle.std.specs.Prelude.{ℤ, is_none}
use Rattle.std.specs.Int.{w32, to_le_bytes}
use Rattle.std.specs.List.{flat_map}
use Rattle.std.proofs.lemmas.List.{length-map, length-append}
use Rattle.far_types.specs.FormLengths.{mask_length, ints_length, texts_length}
use Rattle.far_codec.specs.FarForm.{mask_of, some_missing, head, ints_form}
use Rattle.far_codec.specs.ReadingLaws.{length-mask_of, length-head, length-ints_form}
use Rattle.far_codec.specs.TextForm.{bytes_of, ends_of, texts_form, texts_meaning, AreTexts, IsTextsForm}
use Rattle.far_codec.specs.TextLaws.{Texts, length-end_bytes, length-ends_of, text_bytes_is, texts_read_back}
use Rattle.far_codec.proofs.FarFormMaskBytes.{missing_any}
use Rattle.far_codec.proofs.TextFormLaws.{texts_form_is}

mask_is : {A : Type 0} (values : List (Option A)) → length (mask_of (map is_none values)) ≡ mask_length values
mask_is values =
    length-mask_of (map is_none values)
    ∙ ap (λ n. cond (some_missing (map is_none values)) ((n + 7) / 8) 0) (length-map values is_none)
    ∙ ap (λ b. cond b ((length values + 7) / 8) 0) (sym (missing_any values))

-- the length of a far form of numbers
pub ints_form_length : (numbers : List (Option ℤ)) → length (ints_form numbers) ≡ ints_length numbers
ints_form_length numbers = omega (arith, length-ints_form numbers, mask_is numbers)

-- the length of a far form of texts
pub texts_form_length : (texts : Texts) → length (texts_form texts) ≡ texts_length texts
texts_form_length texts =
    let ends = flat_map (to_le_bytes w32) (ends_of texts) in
    let body = flat_map bytes_of texts in
    omega (arith, ap length (texts_form_is texts), length-append (head 1 (map is_none texts)) (ends ++ body), length-append ends body, length-head 1 (map is_none texts), mask_is texts, length-end_bytes (ends_of texts), length-ends_of texts, text_bytes_is texts)

-- different texts have different forms
pub one_texts_list : (one other : Texts) → AreTexts one → AreTexts other → texts_form one ≡ texts_form other → one ≡ other
one_texts_list one other are are_too e = sym (texts_read_back one are) ∙ ap texts_meaning e ∙ texts_read_back other are_too

-- the form of texts is a valid form of texts
pub form_is_form : (texts : Texts) → AreTexts texts → IsTextsForm (texts_form texts)
form_is_form texts are =
    let same = texts_read_back texts are in
    record { texts = rw same are; is = ap texts_form (sym same) }

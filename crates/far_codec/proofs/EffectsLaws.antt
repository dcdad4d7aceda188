-- Texts after one of them changes: they have a far form, and one text is replaced or appended.
use Rattle.std.proofs.Common.{◌≡◌, ℕ, suc, ◌+◌, ◌<◌, ◌^◌, List, [], ◌∷◌, ◌++◌, length, set, take, drop, Option, Bool, map, sym, ap, ◌∙◌, arith}
use Rattle.std.specs.Prelude.{IfSome, is_none}
use Rattle.std.specs.Int.{w32, to_le_bytes}
use Rattle.std.specs.List.{flat_map}
use Rattle.std.specs.Str.{IsUtf8}
use Rattle.std.proofs.lemmas.List.{take_all, drop_all, set_split}
use Rattle.std.proofs.lemmas.List.Elements.{All-append, All-cons, All-take, All-drop}
use Rattle.far_types.specs.FormLengths.{texts_length}
use Rattle.far_codec.specs.Effects.{with_text}
use Rattle.far_codec.specs.FarForm.{head}
use Rattle.far_codec.specs.TextForm.{bytes_of, ends_of, texts_form, AreTexts}
use Rattle.far_codec.specs.TextLaws.{Texts}
use Rattle.far_codec.proofs.TextFormLaws.{texts_form_is}

pub are_with : (texts : Texts) (i : ℕ) (text : Option (List ℕ)) → AreTexts texts → IfSome text IsUtf8 → texts_length (with_text texts i text) < 2 ^ 32 → AreTexts (with_text texts i text)
are_with texts i text are utf8 space =
    let fits : Option (List ℕ) → Type 0 = λ t. IfSome t IsUtf8 in
    record {
      utf8 = All-append fits (take i texts) (text ∷ drop (i + 1) texts) (All-take fits i texts are.utf8) (All-cons fits text (drop (i + 1) texts) utf8 (All-drop fits (i + 1) texts are.utf8));
      count = omega (arith, space);
      bytes = omega (arith, space);
    }

-- if i is below their count, text i is replaced
pub with_is_set : (made texts : Texts) (i : ℕ) (text : Option (List ℕ)) → made ≡ texts → i < length texts → with_text made i text ≡ set texts i text
with_is_set made texts i text same h =
    let next : i + 1 ≡ suc i = omega arith in
    ap (λ l. with_text l i text) same ∙ ap (λ n. take i texts ++ text ∷ drop n texts) next ∙ sym (set_split texts i text h)

-- if i is their count, the text is appended
pub with_is_next : (made texts : Texts) (i : ℕ) (text : Option (List ℕ)) → made ≡ texts → i ≡ length texts → with_text made i text ≡ texts ++ text ∷ []
with_is_next made texts i text same is =
    ap (λ l. with_text l i text) same
    ∙ ap (λ l. l ++ text ∷ drop (i + 1) texts) (take_all i texts (omega (arith, is)))
    ∙ ap (λ l. texts ++ text ∷ l) (drop_all (i + 1) texts (omega (arith, is)))

-- a head, followed by ends and bytes, is the form
pub form_made : (texts : Texts) (form start front : List ℕ) (flags : List Bool) → form ≡ front ++ (flat_map (to_le_bytes w32) (ends_of texts) ++ flat_map bytes_of texts) → front ≡ start ++ head 1 flags → start ≡ [] → map is_none texts ≡ flags → form ≡ texts_form texts
form_made texts form start front flags is front_is start_is same =
    let fields = flat_map (to_le_bytes w32) (ends_of texts) ++ flat_map bytes_of texts in
    is ∙ ap (λ l. l ++ fields) (front_is ∙ ap (λ l. l ++ head 1 flags) start_is ∙ ap (head 1) (sym same)) ∙ sym (texts_form_is texts)

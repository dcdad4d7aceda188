-- What the bytes of a form encode.
use Rattle.std.proofs.Common.{◌≡◌, ℕ, ◌+◌, ◌*◌, ◌/◌, ◌<◌, ◌^◌, Bool, true, false, cond, eqb, ℤ, List, [], ◌∷◌, ◌++◌, length, get_or, map, Option, None, Some, Bor, refl, sym, ap, subst, ◌∙◌, arith}
use Rattle.std.specs.Prelude.{is_none, IfSome, slice_get, option_and_then}
use Rattle.std.specs.Option.{option_copied}
use Rattle.std.specs.Int.{w32, to_le_bytes, from_le_bytes}
use Rattle.std.specs.List.{flat_map}
use Rattle.std.proofs.lemmas.List.{length-map}
use Rattle.far_codec.specs.FarForm.{mask_of, some_missing, head, ints_form, AreInts}
use Rattle.far_codec.specs.Reading.{ints_meaning, IsIntsForm}
use Rattle.far_codec.specs.ReadingLaws.{ints_read_back, length-mask_of}
use Rattle.far_codec.specs.TextForm.{bytes_of, ends_of, texts_form, texts_meaning, AreTexts, IsTextsForm}
use Rattle.far_codec.specs.TextLaws.{Texts as TextsOf, texts_read_back, length-end_bytes, length-ends_of}
use Rattle.far_codec.specs.Forms.{form_of, HaveForm}
use Rattle.far_codec.specs.declared.values.Values.{Values}
use Rattle.far_codec.specs.declared.values.Values.TheVariants.{Ints, Texts}
use Rattle.far_codec.proofs.FarFormHeads.{HeadCells, head_cells}
use Rattle.far_codec.proofs.TextFormLaws.{texts_form_is}

pub ints_meant : (bytes : List ℕ) (numbers : List (Option ℤ)) → AreInts numbers → bytes ≡ ints_form numbers → ints_meaning bytes ≡ numbers
ints_meant bytes numbers are e = ap ints_meaning e ∙ ints_read_back numbers are

pub is_ints_form : (bytes : List ℕ) (numbers : List (Option ℤ)) → AreInts numbers → bytes ≡ ints_form numbers → IsIntsForm bytes
is_ints_form bytes numbers are e =
    let meant = ints_meant bytes numbers are e in
    record { ints = subst AreInts (sym meant) are; is = e ∙ ap ints_form (sym meant) }

pub texts_meant : (bytes : List ℕ) (texts : TextsOf) → AreTexts texts → bytes ≡ texts_form texts → texts_meaning bytes ≡ texts
texts_meant bytes texts are e = ap texts_meaning e ∙ texts_read_back texts are

pub is_texts_form : (bytes : List ℕ) (texts : TextsOf) → AreTexts texts → bytes ≡ texts_form texts → IsTextsForm bytes
is_texts_form bytes texts are e =
    let meant = texts_meant bytes texts are e in
    record { texts = subst AreTexts (sym meant) are; is = e ∙ ap texts_form (sym meant) }

-- a text that is borrowed is text i of the list, and not missing
pub lent_there : (lent : Option (Bor (List ℕ))) (texts : TextsOf) (i : ℕ) → option_copied lent ≡ option_and_then (λ text. text) (slice_get texts i) → IfSome lent (λ text. slice_get texts i ≡ Some (Some text.now))
lent_there None texts i e = tt
lent_there (Some text) texts i e = there (slice_get texts i) e
  where
    there : (o : Option (Option (List ℕ))) → Some text.now ≡ option_and_then (λ t. t) o → o ≡ Some (Some text.now)
    there None e = absurd cc
    there (Some None) e = absurd cc
    there (Some (Some t)) e = cc

-- the second byte is the kind
second_byte : (kind : ℕ) (flags : List Bool) (rest : List ℕ) → get_or (head kind flags ++ rest) 1 0 ≡ kind
unfolding head
second_byte kind flags rest = refl

pub not_both : (bytes : List ℕ) (numbers : List (Option ℤ)) (texts : TextsOf) → bytes ≡ ints_form numbers → bytes ≡ texts_form texts → ⊥
unfolding ints_form texts_form
not_both bytes numbers texts e h =
    let zero = ap (λ l. get_or l 1 0) e ∙ second_byte 0 (map is_none numbers) _ in
    let one = ap (λ l. get_or l 1 0) h ∙ second_byte 1 (map is_none texts) _ in
    absurd (omega (arith, zero, one))

-- where the parts of a valid form are
pub record LiesSo (form : List ℕ) (texts : TextsOf) : Type 0 where
  pub cells : HeadCells form 1 (map is_none texts) (flat_map (to_le_bytes w32) (ends_of texts) ++ flat_map bytes_of texts)
  pub count : from_le_bytes w32 (get_or form 2 0 ∷ get_or form 3 0 ∷ get_or form 4 0 ∷ get_or form 5 0 ∷ []) ≡ length texts
  pub few : length texts < 2 ^ 32
  pub mask_len : cond (eqb (get_or form 0 0) 2) ((length texts + 7) / 8) 0 ≡ length (mask_of (map is_none texts))
  pub ends_len : length (flat_map (to_le_bytes w32) (ends_of texts)) ≡ 4 * length texts

mask_size : (b : Bool) (n : ℕ) → cond (eqb (cond b 2 1) 2) n 0 ≡ cond b n 0
mask_size true n = refl
mask_size false n = refl

pub lies_so : (form : List ℕ) (texts : TextsOf) → AreTexts texts → form ≡ texts_form texts → LiesSo form texts
lies_so form texts are e =
    let flags = map is_none texts in
    let same = length-map texts is_none in
    let cells = head_cells form 1 flags (flat_map (to_le_bytes w32) (ends_of texts) ++ flat_map bytes_of texts) (omega (arith, same, are.count)) (e ∙ texts_form_is texts) in
    record {
      cells = cells;
      count = cells.count ∙ same;
      few = are.count;
      mask_len = ap (λ b. cond (eqb b 2) ((length texts + 7) / 8) 0) cells.first ∙ mask_size (some_missing flags) ((length texts + 7) / 8) ∙ ap (λ n. cond (some_missing flags) ((n + 7) / 8) 0) (sym same) ∙ sym (length-mask_of flags);
      ends_len = omega (arith, length-end_bytes (ends_of texts), length-ends_of texts);
    }

-- different values have different forms
pub ints_only : (bytes : List ℕ) (numbers : List (Option ℤ)) → AreInts numbers → bytes ≡ ints_form numbers → (values : Values) → HaveForm values → bytes ≡ form_of values → Ints numbers ≡ values
ints_only bytes numbers are e (Ints other) have same = ap Ints (sym (ints_meant bytes numbers are e) ∙ ints_meant bytes other have same)
ints_only bytes numbers are e (Texts texts) have same = absurd (not_both bytes numbers texts e same)

pub texts_only : (bytes : List ℕ) (texts : TextsOf) → AreTexts texts → bytes ≡ texts_form texts → (values : Values) → HaveForm values → bytes ≡ form_of values → Texts texts ≡ values
texts_only bytes texts are e (Ints numbers) have same = absurd (not_both bytes numbers texts same e)
texts_only bytes texts are e (Texts other) have same = ap Texts (sym (texts_meant bytes texts are e) ∙ texts_meant bytes other have same)

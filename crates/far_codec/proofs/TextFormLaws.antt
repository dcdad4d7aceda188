-- Which bytes are the far form of texts.
use Rattle.std.proofs.Common.{◌≡◌, ℕ, zero, suc, ◌+◌, ◌-◌, ◌*◌, ◌/◌, ◌^◌, ◌<◌, ◌≤◌, Bool, true, false, cond, List, [], ◌∷◌, ◌++◌, length, get_or, map, take, drop, Option, None, Some, refl, sym, ap, subst, ◌∙◌, arith, inl, inr}
use Rattle.std.specs.Prelude.{is_none, IfSome, slice_range, slice_get, option_and_then}
use Rattle.std.specs.Str.{IsUtf8}
use Rattle.std.specs.Int.{w32, to_le_bytes, from_le_bytes}
use Rattle.std.specs.List.{flat_map}
use Rattle.std.specs.Simd.{first_chunks}
use Rattle.std.proofs.lemmas.Bool.{cases_Bool, false≢true}
use Rattle.std.proofs.lemmas.List.{get_or-map, length-map, length-append, length-take, length-drop, take-append-drop, take_all, ext_get_or, nil_from_length, take_at, drop_at}
use Rattle.std.proofs.lemmas.Nat.{le_bytes_4}
use Rattle.std.proofs.lemmas.Option.{slice_get-get_or, slice_get_past}
use Rattle.std.proofs.Math.Seq.{take-add, take-length}
use Rattle.far_codec.specs.FarForm.{head, mask_of}
use Rattle.far_codec.specs.Reading.{is_missing, flags_of}
use Rattle.far_codec.specs.MaskLaws.{missing_by_mask}
use Rattle.far_codec.specs.TextForm.{bytes_of, bytes_before, ends_of, texts_form, texts_of, ends_in, AreTexts, IsTextAt, AreTextParts}
use Rattle.far_codec.specs.TextLaws.{Texts, length-ends_of, end_at, start_at, before_more, text_between, before_le, text_bytes_is, text_at, length-texts_of, texts_of_at, length-end_bytes, ends_again}
use Rattle.far_codec.specs.ReadingLaws.{chunks_again}
use Rattle.far_codec.proofs.ReadingMasks.{length-flags_of, flag_at}
use Rattle.far_codec.proofs.PlainNumbersWords.{IsBytes, IsBytes-drop, IsBytes-take, length-first_chunks}
use Rattle.far_codec.proofs.FarFormNumbers.{chunk_at}

-- ---- one text of known parts

pub text_there : (mask ends body : List ℕ) (i : ℕ) → i < length ends → option_and_then (λ text. text) (slice_get (texts_of mask ends body) i) ≡ text_at mask ends body i
text_there mask ends body i h =
    ap (option_and_then (λ text. text)) (slice_get-get_or (texts_of mask ends body) i None (omega (arith, length-texts_of mask ends body))) ∙ texts_of_at mask ends body i None h

pub text_past : (mask ends body : List ℕ) (i : ℕ) → length ends ≤ i → option_and_then (λ text. text) (slice_get (texts_of mask ends body) i) ≡ None
text_past mask ends body i h = ap (option_and_then (λ text. text)) (slice_get_past (texts_of mask ends body) i (omega (arith, length-texts_of mask ends body)))

pub end_of_word : (words : List (List ℕ)) (i : ℕ) → i < length words → get_or (ends_in words) i 0 ≡ from_le_bytes w32 (get_or words i [])
end_of_word words i h = get_or-map (from_le_bytes w32) words i [] 0 h

pub length-ends_in : (words : List (List ℕ)) → length (ends_in words) ≡ length words
length-ends_in words = length-map words (from_le_bytes w32)

-- ---- what the parts encode

bytes_at : (mask ends body : List ℕ) (i : ℕ) → IsTextAt mask ends body i → bytes_of (text_at mask ends body i) ≡ slice_range body (get_or (0 ∷ ends) i 0) (get_or ends i 0)
bytes_at mask ends body i is =
    let a = get_or (0 ∷ ends) i 0 in
    let b = get_or ends i 0 in
    elim (cases_Bool (is_missing mask i)) [
      | inl missing ↦
          let none : 0 ≡ b - a = omega (arith, is.missing missing) in
          ap (λ m. bytes_of (cond m None (Some (slice_range body a b)))) missing ∙ ap (λ k. take k (drop a body)) none
      | inr there ↦ ap (λ m. bytes_of (cond m None (Some (slice_range body a b)))) there
    ]

-- the first texts have the bytes up to their end
bytes_taken : (mask ends body : List ℕ) → AreTextParts mask ends body → (i : ℕ) → i ≤ length ends → flat_map bytes_of (take i (texts_of mask ends body)) ≡ take (get_or (0 ∷ ends) i 0) body
bytes_taken mask ends body parts zero h = refl
bytes_taken mask ends body parts (suc i) h =
    let texts = texts_of mask ends body in
    let a = get_or (0 ∷ ends) i 0 in
    let b = get_or ends i 0 in
    let in_ends : i < length ends = omega arith in
    let is = parts.each i in_ends in
    let next : suc i ≡ i + 1 = omega arith in
    let far : a + (b - a) ≡ b = omega (arith, is.ordered) in
    ap (λ k. flat_map bytes_of (take k texts)) next
    ∙ before_more texts i (omega (arith, length-texts_of mask ends body))
    ∙ ap (λ l. l ++ bytes_of (get_or texts i None)) (bytes_taken mask ends body parts i (omega arith))
    ∙ ap (λ t. take a body ++ bytes_of t) (texts_of_at mask ends body i None in_ends)
    ∙ ap (λ l. take a body ++ l) (bytes_at mask ends body i is)
    ∙ sym (take-add a (b - a) body)
    ∙ ap (λ k. take k body) far

pub body_is : (mask ends body : List ℕ) → AreTextParts mask ends body → flat_map bytes_of (texts_of mask ends body) ≡ body
body_is mask ends body parts =
    let texts = texts_of mask ends body in
    ap (flat_map bytes_of) (sym (take_all (length ends) texts (omega (arith, length-texts_of mask ends body))))
    ∙ bytes_taken mask ends body parts (length ends) (omega arith)
    ∙ ap (λ k. take k body) parts.whole
    ∙ take-length body

pub ends_are : (mask ends body : List ℕ) → AreTextParts mask ends body → ends_of (texts_of mask ends body) ≡ ends
ends_are mask ends body parts =
    let texts = texts_of mask ends body in
    let many = length-texts_of mask ends body in
    ext_get_or 0 (ends_of texts) ends (length-ends_of texts ∙ many) (λ i h.
    let in_ends : i < length ends = omega (arith, length-ends_of texts, many) in
    let next : i + 1 ≡ suc i = omega arith in
    end_at texts i (omega (arith, many))
    ∙ ap (bytes_before texts) next
    ∙ ap length (bytes_taken mask ends body parts (suc i) (omega arith))
    ∙ omega (arith, length-take (get_or ends i 0) body, (parts.each i in_ends).inside))

none_is : {A : Type 0} (b : Bool) (x : A) → is_none (cond b None (Some x)) ≡ b
none_is true x = refl
none_is false x = refl

pub flags_are : (mask ends body : List ℕ) → map is_none (texts_of mask ends body) ≡ flags_of mask (length ends)
flags_are mask ends body =
    let texts = texts_of mask ends body in
    let many = length-texts_of mask ends body in
    let len : length (map is_none texts) ≡ length (flags_of mask (length ends)) = length-map texts is_none ∙ many ∙ sym (length-flags_of mask (length ends)) in
    ext_get_or false (map is_none texts) (flags_of mask (length ends)) len (λ i h.
    let in_ends : i < length ends = omega (arith, length-map texts is_none, many) in
    get_or-map is_none texts i None false (omega (arith, many))
    ∙ ap is_none (texts_of_at mask ends body i None in_ends)
    ∙ none_is (is_missing mask i) (slice_range body (get_or (0 ∷ ends) i 0) (get_or ends i 0))
    ∙ sym (flag_at mask (length ends) i in_ends))

text_fits : (missing : Bool) (text : List ℕ) → (missing ≡ false → IsUtf8 text) → IfSome (cond missing None (Some text)) IsUtf8
text_fits true text h = tt
text_fits false text h = h refl

last_below : (ends : List ℕ) → ((i : ℕ) → i < length ends → get_or ends i 0 < 2 ^ 32) → get_or (0 ∷ ends) (length ends) 0 < 2 ^ 32
last_below [] below = omega arith
last_below (e ∷ ends) below = below (length ends) (omega arith)

pub are_texts : (mask ends body : List ℕ) → AreTextParts mask ends body → length ends < 2 ^ 32 → ((i : ℕ) → i < length ends → get_or ends i 0 < 2 ^ 32) → AreTexts (texts_of mask ends body)
are_texts mask ends body parts few below =
    let texts = texts_of mask ends body in
    record {
      utf8 = λ k d h.
          let in_ends : k < length ends = omega (arith, length-texts_of mask ends body) in
          subst (λ o. IfSome o IsUtf8) (sym (texts_of_at mask ends body k d in_ends)) (text_fits (is_missing mask k) (slice_range body (get_or (0 ∷ ends) k 0) (get_or ends k 0)) (parts.each k in_ends).there);
      count = omega (arith, length-texts_of mask ends body);
      bytes = omega (arith, text_bytes_is texts, ap length (body_is mask ends body parts), parts.whole, last_below ends below);
    }

-- encoding the decoded ends returns their words
pub ends_written : (k : ℕ) (bytes : List ℕ) → IsBytes bytes → length bytes ≡ k * 4 → flat_map (to_le_bytes w32) (ends_in (first_chunks 4 k bytes)) ≡ bytes
ends_written zero bytes fits len = sym (nil_from_length bytes (omega arith))
ends_written (suc k) bytes fits len =
    ap (λ front. front ++ flat_map (to_le_bytes w32) (ends_in (first_chunks 4 k (drop 4 bytes)))) (le_bytes_4 (take 4 bytes) (from_le_bytes w32 (take 4 bytes)) (omega (arith, length-take 4 bytes)) (IsBytes-take 4 bytes fits) refl)
    ∙ ap (λ rest. take 4 bytes ++ rest) (ends_written k (drop 4 bytes) (IsBytes-drop 4 bytes fits) (omega (arith, length-drop 4 bytes)))
    ∙ take-append-drop 4 bytes

four_below : (word : List ℕ) → IsBytes word → from_le_bytes w32 word < 2 ^ 32
four_below word fits = omega (arith, fits 0, fits 1, fits 2, fits 3)

pub ends_below : (k : ℕ) (bytes : List ℕ) (i : ℕ) → IsBytes bytes → i < k → get_or (ends_in (first_chunks 4 k bytes)) i 0 < 2 ^ 32
ends_below k bytes i fits h =
    let word : get_or (first_chunks 4 k bytes) i [] ≡ take 4 (drop (4 * i) bytes) = chunk_at 4 k i bytes [] h in
    let end = end_of_word (first_chunks 4 k bytes) i (omega (arith, length-first_chunks 4 k bytes)) ∙ ap (from_le_bytes w32) word in
    omega (arith, end, four_below (take 4 (drop (4 * i) bytes)) (IsBytes-take 4 (drop (4 * i) bytes) (IsBytes-drop (4 * i) bytes fits)))

pub texts_form_is : (texts : Texts) → texts_form texts ≡ head 1 (map is_none texts) ++ (flat_map (to_le_bytes w32) (ends_of texts) ++ flat_map bytes_of texts)
unfolding texts_form
texts_form_is texts = refl

-- a head, a mask, ends and text bytes are the form of these texts
pub texts_found : (bytes mask front body : List ℕ) (words : List (List ℕ)) (count : ℕ) → IsBytes front → count < 2 ^ 32 → bytes ≡ head 1 (flags_of mask count) ++ (front ++ body) → length front ≡ count * 4 → words ≡ first_chunks 4 count front → AreTextParts mask (ends_in words) body → AreTexts (texts_of mask (ends_in words) body) × (bytes ≡ texts_form (texts_of mask (ends_in words) body))
texts_found bytes mask front body words count fits few e len is parts =
    let ends = ends_in words in
    let texts = texts_of mask ends body in
    let many : length ends ≡ count = length-ends_in words ∙ ap length is ∙ length-first_chunks 4 count front in
    let ends_is : ends ≡ ends_in (first_chunks 4 count front) = ap ends_in is in
    let below : (i : ℕ) → i < length ends → get_or ends i 0 < 2 ^ 32 = λ i h. omega (arith, ap (λ l. get_or l i 0) ends_is, ends_below count front i fits (omega arith)) in
    let front_is : flat_map (to_le_bytes w32) (ends_of texts) ≡ front = ap (flat_map (to_le_bytes w32)) (ends_are mask ends body parts ∙ ends_is) ∙ ends_written count front fits len in (
      are_texts mask ends body parts (omega (arith, many)) below,
      e
          ∙ ap (λ l. head 1 l ++ (front ++ body)) (ap (flags_of mask) (sym many) ∙ sym (flags_are mask ends body))
          ∙ ap (λ l. head 1 (map is_none texts) ++ (l ++ body)) (sym front_is)
          ∙ ap (λ l. head 1 (map is_none texts) ++ (flat_map (to_le_bytes w32) (ends_of texts) ++ l)) (sym (body_is mask ends body parts))
          ∙ sym (texts_form_is texts),
    )

-- ---- the parts of a form

missing_none : (text : Option (List ℕ)) → is_none text ≡ true → bytes_of text ≡ []
missing_none None e = refl
missing_none (Some text) e = absurd (false≢true e)

there_utf8 : (text : Option (List ℕ)) → is_none text ≡ false → IfSome text IsUtf8 → IsUtf8 (bytes_of text)
there_utf8 None e h = absurd (false≢true (sym e))
there_utf8 (Some text) e h = h

-- the parts of a form are parts of texts
pub parts_of_form : (texts : Texts) → AreTexts texts → AreTextParts (mask_of (map is_none texts)) (ends_of texts) (flat_map bytes_of texts)
parts_of_form texts are =
    let flags = map is_none texts in
    let m = mask_of flags in
    let ends = ends_of texts in
    let body = flat_map bytes_of texts in
    let many = length-ends_of texts in
    record {
      each = λ i h.
          let in_list : i < length texts = omega (arith, many) in
          let text = get_or texts i None in
          let start = start_at texts i (omega (arith, in_list)) in
          let end = end_at texts i in_list in
          let more = ap length (before_more texts i in_list) ∙ length-append (flat_map bytes_of (take i texts)) (bytes_of text) in
          let flag : is_missing m i ≡ is_none text = missing_by_mask flags i (omega (arith, length-map texts is_none)) ∙ get_or-map is_none texts i None false in_list in
          let slice : bytes_of text ≡ slice_range body (get_or (0 ∷ ends) i 0) (get_or ends i 0) =
          sym (text_between texts i in_list) ∙ ap (slice_range body (bytes_before texts i)) (sym end) ∙ ap (λ a. slice_range body a (get_or ends i 0)) (sym start) in
          record {
            ordered = omega (arith, start, end, more);
            inside = omega (arith, end, before_le texts (i + 1));
            missing = λ e. omega (arith, start, end, more, ap length (missing_none text (sym flag ∙ e)));
            there = λ e. subst IsUtf8 slice (there_utf8 text (sym flag ∙ e) (are.utf8 i None in_list));
          };
      whole =
          ap (λ k. get_or (0 ∷ ends) k 0) many
          ∙ start_at texts (length texts) (omega arith)
          ∙ ap (λ l. length (flat_map bytes_of l)) (take-length texts);
    }

-- a form of texts has these parts
pub record HasTextParts (mask fields : List ℕ) (count : ℕ) (texts : Texts) : Type 0 where
  pub count_is : count ≡ length texts
  pub mask_is : mask ≡ mask_of (map is_none texts)
  pub fields_are : fields ≡ flat_map (to_le_bytes w32) (ends_of texts) ++ flat_map bytes_of texts

pub parts_in : (mask fields front body : List ℕ) (count : ℕ) (texts : Texts) (words : List (List ℕ)) → AreTexts texts → HasTextParts mask fields count texts → front ≡ take (4 * count) fields → body ≡ drop (4 * count) fields → words ≡ first_chunks 4 (length front / 4) front → (ends_in words ≡ ends_of texts) × (body ≡ flat_map bytes_of texts) × (words ≡ map (to_le_bytes w32) (ends_in words))
parts_in mask fields front body count texts words are parts front_is body_is is =
    let ends = ends_of texts in
    let end_bytes = flat_map (to_le_bytes w32) ends in
    let texts_bytes = flat_map bytes_of texts in
    let many : length end_bytes ≡ 4 * count = omega (arith, length-end_bytes ends, length-ends_of texts, parts.count_is) in
    let front_same : front ≡ end_bytes = front_is ∙ ap (take (4 * count)) parts.fields_are ∙ take_at end_bytes texts_bytes (4 * count) many in
    let body_same : body ≡ texts_bytes = body_is ∙ ap (drop (4 * count)) parts.fields_are ∙ drop_at end_bytes texts_bytes (4 * count) many in
    let count_front : length front / 4 ≡ length ends = omega (arith, ap length front_same, many, length-ends_of texts, parts.count_is) in
    let words_are : words ≡ map (to_le_bytes w32) ends = is ∙ ap (λ k. first_chunks 4 k front) count_front ∙ ap (first_chunks 4 (length ends)) front_same ∙ chunks_again 4 (to_le_bytes w32) (λ e. refl) ends in
    let ends_are_read = ap ends_in words_are ∙ ends_again texts are in
    (ends_are_read, body_same, words_are ∙ ap (map (to_le_bytes w32)) (sym ends_are_read))

-- The far form of texts, and what its bytes encode.
use Rattle.std.specs.Prelude.{◌≡◌, ℕ, ◌+◌, ◌*◌, ◌<◌, ◌≤◌, ◌^◌, true, false, cond, List, [], ◌∷◌, ◌++◌, length, map, take, drop, All, Option, None, Some, IfSome, unwrap_or, is_none, slice_index, slice_range}
use Rattle.std.specs.List.{flat_map, range_with_len}
use Rattle.std.specs.Int.{w32, to_le_bytes, from_le_bytes}
use Rattle.std.specs.Simd.{first_chunks}
use Rattle.std.specs.Str.{IsUtf8}
use Rattle.far_types.specs.FormLengths.{text_bytes}
use Rattle.far_codec.specs.FarForm.{head, FitsCount}
use Rattle.far_codec.specs.Reading.{count_in, mask_in, fields_in, is_missing}

-- the bytes of a text; a missing text has none
abbrev pub bytes_of : Option (List ℕ) → List ℕ
bytes_of text = unwrap_or text []

-- how many bytes the first n texts have
abbrev pub bytes_before : List (Option (List ℕ)) → ℕ → ℕ
bytes_before texts count = length (flat_map bytes_of (take count texts))

-- the end of each text, counted in bytes from the beginning of the first text
abbrev pub ends_of : List (Option (List ℕ)) → List ℕ
ends_of texts = map (λ i. bytes_before texts (i + 1)) (range_with_len 0 (length texts))

-- the far form of texts
unfoldable pub texts_form : List (Option (List ℕ)) → List ℕ
texts_form texts = head 1 (map is_none texts)
    ++ (flat_map (to_le_bytes w32) (ends_of texts) ++ flat_map bytes_of texts)

-- texts that have a far form
pub record AreTexts (texts : List (Option (List ℕ))) : Type 0 where
  pub utf8 : All (λ text. IfSome text IsUtf8) texts
  pub count : FitsCount texts
  pub bytes : text_bytes texts < 2 ^ 32

-- the texts that a mask, ends and text bytes encode: text i extends from the end before it to its own end
abbrev pub texts_of : List ℕ → List ℕ → List ℕ → List (Option (List ℕ))
texts_of mask ends body = map (λ i. cond (is_missing mask i) None
    (Some (slice_range body (slice_index (0 ∷ ends) i) (slice_index ends i))))
    (range_with_len 0 (length ends))

-- the ends that words of four bytes encode
abbrev pub ends_in : List (List ℕ) → List ℕ
ends_in words = map (from_le_bytes w32) words

-- the texts that bytes encode
abbrev pub texts_meaning : List ℕ → List (Option (List ℕ))
texts_meaning bytes = texts_of (mask_in bytes)
    (ends_in (first_chunks 4 (count_in bytes) (fields_in bytes)))
    (drop (4 * count_in bytes) (fields_in bytes))

-- the bytes are a far form of texts
pub record IsTextsForm (bytes : List ℕ) : Type 0 where
  pub texts : AreTexts (texts_meaning bytes)
  pub is : bytes ≡ texts_form (texts_meaning bytes)

-- text i of these parts is valid: it extends from the end before it to its own end, within the text bytes; a missing text has no bytes, and
-- any other is UTF-8
pub record IsTextAt (mask ends body : List ℕ) (i : ℕ) : Type 0 where
  pub ordered : slice_index (0 ∷ ends) i ≤ slice_index ends i
  pub inside : slice_index ends i ≤ length body
  pub missing : is_missing mask i ≡ true → slice_index ends i ≡ slice_index (0 ∷ ends) i
  pub there : is_missing mask i ≡ false
      → IsUtf8 (slice_range body (slice_index (0 ∷ ends) i) (slice_index ends i))

-- the parts are parts of a form of texts: each text is valid, and the last ends where the text bytes end
pub record AreTextParts (mask ends body : List ℕ) : Type 0 where
  pub each : (i : ℕ) → i < length ends → IsTextAt mask ends body i
  pub whole : slice_index (0 ∷ ends) (length ends) ≡ length body

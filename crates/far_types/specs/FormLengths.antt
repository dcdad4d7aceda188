-- How many bytes a far form has: the encoding of the values of one column and row group in the far store.
use Rattle.std.specs.Prelude.{ℕ, ◌+◌, ◌*◌, ◌/◌, ℤ, cond, List, length, sum_by, Option, is_none}
use Rattle.std.specs.List.{list_any}
use Rattle.std.specs.Option.{option_map_or}

-- how many bytes the mask has: one bit for each value, in whole bytes, if a value is missing; else none
abbrev pub mask_length : {A : Type 0} → List (Option A) → ℕ
mask_length values = cond (list_any is_none values) ((length values + 7) / 8) 0

-- how many bytes all texts have; a missing text has none
abbrev pub text_bytes : List (Option (List ℕ)) → ℕ
text_bytes texts = sum_by (λ text. option_map_or length text 0) texts

-- how many bytes the far form of numbers has: a head of 6 bytes, the mask, and 8 bytes for each number
abbrev pub ints_length : List (Option ℤ) → ℕ
ints_length numbers = 6 + mask_length numbers + 8 * length numbers

-- how many bytes the far form of texts has: a head of 6 bytes, the mask, 4 bytes for the end of each text, and the bytes of the texts
abbrev pub texts_length : List (Option (List ℕ)) → ℕ
texts_length texts = 6 + mask_length texts + 4 * length texts + text_bytes texts

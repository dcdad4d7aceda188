-- Far forms: the encoding of the values of one column and row group in the far store.
use Rattle.std.specs.Prelude.{ℕ, ◌+◌, ◌*◌, ◌/◌, Bool, ◌<◌, ◌^◌, cond, ℤ, FitsSigned, List, [], ◌∷◌, ◌++◌, length, map, take, drop, All, Option, is_none}
use Rattle.std.specs.List.{list_any, flat_map, range_with_len}
use Rattle.std.specs.Option.{option_map_or, IfSome}
use Rattle.std.specs.Int.{w32, w64, to_le_bytes, cast_unsigned}

-- a byte with one bit for each of up to eight flags; the lowest bit is the first flag
abbrev pub mask_byte : List Bool → ℕ
mask_byte [] = 0
mask_byte (missing ∷ flags) = cond missing 1 0 + 2 * mask_byte flags

-- whether at least one value is missing
abbrev pub some_missing : List Bool → Bool
some_missing flags = list_any (λ missing. missing) flags

-- the flags packed into bytes, eight a byte
unfoldable pub mask_bytes : List Bool → List ℕ
mask_bytes flags = map (λ k. mask_byte (take 8 (drop (8 * k) flags)))
    (range_with_len 0 ((length flags + 7) / 8))

-- the mask, which marks the missing values; it is empty if none is missing
unfoldable pub mask_of : List Bool → List ℕ
mask_of flags = cond (some_missing flags) (mask_bytes flags) []

-- the first byte: 2 if a value is missing, else 1
abbrev pub version : List Bool → ℕ
version flags = cond (some_missing flags) 2 1

-- the bytes before the values: the version, the kind (0 for numbers, 1 for texts), the count, and the mask. The flags say which values are
-- missing
unfoldable pub head : ℕ → List Bool → List ℕ
head kind flags = version flags ∷ kind ∷ to_le_bytes w32 (length flags) ++ mask_of flags

-- the eight bytes of a number in two's complement; a missing number has eight bytes of 0
unfoldable pub number_bytes : Option ℤ → List ℕ
number_bytes number = to_le_bytes w64 (option_map_or (cast_unsigned w64) number 0)

-- the far form of numbers
unfoldable pub ints_form : List (Option ℤ) → List ℕ
ints_form numbers = head 0 (map is_none numbers) ++ flat_map number_bytes numbers

-- the list is short enough for a form to count it in four bytes
abbrev pub FitsCount : {A : Type 0} → List A → Type 0
FitsCount values = length values < 2 ^ 32

-- numbers that have a far form
pub record AreInts (numbers : List (Option ℤ)) : Type 0 where
  pub range : All (λ number. IfSome number (FitsSigned w64)) numbers
  pub count : FitsCount numbers

-- What the bytes of a far form encode.
use Rattle.std.specs.Prelude.{◌≡◌, ℕ, ◌+◌, ◌/◌, ◌%◌, Bool, ◌==◌, cond, ℤ, List, [], length, map, take, drop, Option, None, Some, slice_index, slice_index_or}
use Rattle.std.specs.List.{range_with_len}
use Rattle.std.specs.Int.{w32, w64, bit_at, from_le_bytes, cast_signed}
use Rattle.std.specs.Simd.{first_chunks}
use Rattle.far_codec.specs.FarForm.{ints_form, AreInts}

-- how many values the form has, as its head says
abbrev pub count_in : List ℕ → ℕ
count_in bytes = from_le_bytes w32 (drop 2 bytes)

-- the mask, which is after the head if the first byte is 2
abbrev pub mask_in : List ℕ → List ℕ
mask_in bytes = cond (slice_index bytes 0 == 2)
    (take ((count_in bytes + 7) / 8) (drop 6 bytes)) []

-- the bytes after the mask
abbrev pub fields_in : List ℕ → List ℕ
fields_in bytes = drop (6 + length (mask_in bytes)) bytes

-- value i is missing if bit i mod 8 of mask byte i / 8 is set
abbrev pub is_missing : List ℕ → ℕ → Bool
is_missing mask i = bit_at (slice_index mask (i / 8)) (i % 8) == 1

-- for each value, whether the mask marks it as missing
abbrev pub flags_of : List ℕ → ℕ → List Bool
flags_of mask count = map (is_missing mask) (range_with_len 0 count)

-- the number that eight bytes encode
unfoldable pub number_of : List ℕ → ℤ
number_of bytes = cast_signed w64 (from_le_bytes w64 bytes)

-- the numbers that a mask and words of eight bytes encode
abbrev pub numbers_of : List ℕ → List (List ℕ) → List (Option ℤ)
numbers_of mask words = map
    (λ i. cond (is_missing mask i) None (Some (number_of (slice_index_or words i []))))
    (range_with_len 0 (length words))

-- the numbers that bytes encode
abbrev pub ints_meaning : List ℕ → List (Option ℤ)
ints_meaning bytes = numbers_of (mask_in bytes) (first_chunks 8 (count_in bytes) (fields_in bytes))

-- the bytes are a far form of numbers
pub record IsIntsForm (bytes : List ℕ) : Type 0 where
  pub ints : AreInts (ints_meaning bytes)
  pub is : bytes ≡ ints_form (ints_meaning bytes)

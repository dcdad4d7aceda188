-- Lists of numbers, none of which is missing.
use Rattle.std.specs.Prelude.{◌≡◌, ℕ, ◌+◌, ◌*◌, ℤ, FitsSigned, List, ◌∷◌, length, map, take, drop, Option, Some, IsSomeAnd}
use Rattle.std.specs.Int.{w32, w64, to_le_bytes}
use Rattle.std.specs.Simd.{first_chunks}
use Rattle.far_codec.specs.FarForm.{ints_form}
use Rattle.far_codec.specs.Reading.{count_in, number_of}

-- the far form of numbers, none of which is missing
abbrev pub plain_form : List ℤ → List ℕ
plain_form numbers = ints_form (map Some numbers)

-- the numbers that bytes encode after a head without a mask
abbrev pub plain_meaning : List ℕ → List ℤ
plain_meaning bytes = map number_of (first_chunks 8 (count_in bytes) (drop 6 bytes))

-- the bytes are a head without a mask, followed by the words
pub record IsPlain (bytes : List ℕ) (words : List (List ℕ)) : Type 0 where
  pub head : take 6 bytes ≡ 1 ∷ 0 ∷ to_le_bytes w32 (length words)
  pub words_are : words ≡ first_chunks 8 (length words) (drop 6 bytes)
  pub len : length bytes ≡ 6 + 8 * length words

-- the number is not missing, and fits 64 bits
abbrev pub IsThere : Option ℤ → Type 0
IsThere number = IsSomeAnd number (FitsSigned w64)

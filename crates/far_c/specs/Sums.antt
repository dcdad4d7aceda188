-- Sums in two words.
use Rattle.std.specs.Prelude.{◌≡◌, ℕ, ℤ, ◌+◌, ◌*◌, ◌^◌}
use Rattle.std.specs.Int.{cast_unsigned, w64, w128}

-- the words of a number of 128 bits in two's complement, the low one first
abbrev pub AreWordsOf : ℤ → ℕ → ℤ → Type 0
AreWordsOf sum low high = cast_unsigned w128 sum ≡ cast_unsigned w64 high * 2 ^ 64 + low

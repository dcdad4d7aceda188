-- How digits are read as numbers.
use Rattle.std.specs.Prelude.{ℕ, ◌+◌, ◌-◌, ◌*◌, ◌^◌, ◌==◌, nat_lt, ℤ, pos, neg_ℤ, List, [], ◌∷◌, Option, None, Some, option_map, if◌then◌else◌}
use Rattle.std.specs.Char.{is_ascii_digit}

-- n followed by these decimal digits, as a number
abbrev pub digits_from : ℕ → List ℕ → Option ℕ
digits_from n [] = Some n
digits_from n (c ∷ cs) = if is_ascii_digit c then digits_from (n * 10 + (c - 48)) cs else None

-- the number of a text of one or more decimal digits
abbrev pub digits_of : List ℕ → Option ℕ
digits_of [] = None
digits_of (c ∷ cs) = digits_from 0 (c ∷ cs)

-- a number, if it is below a limit
abbrev pub below : ℕ → Option ℕ → Option ℕ
below limit None = None
below limit (Some n) = if nat_lt n limit then Some n else None

-- the number of a word: decimal digits without a sign, below 2^32
abbrev pub number_of : List ℕ → Option ℕ
number_of word = below (2 ^ 32) (digits_of word)

-- the number of a word: decimal digits without a sign, below 2^64
abbrev pub long_number_of : List ℕ → Option ℕ
long_number_of word = below (2 ^ 64) (digits_of word)

-- the number of a cell: an optional sign and decimal digits, in the range of a signed 64-bit number
abbrev pub signed_number_of : List ℕ → Option ℤ
signed_number_of [] = None
signed_number_of (c ∷ cs) =
    if c == 45 then option_map (λ n. neg_ℤ (pos n)) (below (2 ^ 63 + 1) (digits_of cs))
    else if c == 43 then option_map pos (below (2 ^ 63) (digits_of cs))
    else option_map pos (below (2 ^ 63) (digits_of (c ∷ cs)))

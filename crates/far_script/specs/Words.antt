-- The words of a line, separated by one space each. A rest is `None` once the last word was taken.
use Rattle.std.specs.Prelude.{ℕ, ◌==◌, Bool, false, nat_lt, List, [], length, Option, None, Some, option_map, option_and_then, is_none, if◌then◌else◌}
use Rattle.std.specs.Option.{option_map_or}
use Rattle.std.specs.Cmp.Lexicographic.{pointwise}
use Rattle.std.specs.List.{position_or_len, before_first, after_first, slice_split}
use Rattle.far_script.specs.Numbers.{number_of, long_number_of}

-- whether a byte is a space
abbrev pub is_space : ℕ → Bool
is_space c = c == 32

-- the first word of a text
abbrev pub word_of : List ℕ → List ℕ
word_of text = before_first is_space text

-- the text after the first word and its space, if there is a space
abbrev pub rest_of : List ℕ → Option (List ℕ)
rest_of text = if nat_lt (position_or_len is_space text) (length text)
    then Some (after_first is_space text)
    else None

-- the next word, if there is one
abbrev pub word_in : Option (List ℕ) → Option (List ℕ)
word_in left = option_map word_of left

-- the rest after the next word
abbrev pub after : Option (List ℕ) → Option (List ℕ)
after left = option_and_then rest_of left

-- the next word as a number below 2^32
abbrev pub number_in : Option (List ℕ) → Option ℕ
number_in left = option_and_then number_of (word_in left)

-- the next word as a number below 2^64
abbrev pub long_number_in : Option (List ℕ) → Option ℕ
long_number_in left = option_and_then long_number_of (word_in left)

-- the next word as a number below 2^32, if it is the last word
abbrev pub last_number_in : Option (List ℕ) → Option ℕ
last_number_in left = if is_none (after left) then number_in left else None

-- the next word as a number below 2^64, if it is the last word
abbrev pub last_long_number_in : Option (List ℕ) → Option ℕ
last_long_number_in left = if is_none (after left) then long_number_in left else None

-- all remaining words
abbrev pub words_in : Option (List ℕ) → List (List ℕ)
words_in None = []
words_in (Some text) = slice_split is_space text

-- whether two words are equal
abbrev pub reads : List ℕ → List ℕ → Bool
reads word name = pointwise ◌==◌ word name

-- whether the next word is this one
abbrev pub is_next : Option (List ℕ) → List ℕ → Bool
is_next left name = option_map_or (λ word. reads word name) (word_in left) false

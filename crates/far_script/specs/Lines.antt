-- The lines of a script.
use Rattle.std.specs.Prelude.{◌≡◌, ℕ, Bool, false, ◌==◌, List, [], ◌∷◌, ◌++◌}
use Rattle.std.specs.List.{list_any}
use Rattle.std.specs.Io.BufRead.{strip_last}

-- whether a byte is a line feed
abbrev pub is_line_feed : ℕ → Bool
is_line_feed c = c == 10

-- a line without the carriage return at its end
abbrev pub without_return : List ℕ → List ℕ
without_return line = strip_last 13 line

-- a text without a line feed
abbrev pub IsOneLine : List ℕ → Type 0
IsOneLine line = list_any is_line_feed line ≡ false

-- the bytes are exactly these lines, each of which is empty, but for a carriage return, and has its line feed
abbrev pub Blank : List ℕ → List (List ℕ) → Type 0
Blank bytes [] = bytes ≡ []
Blank bytes (line ∷ lines) = (rest : List ℕ) × (without_return line ≡ [])
    × (bytes ≡ line ++ 10 ∷ rest)
    × Blank rest lines

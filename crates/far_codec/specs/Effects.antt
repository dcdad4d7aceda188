-- A list of texts after one of them changes.
-- Internal: no public contract cites it.
use Rattle.std.specs.Prelude.{ℕ, ◌+◌, List, ◌∷◌, ◌++◌, take, drop, Option}

-- the texts with text i replaced by `text`, or with `text` appended if i is their count
abbrev pub with_text : List (Option (List ℕ)) → ℕ → Option (List ℕ)
    → List (Option (List ℕ))
with_text texts i text = take i texts ++ text ∷ drop (i + 1) texts

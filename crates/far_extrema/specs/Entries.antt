-- The holdings of keys, by the kind of key: no key, numbers, and texts.
-- Internal: no public contract cites it.
use Rattle.std.specs.Prelude.{◌≡◌, ℕ, ℤ, List, [], ◌∷◌, ◌++◌, map, Option, None, Some, cond}
use Rattle.std.specs.List.{filter_map}
use Rattle.std.specs.Map.{lookup}
use Rattle.std.specs.BTreeMap.{is_at}
use Rattle.std.specs.Ordering.{nat_cmp}
use Rattle.std.specs.Cmp.Lexicographic.{slice_cmp}
use Rattle.far_types.specs.declared.key.Key.{Key}
use Rattle.far_types.specs.declared.key.Key.TheVariants.{Int, Text}
use Rattle.far_extrema.specs.Holders.{Holding, holders_of, line_of, AreAllCleared}

-- keys with their holdings
abbrev pub Entries : Type 0
Entries = List (Option Key × Holding)

-- the holding of no key, as entries by key
abbrev pub plain_entries : Option Holding → Entries
plain_entries None = []
plain_entries (Some holding) = (None, holding) ∷ []

-- the holdings of numbers, as entries by key
abbrev pub numbered : List (ℤ × Holding) → Entries
numbered entries = map (λ (entry : ℤ × Holding). (Some (Int entry.0), entry.1)) entries

-- the holdings of texts, as entries by key
abbrev pub texted : List (List ℕ × Holding) → Entries
texted entries = map (λ (entry : List ℕ × Holding). (Some (Text entry.0), entry.1)) entries

-- the entries of all kinds of keys, in the order of keys
abbrev pub entries_in : Option Holding → List (ℤ × Holding) → List (List ℕ × Holding)
    → Entries
entries_in plain numbers texts = plain_entries plain ++ (numbered numbers ++ texted texts)

-- the lines of entries in an answer; a key that is only reserved has none
abbrev pub lines_of : Entries → List (Option Key × ℤ × ℤ)
lines_of entries = filter_map line_of entries

-- whether the lines of entries are appended to other lines
abbrev pub Adds : List (Option Key × ℤ × ℤ) → Entries → List (Option Key × ℤ × ℤ)
    → Type 0
Adds old entries new = new ≡ old ++ lines_of entries

-- whether a row group is removed from all entries, and the same keys are reserved as before
abbrev pub AreEntriesCleared : ℕ → Entries → Entries → Type 0
AreEntriesCleared group old new = AreAllCleared group (holders_of old) (holders_of new)

-- the holding of a text
abbrev pub text_at : List (List ℕ × Holding) → List ℕ → Option Holding
text_at texts t = lookup (is_at (slice_cmp nat_cmp t)) texts

-- whether a text has this holding, or none, and all other texts are unchanged
abbrev pub IsTextAt : List (List ℕ × Holding) → List ℕ → Option Holding
    → List (List ℕ × Holding) → Type 0
IsTextAt old t o new = (u : List ℕ)
    → text_at new u ≡ cond (is_at (slice_cmp nat_cmp t) u) o (text_at old u)

-- The keys of an answer, in the order of its lines.
use Rattle.std.specs.Prelude.{◌≡◌, ◌≢◌, ℕ, List, map, Option, Some, slice_get}
use Rattle.std.specs.List.Sorted.{IsStrictlySortedBy}
use Rattle.far_types.specs.declared.answer.Answer.{Answer}
use Rattle.far_types.specs.declared.answer.Answer.TheVariants as answer
use Rattle.far_types.specs.declared.cell.Cell.{Cell}
use Rattle.far_types.specs.declared.key.Key.{Key}
use Rattle.far_types.specs.Cells.{key_in}
use Rattle.far_types.specs.Keys.{line_cmp}

-- the keys of some lines
abbrev pub keys_in : {A B : Type 0} → List (Option Key × A × B) → List (Option Key)
keys_in lines = map (λ line. line.0) lines

-- the keys of an answer
abbrev pub keys_of : Answer → List (Option Key)
keys_of (answer.Totals lines) = keys_in lines
keys_of (answer.Extrema lines) = keys_in lines

-- each key is below those after it
abbrev pub Ascend : List (Option Key) → Type 0
Ascend keys = IsStrictlySortedBy line_cmp keys

-- the key that a cell names: none if it has no value
abbrev pub key_of : Cell → Option Key
key_of cell = key_in (Some cell)

-- the key at an index is this one
abbrev pub IsKeyAt : List (Option Key) → ℕ → Option Key → Type 0
IsKeyAt keys index key = slice_get keys index ≡ Some key

-- no key in the list is this one
abbrev pub IsNoKeyOf : List (Option Key) → Option Key → Type 0
IsNoKeyOf keys key = (index : ℕ) → slice_get keys index ≢ Some key

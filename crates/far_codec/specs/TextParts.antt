-- When ends and text bytes are parts of a form of texts.
-- Internal: no public contract cites it.
use Rattle.std.specs.Prelude.{◌≡◌, ℕ, ◌<◌, ◌≤◌, true, List, ◌∷◌, length, slice_index, slice_range}
use Rattle.std.specs.Str.{IsUtf8}
use Rattle.far_codec.specs.Reading.{is_missing}

-- the ends ascend from 0 to `last`
pub record Ascend (ends : List ℕ) (last : ℕ) : Type 0 where
  pub each : (i : ℕ) → i < length ends → slice_index (0 ∷ ends) i ≤ slice_index ends i
  pub whole : slice_index (0 ∷ ends) (length ends) ≡ last

-- a missing text ends where it begins
abbrev pub MissingAreEmpty : List ℕ → List ℕ → Type 0
MissingAreEmpty mask ends = (i : ℕ) → i < length ends → is_missing mask i ≡ true
    → slice_index ends i ≡ slice_index (0 ∷ ends) i

-- the bytes of each text are UTF-8; a missing text has none
abbrev pub AreUtf8 : List ℕ → List ℕ → Type 0
AreUtf8 ends body = (i : ℕ) → i < length ends
    → IsUtf8 (slice_range body (slice_index (0 ∷ ends) i) (slice_index ends i))

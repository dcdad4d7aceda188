-- How many local objects are not hot.
-- Internal: no public contract cites it.
use Rattle.std.specs.Prelude.{◌≡◌, ℕ, if◌then◌else◌, List, sum_by}
use Rattle.far_pointer.specs.declared.pointer.Pointer.{Pointer}
use Rattle.far_pointer.specs.declared.pointer.Pointer.TheVariants.{Local, Remote}
use Rattle.far_log.specs.RegionState.{RegionState}
use Rattle.far_scopes.specs.Memory.{IsMemory}

-- 1 for the word of a local object that is not hot, else 0
abbrev pub cool_of : Pointer → ℕ
cool_of (Local at dirty hot far) = if hot then 0 else 1
cool_of Remote = 0

-- how many of these words belong to local objects that are not hot
abbrev pub cool_in : List Pointer → ℕ
cool_in words = sum_by cool_of words

-- the words and the region are a local memory, and `cool` is how many of its objects are local and not hot
pub record IsCounted {X : Type 0} (words : List Pointer) (state : RegionState X)
    (cool : ℕ) : Type 0 where
  pub memory : IsMemory words state
  pub count : cool ≡ cool_in words

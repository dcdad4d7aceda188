-- The location of a number's note. A chunk has the notes of 256 numbers, and group g has 2 ^ g
-- chunks.
use Rattle.std.specs.Prelude.{◌≡◌, ℕ, ◌+◌, ◌-◌, ◌/◌, ◌%◌, ◌^◌, List, Some, map, slice_get}
use Rattle.std.specs.Int.{w64, leading_zeros}
use Rattle.boxcar.specs.Slot.{Named}

-- the chunk of a number, counted from 1 over all groups
abbrev pub count_at : ℕ → ℕ
count_at number = number / 256 + 1

-- the group of a number: chunk c, so counted, is in the group g for which 2 ^ g is the highest
-- power of two up to c
unfoldable pub group_of : ℕ → ℕ
group_of number = 63 - leading_zeros w64 (count_at number)

-- the chunk of a number, counted in its group
unfoldable pub chunk_of : ℕ → ℕ
chunk_of number = count_at number - 2 ^ group_of number

-- the index of a number in its chunk
unfoldable pub place_of : ℕ → ℕ
place_of number = number % 256

-- the ids of slots
abbrev pub ids : List Named → List ℕ
ids slots = map (λ slot. slot.id) slots

-- among the slots with these ids, the one at this index has this id
abbrev pub LiesAt : List ℕ → ℕ → ℕ → Type 0
LiesAt slots place slot = slice_get slots place ≡ Some slot

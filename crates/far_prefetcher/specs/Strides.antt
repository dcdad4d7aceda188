-- Which row groups of a column the prefetcher proposes, given the accesses so far.
use Rattle.std.specs.Prelude.{ℕ, Bool, ℤ, pos, negsuc, ◌+ℤ◌, ◌-ℤ◌, List, [], ◌∷◌, ◌++◌, Option, None, Some, if◌then◌else◌, nat_lt, not, ◌&&◌, slice_index_or, filter_map}
use Rattle.std.specs.Ordering.{int_eq}
use Rattle.circular_buffer.specs.Buffer.{keep_last}

-- the history of a column, empty if there is no such column
abbrev pub history_of : List (List ℕ) → ℕ → List ℕ
history_of histories column = slice_index_or histories column []

-- the history after one more access: the last eight groups, oldest first
abbrev pub with_access : List ℕ → ℕ → List ℕ
with_access history group = keep_last 8 (history ++ group ∷ [])

-- the signed distance from one group to another
abbrev pub difference : ℕ → ℕ → ℤ
difference from to = pos to -ℤ pos from

-- whether three differences form a stride: they are equal and not 0
abbrev pub is_stride : ℤ → ℤ → ℤ → Bool
is_stride first second third = int_eq first second
    && int_eq second third
    && not (int_eq third (pos 0))

-- the group of this number, if it exists
abbrev pub existing : ℕ → ℤ → Option ℕ
existing groups (pos group) = if nat_lt group groups then Some group else None
existing groups (negsuc below) = None

-- the next two groups of a stride, without those that do not exist. The stride is the distance between the last two groups
abbrev pub next_two : ℕ → ℕ → ℕ → List ℕ
next_two groups before last =
    let stride = difference before last
    in filter_map (existing groups)
    ((pos last +ℤ stride) ∷ (pos last +ℤ stride +ℤ stride) ∷ [])

-- the proposals after accesses to four groups, oldest first: the next two groups of their stride, if they have one
abbrev pub proposed_after : ℕ → List ℕ → List ℕ
proposed_after groups (a ∷ b ∷ c ∷ d ∷ []) =
    if is_stride (difference a b) (difference b c) (difference c d) then next_two groups c d else []
proposed_after groups _ = []

-- the groups that are proposed for a column with this history
abbrev pub proposed : ℕ → List ℕ → List ℕ
proposed groups history = proposed_after groups (keep_last 4 history)

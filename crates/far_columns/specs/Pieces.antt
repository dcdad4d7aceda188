-- A part of a vector, row group by row group.
use Rattle.std.specs.Prelude.{ℕ, ◌+◌, ◌-◌, ◌*◌, ◌/◌, if◌then◌else◌, nat_lt, min, max, List, map, slice_range}
use Rattle.std.specs.List.{range_with_len}

-- the first row group of this size with some of the places `from` up to `to`
abbrev pub first_overlapped : ℕ → ℕ → ℕ
first_overlapped size from = from / size

-- how many row groups of this size have some of the places `from` up to `to`
abbrev pub overlapped_count : ℕ → ℕ → ℕ → ℕ
overlapped_count size from to = if nat_lt from to then (to - 1) / size + 1 - from / size else 0

-- the numbers of the row groups of this size with some of the places `from` up to `to`
abbrev pub overlapped_groups : ℕ → ℕ → ℕ → List ℕ
overlapped_groups size from to =
    range_with_len (first_overlapped size from) (overlapped_count size from to)

module _ {X : Type 0} where
  -- the elements of row group g among the elements `from` up to `to`
  abbrev pub piece : List X → ℕ → ℕ → ℕ → ℕ → List X
  piece elements size from to g =
      slice_range elements (max from (g * size)) (min to (g * size + size))

  -- the elements `from` up to `to`, as a list for each row group that has some of them
  abbrev pub pieces_of : List X → ℕ → ℕ → ℕ → List (List X)
  pieces_of elements size from to =
      map (piece elements size from to) (overlapped_groups size from to)

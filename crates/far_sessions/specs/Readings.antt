-- The reading of the four words of a cell.
use Rattle.std.specs.Prelude.{ℕ, ◌+◌, ◌*◌, ◌^◌, ℤ, List, slice_index}
use Rattle.std.specs.Int.{cast_signed, w128}
use Rattle.far_sessions.specs.declared.reading.Reading.{Reading}

-- the sum that two words encode in two's complement
abbrev pub sum_in : List ℕ → ℤ
sum_in words = cast_signed w128 (slice_index words 2 + slice_index words 3 * 2 ^ 64)

-- the reading that four words encode: the number of edits, the count and the sum
abbrev pub reading_in : List ℕ → Reading
reading_in words = record
    { edits = slice_index words 0; count = slice_index words 1; sum = sum_in words }

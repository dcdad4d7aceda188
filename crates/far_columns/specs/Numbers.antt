-- A column of numbers in objects: its numbers, and how parts of it are lent with their alive flags.
use Rattle.std.specs.Prelude.{ℕ, ℤ, Bool, List, [], ◌∷◌, length, take, drop, Option}
use Rattle.far_codec.specs.Reading.{ints_meaning}
use Rattle.far_scopes.specs.Movement.{Movement, list_of}
use Rattle.far_columns.specs.Vector.{Vector, elements}

-- numbers that may be missing
abbrev pub Numbers : Type 0
Numbers = List (Option ℤ)

-- the lists of objects whose elements are numbers
abbrev pub number_lists : {K : Type 0} → (K → List ℕ) → Movement (Option ℤ) K → ℕ
    → Option Numbers
number_lists content m = list_of ints_meaning content m

-- the numbers of a column
abbrev pub numbers_in : {K : Type 0} → (K → List ℕ) → Movement (Option ℤ) K
    → Vector (Option ℤ) → Numbers
numbers_in content m c = elements (number_lists content m) c

-- each piece with the flags of its places; the pieces are of adjacent places
abbrev pub with_flags : List Numbers → List Bool → List (Numbers × List Bool)
with_flags [] flags = []
with_flags (piece ∷ pieces) flags =
    (piece, take (length piece) flags) ∷ with_flags pieces (drop (length piece) flags)

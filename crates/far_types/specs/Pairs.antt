-- The pairs that rows contribute to an aggregate: a key and a value for each folded row.
use Rattle.std.specs.Prelude.{ℕ, ℤ, List, filter, Option, None, Some, option_map, cond, FitsSigned}
use Rattle.std.specs.Int.{w64}
use Rattle.std.specs.List.{filter_map, AllByRecursion}
use Rattle.far_types.specs.declared.cell.Cell.{Cell}
use Rattle.far_types.specs.declared.key.Key.{Key}
use Rattle.far_types.specs.declared.key.Key.TheVariants as key
use Rattle.far_types.specs.declared.spec.Spec.{Spec}
use Rattle.far_types.specs.Cells.{Cells, cells_of, number_in, key_in}
use Rattle.far_types.specs.Filters.{keeps}

-- the key of a folded row, none in an aggregate without a key column, and its value
abbrev pub Pair : Type 0
Pair = Option Key × ℤ

-- the key of a pair, if it is a text
abbrev pub text_under : Option Pair → Option (List ℕ)
text_under (Some (Some (key.Text text), value)) = Some text
text_under (Some (Some (key.Int number), value)) = None
text_under (Some (None, value)) = None
text_under None = None

-- the key of a row: nothing if its cell in the key column has no value
abbrev pub key_under : Option ℕ → Cells → Option (Option Key)
key_under None cells = Some None
key_under (Some column) cells = option_map Some (key_in (cells column))

-- a pair, if there is both a key and a value
abbrev pub paired : Option (Option Key) → Option ℤ → Option Pair
paired (Some key) (Some value) = Some (key, value)
paired (Some key) None = None
paired None value = None

-- the pair of a kept row: the row is folded if it has a value and, with a key column, a key
abbrev pub pair_in : Spec → Cells → Option Pair
pair_in spec cells = paired (key_under spec.key cells) (number_in (cells spec.value))

-- the pair of a row that is kept and folded
abbrev pub pair_of : Spec → Cells → Option Pair
pair_of spec cells = cond (keeps spec.filter cells) (pair_in spec cells) None

-- the pairs of the folded rows, in order: those of the rows that the filter keeps
abbrev pub pairs_of : Spec → List (List Cell) → List Pair
pairs_of spec rows = filter_map (λ row. pair_in spec (cells_of row))
    (filter (λ row. keeps spec.filter (cells_of row)) rows)

-- the values of pairs are numbers of 64 bits
abbrev pub PairsFit : List Pair → Type 0
PairsFit pairs = AllByRecursion (λ (pair : Pair). FitsSigned w64 pair.1) pairs

-- Totals with pairs folded into them, one after another.
-- Internal: no public contract cites it.
use Rattle.std.specs.Prelude.{◌≡◌, ◌^◌, ◌<◌, List, [], ◌∷◌, FitsSigned}
use Rattle.std.specs.Int.{w64}
use Rattle.std.specs.FinMap as fin
use Rattle.far_types.specs.Pairs.{Pair}
use Rattle.far_types.specs.Answers.{Totals}
use Rattle.far_types.specs.Effects.{with_pair, count_in}
use Rattle.far_groups.specs.CountSums.{AreCountSums}

-- totals with pairs folded into them
abbrev pub with_pairs : Totals → List Pair → Totals
with_pairs totals [] = totals
with_pairs totals (pair ∷ pairs) = with_pairs (with_pair totals pair) pairs

-- whether pairs can be folded one after another: each value is a number of 64 bits, and its key has fewer than 2^26 values by then
abbrev pub CanFoldAll : Totals → List Pair → Type 0
CanFoldAll totals [] = Unit {0}
CanFoldAll totals (pair ∷ pairs) = FitsSigned w64 pair.1
    × (count_in (fin.get totals pair.0) < 2 ^ 26) × CanFoldAll (with_pair totals pair) pairs

-- whether totals result from a start with pairs folded into it
abbrev pub HasFolded : Totals → List Pair → Totals → Type 0
HasFolded start pairs totals = AreCountSums start × CanFoldAll start pairs
    × (totals ≡ with_pairs start pairs)

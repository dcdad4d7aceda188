-- The row groups of one key in order, side by side with their min-maxes.
-- Internal: no public contract cites it.
use Rattle.std.specs.Prelude.{◌≡◌, ◌==◌, ◌+◌, ◌<◌, ◌≤◌, ℕ, ℤ, List, [], ◌∷◌, ◌++◌, Option, None, Some, Bool, false, length, slice_index, slice_set, Box}
use Rattle.std.specs.declared.alloc.Global.{Global}
use Rattle.far_types.specs.Effects.{join_min_maxes, merge_two}
use Rattle.far_extrema.specs.Spreads.{MinMaxes, at, IsFrom, IsBelow, IsTopOf}

-- row groups and their min-maxes, side by side
abbrev pub paired : List ℕ → List (ℤ × ℤ) → MinMaxes
paired [] xs = []
paired (g ∷ gs) [] = []
paired (g ∷ gs) (x ∷ xs) = (g, x) ∷ paired gs xs

-- whether row groups ascend, and none is before this one
abbrev pub RiseFrom : ℕ → List ℕ → Type 0
RiseFrom low [] = Unit {0}
RiseFrom low (g ∷ gs) = (low ≤ g) × RiseFrom (g + 1) gs

-- whether row groups ascend, and each has a min-max
abbrev pub AreInOrder : List ℕ → List (ℤ × ℤ) → Type 0
AreInOrder gs xs = RiseFrom 0 gs × (length xs ≡ length gs)

-- whether a row group is at this index
pub record IsAt (gs : List ℕ) (g i : ℕ) : Type 0 where
  pub in_range : i < length gs
  pub is : slice_index gs i ≡ g

-- whether a row group can be inserted at this index: all row groups before the index are lower, and all from it on are higher
pub record IsGap (gs : List ℕ) (g i : ℕ) : Type 0 where
  pub in_range : i ≤ length gs
  pub before : (k : ℕ) → k < i → slice_index gs k < g
  pub after : (k : ℕ) → i ≤ k → k < length gs → g < slice_index gs k

-- the join of min-maxes, from the last one to the first
abbrev pub joined_values : List (ℤ × ℤ) → Option (ℤ × ℤ)
joined_values [] = None
joined_values (x ∷ xs) = merge_two join_min_maxes (joined_values xs) (Some x)

-- whether, for any other min-maxes, the joined min-max only needs to be joined with `now` where `now` replaces `previous`
abbrev pub IsKept : Option (ℤ × ℤ) → ℤ × ℤ → Option (ℤ × ℤ) → Type 0
IsKept top previous now = (rest : Option (ℤ × ℤ))
    → merge_two join_min_maxes rest (Some previous) ≡ top
    → merge_two join_min_maxes rest now ≡ merge_two join_min_maxes top now

-- the state of a run: the min-maxes of row groups, and their joined min-max
pub record RunState : Type 0 where
  pub min_maxes : MinMaxes
  pub top : Option (ℤ × ℤ)

-- the min-maxes, and before them the min-max of the last row group, if there is one
abbrev pub with_last : Option (ℕ × (ℤ × ℤ)) → MinMaxes → MinMaxes
with_last None min_maxes = min_maxes
with_last (Some last) min_maxes = last ∷ min_maxes

-- the min-maxes of some runs, if there are any
abbrev pub min_maxes_of : Option (Box RunState Global) → MinMaxes
min_maxes_of None = []
min_maxes_of (Some runs) = runs.value.min_maxes

-- the joined min-max of some runs, if there are any
abbrev pub top_of : Option (Box RunState Global) → Option (ℤ × ℤ)
top_of None = None
top_of (Some runs) = runs.value.top

-- the min-max of the last row group, if there is one
abbrev pub value_of : Option (ℕ × (ℤ × ℤ)) → Option (ℤ × ℤ)
value_of None = None
value_of (Some last) = Some last.1

-- whether the last row group, if there is one, is none of these
abbrev pub IsApart : Option (ℕ × (ℤ × ℤ)) → MinMaxes → Type 0
IsApart None min_maxes = Unit {0}
IsApart (Some last) min_maxes = at min_maxes last.0 ≡ None

-- whether the last row group is this one
abbrev pub is_of : Option (ℕ × (ℤ × ℤ)) → ℕ → Bool
is_of None group = false
is_of (Some last) group = group == last.0

-- the min-maxes of some runs, one after another
abbrev pub whole : List RunState → MinMaxes
whole [] = []
whole (run ∷ runs) = run.min_maxes ++ whole runs

-- whether these min-maxes are before the next run, if there is one
abbrev pub IsBeforeNext : List ℕ → MinMaxes → Type 0
IsBeforeNext [] min_maxes = Unit {0}
IsBeforeNext (first ∷ firsts) min_maxes = IsBelow first min_maxes

-- whether each run only has row groups from its bound in `firsts` on, and before the bound of the next run
abbrev pub AreParts : List ℕ → List RunState → Type 0
AreParts [] [] = Unit {0}
AreParts [] (run ∷ runs) = ⊥
AreParts (first ∷ firsts) [] = ⊥
AreParts (first ∷ firsts) (run ∷ runs) = IsFrom first run.min_maxes
    × IsBeforeNext firsts run.min_maxes
    × AreParts firsts runs

-- whether the run at this index has a row group or would have it
pub record IsPart (firsts : List ℕ) (g i : ℕ) : Type 0 where
  pub in_range : i < length firsts
  pub from : slice_index firsts i ≤ g
  pub below : i + 1 < length firsts → g < slice_index firsts (i + 1)

-- whether min-maxes are cut in two parts that fit the row group to be added, or are not cut
abbrev pub IsCut : ℕ → MinMaxes → MinMaxes → Option (ℕ × RunState) → Type 0
IsCut group old early None = Unit {0}
IsCut group old early (Some late) =
    (old ≡ early ++ late.1.min_maxes)
    × IsBelow late.0 early
    × IsFrom late.0 late.1.min_maxes
    × ((low : ℕ) → IsFrom low old → low < late.0)
    × ((high : ℕ) → IsBelow high old → group < high → late.0 < high)

-- whether a row group is not before the first run
abbrev pub IsReached : List ℕ → ℕ → Type 0
IsReached [] g = ⊥
IsReached (first ∷ firsts) g = first ≤ g

-- whether this min-max, joined with the min-max of any run at this index, is the joined min-max of all runs
abbrev pub JoinsOthers : List ℕ → List RunState → ℕ → Option (ℤ × ℤ) → Type 0
JoinsOthers firsts runs place others = (run : RunState)
    → AreParts firsts (slice_set runs place run)
    → IsTopOf run.min_maxes run.top
    → IsTopOf (whole (slice_set runs place run)) (merge_two join_min_maxes others run.top)

-- whether the min-max that is kept apart with a run, if there is one, is the joined min-max of all other runs
abbrev pub IsApartFrom : List ℕ → List RunState → Option (ℕ × Option (ℤ × ℤ))
    → Type 0
IsApartFrom firsts runs None = Unit {0}
IsApartFrom firsts runs (Some apart) = JoinsOthers firsts runs apart.0 apart.1

-- The min-maxes of the row groups in which a key occurs.
-- Internal: no public contract cites it.
use Rattle.std.specs.Prelude.{◌≡◌, ◌<◌, ◌≤◌, ◌==◌, ℕ, zero, suc, ℤ, cond, List, [], ◌∷◌, Option, None, Some}
use Rattle.far_types.specs.Effects.{join_min_maxes, merge_two}

-- row groups, each with the min-max of the key there
abbrev pub MinMaxes : Type 0
MinMaxes = List (ℕ × (ℤ × ℤ))

-- the min-max of a row group, if the key occurs there
abbrev pub at : MinMaxes → ℕ → Option (ℤ × ℤ)
at [] q = None
at (one ∷ min_maxes) q = cond (q == one.0) (Some one.1) (at min_maxes q)

-- whether no row group before this one has a min-max
abbrev pub IsFrom : ℕ → MinMaxes → Type 0
IsFrom low min_maxes = (q : ℕ) → q < low → at min_maxes q ≡ None

-- whether no row group from this one on has a min-max
abbrev pub IsBelow : ℕ → MinMaxes → Type 0
IsBelow high min_maxes = (q : ℕ) → high ≤ q → at min_maxes q ≡ None

-- the joined min-max of the row groups below this one
abbrev pub joined_to : ℕ → (ℕ → Option (ℤ × ℤ)) → Option (ℤ × ℤ)
joined_to zero f = None
joined_to (suc n) f = merge_two join_min_maxes (joined_to n f) (f n)

-- whether this is the joined min-max of all row groups, or none if there is no row group
abbrev pub IsTopOf : MinMaxes → Option (ℤ × ℤ) → Type 0
IsTopOf min_maxes top = (n : ℕ) → IsBelow n min_maxes → joined_to n (at min_maxes) ≡ top

-- whether a row group has this min-max, or none, and all other row groups are unchanged
abbrev pub IsSet : MinMaxes → ℕ → Option (ℤ × ℤ) → MinMaxes → Type 0
IsSet old group min_max new = (q : ℕ) → at new q ≡ cond (q == group) min_max (at old q)

-- whether each row group has the same min-max as before
abbrev pub AreSame : MinMaxes → MinMaxes → Type 0
AreSame old new = (q : ℕ) → at new q ≡ at old q

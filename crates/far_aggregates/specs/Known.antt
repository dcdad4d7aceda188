-- The cache of the min-max under no key.
-- Internal: no public contract cites it.
use Rattle.std.specs.Prelude.{◌≡◌, ◌≢◌, ◌⊎◌, ℕ, ℤ, List, Option, None, Some, slice_get}
use Rattle.std.specs.FinMap as fin
use Rattle.far_types.specs.Answers.{Extrema}
use Rattle.far_extrema.specs.Live.{group_at}

-- each cached min-max is the min-max under no key of its row group
abbrev pub AreKnown : List (Option (ℤ × ℤ)) → List Extrema → Type 0
AreKnown plain groups = (g : ℕ) (min_max : ℤ × ℤ)
    → slice_get plain g ≡ Some (Some min_max)
    → fin.get (group_at groups g) None ≡ Some min_max

-- each min-max in the new cache is this one for this row group, or was cached before for another row group
abbrev pub IsNoted : List (Option (ℤ × ℤ)) → ℕ → Option (ℤ × ℤ)
    → List (Option (ℤ × ℤ)) → Type 0
IsNoted plain group noted new = (g : ℕ) (min_max : ℤ × ℤ)
    → slice_get new g ≡ Some (Some min_max)
    → ((g ≡ group) × (noted ≡ Some min_max))
    ⊎ ((g ≢ group) × (slice_get plain g ≡ Some (Some min_max)))

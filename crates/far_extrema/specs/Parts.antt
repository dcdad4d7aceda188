-- Where a number is kept.
-- Internal: no public contract cites it.
use Rattle.std.specs.Prelude.{◌≡◌, ◌<◌, ℤ, pos, ◌<ℤ◌, ◌≤ℤ◌}
use Rattle.far_extrema.specs.declared.numbers.Part.{Part}
use Rattle.far_extrema.specs.declared.numbers.Part.TheVariants.{Below, At, Above}

-- whether a number is below 0, at this place of the list, or above the list
abbrev pub IsPart : ℤ → Part → Type 0
IsPart n Below = n <ℤ pos 0
IsPart n (At place) = (n ≡ pos place) × (place < 2048)
IsPart n Above = pos 2048 ≤ℤ n

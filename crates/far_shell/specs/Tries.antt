-- When a session gives up an edit.
use Rattle.std.specs.Prelude.{ℕ, Bool, true, false}
use Rattle.far_types.specs.declared.refusal.Refusal.{Refusal}
use Rattle.far_types.specs.declared.refusal.Refusal.TheVariants as refusal

-- the most tries for one edit
abbrev pub most_tries : ℕ
most_tries = 10000

-- a retry cannot change this refusal: no object is away, space is not short, and memory did not run out
abbrev pub is_final : Refusal → Bool
is_final (refusal.Absent column group) = false
is_final refusal.RegionFull = false
is_final refusal.NoMemory = false
is_final _ = true

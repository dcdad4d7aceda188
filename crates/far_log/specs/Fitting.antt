-- Several lists that fit, seen segment by segment.
-- Internal: no public contract cites it.
use Rattle.std.specs.Prelude.{ℕ, ◌-◌, ◌==◌, nat_le, if◌then◌else◌, Bool, true, false, List, [], ◌∷◌, slice_set, slice_index}
use Rattle.std.specs.Option.{option_map_or}
use Rattle.far_log.specs.RegionState.{lowest_for}

-- the waiting lengths after a segment has taken those that fit, in their order: each that it took is 0
abbrev pub after_fill : ℕ → List ℕ → List ℕ
after_fill space [] = []
after_fill space (n ∷ ns) =
    if nat_le n space then 0 ∷ after_fill (space - n) ns
    else n ∷ after_fill space ns

-- whether the waiting lengths, which are those other than 0, can be placed one after another
abbrev pub waiting_fit : List ℕ → List ℕ → Bool
waiting_fit spaces [] = true
waiting_fit spaces (n ∷ ns) =
    if n == 0 then waiting_fit spaces ns
    else option_map_or (λ i. waiting_fit (slice_set spaces i (slice_index spaces i - n)) ns)
    (lowest_for spaces n) false

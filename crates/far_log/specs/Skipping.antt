-- Which segments a search for space skips.
-- Internal: no public contract cites it.
use Rattle.std.specs.Prelude.{◌≡◌, ◌≢◌, ℕ, ◌<◌, ◌≤◌}
use Rattle.far_log.specs.declared.skip.Skip.{Skip}
use Rattle.far_log.specs.RegionState.{RegionState, space_in, segment_of, IsRegion}

module _ {X : Type 0} where
  -- no segment below `next`, except `first`, has the space for `len` elements
  pub record IsSkip (state : RegionState X) (skip : Skip) : Type 0 where
    pub ordered : skip.first ≤ skip.next
    pub full : (k : ℕ) → k < skip.next → k ≢ skip.first
        → space_in (segment_of state k) < skip.len

  -- the state is a region, and a search of it may use this skip
  pub record IsSearched (state : RegionState X) (skip : Skip) : Type 0 where
    pub region : IsRegion state
    pub skipped : IsSkip state skip

-- the skip after segment `number` got this space: it skips only segments that were skipped before, and this one only if it lacks the space
pub record IsSpaced (old new : Skip) (number space : ℕ) : Type 0 where
  pub len : new.len ≡ old.len
  pub ordered : new.first ≤ new.next
  pub kept : (k : ℕ) → k < new.next → k ≢ new.first → k ≢ number
      → (k < old.next) × (k ≢ old.first)
  pub here : number < new.next → number ≢ new.first → space < old.len

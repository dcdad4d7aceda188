-- What the background worker does.
-- Internal: no public contract cites it.
use Rattle.std.specs.Prelude.{◌≡◌, ◌≢◌, ◌⊎◌, ℕ, ◌+◌, ◌%◌, ◌<◌, List, zero, suc, None, Some}
use Rattle.far_types.specs.declared.name.Name.{Name}
use Rattle.far_types.specs.declared.refusal.Refusal.{Refusal}
use Rattle.far_types.specs.declared.refusal.Refusal.TheVariants as refusal
use Rattle.far_shared.specs.Stripes.{StripeState}
use Rattle.far_shared.specs.UnderLock.{Evacuates, EvacuationFails}

module _ {K : Type 0} (number_of : K → ℕ) (content : K → List ℕ)
    (allows : ℕ → StripeState K → Type 0) where
  -- a try of an eviction on this stripe evicted nothing: no object could be evicted, or the try was refused for another reason
  -- than memory
  abbrev pub EvictsNothing : ℕ → Type 0
  EvictsNothing stripe = Evacuates number_of content (allows stripe) None
      ⊎ ((why : Refusal) × (why ≢ refusal.NoMemory)
      × (stripe < 4 → EvacuationFails number_of content (allows stripe) why))

  -- an eviction was tried on this stripe, and the count of evicted objects is one more exactly if it evicted one
  abbrev pub IsCounted : ℕ → ℕ → ℕ → Type 0
  IsCounted stripe before after = ((after ≡ before + 1)
      × ((name : Name) × Evacuates number_of content (allows stripe) (Some name)))
      ⊎ ((after ≡ before) × EvictsNothing stripe)

  -- this many evictions were tried, on stripes 0, 1, 2, 3, 0 and so on, and so many of them evicted an object
  abbrev pub AreTried : ℕ → ℕ → Type 0
  AreTried zero evicted = evicted ≡ 0
  AreTried (suc tries) evicted = (before : ℕ) × AreTried tries before
      × IsCounted (tries % 4) before evicted

-- The replies to a renewal, and the world after it.
use Rattle.std.specs.Prelude.{◌≡◌, ◌⊎◌, ℕ, ◌+◌, List, [], ◌∷◌, codes}
use Rattle.far_types.specs.declared.refusal.Refusal.{Refusal}
use Rattle.far_types.specs.declared.refusal.Refusal.TheVariants.{FarFault}
use Rattle.far_store.specs.declared.store.FarTickets.{Ghosts as Tickets}
use Rattle.far_store.specs.Faults.{faults_of}
use Rattle.far_frame.specs.Jobs.{IsOneOf}
use Rattle.far_frame.specs.Renewing.{IsMigratedTo}
use Rattle.far_frame.specs.Worlds.{World}
use Rattle.far_script.specs.Printing.{refusal_text}

-- a renewal is refused: a store fails that may fail, the new store is full, or memory ran out. Only the count of faults
-- changes
abbrev pub IsNotRenewed : {K : Type 0} → Type 0 → World K → Refusal → World K → Type 0
IsNotRenewed may_fail old why new = IsOneOf (21 ∷ 22 ∷ 1 ∷ []) why
    × (why ≡ FarFault → may_fail)
    × (new ≡ record old { faults = old.faults + faults_of why })

module _ {S K : Type 0} (tickets : Tickets S K) where
  -- the far copies of the table moved to a new store of this capacity: every row, aggregate and answer is unchanged, and no
  -- number of an old job is valid
  abbrev pub IsRenewed : ℕ → World K → World K → Type 0
  IsRenewed capacity old new = (store : S) × (tickets.capacity_of store ≡ capacity)
      × IsMigratedTo tickets.content tickets.content (tickets.store_id store) old new

  -- the text is the reply to a renewal, and `new` is the world after it
  abbrev pub Renews : ℕ → World K → List ℕ → World K → Type 0
  Renews capacity old text new = (IsRenewed capacity old new × (text ≡ codes "renewed\n"))
      ⊎ ((why : Refusal) × IsNotRenewed tickets.may_fail old why new
      × (text ≡ refusal_text why))

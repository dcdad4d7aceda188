-- Evacuations and fetches: what these jobs assume and what they own.
use Rattle.std.specs.Prelude.{◌≡◌, ℕ, List, Option, None, Some}
use Rattle.far_types.specs.declared.cell.Kind.{Kind}
use Rattle.far_evacuator.specs.declared.evacuation.EvacForm.{EvacForm}
use Rattle.far_evacuator.specs.declared.evacuation.EvacForm.TheVariants.{Dirty, Clean}

-- an evacuation that was begun: the frame's number, the kind of its object and the object's number, its counts of writes and evictions
-- then, and its far form or ticket
pub record Evacuation (K : Type 0) : Type 0 where
  pub number : ℕ
  pub kind : Kind
  pub object : ℕ
  pub version : ℕ
  pub leavings : ℕ
  pub form : EvacForm K

-- an evacuation that was carried, and the ticket of its far form
pub record CarriedEvacuation (K : Type 0) : Type 0 where
  pub job : Evacuation K
  pub ticket : K

-- a fetch that was begun: the frame's number, the kind of its object and the object's number, its count of evictions then, and its ticket
pub record Fetch (K : Type 0) : Type 0 where
  pub number : ℕ
  pub kind : Kind
  pub object : ℕ
  pub leavings : ℕ
  pub ticket : K

-- a fetch that was carried, and the bytes that it read
pub record CarriedFetch (K : Type 0) : Type 0 where
  pub job : Fetch K
  pub bytes : List ℕ

module _ {K : Type 0} where
  -- the job puts a far form, because its object was dirty
  abbrev pub IsDirtyForm : EvacForm K → Type 0
  IsDirtyForm (Dirty bytes) = Unit {0}
  IsDirtyForm (Clean ticket) = ⊥

  -- this ticket, if the job puts a far form
  abbrev pub if_put : EvacForm K → K → Option K
  if_put (Dirty bytes) ticket = Some ticket
  if_put (Clean own) ticket = None

  -- the ticket that a carried evacuation's put returned; none if its object was clean
  abbrev pub put_ticket : CarriedEvacuation K → Option K
  put_ticket carried = if_put carried.job.form carried.ticket

  -- the ticket is of the job's far form: its content is the bytes of a dirty object, or it is a clean object's own ticket
  abbrev pub IsFormTicket : (K → List ℕ) → EvacForm K → K → Type 0
  IsFormTicket content (Dirty bytes) ticket = content ticket ≡ bytes
  IsFormTicket content (Clean own) ticket = ticket ≡ own

  -- if the object was clean, its ticket is of the store with this id
  abbrev pub IsFormOf : (K → List ℕ → Type 0) → List ℕ → EvacForm K → Type 0
  IsFormOf is_of id (Dirty bytes) = Unit {0}
  IsFormOf is_of id (Clean own) = is_of own id

module _ {K : Type 0} (content : K → List ℕ) where
  -- an evacuation after its carry: the far store has its form
  pub record IsCarriedEvac (job : Evacuation K) (carried : CarriedEvacuation K) : Type 0 where
    -- the same job
    pub same_job : carried.job ≡ job
    -- the ticket is of the job's far form
    pub ticket : IsFormTicket content job.form carried.ticket

  -- an evacuation after its carry, to the store with this id
  pub record IsCarriedEvacAt (is_of : K → List ℕ → Type 0) (id : List ℕ) (job : Evacuation K)
      (carried : CarriedEvacuation K) : Type 0 where
    -- the store has the job's far form
    pub form : IsCarriedEvac job carried
    -- its ticket is of this store
    pub here : is_of carried.ticket id

  -- a fetch after its carry: it has the content of its ticket
  pub record IsCarriedFetch (job : Fetch K) (fetched : CarriedFetch K) : Type 0 where
    -- the same job
    pub same_job : fetched.job ≡ job
    -- the bytes are the content
    pub bytes : fetched.bytes ≡ content job.ticket

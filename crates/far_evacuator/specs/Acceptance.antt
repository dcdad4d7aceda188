-- When the end of a job is accepted.
use Rattle.std.specs.Prelude.{◌≡◌, ◌↔◌, ◌⊎◌, ℕ, ◌<◌, true, false, List, length, Some, option_map, IsSomeAnd, Result, IsErrOf, IfErr, OnOk}
use Rattle.far_types.specs.declared.refusal.Refusal.{Refusal}
use Rattle.far_types.specs.declared.refusal.Refusal.TheVariants as refusal
use Rattle.far_pointer.specs.declared.pointer.Pointer.TheVariants.{Remote}
use Rattle.far_scopes.specs.Memory.{list_in}
use Rattle.far_scopes.specs.Movement.{Movement, ChangesObject, word_of, record_of, is_local, dirty, version_of, leavings_of, ticket_of, list_of, AreClean, AreHere}
use Rattle.far_evacuator.specs.declared.evacuation.EvacForm.{EvacForm}
use Rattle.far_evacuator.specs.declared.evacuation.EvacForm.TheVariants.{Dirty, Clean}
use Rattle.far_evacuator.specs.Jobs.{CarriedEvacuation, CarriedFetch}

-- the bytes are a far form of object o: of its element type and its length
abbrev pub IsFarForm : {X K : Type 0} → (List X → List ℕ → Type 0) → Movement X K
    → ℕ → List ℕ → Type 0
IsFarForm {X} spelled m o bytes = IsSomeAnd (record_of m o)
    (λ object_record. (list : List X) × (length list ≡ object_record.len) × spelled list bytes)

module _ {X K : Type 0} (number_of : K → ℕ) where
  -- the ticket of object o's newest far copy has the same number as this ticket
  abbrev pub IsUnder : Movement X K → ℕ → K → Type 0
  IsUnder m o ticket = option_map number_of (ticket_of m o) ≡ Some (number_of ticket)

  module _ (spelling : List X → List ℕ) (m : Movement X K) where
    -- object o is still what was carried. If it was dirty, the bytes spell its list; if it was clean, it still is, and its ticket has the
    -- same number
    abbrev pub IsStill : ℕ → K → EvacForm K → Type 0
    IsStill o ticket (Dirty bytes) = option_map spelling (list_in m.memory o) ≡ Some bytes
    IsStill o ticket (Clean own) = (dirty m o ≡ false) × IsUnder m o ticket

    -- when a carried evacuation can be committed; the commit also requires that the object has no pin
    pub record IsCommittable (carried : CarriedEvacuation K) : Type 0 where
      pub number : carried.job.number ≡ m.number
      pub local : is_local m carried.job.object ≡ true
      pub version : version_of m carried.job.object ≡ carried.job.version
      pub leavings : leavings_of m carried.job.object ≡ carried.job.leavings
      pub left : leavings_of m carried.job.object < m.leavings
      pub still : IsStill carried.job.object carried.ticket carried.job.form

  module _ (spelled : List X → List ℕ → Type 0) (m : Movement X K) where
    -- when a carried fetch can be installed; the install also needs space in a segment
    pub record IsInstallable (fetched : CarriedFetch K) : Type 0 where
      pub number : fetched.job.number ≡ m.number
      pub away : word_of m fetched.job.object ≡ Some Remote
      pub leavings : leavings_of m fetched.job.object ≡ fetched.job.leavings
      pub ticket : IsUnder m fetched.job.object fetched.job.ticket
      pub form : IsFarForm spelled m fetched.job.object fetched.bytes

-- what the end of a job on object o leaves unchanged: every list, and the word and the record of every other object. If each clean object's
-- list was what its ticket means, each still is. Every object's ticket is of the store with this id
pub record LeavesRest {X K : Type 0} (meaning : List ℕ → List X) (content : K → List ℕ)
    (is_of : K → List ℕ → Type 0) (id : List ℕ)
    (old new : Movement X K) (o : ℕ) : Type 0 where
  pub lists : (p : ℕ) → list_of meaning content new p ≡ list_of meaning content old p
  pub others : ChangesObject old new o
  pub clean : AreClean meaning content old → AreClean meaning content new
  pub here : AreHere is_of id new

-- when the commit of a carried evacuation is accepted, and why it is refused: `valid` says that the job's assumptions hold, `held` that its
-- object has a pin
pub record DecidesCommit {A : Type 0} (result : Result A Refusal)
    (valid held : Type 0) : Type 0 where
  -- accepted only if the assumptions hold
  pub accepted : OnOk result valid
  -- the assumptions no longer hold
  pub stale : IsErrOf result refusal.StaleJob ↔ (¬ valid)
  -- else the object has a pin
  pub pinned : IsErrOf result refusal.Pinned ↔ (valid × held)
  -- no other refusal
  pub only : IfErr result (λ e. (e ≡ refusal.StaleJob) ⊎ (e ≡ refusal.Pinned))

-- when the install of a carried fetch is accepted, and why it is refused: `valid` says that the job's assumptions hold, `crowded` that no
-- segment has the space
pub record DecidesInstall {A : Type 0} (result : Result A Refusal)
    (valid crowded : Type 0) : Type 0 where
  -- accepted only if the assumptions hold
  pub accepted : OnOk result valid
  -- the assumptions no longer hold
  pub stale : IsErrOf result refusal.StaleJob ↔ (¬ valid)
  -- else no segment has the space
  pub full : IsErrOf result refusal.RegionFull ↔ (valid × crowded)
  -- no other refusal but `NoMemory`
  pub only : IfErr result (λ e. (e ≡ refusal.StaleJob)
      ⊎ ((e ≡ refusal.RegionFull) ⊎ (e ≡ refusal.NoMemory)))

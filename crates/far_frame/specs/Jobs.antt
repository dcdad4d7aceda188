-- Jobs that move objects: their parts, and how they begin, are carried and end.
use Rattle.std.specs.Prelude.{◌≡◌, ◌≢◌, ◌⊎◌, ℕ, ◌==◌, Bool, true, false, List, [], ◌∷◌, Option, None, Some, IsTrue, IsSome, IsSomeAnd}
use Rattle.std.specs.List.{list_any}
use Rattle.far_types.specs.declared.name.Name.{Name}
use Rattle.far_types.specs.declared.refusal.Refusal.{Refusal}
use Rattle.far_types.specs.declared.refusal.Refusal.TheVariants as refusal
use Rattle.far_types.specs.Refusals.{number_of as refusal_number}
use Rattle.far_evacuator.specs.Jobs.{Evacuation, CarriedEvacuation, Fetch, CarriedFetch, IsCarriedEvac, IsCarriedFetch, IsDirtyForm, IsFormOf}
use Rattle.far_rows.specs.Rows.{Rows}
use Rattle.far_rows.specs.Coldest.{coldest}
use Rattle.far_rows.specs.Jobs.{IsEvacBegun, IsFetchBegun, IsEvacAccepted, IsFetchAccepted, evac_refusal, fetch_refusal, pins_by, HasNoSpace}
use Rattle.far_table.specs.Offloading.{Build, AreTicketsOf, IsMergeable, IsMerged, IsOffloadBegun, offload_refusal}
use Rattle.far_table.specs.Watching.{aggregate_at}
use Rattle.far_frame.specs.State.{State, Alters, live}
use Rattle.far_table.specs.Moving.{IsMoved, IsCommitted, IsInstalled}
use Rattle.far_frame.specs.declared.job.JobKind.{JobKind}
use Rattle.far_frame.specs.declared.job.JobKind.TheVariants as kind
use Rattle.far_frame.specs.declared.job.JobPhase.{JobPhase}
use Rattle.far_frame.specs.declared.job.JobPhase.TheVariants as work

-- the work of a job, by kind and phase
abbrev pub WorkOf : Type 0 → Type 0
WorkOf K =
    JobPhase (Evacuation K) (CarriedEvacuation K) (Fetch K) (CarriedFetch K) (Build K) (Build K)

-- a job: the column and the row group of its object, if it moves one, and its work
pub record JobRecord (K : Type 0) : Type 0 where
  pub name : Option Name
  pub work : WorkOf K

-- the refusal has one of these codes
abbrev pub IsOneOf : List ℕ → Refusal → Type 0
IsOneOf numbers refusal = IsTrue (list_any (λ number. number == refusal_number refusal) numbers)

module _ {K : Type 0} where
  -- the kind of a work
  abbrev pub kind_of_work : WorkOf K → JobKind
  kind_of_work (work.Evac evac) = kind.Evac
  kind_of_work (work.Carried carried) = kind.Evac
  kind_of_work (work.Fetch fetch) = kind.Fetch
  kind_of_work (work.Fetched fetched) = kind.Fetch
  kind_of_work (work.Offload build) = kind.Offload
  kind_of_work (work.Offloaded build) = kind.Offload

  -- the work is an offloaded build
  abbrev pub is_offload : WorkOf K → Bool
  is_offload (work.Offload build) = true
  is_offload (work.Offloaded build) = true
  is_offload _ = false

  -- the kind of a job
  abbrev pub job_kind : JobRecord K → JobKind
  job_kind job = kind_of_work job.work

  module _ (is_of : K → List ℕ → Type 0) (id : List ℕ) where
    -- the tickets in a work are of the store with this id
    abbrev pub IsWorkAt : WorkOf K → Type 0
    IsWorkAt (work.Evac evac) = IsFormOf is_of id evac.form
    IsWorkAt (work.Carried carried) = is_of carried.ticket id
    IsWorkAt (work.Fetch fetch) = is_of fetch.ticket id
    IsWorkAt (work.Fetched fetched) = is_of fetched.job.ticket id
    IsWorkAt (work.Offload build) = AreTicketsOf is_of id build.job.tickets
    IsWorkAt (work.Offloaded build) = AreTicketsOf is_of id build.job.tickets

    -- the tickets in a job are of the store with this id
    abbrev pub IsJobAt : JobRecord K → Type 0
    IsJobAt job = IsWorkAt job.work

  module _ (content : K → List ℕ) where
    -- the second work is the first, carried
    abbrev pub IsWorkCarried : WorkOf K → WorkOf K → Type 0
    IsWorkCarried (work.Evac evac) (work.Carried carried) = IsCarriedEvac content evac carried
    IsWorkCarried (work.Fetch fetch) (work.Fetched fetched) = IsCarriedFetch content fetch fetched
    IsWorkCarried (work.Offload build) (work.Offloaded carried) = carried ≡ build
    IsWorkCarried begun _ = ⊥

    -- the second job is the first, carried: the store has the form of an evacuation, a fetch has the content of its ticket, and an
    -- offloaded build has read the contents of its tickets
    pub record IsCarried (job done : JobRecord K) : Type 0 where
      pub name : done.name ≡ job.name
      pub work : IsWorkCarried job.work done.work

  -- why carrying a work is refused
  abbrev pub WorkRefusal : WorkOf K → Refusal → Type 0
  WorkRefusal (work.Evac evac) given = IsDirtyForm evac.form
      × IsOneOf (21 ∷ 22 ∷ 1 ∷ []) given
  WorkRefusal (work.Fetch fetch) given = IsOneOf (21 ∷ 1 ∷ []) given
  WorkRefusal (work.Carried carried) given = given ≡ refusal.StaleJob
  WorkRefusal (work.Fetched fetched) given = given ≡ refusal.StaleJob
  WorkRefusal (work.Offload build) given = IsOneOf (21 ∷ 1 ∷ []) given
  WorkRefusal (work.Offloaded build) given = given ≡ refusal.StaleJob

  -- why carrying a job is refused: it was carried already, the store failed or was full, or memory ran out. An evacuation of a clean object
  -- does not call the store, so its carry is never refused
  abbrev pub CarryRefusal : JobRecord K → Refusal → Type 0
  CarryRefusal job given = WorkRefusal job.work given

  module _ (r : Rows K) (column group : ℕ) where
    -- the work of an evacuation of the object that begins now
    abbrev pub IsEvacWork : WorkOf K → Type 0
    IsEvacWork (work.Evac evac) = IsEvacBegun r column group evac
    IsEvacWork _ = ⊥

    -- an evacuation of the object of a row group of a column that begins now
    pub record IsEvacJob (job : JobRecord K) : Type 0 where
      pub free : evac_refusal r column group ≡ None
      pub name : job.name ≡ Some record { column = column; group = group }
      pub work : IsEvacWork job.work

    -- the work of a fetch of the object that begins now
    abbrev pub IsFetchWork : WorkOf K → Type 0
    IsFetchWork (work.Fetch fetch) = IsFetchBegun r column group fetch
    IsFetchWork _ = ⊥

    -- a fetch of the object of a row group of a column that begins now
    pub record IsFetchJob (job : JobRecord K) : Type 0 where
      pub free : fetch_refusal r column group ≡ None
      pub name : job.name ≡ Some record { column = column; group = group }
      pub work : IsFetchWork job.work

  module _ (s : State K) (a g : ℕ) where
    -- the work of an offloaded build that begins now
    abbrev pub IsOffloadWork : WorkOf K → Type 0
    IsOffloadWork (work.Offload build) = IsOffloadBegun (live s) a g build
    IsOffloadWork _ = ⊥

    -- an offloaded build of a row group into an aggregate that begins now
    pub record IsOffloadJob (job : JobRecord K) : Type 0 where
      pub free : offload_refusal (live s) (aggregate_at s.table a) g ≡ None
      pub name : job.name ≡ None
      pub work : IsOffloadWork job.work

  module _ (r : Rows K) where
    -- the coldest object's evacuation begins; or there is no such object, and no job
    abbrev pub IsColdestJob : Option (JobRecord K) → Type 0
    IsColdestJob None = coldest r ≡ None
    IsColdestJob (Some job) = IsSomeAnd job.name
        (λ name. (coldest r ≡ Some name) × IsEvacJob r name.column name.group job)

  -- the job is an offloaded build whose aggregate is no longer registered
  abbrev pub IsForgotten : State K → WorkOf K → Type 0
  IsForgotten s (work.Offload build) = aggregate_at s.table build.aggregate ≡ None
  IsForgotten s (work.Offloaded build) = aggregate_at s.table build.aggregate ≡ None
  IsForgotten s _ = ⊥

  module _ (number_of : K → ℕ) (old : State K) where
    -- the job is a carried evacuation whose assumptions still hold
    abbrev pub MayCommit : WorkOf K → Type 0
    MayCommit (work.Carried carried) = IsEvacAccepted number_of old.rows carried
    MayCommit _ = ⊥

    -- the job is a carried fetch whose assumptions still hold
    abbrev pub MayInstall : WorkOf K → Type 0
    MayInstall (work.Fetched fetched) = IsFetchAccepted number_of old.rows fetched
    MayInstall _ = ⊥

    -- the job is a carried offloaded build whose assumptions still hold
    abbrev pub MayMerge : WorkOf K → Type 0
    MayMerge (work.Offloaded build) = IsMergeable number_of (live old) build
    MayMerge _ = ⊥

    -- the job is a carried evacuation that is accepted: its object is evicted
    abbrev pub Commits : WorkOf K → State K → Type 0
    Commits (work.Carried carried) new = Alters (IsMoved (IsCommitted number_of carried)) old new
    Commits _ new = ⊥

    -- why a commit is refused: the job's assumptions no longer hold, or its object has a pin. A job that is not a carried evacuation is
    -- stale
    abbrev pub CommitRefusal : WorkOf K → Refusal → Type 0
    CommitRefusal (work.Carried carried) given =
        ((given ≡ refusal.StaleJob) × ¬ (IsEvacAccepted number_of old.rows carried))
        ⊎ ((given ≡ refusal.Pinned)
        × IsEvacAccepted number_of old.rows carried
        × (pins_by old.rows carried ≢ 0))
    CommitRefusal _ given = given ≡ refusal.StaleJob

    -- the job is a carried offloaded build that is accepted: its row group is scanned
    abbrev pub Merges : WorkOf K → State K → Type 0
    Merges (work.Offloaded build) new = Alters
        (λ before after. IsMerged number_of before build after) old new
    Merges _ new = ⊥

    -- why a merge is refused: the job's aggregate is not registered, its assumptions no longer hold, or memory ran out. A build that was
    -- not carried is stale if its aggregate is registered. A job of another kind is stale
    abbrev pub MergeRefusal : WorkOf K → Refusal → Type 0
    MergeRefusal (work.Offload build) given =
        ((given ≡ refusal.NoAggregate) × (aggregate_at old.table build.aggregate ≡ None))
        ⊎ ((given ≡ refusal.StaleJob) × IsSome (aggregate_at old.table build.aggregate))
    MergeRefusal (work.Offloaded build) given =
        ((given ≡ refusal.NoAggregate) × (aggregate_at old.table build.aggregate ≡ None))
        ⊎ (((given ≡ refusal.StaleJob)
        × IsSome (aggregate_at old.table build.aggregate)
        × ¬ (IsMergeable number_of (live old) build))
        ⊎ ((given ≡ refusal.NoMemory) × ¬ (¬ (IsMergeable number_of (live old) build))))
    MergeRefusal _ given = given ≡ refusal.StaleJob

    module _ (content : K → List ℕ) where
      -- the job is a carried fetch that is accepted: its object is local again
      abbrev pub Installs : WorkOf K → State K → Type 0
      Installs (work.Fetched fetched) new = Alters (IsMoved (IsInstalled content number_of fetched))
          old new
      Installs _ new = ⊥

      -- why an install is refused: the job's assumptions no longer hold, its object does not fit, or memory ran out. A job that is not a
      -- carried fetch is stale
      abbrev pub InstallRefusal : WorkOf K → Refusal → Type 0
      InstallRefusal (work.Fetched fetched) given =
          ((given ≡ refusal.StaleJob) × ¬ (IsFetchAccepted number_of old.rows fetched))
          ⊎ (((given ≡ refusal.RegionFull)
          × IsFetchAccepted number_of old.rows fetched
          × HasNoSpace content old.rows fetched)
          ⊎ ((given ≡ refusal.NoMemory)
          × ¬ (¬ (IsFetchAccepted number_of old.rows fetched))
          × ¬ (HasNoSpace content old.rows fetched)))
      InstallRefusal _ given = given ≡ refusal.StaleJob

-- Work in the background: how it begins and ends, and what it leaves unchanged.
use Rattle.std.specs.Prelude.{◌≡◌, ◌⊎◌, ◌+◌, ◌<◌, ◌≤◌, ℕ, true, false, List, [], ◌∷◌, length, Option, None, Some, is_none, IsSome, IsSomeAnd, IfSome, Result, IsErrOf}
use Rattle.far_types.specs.declared.refusal.Refusal.{Refusal}
use Rattle.far_types.specs.declared.refusal.Refusal.TheVariants as refusal
use Rattle.far_types.specs.MayRefuse.{MayRefuse}
use Rattle.far_types.specs.Table.{Table}
use Rattle.far_store.specs.Faults.{RefusedBy}
use Rattle.far_aggregates.specs.Aggregates.{is_pending_in}
use Rattle.far_rows.specs.Jobs.{AreAt, fetch_refusal}
use Rattle.far_table.specs.Offloading.{offload_refusal}
use Rattle.far_table.specs.Watching.{aggregate_at, scan_refusal}
use Rattle.far_frame.specs.declared.job.JobKind.{JobKind}
use Rattle.far_frame.specs.declared.job.JobKind.TheVariants as kind
use Rattle.far_frame.specs.declared.job.JobPhase.TheVariants as work_of
use Rattle.far_frame.specs.Jobs.{JobRecord, WorkOf, IsJobAt, IsColdestJob, IsFetchJob, IsOffloadJob, Commits, CommitRefusal, Installs, InstallRefusal, Merges, MergeRefusal}
use Rattle.far_frame.specs.State.{State, live}
use Rattle.far_shared.specs.Fours.{pending_in}
use Rattle.far_shared.specs.Stripes.{KeepsColumns}
use Rattle.far_shared.specs.declared.work.Building.{Building}
use Rattle.far_shared.specs.declared.work.Building.TheVariants as building
use Rattle.far_shared.specs.declared.work.Report.{Report}
use Rattle.far_shared.specs.declared.work.Work.{Work}
use Rattle.far_shared.specs.declared.work.Work.TheVariants as work

-- the stripe of a work
abbrev pub stripe_of : Work → ℕ
stripe_of (work.Evacuate stripe) = stripe
stripe_of (work.Fetch stripe name) = stripe
stripe_of (work.Build stripe) = stripe

-- the number of columns that the schema must have for the object that a work names
abbrev pub columns_for : Work → ℕ
columns_for (work.Fetch stripe name) = name.column + 1
columns_for _ = 0

-- the codes with which a work may be refused when it begins, if its column exists
abbrev pub begin_refusals : Work → List ℕ
begin_refusals (work.Evacuate stripe) = 1 ∷ []
begin_refusals (work.Fetch stripe name) = 14 ∷ 20 ∷ []
begin_refusals (work.Build stripe) = 14 ∷ 20 ∷ 1 ∷ []

-- the codes with which a job may be refused when it ends
abbrev pub end_refusals : JobKind → List ℕ
end_refusals kind.Evac = 20 ∷ 19 ∷ []
end_refusals kind.Fetch = 20 ∷ 17 ∷ 1 ∷ []
end_refusals kind.Offload = 12 ∷ 20 ∷ 1 ∷ []

-- the codes with which a job may be refused from its beginning to its end
abbrev pub job_refusals : JobKind → List ℕ
job_refusals kind.Evac = 21 ∷ 22 ∷ 20 ∷ 19 ∷ 1 ∷ []
job_refusals kind.Fetch = 21 ∷ 20 ∷ 17 ∷ 1 ∷ []
job_refusals kind.Offload = 21 ∷ 12 ∷ 20 ∷ 1 ∷ []

-- the codes with which a work may be refused
abbrev pub work_refusals : Work → List ℕ
work_refusals (work.Evacuate stripe) = 21 ∷ 22 ∷ 20 ∷ 19 ∷ 1 ∷ []
work_refusals (work.Fetch stripe name) = 14 ∷ 20 ∷ 21 ∷ 17 ∷ 1 ∷ []
work_refusals (work.Build stripe) = 14 ∷ 12 ∷ 20 ∷ 16 ∷ 21 ∷ 1 ∷ []

-- the number of works in a report
abbrev pub works_in : Report → ℕ
works_in report = report.done + report.refused

module _ {X : Type 0} (is_done is_refused : X → Type 0) where
  -- each item of the list was done or was refused, and these are the numbers of both
  abbrev pub AreCounted : List X → ℕ → ℕ → Type 0
  AreCounted [] done refused = (done ≡ 0) × (refused ≡ 0)
  AreCounted (x ∷ xs) done refused =
      ((others : ℕ) × (done ≡ others + 1) × is_done x × AreCounted xs others refused)
      ⊎ ((others : ℕ) × (refused ≡ others + 1) × is_refused x × AreCounted xs done others)

-- a call on a stripe: an unknown stripe is refused with 14, and the call on a known one only with these codes
pub record RefusedAt {A : Type 0} (stripe : ℕ) (numbers : List ℕ)
    (result : Result A Refusal) : Type 0 where
  pub unknown : 4 ≤ stripe → IsErrOf result refusal.OutOfRange
  pub known : stripe < 4 → RefusedBy numbers result

-- a call that needs a schema of `wanted` columns: if there are fewer, it is refused with 4, and otherwise as at its stripe
pub record RefusedFor {A : Type 0} (columns wanted stripe : ℕ) (numbers : List ℕ)
    (result : Result A Refusal) : Type 0 where
  pub column : columns < wanted → IsErrOf result refusal.NoColumn
  pub unknown : wanted ≤ columns → 4 ≤ stripe → IsErrOf result refusal.OutOfRange
  pub known : wanted ≤ columns → stripe < 4 → RefusedBy numbers result

-- the rows, the schema, the limits, the count of edits and the space for aggregates are as before. So is each aggregate with nothing
-- pending. No aggregate has more pending row groups than before
pub record KeepsRows (old new : Table) : Type 0 where
  pub schema : new.schema ≡ old.schema
  pub limits : new.limits ≡ old.limits
  pub places : new.places ≡ old.places
  pub edits : new.edits ≡ old.edits
  pub aggregates : length new.aggregates ≡ length old.aggregates
  pub scanned : (a : ℕ) → pending_in (aggregate_at old a) ≡ 0
      → aggregate_at new a ≡ aggregate_at old a
  pub fewer : (a : ℕ) → pending_in (aggregate_at new a) ≤ pending_in (aggregate_at old a)

-- a job that ends keeps the rows, and keeps them in their stripe
pub record KeepsStripe {K : Type 0} (is_of : K → List ℕ → Type 0) (id : List ℕ)
    (old new : State K) : Type 0 where
  -- the rows, the schema, the limits and the edits, and each aggregate with nothing pending
  pub rows : KeepsRows old.table new.table
  -- the indexes of the columns, and the number
  pub columns : KeepsColumns old.rows new.rows
  -- all tickets are of the store with this id
  pub here : AreAt is_of id new.rows

module _ {K : Type 0} (s : State K) where
  -- no row group of any aggregate is pending
  abbrev pub IsAllScanned : Type 0
  IsAllScanned = (a g : ℕ) → is_pending_in (aggregate_at s.table a) g ≡ false

  -- a pending row group is scanned by a job, or none is pending
  abbrev pub IsBuildJob : Option (JobRecord K) → Type 0
  IsBuildJob None = IsAllScanned
  IsBuildJob (Some job) = (a : ℕ) × (g : ℕ)
      × (is_pending_in (aggregate_at s.table a) g ≡ true)
      × IsOffloadJob s a g job

  -- why a pending row group is not scanned by a job: the far store does not have what it needs, or memory ran out
  abbrev pub BuildRefusal : Refusal → Type 0
  BuildRefusal given = (a : ℕ) × (g : ℕ)
      × (is_pending_in (aggregate_at s.table a) g ≡ true)
      × MayRefuse (offload_refusal (live s) (aggregate_at s.table a) g) true given

  -- the job that a work begins, or none if there is nothing to do
  abbrev pub BeginsWork : Work → Option (JobRecord K) → Type 0
  BeginsWork (work.Evacuate stripe) job = IsColdestJob s.rows job
  BeginsWork (work.Fetch stripe name) job = IsSomeAnd job (IsFetchJob s.rows name.column name.group)
  BeginsWork (work.Build stripe) job = IsBuildJob job

  -- why a work does not begin
  abbrev pub BeginRefusal : Work → Refusal → Type 0
  BeginRefusal (work.Evacuate stripe) given = given ≡ refusal.NoMemory
  BeginRefusal (work.Fetch stripe name) given =
      fetch_refusal s.rows name.column name.group ≡ Some given
  BeginRefusal (work.Build stripe) given = BuildRefusal given

  -- a pending row group is scanned in place if it can be, otherwise by a job
  abbrev pub BeginsBuild : Building (JobRecord K) → Type 0
  BeginsBuild building.Nothing = IsAllScanned
  BeginsBuild (building.Scan a g) = (is_pending_in (aggregate_at s.table a) g ≡ true)
      × (scan_refusal (live s) (aggregate_at s.table a) g ≡ None)
  BeginsBuild (building.Offload job) = (a : ℕ) × (g : ℕ)
      × (is_pending_in (aggregate_at s.table a) g ≡ true)
      × (is_none (scan_refusal (live s) (aggregate_at s.table a) g) ≡ false)
      × IsOffloadJob s a g job

module _ {K : Type 0} (number_of : K → ℕ) (content : K → List ℕ) (old : State K) where
  -- a job of this kind is accepted at its end
  abbrev pub EndsWork : JobKind → WorkOf K → State K → Type 0
  EndsWork kind.Evac done new = Commits number_of old done new
  EndsWork kind.Fetch done new = Installs number_of old content done new
  EndsWork kind.Offload done new = Merges number_of old done new

  -- a job of this kind is refused at its end
  abbrev pub EndRefusal : JobKind → WorkOf K → Refusal → Type 0
  EndRefusal kind.Evac done given = CommitRefusal number_of old done given
  EndRefusal kind.Fetch done given = InstallRefusal number_of old content done given
  EndRefusal kind.Offload done given = MergeRefusal number_of old done given

module _ {K : Type 0} (is_of : K → List ℕ → Type 0) (id : List ℕ) where
  -- the tickets in a build are of the store with this id
  abbrev pub IsBuildingAt : Building (JobRecord K) → Type 0
  IsBuildingAt building.Nothing = Unit {0}
  IsBuildingAt (building.Scan a g) = Unit {0}
  IsBuildingAt (building.Offload job) = IsJobAt is_of id job

module _ {K : Type 0} where
  -- the kind of a job that is begun and not yet carried
  abbrev pub begun_kind : WorkOf K → Option JobKind
  begun_kind (work_of.Evac evac) = Some kind.Evac
  begun_kind (work_of.Fetch fetch) = Some kind.Fetch
  begun_kind (work_of.Offload build) = Some kind.Offload
  begun_kind _ = None

  -- a job that a work begins, described without its table. There may be nothing to evict or to build. An evacuation names its
  -- object
  abbrev pub IsJobOf : Work → Option (JobRecord K) → Type 0
  IsJobOf (work.Evacuate stripe) job = IfSome job
      (λ begun. (begun_kind begun.work ≡ Some kind.Evac) × IsSome begun.name)
  IsJobOf (work.Fetch stripe name) job = IsSomeAnd job
      (λ begun. (begun_kind begun.work ≡ Some kind.Fetch) × (begun.name ≡ Some name))
  IsJobOf (work.Build stripe) job = IfSome job (λ begun. begun_kind begun.work ≡ Some kind.Offload)

  -- a build by a job is an offloaded build that is not yet carried
  abbrev pub IsBuildOf : Building (JobRecord K) → Type 0
  IsBuildOf building.Nothing = Unit {0}
  IsBuildOf (building.Scan a g) = Unit {0}
  IsBuildOf (building.Offload job) = begun_kind job.work ≡ Some kind.Offload

-- The effect of a call that takes a stripe's lock. A clause cannot name the state under the lock, so it says that the lock allows
-- states between which the call made its step.
use Rattle.std.specs.Prelude.{◌≡◌, ◌⊎◌, ◌<◌, ◌≤◌, ℕ, Bool, true, false, List, Option, None, Some}
use Rattle.far_types.specs.declared.name.Name.{Name}
use Rattle.far_types.specs.declared.refusal.Refusal.{Refusal}
use Rattle.far_types.specs.declared.refusal.Refusal.TheVariants as refusal
use Rattle.far_types.specs.declared.spec.Spec.{Spec}
use Rattle.far_rows.specs.Coldest.{coldest}
use Rattle.far_rows.specs.Jobs.{AreAt, fetch_refusal}
use Rattle.far_table.specs.Watching.{after_register_at, lowest_free}
use Rattle.far_frame.specs.Effects.{Accepts, WhyRefused}
use Rattle.far_frame.specs.Jobs.{JobRecord, CarryRefusal, IsCarried, IsEvacJob, IsFetchJob, job_kind}
use Rattle.far_frame.specs.State.{State}
use Rattle.far_frame.specs.declared.step.Reply.TheVariants as reply
use Rattle.far_frame.specs.declared.step.Step.TheVariants as step
use Rattle.far_sessions.specs.Histories.{Planned, IsLegal}
use Rattle.far_shared.specs.Stripes.{AreRowsOf, IsStripe, StripeState}
use Rattle.far_shared.specs.Works.{AreCounted, BeginRefusal, BeginsBuild, BeginsWork, BuildRefusal, EndRefusal, EndsWork, IsAllScanned, columns_for, stripe_of}
use Rattle.far_shared.specs.declared.work.Building.TheVariants as building
use Rattle.far_shared.specs.declared.work.Work.{Work}
use Rattle.far_shared.specs.declared.work.Work.TheVariants as work

-- a state that the lock of stripe n allows: the replay of a legal history, in objects of this stripe and of the store with this id
pub record IsUnder {K : Type 0} (p : Planned) (is_of : K → List ℕ → Type 0) (id : List ℕ) (n : ℕ)
    (h : StripeState K) : Type 0 where
  pub legal : IsLegal p h.log
  pub stripe : IsStripe p h.log h.state.table
  pub here : AreAt is_of id h.state.rows
  pub rows : AreRowsOf p.schema n h.state.rows

module _ {K : Type 0} where
  -- the evacuation of the coldest object, which has this name, begins
  abbrev pub BeginsEvac : Name → State K → JobRecord K → Type 0
  BeginsEvac name s job = (coldest s.rows ≡ Some name)
      × IsEvacJob s.rows name.column name.group job

  -- the fetch of the object of this name begins
  abbrev pub BeginsFetch : Name → State K → JobRecord K → Type 0
  BeginsFetch name s job = IsFetchJob s.rows name.column name.group job

  -- the build of a pending row group that cannot be scanned begins
  abbrev pub BeginsOffload : State K → JobRecord K → Type 0
  BeginsOffload s job = BeginsBuild s (building.Offload job)

module _ {K : Type 0} (allows : StripeState K → Type 0) where
  -- some state under the lock has this property
  pub record Found (has : State K → Type 0) : Type 0 where
    pub at : StripeState K
    pub allowed : allows at
    pub found : has at.state

  -- some state under the lock becomes another one by this change, and the history is unchanged
  pub record Changed (changes : State K → State K → Type 0) : Type 0 where
    pub old : StripeState K
    pub new : StripeState K
    pub allowed : allows old × allows new
    pub log : new.log ≡ old.log
    pub changed : changes old.state new.state

  -- a work begins with this job, or there is nothing to do
  abbrev pub Begins : Work → Option (JobRecord K) → Type 0
  Begins begun job = Found (λ s. BeginsWork s begun job)

  -- why a work does not begin
  abbrev pub BeginFails : Work → Refusal → Type 0
  BeginFails begun given = Found (λ s. BeginRefusal s begun given)

  -- an aggregate is registered under its number, the lowest that was free
  abbrev pub Registers : ℕ → Spec → Type 0
  Registers a spec = Changed (λ old new. (lowest_free old.table ≡ Some a)
      × (new ≡ record old { table = after_register_at a spec old.table }))

module _ {K : Type 0} (number_of : K → ℕ) (content : K → List ℕ)
    (allows : StripeState K → Type 0) where
  -- a carried job is accepted
  abbrev pub Ends : JobRecord K → Type 0
  Ends job = Changed allows
      (λ old new. EndsWork number_of content old (job_kind job) job.work new)

  -- why a job is not accepted
  abbrev pub EndFails : JobRecord K → Refusal → Type 0
  EndFails job given = Found allows
      (λ s. EndRefusal number_of content s (job_kind job) job.work given)

  -- a job that was begun is carried and accepted
  pub record Completes (job : JobRecord K) : Type 0 where
    pub done : JobRecord K
    pub carried : IsCarried content job done
    pub ended : Ends done

  -- a job that was begun is carried and not accepted
  pub record IsRejected (job : JobRecord K) (given : Refusal) : Type 0 where
    pub done : JobRecord K
    pub carried : IsCarried content job done
    pub why : EndFails done given

  -- why a job that was begun is not completed
  abbrev pub CompleteFails : JobRecord K → Refusal → Type 0
  CompleteFails job given = CarryRefusal job given ⊎ IsRejected job given

  module _ (begins : State K → JobRecord K → Type 0) where
    -- a job that begins in this way is completed
    pub record IsDone : Type 0 where
      pub job : JobRecord K
      pub begun : Found allows (λ s. begins s job)
      pub ended : Completes job

    -- a job that begins in this way is not completed
    pub record IsUndone (given : Refusal) : Type 0 where
      pub job : JobRecord K
      pub begun : Found allows (λ s. begins s job)
      pub why : CompleteFails job given

  -- the coldest object was local and is evicted, or there was none that may be evicted
  abbrev pub Evacuates : Option Name → Type 0
  Evacuates None = Found allows (λ s. coldest s.rows ≡ None)
  Evacuates (Some name) = IsDone (BeginsEvac name)

  -- why the coldest object is not evicted
  abbrev pub EvacuationFails : Refusal → Type 0
  EvacuationFails given = (given ≡ refusal.NoMemory)
      ⊎ ((name : Name) × IsUndone (BeginsEvac name) given)

  -- the object with this name was away and is fetched
  abbrev pub Fetches : Name → Type 0
  Fetches name = IsDone (BeginsFetch name)

  -- why the object with this name is not fetched
  abbrev pub FetchFails : Name → Refusal → Type 0
  FetchFails name given =
      Found allows (λ s. fetch_refusal s.rows name.column name.group ≡ Some given)
      ⊎ IsUndone (BeginsFetch name) given

  -- a pending row group whose needed columns are local is scanned
  pub record Scans : Type 0 where
    pub aggregate : ℕ
    pub group : ℕ
    pub begun : Found allows (λ s. BeginsBuild s (building.Scan aggregate group))
    pub ended : Changed allows
        (λ old new. Accepts content old (step.ScanGroup aggregate group) reply.Done new)

  -- a pending row group whose needed columns are local is not scanned
  pub record ScanFails (given : Refusal) : Type 0 where
    pub aggregate : ℕ
    pub group : ℕ
    pub begun : Found allows (λ s. BeginsBuild s (building.Scan aggregate group))
    pub why : Found allows (λ s. WhyRefused s (step.ScanGroup aggregate group) given)

  -- a pending row group was built into its aggregate, or none was pending
  abbrev pub Builds : Bool → Type 0
  Builds false = Found allows IsAllScanned
  Builds true = Scans ⊎ IsDone BeginsOffload

  -- why no pending row group is built
  abbrev pub BuildFails : Refusal → Type 0
  BuildFails given = Found allows (λ s. BuildRefusal s given)
      ⊎ (ScanFails given ⊎ IsUndone BeginsOffload given)

module _ {K : Type 0} (number_of : K → ℕ) (content : K → List ℕ)
    (allows : ℕ → StripeState K → Type 0) where
  -- a work is done on its stripe
  abbrev pub Serves : Work → Type 0
  Serves (work.Evacuate stripe) = (gone : Option Name)
      × Evacuates number_of content (allows stripe) gone
  Serves (work.Fetch stripe name) = Fetches number_of content (allows stripe) name
  Serves (work.Build stripe) = (built : Bool) × Builds number_of content (allows stripe) built

  -- why a work is not done
  abbrev pub ServeFails : Work → Refusal → Type 0
  ServeFails (work.Evacuate stripe) given =
      EvacuationFails number_of content (allows stripe) given
  ServeFails (work.Fetch stripe name) given =
      FetchFails number_of content (allows stripe) name given
  ServeFails (work.Build stripe) given = BuildFails number_of content (allows stripe) given

  -- each work was done on its stripe, or was refused, and a report has these numbers of both. A work of a known column and stripe was
  -- refused for a reason on its stripe
  abbrev pub AreServed : ℕ → List Work → ℕ → ℕ → Type 0
  AreServed columns works done refused = AreCounted Serves
      (λ w. (given : Refusal)
      × (columns_for w ≤ columns → stripe_of w < 4 → ServeFails w given)) works done refused

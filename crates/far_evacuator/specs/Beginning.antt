-- What a job is when it begins, and when it is refused.
use Rattle.std.specs.Prelude.{◌≡◌, ℕ, ◌<◌, true, false, List, [], ◌∷◌, length, Option, Some, option_map, is_none}
use Rattle.far_types.specs.declared.cell.Kind.{Kind}
use Rattle.far_types.specs.declared.refusal.Refusal.{Refusal}
use Rattle.far_types.specs.declared.refusal.Refusal.TheVariants as refusal
use Rattle.far_types.specs.FirstOf.{first_of}
use Rattle.far_scopes.specs.Memory.{list_in}
use Rattle.far_scopes.specs.Movement.{Movement, is_local, dirty, version_of, leavings_of, ticket_of}
use Rattle.far_scopes.specs.Refusing.{lend_refusal}
use Rattle.far_scopes.specs.Coldest.{coldest}
use Rattle.far_evacuator.specs.declared.beginning.Want.{Want}
use Rattle.far_evacuator.specs.declared.beginning.Want.TheVariants.{Object, Coldest}
use Rattle.far_evacuator.specs.declared.evacuation.EvacForm.{EvacForm}
use Rattle.far_evacuator.specs.declared.evacuation.EvacForm.TheVariants.{Dirty, Clean}
use Rattle.far_evacuator.specs.Jobs.{Evacuation, Fetch}

module _ {X K : Type 0} (spelling : List X → List ℕ) (m : Movement X K) (o : ℕ) where
  -- the form in an evacuation of object o: the spelling of its list if it is dirty, its ticket if it is clean
  abbrev pub IsObjectForm : EvacForm K → Type 0
  IsObjectForm (Dirty bytes) = (dirty m o ≡ true)
      × (option_map spelling (list_in m.memory o) ≡ Some bytes)
  IsObjectForm (Clean ticket) = (dirty m o ≡ false) × (ticket_of m o ≡ Some ticket)

  -- an evacuation of object o that begins now, of an object of this kind
  pub record IsBegunEvac (of : Kind) (job : Evacuation K) : Type 0 where
    pub number : job.number ≡ m.number
    pub kind : job.kind ≡ of
    pub object : job.object ≡ o
    pub version : job.version ≡ version_of m o
    pub leavings : job.leavings ≡ leavings_of m o
    pub form : IsObjectForm job.form

module _ {X K : Type 0} (m : Movement X K) where
  -- if an object is named, its number is in use
  abbrev pub IsWanted : Want → Type 0
  IsWanted (Object o) = o < length m.records
  IsWanted Coldest = Unit {0}

  -- the object that an evacuation takes: the named one, or the eviction victim
  abbrev pub wanted_object : Want → Option ℕ
  wanted_object (Object o) = Some o
  wanted_object Coldest = coldest m

  -- why no evacuation begins: the named object is away, or there is no victim
  abbrev pub begin_refusal : Want → Option Refusal
  begin_refusal (Object o) = lend_refusal m o
  begin_refusal Coldest = first_of ((is_none (coldest m), refusal.StaleJob) ∷ [])

  -- a fetch of object o that begins now, of an object of this kind
  pub record IsFetch (o : ℕ) (of : Kind) (job : Fetch K) : Type 0 where
    pub number : job.number ≡ m.number
    pub kind : job.kind ≡ of
    pub object : job.object ≡ o
    pub leavings : job.leavings ≡ leavings_of m o
    pub ticket : ticket_of m o ≡ Some job.ticket

  -- why no fetch begins: the object is local
  abbrev pub fetch_refusal : ℕ → Option Refusal
  fetch_refusal o = first_of ((is_local m o, refusal.StaleJob) ∷ [])

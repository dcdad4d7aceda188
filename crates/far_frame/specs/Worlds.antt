-- A world: a table with its store and its jobs, and the effects of jobs' steps on it.
use Rattle.std.specs.Prelude.{◌≡◌, ℕ, ◌+◌, ◌<◌, nat_lt, not, true, cond, List, [], ◌∷◌, Option, None, IsSomeAnd}
use Rattle.std.specs.declared.result.Result.TheVariants.{Err}
use Rattle.std.specs.List.{All, IsDistinct}
use Rattle.std.specs.Map.{keys_of, lookup}
use Rattle.std.specs.Option.{option_or}
use Rattle.far_types.specs.declared.refusal.Refusal.{Refusal}
use Rattle.far_types.specs.declared.refusal.Refusal.TheVariants as refusal
use Rattle.far_types.specs.FirstOf.{first_of}
use Rattle.far_types.specs.MayRefuse.{MayRefuse}
use Rattle.far_store.specs.Faults.{faults_of}
use Rattle.far_rows.specs.Jobs.{AreAt}
use Rattle.far_frame.specs.State.{State}
use Rattle.far_frame.specs.declared.step.Reply.{Reply}
use Rattle.far_frame.specs.declared.step.Reply.TheVariants as reply
use Rattle.far_frame.specs.Jobs.{JobRecord, WorkOf, CarryRefusal}
use Rattle.far_frame.specs.Waiting.{Waiting, AreJobsAt, IsCarriedAt, RefusalAt, is_number, job_at, one_more, spends, without_job}

-- all that a step can see or change: the table and its objects, the id of the store, the number of jobs begun, the jobs whose numbers are
-- not spent, and the number of faults of the store so far
pub record World (K : Type 0) : Type 0 where
  pub state : State K
  pub store : List ℕ
  pub begun : ℕ
  pub jobs : Waiting K
  pub faults : ℕ

module _ {K : Type 0} where
  -- the invariant: every ticket is of the world's store
  pub record IsWorld (is_of : K → List ℕ → Type 0) (id : List ℕ) (state : State K)
      (jobs : Waiting K) : Type 0 where
    pub rows_at : AreAt is_of id state.rows
    pub jobs_at : AreJobsAt is_of id jobs

  -- every ticket of this world is of its store
  abbrev pub HasOwnTickets : (K → List ℕ → Type 0) → World K → Type 0
  HasOwnTickets is_of world = IsWorld is_of world.store world.state world.jobs

  -- as many jobs were begun as the limits allow
  abbrev pub used_up : World K → Option Refusal
  used_up world = first_of
      ((not (nat_lt world.begun world.state.table.limits.edits), refusal.EditsUsedUp) ∷ [])

  -- a job begins, with the next number
  pub record IsBegun (begins : JobRecord K → Type 0) (old : World K) (given : Reply)
      (new : World K) : Type 0 where
    pub says : given ≡ reply.Job old.begun
    pub few : old.begun < old.state.table.limits.edits
    pub job : JobRecord K
    pub begun : begins job
    pub world : new ≡ record old { begun = old.begun + 1; jobs = one_more old.jobs old.begun job }

  -- no job begins: it is refused, the numbers are used up, or memory ran out
  pub record IsNotBegun (due : Option Refusal) (old : World K) (given : Refusal)
      (new : World K) : Type 0 where
    pub refused : MayRefuse (option_or due (used_up old)) true given
    pub world : new ≡ old

  -- the job with this number was carried, and nothing else changed
  pub record IsCarry (content : K → List ℕ) (n : ℕ) (old : World K) (given : Reply)
      (new : World K) : Type 0 where
    pub says : given ≡ reply.Done
    pub carried : IsCarriedAt content n old.jobs new.jobs
    pub world : new ≡ record old { jobs = new.jobs }

  -- carrying the job with this number is refused: the number is spent or unknown, the job was carried already, memory ran out, or the store
  -- is full or fails. Faults are counted
  pub record IsNoCarry (n : ℕ) (old : World K) (given : Refusal) (new : World K) : Type 0 where
    pub refused : RefusalAt CarryRefusal (job_at old.jobs n) given
    pub world : new ≡ record old { faults = old.faults + faults_of given }

  -- the job with this number is accepted at its end, and the number is spent
  pub record IsEnded (ends : WorkOf K → State K → Type 0) (n : ℕ) (old : World K) (given : Reply)
      (new : World K) : Type 0 where
    pub says : given ≡ reply.Done
    pub ended : IsSomeAnd (job_at old.jobs n) (λ job. ends job.work new.state)
    pub world : new ≡ record old { state = new.state; jobs = without_job old.jobs n }

  -- the end of the job with this number is refused, and the number is spent exactly if the job is stale
  pub record IsNotEnded (why : WorkOf K → Refusal → Type 0) (n : ℕ) (old : World K)
      (given : Refusal) (new : World K) : Type 0 where
    pub refused : RefusalAt (λ job. why job.work) (job_at old.jobs n) given
    pub world : new
        ≡ record old { jobs = cond (spends (Err given)) (without_job old.jobs n) old.jobs }

  -- each job has a number of its own, which was given out: it is below the count of jobs begun
  pub record AreNumbered (world : World K) : Type 0 where
    pub given : All (λ n. n < world.begun) (keys_of world.jobs)
    pub distinct : IsDistinct is_number (keys_of world.jobs)

  -- the number was given out, and no job has it any more
  pub record IsSpent (n : ℕ) (world : World K) : Type 0 where
    pub given : n < world.begun
    pub gone : lookup (is_number n) world.jobs ≡ None

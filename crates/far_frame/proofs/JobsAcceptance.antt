-- Why the job with this number is not accepted at its end.
use Rattle.std.proofs.Common.{◌≡◌, ℕ, true, false, List, Option, None, Some, IsSome, IsSomeAnd, inl, inr, sym, subst}
use Rattle.std.proofs.lemmas.Option.{none-some, same_Some}
use Rattle.far_types.specs.declared.refusal.Refusal.{Refusal}
use Rattle.far_types.specs.declared.refusal.Refusal.TheVariants as refusal
use Rattle.far_types.specs.Table.{Registered}
use Rattle.far_table.specs.Offloading.{Build, HoldsStill, IsMergeable}
use Rattle.far_table.specs.Watching.{aggregate_at}
use Rattle.far_frame.specs.declared.job.JobPhase.TheVariants as work
use Rattle.far_frame.specs.declared.step.Reply.{Reply}
use Rattle.far_frame.specs.declared.step.Reply.TheVariants as reply
use Rattle.far_frame.specs.declared.step.Step.{Step}
use Rattle.far_frame.specs.declared.step.Step.TheVariants as step
use Rattle.far_frame.specs.Effects.{Replies}
use Rattle.far_frame.specs.Jobs.{JobRecord, WorkOf, Commits, CommitRefusal, Installs, InstallRefusal, Merges, MergeRefusal, MayCommit, MayInstall, MayMerge, IsForgotten}
use Rattle.far_frame.specs.Runs.{end_of, job_of}
use Rattle.far_frame.specs.State.{State, live}
use Rattle.far_frame.specs.Steps.{IsStep}
use Rattle.far_frame.specs.Waiting.{RefusalAt, job_at}
use Rattle.far_frame.specs.Worlds.{World, AreNumbered, IsEnded, IsNotEnded, IsSpent}
use Rattle.far_frame.proofs.WaitingNumbers.{accepted-spent, named-stale}
use Rattle.far_frame.proofs.WaitingSpentNumbers.{refused-so}

-- an aggregate that is not registered has no property
none-such : (o : Option Registered) (P : Registered → Type 0) → o ≡ None → IsSomeAnd o P → ⊥
none-such None P is h = absurd h
none-such (Some r) P is h = none-some r (sym is)

none-registered : (o : Option Registered) → o ≡ None → IsSome o → ⊥
none-registered None is h = (let on : false ≡ true = h in cc)
none-registered (Some r) is h = none-some r (sym is)

module _ {K : Type 0} where
  found-holds : (holds : JobRecord K → Type 0) (found : Option (JobRecord K)) (job : JobRecord K) → found ≡ Some job → IsSomeAnd found holds → holds job
  found-holds holds None job is h = absurd h
  found-holds holds (Some one) job is h = subst holds (same_Some one job is) h

  found-why : (why : JobRecord K → Refusal → Type 0) (found : Option (JobRecord K)) (job : JobRecord K) (given : Refusal) → found ≡ Some job → RefusalAt why found given → why job given
  found-why why None job given is h = absurd (none-some job is)
  found-why why (Some one) job given is h = subst (λ (j : JobRecord K). why j given) (same_Some one job is) h

  -- a job that cannot be accepted, and has only one reason to be refused, is refused for that reason
  end-due : (due : Refusal) (n : ℕ) (old new : World K) (given : Reply) (ends : WorkOf K → State K → Type 0) (why : WorkOf K → Refusal → Type 0) (job : JobRecord K) → job_at old.jobs n ≡ Some job → (ends job.work new.state → ⊥) → ((e : Refusal) → why job.work e → e ≡ due)
      → Replies (λ served. IsEnded ends n old served new) (λ e. IsNotEnded why n old e new) given → given ≡ reply.Refused due
  end-due due n old new given ends why job is never only h = refused-so due (λ served. IsEnded ends n old served new) (λ e. IsNotEnded why n old e new) given
      (λ served k. never (found-holds (λ j. ends j.work new.state) (job_at old.jobs n) job is k.ended))
      (λ e k. only e (found-why (λ j. why j.work) (job_at old.jobs n) job e is k.refused)) h

  module _ (number_of : K → ℕ) (old : State K) where
    never-commits : (w : WorkOf K) (new : State K) → ¬ (MayCommit number_of old w) → Commits number_of old w new → ⊥
    never-commits (work.Evac evac) new denied h = absurd h
    never-commits (work.Carried carried) new denied h = denied h.changed.rows.accepted
    never-commits (work.Fetch fetch) new denied h = absurd h
    never-commits (work.Fetched fetched) new denied h = absurd h
    never-commits (work.Offload build) new denied h = absurd h
    never-commits (work.Offloaded build) new denied h = absurd h

    commit-stale : (w : WorkOf K) (e : Refusal) → ¬ (MayCommit number_of old w) → CommitRefusal number_of old w e → e ≡ refusal.StaleJob
    commit-stale (work.Evac evac) e denied h = h
    commit-stale (work.Carried carried) e denied (inl stale) = stale.0
    commit-stale (work.Carried carried) e denied (inr pinned) = absurd (denied pinned.1)
    commit-stale (work.Fetch fetch) e denied h = h
    commit-stale (work.Fetched fetched) e denied h = h
    commit-stale (work.Offload build) e denied h = h
    commit-stale (work.Offloaded build) e denied h = h

    never-installs : (content : K → List ℕ) (w : WorkOf K) (new : State K) → ¬ (MayInstall number_of old w) → Installs number_of old content w new → ⊥
    never-installs content (work.Evac evac) new denied h = absurd h
    never-installs content (work.Carried carried) new denied h = absurd h
    never-installs content (work.Fetch fetch) new denied h = absurd h
    never-installs content (work.Fetched fetched) new denied h = denied h.changed.rows.accepted
    never-installs content (work.Offload build) new denied h = absurd h
    never-installs content (work.Offloaded build) new denied h = absurd h

    install-stale : (content : K → List ℕ) (w : WorkOf K) (e : Refusal) → ¬ (MayInstall number_of old w) → InstallRefusal number_of old content w e → e ≡ refusal.StaleJob
    install-stale content (work.Evac evac) e denied h = h
    install-stale content (work.Carried carried) e denied h = h
    install-stale content (work.Fetch fetch) e denied h = h
    install-stale content (work.Fetched fetched) e denied (inl stale) = stale.0
    install-stale content (work.Fetched fetched) e denied (inr (inl full)) = absurd (denied full.1)
    install-stale content (work.Fetched fetched) e denied (inr (inr memory)) = absurd (memory.1 denied)
    install-stale content (work.Offload build) e denied h = h
    install-stale content (work.Offloaded build) e denied h = h

    never-merges : (w : WorkOf K) (new : State K) → ¬ (MayMerge number_of old w) → Merges number_of old w new → ⊥
    never-merges (work.Evac evac) new denied h = absurd h
    never-merges (work.Carried carried) new denied h = absurd h
    never-merges (work.Fetch fetch) new denied h = absurd h
    never-merges (work.Fetched fetched) new denied h = absurd h
    never-merges (work.Offload build) new denied h = absurd h
    never-merges (work.Offloaded build) new denied h = denied h.changed.accepted

    merge-stale : (w : WorkOf K) (e : Refusal) → ¬ (MayMerge number_of old w) → ¬ (IsForgotten old w) → MergeRefusal number_of old w e → e ≡ refusal.StaleJob
    merge-stale (work.Evac evac) e denied known h = h
    merge-stale (work.Carried carried) e denied known h = h
    merge-stale (work.Fetch fetch) e denied known h = h
    merge-stale (work.Fetched fetched) e denied known h = h
    merge-stale (work.Offload build) e denied known (inl forgotten) = absurd (known forgotten.1)
    merge-stale (work.Offload build) e denied known (inr stale) = stale.0
    merge-stale (work.Offloaded build) e denied known (inl forgotten) = absurd (known forgotten.1)
    merge-stale (work.Offloaded build) e denied known (inr (inl stale)) = stale.0
    merge-stale (work.Offloaded build) e denied known (inr (inr memory)) = absurd (memory.1 denied)

    -- a build whose aggregate is not registered cannot be merged
    none-merges : (build : Build K) → aggregate_at old.table build.aggregate ≡ None → ¬ (IsMergeable number_of (live old) build)
    none-merges build is h = none-such (aggregate_at old.table build.aggregate) (HoldsStill number_of (live old) build) is h

    forgotten-never : (w : WorkOf K) (new : State K) → IsForgotten old w → Merges number_of old w new → ⊥
    forgotten-never (work.Evac evac) new is h = absurd h
    forgotten-never (work.Carried carried) new is h = absurd h
    forgotten-never (work.Fetch fetch) new is h = absurd h
    forgotten-never (work.Fetched fetched) new is h = absurd h
    forgotten-never (work.Offload build) new is h = absurd h
    forgotten-never (work.Offloaded build) new is h = none-merges build is h.changed.accepted

    forgotten-due : (w : WorkOf K) (e : Refusal) → IsForgotten old w → MergeRefusal number_of old w e → e ≡ refusal.NoAggregate
    forgotten-due (work.Evac evac) e is h = absurd is
    forgotten-due (work.Carried carried) e is h = absurd is
    forgotten-due (work.Fetch fetch) e is h = absurd is
    forgotten-due (work.Fetched fetched) e is h = absurd is
    forgotten-due (work.Offload build) e is (inl forgotten) = forgotten.0
    forgotten-due (work.Offload build) e is (inr stale) = absurd (none-registered (aggregate_at old.table build.aggregate) is stale.1)
    forgotten-due (work.Offloaded build) e is (inl forgotten) = forgotten.0
    forgotten-due (work.Offloaded build) e is (inr (inl stale)) = absurd (none-registered (aggregate_at old.table build.aggregate) is stale.1)
    forgotten-due (work.Offloaded build) e is (inr (inr memory)) = absurd (memory.1 (none-merges build is))

  module _ (content : K → List ℕ) (number_of : K → ℕ) where
    pub committed-stale : (old : World K) (n : ℕ) (job : JobRecord K) → job_at old.jobs n ≡ Some job → ¬ (MayCommit number_of old.state job.work) → (given : Reply) (new : World K) → IsStep content number_of old (step.Commit n) given new → given ≡ reply.Refused refusal.StaleJob
    committed-stale old n job is denied given new h = end-due refusal.StaleJob n old new given (Commits number_of old.state) (CommitRefusal number_of old.state) job is
        (never-commits number_of old.state job.work new.state denied) (λ e. commit-stale number_of old.state job.work e denied) h

    pub installed-stale : (old : World K) (n : ℕ) (job : JobRecord K) → job_at old.jobs n ≡ Some job → ¬ (MayInstall number_of old.state job.work) → (given : Reply) (new : World K) → IsStep content number_of old (step.Install n) given new → given ≡ reply.Refused refusal.StaleJob
    installed-stale old n job is denied given new h = end-due refusal.StaleJob n old new given (Installs number_of old.state content) (InstallRefusal number_of old.state content) job is
        (never-installs number_of old.state content job.work new.state denied) (λ e. install-stale number_of old.state content job.work e denied) h

    pub merged-stale : (old : World K) (n : ℕ) (job : JobRecord K) → job_at old.jobs n ≡ Some job → ¬ (MayMerge number_of old.state job.work) → ¬ (IsForgotten old.state job.work) → (given : Reply) (new : World K) → IsStep content number_of old (step.Merge n) given new → given ≡ reply.Refused refusal.StaleJob
    merged-stale old n job is denied known given new h = end-due refusal.StaleJob n old new given (Merges number_of old.state) (MergeRefusal number_of old.state) job is
        (never-merges number_of old.state job.work new.state denied) (λ e. merge-stale number_of old.state job.work e denied known) h

    pub forgotten-refused : (old : World K) (n : ℕ) (job : JobRecord K) → job_at old.jobs n ≡ Some job → IsForgotten old.state job.work → (given : Reply) (new : World K) → IsStep content number_of old (step.Merge n) given new → given ≡ reply.Refused refusal.NoAggregate
    forgotten-refused old n job is none given new h = end-due refusal.NoAggregate n old new given (Merges number_of old.state) (MergeRefusal number_of old.state) job is
        (forgotten-never number_of old.state job.work new.state none) (λ e. forgotten-due number_of old.state job.work e none) h

    pub accepted-once : (old : World K) → AreNumbered old → (s : Step) (n : ℕ) → end_of s ≡ Some n → (mid : World K) → IsStep content number_of old s reply.Done mid → (other : Step) → job_of other ≡ Some n → (given : Reply) (new : World K) → IsStep content number_of mid other given new → given ≡ reply.Refused refusal.StaleJob
    accepted-once old a s n is mid h other names given new k = named-stale content number_of mid other (subst (λ (found : Option ℕ). IsSomeAnd found (λ m. IsSpent m mid)) (sym names) (accepted-spent content number_of old a s n is mid h)) given new k

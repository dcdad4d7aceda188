-- A job number that no job has.
use Rattle.std.proofs.Common.{◌≡◌, ℕ, List, Option, None, Some, IsSomeAnd, sym, ap, ◌∙◌}
use Rattle.far_types.specs.declared.refusal.Refusal.{Refusal}
use Rattle.far_types.specs.declared.refusal.Refusal.TheVariants as refusal
use Rattle.far_frame.specs.declared.step.Reply.{Reply}
use Rattle.far_frame.specs.declared.step.Reply.TheVariants as reply
use Rattle.far_frame.specs.declared.step.Step.{Step}
use Rattle.far_frame.specs.declared.step.Step.TheVariants as step
use Rattle.far_frame.specs.Effects.{Replies}
use Rattle.far_frame.specs.Jobs.{JobRecord, WorkOf, CarryRefusal, Commits, CommitRefusal, Installs, InstallRefusal, Merges, MergeRefusal}
use Rattle.far_frame.specs.Runs.{job_of}
use Rattle.far_frame.specs.State.{State}
use Rattle.far_frame.specs.Steps.{IsStep}
use Rattle.far_frame.specs.Waiting.{RefusalAt, job_at}
use Rattle.far_frame.specs.Worlds.{World, IsCarry, IsNoCarry, IsEnded, IsNotEnded}

none-some : {A : Type 0} (x : A) → Some x ≡ None → ⊥
none-some x h = cc

-- a step that cannot serve, and has only one reason to be refused, is refused for that reason
pub refused-so : (due : Refusal) (serves : Reply → Type 0) (refuses : Refusal → Type 0) (given : Reply) → ((served : Reply) → serves served → ⊥) → ((why : Refusal) → refuses why → why ≡ due) → Replies serves refuses given → given ≡ reply.Refused due
refused-so due serves refuses (reply.Refused why) f g h = ap reply.Refused (g why h)
refused-so due serves refuses (reply.Place place) f g h = absurd (f (reply.Place place) h)
refused-so due serves refuses reply.Done f g h = absurd (f reply.Done h)
refused-so due serves refuses (reply.Aggregate a) f g h = absurd (f (reply.Aggregate a) h)
refused-so due serves refuses (reply.Answer x) f g h = absurd (f (reply.Answer x) h)
refused-so due serves refuses (reply.Ints pieces) f g h = absurd (f (reply.Ints pieces) h)
refused-so due serves refuses (reply.Texts pieces) f g h = absurd (f (reply.Texts pieces) h)
refused-so due serves refuses (reply.Job n) f g h = absurd (f (reply.Job n) h)
refused-so due serves refuses (reply.Next found) f g h = absurd (f (reply.Next found) h)

module _ {K : Type 0} where
  none-holds : (holds : JobRecord K → Type 0) (found : Option (JobRecord K)) → found ≡ None → IsSomeAnd found holds → ⊥
  none-holds holds None is h = absurd h
  none-holds holds (Some job) is h = none-some job is

  none-why : (why : JobRecord K → Refusal → Type 0) (found : Option (JobRecord K)) (given : Refusal) → found ≡ None → RefusalAt why found given → given ≡ refusal.StaleJob
  none-why why None given is h = h
  none-why why (Some job) given is h = absurd (none-some job is)

  ended-spent : (n : ℕ) (old new : World K) (given : Reply) (ends : WorkOf K → State K → Type 0) (why : WorkOf K → Refusal → Type 0) → job_at old.jobs n ≡ None → Replies (λ served. IsEnded ends n old served new) (λ e. IsNotEnded why n old e new) given → given ≡ reply.Refused refusal.StaleJob
  ended-spent n old new given ends why none h = refused-so refusal.StaleJob (λ served. IsEnded ends n old served new) (λ e. IsNotEnded why n old e new) given
      (λ served k. none-holds (λ job. ends job.work new.state) (job_at old.jobs n) none k.ended)
      (λ e k. none-why (λ job. why job.work) (job_at old.jobs n) e none k.refused) h

  module _ (content : K → List ℕ) (number_of : K → ℕ) where
    carry-spent : (n : ℕ) (old new : World K) (given : Reply) → job_at old.jobs n ≡ None → IsStep content number_of old (step.Carry n) given new → given ≡ reply.Refused refusal.StaleJob
    carry-spent n old new given none h = refused-so refusal.StaleJob (λ served. IsCarry content n old served new) (λ e. IsNoCarry n old e new) given
        (λ served k. none-some k.carried.job (sym k.carried.waits ∙ none))
        (λ e k. none-why CarryRefusal (job_at old.jobs n) e none k.refused) h

    -- a step that carries or ends a job is refused as stale if no job has its number
    pub spent : (old : World K) (s : Step) → IsSomeAnd (job_of s) (λ n. job_at old.jobs n ≡ None) → (given : Reply) (new : World K) → IsStep content number_of old s given new → given ≡ reply.Refused refusal.StaleJob
    spent old (step.Carry n) none given new h = carry-spent n old new given none h
    spent old (step.Commit n) none given new h = ended-spent n old new given (Commits number_of old.state) (CommitRefusal number_of old.state) none h
    spent old (step.Install n) none given new h = ended-spent n old new given (Installs number_of old.state content) (InstallRefusal number_of old.state content) none h
    spent old (step.Merge n) none given new h = ended-spent n old new given (Merges number_of old.state) (MergeRefusal number_of old.state) none h
    spent old (step.Edit e) none given new h = absurd none
    spent old (step.Watch spec) none given new h = absurd none
    spent old (step.Unwatch a) none given new h = absurd none
    spent old (step.ScanGroup a g) none given new h = absurd none
    spent old (step.Ask a) none given new h = absurd none
    spent old (step.Lend column from to) none given new h = absurd none
    spent old (step.Pin column group) none given new h = absurd none
    spent old (step.Unpin column group) none given new h = absurd none
    spent old (step.BeginEvac column group) none given new h = absurd none
    spent old (step.BeginFetch column group) none given new h = absurd none
    spent old (step.BeginOffload a g) none given new h = absurd none
    spent old (step.Compact kind segment) none given new h = absurd none
    spent old (step.Prefetch column) none given new h = absurd none

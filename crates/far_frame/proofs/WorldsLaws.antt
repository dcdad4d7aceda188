-- The invariant of a world holds after each step, and the reasons of refusals.
use Rattle.std.proofs.Common.{◌≡◌, ℕ, Bool, true, false, cond, List, Option, Some, None, refl, sym, ap, subst, ◌∙◌, IfSome, IfErr, OnOk, OnErr, Result, IsSomeAnd, ◌⊎◌, ◌↔◌, inl, inr}
use Rattle.std.specs.Prelude.{IsErrOf}
use Rattle.std.specs.declared.result.Result.TheVariants.{Ok, Err}
use Rattle.std.specs.Map.{lookup}
use Rattle.std.specs.Ordering.{nat_cmp}
use Rattle.std.proofs.lemmas.Map.Views.{All-values-insert_entry, All-values-set_value, All-map-remove_entry, IfSome-lookup_from_All}
use Rattle.far_aggregates.specs.Aggregates.{flattened}
use Rattle.far_types.specs.declared.refusal.Refusal.{Refusal}
use Rattle.far_types.specs.declared.refusal.Refusal.TheVariants as refusal
use Rattle.far_types.specs.MayRefuse.{MayRefuse}
use Rattle.far_rows.specs.Jobs.{AreAt}
use Rattle.far_frame.specs.State.{State}
use Rattle.far_frame.specs.Effects.{Replies, done_or}
use Rattle.far_frame.specs.Jobs.{JobRecord, WorkOf, IsJobAt}
use Rattle.far_frame.specs.Waiting.{Waiting, is_number, job_at, one_more, with_job, without_job, AreJobsAt, RefusalAt, spends}
use Rattle.far_frame.specs.Worlds.{World, IsWorld, IsEnded, IsNotEnded}

none-is-some : {A : Type 0} (x : A) → None ≡ Some x → ⊥
none-is-some x h = cc

same-some : {A : Type 0} (x y : A) → Some x ≡ Some y → x ≡ y
same-some x y h = cc

-- a call may return the due refusal
pub due-may : (due : Option Refusal) (e : Refusal) → Some e ≡ due → MayRefuse due true e
due-may (Some d) e h = same-some e d h
due-may None e h = absurd (none-is-some e (sym h))

no-stale : {A : Type 0} (e : Refusal) (r : Result A Refusal) → r ≡ Err e → e ≡ refusal.NoMemory → r ≡ Err refusal.StaleJob → ⊥
no-stale e r is m s = (let same = sym is ∙ s in cc)

no-full : {A : Type 0} (e : Refusal) (r : Result A Refusal) → r ≡ Err e → e ≡ refusal.NoMemory → r ≡ Err refusal.RegionFull → ⊥
no-full e r is m s = (let same = sym is ∙ s in cc)

-- why an install is refused, including for lack of memory
pub install-refused : {A : Type 0} (r : Result A Refusal) (accepted roomless : Type 0) → (IsErrOf r refusal.StaleJob ↔ (¬ accepted)) → (IsErrOf r refusal.RegionFull ↔ (accepted × roomless)) → IfErr r (λ e. (e ≡ refusal.StaleJob) ⊎ ((e ≡ refusal.RegionFull) ⊎ (e ≡ refusal.NoMemory)))
    → IfErr r (λ e. ((e ≡ refusal.StaleJob) × ¬ accepted) ⊎ (((e ≡ refusal.RegionFull) × accepted × roomless) ⊎ ((e ≡ refusal.NoMemory) × ¬ (¬ accepted) × ¬ roomless)))
install-refused (Ok done) accepted roomless stale full is = is
install-refused (Err e) accepted roomless stale full (inl s) = inl (s, stale.0 (ap Err s))
install-refused (Err e) accepted roomless stale full (inr (inl f)) = (let both = full.0 (ap Err f) in inr (inl (f, both.0, both.1)))
install-refused {A} (Err e) accepted roomless stale full (inr (inr m)) =
    let r : Result A Refusal = Err e in
    let let_in : ¬ (¬ accepted) = λ no. no-stale e r refl m (stale.1 no) in
    inr (inr (m, let_in, λ none. let_in (λ may. no-full e r refl m (full.1 (may, none)))))

module _ {K : Type 0} (is_of : K → List ℕ → Type 0) (id : List ℕ) where
  abbrev IsHere : Option (JobRecord K) → Type 0
  IsHere job = IfSome job (IsJobAt is_of id)

  here-in : (found : Option (Option (JobRecord K))) (job : JobRecord K) → IfSome found IsHere → flattened found ≡ Some job → IsJobAt is_of id job
  here-in None job h k = absurd (none-is-some job k)
  here-in (Some None) job h k = absurd (none-is-some job k)
  here-in (Some (Some found)) job h k = subst (IsJobAt is_of id) (same-some found job k) h

  -- the job with a number is of the store
  pub job-here : (waiting : Waiting K) (n : ℕ) (job : JobRecord K) → AreJobsAt is_of id waiting → job_at waiting n ≡ Some job → IsJobAt is_of id job
  job-here waiting n job all is = here-in (lookup (is_number n) waiting) job (IfSome-lookup_from_All IsHere (is_number n) waiting all) is

  pub more-here : (waiting : Waiting K) (n : ℕ) (job : JobRecord K) → AreJobsAt is_of id waiting → IsJobAt is_of id job → AreJobsAt is_of id (one_more waiting n job)
  more-here waiting n job all here = All-values-insert_entry nat_cmp n (Some job) IsHere waiting all here

  pub with-here : (waiting : Waiting K) (n : ℕ) (job : JobRecord K) → AreJobsAt is_of id waiting → IsJobAt is_of id job → AreJobsAt is_of id (with_job waiting n (Some job))
  with-here waiting n job all here = All-values-set_value (is_number n) IsHere waiting (Some job) all here

  without-here : (waiting : Waiting K) (n : ℕ) → AreJobsAt is_of id waiting → AreJobsAt is_of id (without_job waiting n)
  without-here waiting n all = All-map-remove_entry (is_number n) (λ entry. entry.1) IsHere waiting all

  pub ended-here : (spent : Bool) (waiting : Waiting K) (n : ℕ) → AreJobsAt is_of id waiting → AreJobsAt is_of id (cond spent (without_job waiting n) waiting)
  ended-here true waiting n all = without-here waiting n all
  ended-here false waiting n all = all

  -- a step on the table keeps the invariant of the world
  pub table-moved : (old new : State K) (jobs : Waiting K) → ((of : List ℕ) → AreAt is_of of old.rows → AreAt is_of of new.rows) → IsWorld is_of id old jobs → IsWorld is_of id new jobs
  table-moved old new jobs here w = record { rows_at = here id w.rows_at; jobs_at = w.jobs_at }

  pub rows-stayed : (old new : State K) (jobs : Waiting K) → new.rows ≡ old.rows → IsWorld is_of id old jobs → IsWorld is_of id new jobs
  rows-stayed old new jobs same w = record { rows_at = subst (AreAt is_of id) (sym same) w.rows_at; jobs_at = w.jobs_at }

-- the end of a job, as a step
module _ {K : Type 0} (ends : WorkOf K → State K → Type 0) (why : WorkOf K → Refusal → Type 0) (n : ℕ) (old new : World K) where
  pub ended-step : (ended : Result Unit Refusal) → OnOk ended (IsSomeAnd (job_at old.jobs n) (λ job. ends job.work new.state)) → IfErr ended (RefusalAt (λ (job : JobRecord K). why job.work) (job_at old.jobs n))
      → OnErr ended (new.state ≡ old.state) → new ≡ record old { state = new.state; jobs = cond (spends ended) (without_job old.jobs n) old.jobs }
      → Replies (λ served. IsEnded ends n old served new) (λ e. IsNotEnded why n old e new) (done_or ended)
  ended-step (Ok done) accepted refused same is = record { says = refl; ended = accepted; world = is }
  ended-step (Err e) accepted refused same is = record { refused = refused; world = is ∙ ap (λ (s : State K). record old { state = s; jobs = cond (spends (Err e)) (without_job old.jobs n) old.jobs }) same }

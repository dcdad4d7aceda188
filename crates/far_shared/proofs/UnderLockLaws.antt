-- The effects of a call under a stripe's lock, from the states that the lock allows.
use Rattle.std.proofs.Common.{rules, ◌≡◌, ℕ, zero, suc, ◌<◌, inl, inr, List, Option, None, Some, IsSomeAnd, Result, OnOk, refl, ap, subst, sym, ◌∙◌, arith}
use Rattle.std.specs.declared.result.Result.TheVariants.{Ok, Err}
use Rattle.far_store.specs.Faults.{RefusedBy}
use Rattle.far_types.specs.declared.name.Name.{Name}
use Rattle.far_types.specs.declared.refusal.Refusal.{Refusal}
use Rattle.far_types.specs.declared.spec.Spec.{Spec}
use Rattle.far_rows.specs.Coldest.{coldest}
use Rattle.far_rows.specs.Jobs.{AreAt}
use Rattle.far_table.specs.Watching.{lowest_free}
use Rattle.far_frame.specs.Jobs.{JobRecord, IsCarried, IsColdestJob, IsEvacJob, job_kind}
use Rattle.far_frame.specs.Effects.{Accepts, WhyRefused}
use Rattle.far_frame.specs.State.{State}
use Rattle.far_frame.specs.declared.step.Reply.TheVariants as reply
use Rattle.far_frame.specs.declared.step.Step.TheVariants as step
use Rattle.far_sessions.specs.Histories.{Planned, IsLegal}
use Rattle.far_sessions.specs.declared.view.Entry.{Entry}
use Rattle.far_shared.specs.Stripes.{AreRowsOf, IsStripe, StripeState}
use Rattle.far_shared.specs.Watching.{after_register}
use Rattle.far_shared.specs.Works.{BeginsBuild, end_refusals, job_refusals}
use Rattle.far_shared.specs.declared.work.Building.TheVariants as building
use Rattle.far_shared.specs.UnderLock.{BeginsEvac, BuildFails, Changed, CompleteFails, EvacuationFails, Found, IsUnder, Registers, Scans}
use Rattle.far_shared.proofs.WatchingUndo.{held}

-- a property of each stripe holds for all numbers below 4
pub below-four : (P : ℕ → Type 0) → P 0 → P 1 → P 2 → P 3 → (n : ℕ) → n < 4 → P n
below-four P a b c d zero low = a
below-four P a b c d (suc zero) low = b
below-four P a b c d (suc (suc zero)) low = c
below-four P a b c d (suc (suc (suc zero))) low = d
below-four P a b c d (suc (suc (suc (suc n)))) low = absurd (omega (arith, low))

-- the invariant of a stripe under its lock
pub under-lock : {K : Type 0} (p : Planned) (is_of : K → List ℕ → Type 0) (id : List ℕ) (n : ℕ) (log : List Entry) (state : State K) → IsLegal p log → IsStripe p log state.table × AreAt is_of id state.rows × AreRowsOf p.schema n state.rows → IsUnder p is_of id n (held log state)
under-lock p is_of id n log state legal is = record { legal = legal; stripe = is.0; here = is.1; rows = is.2 }

module _ {K : Type 0} (allows : StripeState K → Type 0) where
  -- the job that evacuates the coldest object names this object
  pub coldest-named : (job : JobRecord K) → Found allows (λ s. IsColdestJob s.rows (Some job)) → (name : Name) × (job.name ≡ Some name) × Found allows (λ s. BeginsEvac name s job)
  coldest-named job found = by job.name refl found.at found.allowed found.found
    where
      by : (o : Option Name) → job.name ≡ o → (h : StripeState K) → allows h → IsSomeAnd o (λ name. (coldest h.state.rows ≡ Some name) × IsEvacJob h.state.rows name.column name.group job) → (name : Name) × (job.name ≡ Some name) × Found allows (λ s. BeginsEvac name s job)
      by None same h allowed is = absurd is
      by (Some name) same h allowed is = (name, same, record { at = h; allowed = allowed; found = is })

module _ {K : Type 0} (number_of : K → ℕ) (content : K → List ℕ) (allows : StripeState K → Type 0) where
  -- if the evacuation of the coldest object is not completed, it fails as an evacuation may
  pub not-evacuated : (job : JobRecord K) (given : Refusal) → Found allows (λ s. IsColdestJob s.rows (Some job)) → CompleteFails number_of content allows job given → EvacuationFails number_of content allows given
  not-evacuated job given found why =
      let named = coldest-named allows job found in
      inr (named.0, record { job = job; begun = named.2; why = why })

  -- a scan under the lock of a row group that was pending before
  module _ (aggregate group : ℕ) (begun : Found allows (λ s. BeginsBuild s (building.Scan aggregate group))) where
    pub scanned : Changed allows (λ old new. Accepts content old (step.ScanGroup aggregate group) reply.Done new) → Scans number_of content allows
    scanned ended = record { aggregate = aggregate; group = group; begun = begun; ended = ended }

    pub scan-failed : (given : Refusal) → Found allows (λ s. WhyRefused s (step.ScanGroup aggregate group) given) → BuildFails number_of content allows given
    scan-failed given why = inr (inl (record { aggregate = aggregate; group = group; begun = begun; why = why }))

-- a registration under the lock
pub registers : {K : Type 0} (allows : StripeState K → Type 0) (a : ℕ) (spec : Spec) (old new : StripeState K) → allows old → allows new → lowest_free old.state.table ≡ Some a → new ≡ after_register a spec old → Registers allows a spec
registers {K} allows a spec old new before after free is = record {
  old = old;
  new = new;
  allowed = (before, after);
  log = ap (λ (h : StripeState K). h.log) is;
  changed = (free, ap (λ (h : StripeState K). h.state) is);
}

-- a registration under the number that was found before, of a copy of the specification
pub registers-at : {K : Type 0} (allows : StripeState K → Type 0) (a b : ℕ) (copy spec : Spec) (free : Option ℕ) → copy ≡ spec → free ≡ Some a → free ≡ Some b → Registers allows b copy → Registers allows a spec
registers-at {K} allows a b copy spec free same at found done =
    let both : Some b ≡ Some a = sym found ∙ at in
    let number : b ≡ a = cc in
    subst (λ (n : ℕ). Registers allows n spec) number (subst (λ (s : Spec). Registers allows b s) same done)

-- a carried job ends with one of the refusals that its kind may have
pub ends-among : {K A : Type 0} (content : K → List ℕ) (job done : JobRecord K)
    → IsCarried content job done → (r : Result A Refusal)
    → RefusedBy (end_refusals (job_kind done)) r → RefusedBy (job_refusals (job_kind job)) r
ends-among content job done is r refused = search rules

-- a change of the state under the lock
pub changes-under : {K A : Type 0} (allows : StripeState K → Type 0)
    (changes : State K → State K → Type 0) (old new : StripeState K) (r : Result A Refusal)
    → allows old → allows new → new.log ≡ old.log → OnOk r (changes old.state new.state)
    → OnOk r (Changed allows changes)
changes-under allows changes old new (Ok x) before after log changed =
    record { old = old; new = new; allowed = (before, after); log = log; changed = changed }
changes-under allows changes old new (Err e) before after log changed = tt

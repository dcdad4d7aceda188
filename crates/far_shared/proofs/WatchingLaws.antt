-- A stripe after an aggregate is registered or forgotten, or after that is refused.
use Rattle.std.proofs.Common.{◌≡◌, ◌≢◌, inl, inr, ℕ, ◌<◌, List, None, Some, sym, ap, subst, ◌∙◌, Result, IfOk, IfErr, OnOk}
use Rattle.std.specs.declared.result.Result.TheVariants.{Ok, Err}
use Rattle.far_types.specs.declared.cell.Kind.{Kind}
use Rattle.far_types.specs.declared.refusal.Refusal.{Refusal}
use Rattle.far_types.specs.declared.refusal.Refusal.TheVariants as refusal
use Rattle.far_types.specs.declared.spec.Spec.{Spec}
use Rattle.far_types.specs.Bounds.{spec_refusal}
use Rattle.far_rows.specs.Jobs.{AreAt}
use Rattle.far_frame.specs.Effects.{Accepts, Refuses}
use Rattle.far_frame.specs.State.{State, empty_state}
use Rattle.far_frame.specs.declared.step.Reply.TheVariants as reply
use Rattle.far_frame.specs.declared.step.Step.TheVariants as step
use Rattle.far_sessions.specs.Histories.{Planned, IsLegal}
use Rattle.far_sessions.specs.declared.view.Entry.{Entry}
use Rattle.far_shared.specs.Opening.{IsEmpty}
use Rattle.far_shared.specs.Plans.{IsPlan}
use Rattle.far_shared.specs.Stripes.{IsStripe}
use Rattle.far_shared.specs.Watching.{WatchRefusal}
use Rattle.far_shared.proofs.StripesRegistry.{watched-here, unwatched-here, stripe-watched, stripe-unwatched, number-watched, refused-watched, empty-watched, empty-refused}

-- why an aggregate with an invalid specification is not registered
pub faulty : (p : Planned) (schema : List Kind) (spec : Spec) (given : Refusal) → schema ≡ p.schema → spec_refusal schema spec ≡ Some given → WatchRefusal p.schema spec given
faulty p schema spec given same due = inl (subst (λ kinds. spec_refusal kinds spec ≡ Some given) same due)

-- why a valid aggregate is not registered
pub no-memory : (p : Planned) (schema : List Kind) (spec : Spec) (given : Refusal) → schema ≡ p.schema → spec_refusal schema spec ≡ None → given ≡ refusal.NoMemory → WatchRefusal p.schema spec given
no-memory p schema spec given same free memory = inr (subst (λ kinds. spec_refusal kinds spec ≡ None) same free, inr memory)

module _ {K : Type 0} (content : K → List ℕ) (old new : State K) where
  module _ (is_of : K → List ℕ → Type 0) (id : List ℕ) (here : AreAt is_of id old.rows) where
    pub either-here : (spec : Spec) (r : Result ℕ Refusal) → IfOk r (λ a. Accepts content old (step.Watch spec) (reply.Aggregate a) new) → IfErr r (λ e. Refuses old (step.Watch spec) e new) → AreAt is_of id new.rows
    either-here spec (Ok a) ok err = watched-here content old new is_of id here spec (reply.Aggregate a) ok
    either-here spec (Err e) ok err = subst (λ (s : State K). AreAt is_of id s.rows) (sym err.0) here

    pub still-here : {A : Type 0} (a : ℕ) (r : Result A Refusal) → OnOk r (Accepts content old (step.Unwatch a) reply.Done new) → IfErr r (λ e. Refuses old (step.Unwatch a) e new) → AreAt is_of id new.rows
    still-here a (Ok done) ok err = unwatched-here content old new is_of id here a reply.Done ok
    still-here a (Err e) ok err = subst (λ (s : State K). AreAt is_of id s.rows) (sym err.0) here

  module _ (p : Planned) (log : List Entry) (is : IsStripe p log old.table) where
    pub either-stripe : IsLegal p log → (spec : Spec) (r : Result ℕ Refusal) → IfOk r (λ a. Accepts content old (step.Watch spec) (reply.Aggregate a) new) → IfErr r (λ e. Refuses old (step.Watch spec) e new) → IsStripe p log new.table
    either-stripe legal spec (Ok a) ok err = stripe-watched content old new p log is legal spec (reply.Aggregate a) ok
    either-stripe legal spec (Err e) ok err = subst (λ (s : State K). IsStripe p log s.table) (sym err.0) is

    pub still-stripe : {A : Type 0} (a : ℕ) (r : Result A Refusal) → a ≢ 0 → OnOk r (Accepts content old (step.Unwatch a) reply.Done new) → IfErr r (λ e. Refuses old (step.Unwatch a) e new) → IsStripe p log new.table
    still-stripe a (Ok done) ne ok err = stripe-unwatched content old new p log is a reply.Done ne ok
    still-stripe a (Err e) ne ok err = subst (λ (s : State K). IsStripe p log s.table) (sym err.0) is

    pub either-number : (spec : Spec) (r : Result ℕ Refusal) → IfOk r (λ a. Accepts content old (step.Watch spec) (reply.Aggregate a) new) → IfOk r (λ a. (a ≢ 0) × (a < 32))
    either-number spec (Ok a) ok = number-watched content old new p log is spec a ok
    either-number spec (Err e) ok = tt

    pub either-why : (spec copy : Spec) (r : Result ℕ Refusal) → copy ≡ spec → IfErr r (λ e. Refuses old (step.Watch copy) e new) → IfErr r (WatchRefusal p.schema spec)
    either-why spec copy (Ok a) same err = tt
    either-why spec copy (Err e) same err = subst (λ x. WatchRefusal p.schema x e) same (refused-watched content old new p log is copy e err)

    pub either-allowed : {A : Type 0} (schema : List Kind) (spec : Spec) (r : Result A Refusal) → schema ≡ old.table.schema → spec_refusal schema spec ≡ None → OnOk r (spec_refusal p.schema spec ≡ None)
    either-allowed schema spec (Ok a) same free = subst (λ kinds. spec_refusal kinds spec ≡ None) (same ∙ is.schema) free
    either-allowed schema spec (Err e) same free = tt

  module _ (p q : Planned) (is : IsPlan p) (same : p ≡ q) (n : ℕ) (fresh : old ≡ empty_state q.schema q.limits n) (spec : Spec) (gauge : spec ≡ p.gauge) where
    as-empty : old ≡ empty_state p.schema p.limits n
    as-empty = fresh ∙ ap (λ (r : Planned). empty_state r.schema r.limits n) (sym same)

    -- an empty table after its gauge is registered
    pub gauge-watched : (is_of : K → List ℕ → Type 0) (r : Result ℕ Refusal) → ((id : List ℕ) → AreAt is_of id old.rows) → IfOk r (λ a. Accepts content old (step.Watch spec) (reply.Aggregate a) new) → OnOk r (IsEmpty is_of q n new)
    gauge-watched is_of (Ok a) here done = subst (λ (r : Planned). IsEmpty is_of r n new) same (empty-watched content old new p is n as-empty spec gauge is_of (reply.Aggregate a) here done)
    gauge-watched is_of (Err e) here done = tt

    -- the gauge is refused only for lack of memory
    pub gauge-refused : (r : Result ℕ Refusal) → IfErr r (λ e. Refuses old (step.Watch spec) e new) → IfErr r (λ e. e ≡ refusal.NoMemory)
    gauge-refused (Ok a) refused = tt
    gauge-refused (Err e) refused = empty-refused content old new p is n as-empty spec gauge e refused

-- a state that is opened for a plan is opened for an equal plan
pub opened-for : {K : Type 0} (p q : Planned) (n : ℕ) (schema : List Kind) (s : State K) → p ≡ q → schema ≡ p.schema → s ≡ empty_state schema p.limits n → s ≡ empty_state q.schema q.limits n
opened-for p q n schema s same kinds fresh =
    fresh
    ∙ ap (λ (l : List Kind). empty_state l p.limits n) kinds
    ∙ ap (λ (r : Planned). empty_state r.schema r.limits n) same

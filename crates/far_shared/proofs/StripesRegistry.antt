-- The table of a stripe after an aggregate other than the gauge is registered or forgotten.
use Rattle.std.proofs.Common.{◌≡◌, ◌≢◌, ◌⊎◌, inl, inr, ℕ, zero, suc, ◌+◌, ◌<◌, ◌≤◌, ◌^◌, Bool, true, false, List, [], ◌∷◌, length, Option, None, Some, refl, sym, ap, subst, ◌∙◌, arith}
use Rattle.std.specs.Prelude.{◌==◌, is_none, replicate, slice_get, slice_set}
use Rattle.std.specs.Option.{option_or}
use Rattle.std.proofs.Math.Nat.{div-eq_of_lt}
use Rattle.std.proofs.lemmas.List.{length-set}
use Rattle.std.specs.Prelude.{Result, IfOk, IfErr, OnOk}
use Rattle.std.specs.declared.result.Result.TheVariants.{Ok, Err}
use Rattle.far_types.specs.declared.refusal.Refusal.{Refusal}
use Rattle.far_types.specs.declared.refusal.Refusal.TheVariants as refusal
use Rattle.far_types.specs.declared.cell.Kind.{Kind}
use Rattle.far_types.specs.declared.limits.Limits.{Limits}
use Rattle.far_types.specs.declared.spec.Spec.{Spec}
use Rattle.far_types.specs.Bounds.{spec_refusal}
use Rattle.far_types.specs.FirstOf.{first_of}
use Rattle.far_types.specs.MayRefuse.{MayRefuse}
use Rattle.far_types.specs.Table.{Table, Registered, empty_table, groups}
use Rattle.far_aggregates.specs.Aggregates.{flattened, free_from}
use Rattle.far_rows.specs.Jobs.{AreAt}
use Rattle.far_table.specs.State.{LiveState}
use Rattle.far_table.specs.Watching.{lowest_free, watch_refusal, with_aggregate, after_register_at}
use Rattle.far_frame.specs.Effects.{Accepts, Refuses}
use Rattle.far_frame.specs.State.{State, empty_state}
use Rattle.far_frame.specs.declared.step.Reply.{Reply}
use Rattle.far_frame.specs.declared.step.Reply.TheVariants as reply
use Rattle.far_frame.specs.declared.step.Step.TheVariants as step
use Rattle.far_sessions.specs.Histories.{Planned, IsLegal}
use Rattle.far_sessions.specs.declared.view.Entry.{Entry}
use Rattle.far_shared.specs.Fours.{pending_in}
use Rattle.far_shared.specs.Opening.{IsEmpty}
use Rattle.far_shared.specs.Plans.{IsPlan}
use Rattle.far_shared.specs.Stripes.{AreRowsOf, IsStripe, first_registered}
use Rattle.far_shared.specs.Watching.{WatchRefusal}
use Rattle.far_shared.proofs.StripesColumns.{empty-of}
use Rattle.far_shared.proofs.FoursPending.{at-most, empty-few, left-registered, registered_now, set-few, zero-least}
use Rattle.far_shared.proofs.StripesLaws.{places-few, plan-checked}

first-unchanged : {X : Type 0} (xs : List X) (a : ℕ) (x : X) → a ≢ 0 → slice_get (slice_set xs a x) 0 ≡ slice_get xs 0
first-unchanged [] a x ne = refl
first-unchanged (y ∷ ys) zero x ne = absurd (ne refl)
first-unchanged (y ∷ ys) (suc a) x ne = refl

pub free-within : (n : ℕ) (xs : List (Option Registered)) (a : ℕ) → free_from n xs ≡ Some a → (n ≤ a) × (a < n + length xs)
free-within n [] a is = absurd cc
free-within n (None ∷ rest) a is = (let e : n ≡ a = cc in (omega (arith, e), omega (arith, e)))
free-within n (Some r ∷ rest) a is = (let ih = free-within (n + 1) rest a is in (omega (arith, ih.0), omega (arith, ih.1)))

number-in : (xs : List (Option Registered)) (r : Registered) (a : ℕ) → flattened (slice_get xs 0) ≡ Some r → length xs ≡ 32 → free_from 0 xs ≡ Some a → (a ≢ 0) × (a < 32)
number-in [] r a first len free = absurd cc
number-in (None ∷ xs) r a first len free = absurd cc
number-in (Some s ∷ xs) r a first len free = (let within = free-within 1 xs a free in ((λ e. omega (arith, within.0, e)), omega (arith, within.1, len)))

module _ (p : Planned) (log : List Entry) (table : Table) (is : IsStripe p log table) where
  -- the lowest free number is not the gauge's
  pub number-free : (a : ℕ) → lowest_free table ≡ Some a → (a ≢ 0) × (a < 32)
  number-free a free = number-in table.aggregates (first_registered p.gauge) a is.gauge is.aggregates free

  module _ (a : ℕ) (ne : a ≢ 0) where
    -- writing an aggregate under another number than the gauge's, with few pending row groups, keeps the stripe
    pub stripe-with : (x : Option Registered) → pending_in x ≤ 2 ^ 24 → IsStripe p log (with_aggregate a x table)
    stripe-with x few = record {
      plan = is.plan;
      schema = is.schema;
      limits = is.limits;
      places = is.places;
      edits = is.edits;
      aggregates = length-set table.aggregates a x ∙ is.aggregates;
      gauge = ap flattened (first-unchanged table.aggregates a x ne) ∙ is.gauge;
      few = λ b. set-few table.aggregates a b x few is.few;
    }

    pub stripe-after_register : (spec : Spec) → IsLegal p log → IsStripe p log (after_register_at a spec table)
    stripe-after_register spec legal =
        let some : 1 ≤ table.limits.group = subst (λ (l : Limits). 1 ≤ l.group) (sym is.limits) is.plan.limits.group_low in
        let with = stripe-with (Some (registered_now spec table)) (at-most _ _ _ (left-registered spec table some) (places-few p log table is legal)) in record {
          plan = with.plan;
          schema = with.schema;
          limits = with.limits;
          places = with.places;
          edits = with.edits;
          aggregates = with.aggregates;
          gauge = with.gauge;
          few = with.few;
        }

module _ (p : Planned) (log : List Entry) (table : Table) (is : IsStripe p log table) (kinds : List Kind) (spec : Spec) (same : kinds ≡ table.schema) where
  -- a specification is checked against the table's schema, which is the plan's
  pub check-allowed : spec_refusal kinds spec ≡ None → spec_refusal p.schema spec ≡ None
  check-allowed free = subst (λ schema. spec_refusal schema spec ≡ None) (same ∙ is.schema) free

  pub check-why : (given : Refusal) → spec_refusal kinds spec ≡ Some given → WatchRefusal p.schema spec given
  check-why given due = inl (subst (λ schema. spec_refusal schema spec ≡ Some given) (same ∙ is.schema) due)

  pub memory-why : (given : Refusal) → spec_refusal kinds spec ≡ None → given ≡ refusal.NoMemory → WatchRefusal p.schema spec given
  memory-why given free memory = inr (check-allowed free, inr memory)

-- an empty table has no row groups
no-groups : (size : ℕ) → 0 < size → groups size 0 ≡ 0
no-groups size some = div-eq_of_lt (omega (arith, some))

module _ (p : Planned) (is : IsPlan p) where
  -- an empty table with its gauge is the table of an empty history
  pub stripe-opened : (a : ℕ) → lowest_free (empty_table p.schema p.limits) ≡ Some a → IsStripe p [] (after_register_at a p.gauge (empty_table p.schema p.limits))
  stripe-opened a free = subst (λ n. IsStripe p [] (after_register_at n p.gauge (empty_table p.schema p.limits))) first opened
    where
      first : 0 ≡ a
      first = cc

      none : groups p.limits.group 0 ≡ 0
      none = no-groups p.limits.group (omega (arith, is.limits.group_low))

      gauge-few : pending_in (Some (registered_now p.gauge (empty_table p.schema p.limits))) ≤ 2 ^ 24
      gauge-few = at-most _ 0 _ (left-registered p.gauge (empty_table p.schema p.limits) is.limits.group_low) (zero-least (2 ^ 24))

      opened : IsStripe p [] (after_register_at 0 p.gauge (empty_table p.schema p.limits))
      opened = record {
        plan = is;
        schema = refl;
        limits = refl;
        places = refl;
        edits = refl;
        aggregates = refl;
        gauge = ap (λ (n : ℕ). Some (registered p.gauge (replicate n true))) none;
        few = λ b. set-few (empty_table p.schema p.limits).aggregates 0 b (Some (registered_now p.gauge (empty_table p.schema p.limits))) gauge-few (empty-few 32);
      }
        where
          registered : Spec → List Bool → Registered
          registered spec pending = record { spec = spec; registration = 0; pending = pending }

  -- the gauge is registered, unless memory runs out
  pub gauge-free : watch_refusal (empty_table p.schema p.limits) p.gauge ≡ None
  gauge-free = ap (λ (due : Option Refusal). option_or due (first_of ((false, refusal.TooManyAggregates) ∷ (false, refusal.TooManyAggregates) ∷ []))) (plan-checked p is)

module _ (table : Table) (spec : Spec) where
  -- why an aggregate is not registered
  pub watch-why : (given : Refusal) → MayRefuse (watch_refusal table spec) true given → WatchRefusal table.schema spec given
  watch-why given may = by (spec_refusal table.schema spec) (is_none (lowest_free table)) (table.registrations == 2 ^ 32) may
    where
      by : (due : Option Refusal) (full used : Bool) → MayRefuse (option_or due (first_of ((full, refusal.TooManyAggregates) ∷ (used, refusal.TooManyAggregates) ∷ []))) true given
          → (due ≡ Some given) ⊎ ((due ≡ None) × ((given ≡ refusal.TooManyAggregates) ⊎ (given ≡ refusal.NoMemory)))
      by (Some due) full used may = inl (ap (λ (e : Refusal). Some e) (sym may))
      by None true used may = inr (refl, inl may)
      by None false true may = inr (refl, inl may)
      by None false false may = inr (refl, inr may.0)

  -- a registered aggregate is valid for the schema
  pub watch-allowed : watch_refusal table spec ≡ None → spec_refusal table.schema spec ≡ None
  watch-allowed free = by (spec_refusal table.schema spec) free
    where
      by : (due : Option Refusal) → option_or due (first_of ((is_none (lowest_free table), refusal.TooManyAggregates) ∷ (table.registrations == 2 ^ 32, refusal.TooManyAggregates) ∷ [])) ≡ None → due ≡ None
      by None free = refl
      by (Some due) free = absurd cc

module _ {K : Type 0} (content : K → List ℕ) (old new : State K) where
  same-rows : (spec : Spec) (given : Reply) → Accepts content old (step.Watch spec) given new → new.rows ≡ old.rows
  same-rows spec given h = ap (λ (s : LiveState K). s.rows) h.2.changed.state

  module _ (is_of : K → List ℕ → Type 0) (id : List ℕ) (here : AreAt is_of id old.rows) where
    -- registering and forgetting keep all tickets in the store
    pub watched-here : (spec : Spec) (given : Reply) → Accepts content old (step.Watch spec) given new → AreAt is_of id new.rows
    watched-here spec given h = subst (AreAt is_of id) (sym (same-rows spec given h)) here

    pub unwatched-here : (a : ℕ) (given : Reply) → Accepts content old (step.Unwatch a) given new → AreAt is_of id new.rows
    unwatched-here a given h = subst (AreAt is_of id) (sym (ap (λ (s : LiveState K). s.rows) h.1.changed.state)) here

  module _ (p : Planned) (log : List Entry) (is : IsStripe p log old.table) where
    -- the stripe after an aggregate is registered
    pub stripe-watched : IsLegal p log → (spec : Spec) (given : Reply) → Accepts content old (step.Watch spec) given new → IsStripe p log new.table
    stripe-watched legal spec given h =
        subst (IsStripe p log) (sym (ap (λ (s : LiveState K). s.table) h.2.changed.state)) (stripe-after_register p log old.table is h.0 (number-free p log old.table is h.0 h.2.changed.number).0 spec legal)

    -- the number of the new aggregate is not the gauge's
    pub number-watched : (spec : Spec) (a : ℕ) → Accepts content old (step.Watch spec) (reply.Aggregate a) new → (a ≢ 0) × (a < 32)
    number-watched spec a h =
        let is-a : reply.Aggregate a ≡ reply.Aggregate h.0 = h.1 in
        let same : h.0 ≡ a = cc in
        subst (λ n. (n ≢ 0) × (n < 32)) same (number-free p log old.table is h.0 h.2.changed.number)

    -- the stripe after an aggregate other than the gauge is forgotten
    pub stripe-unwatched : (a : ℕ) (given : Reply) → a ≢ 0 → Accepts content old (step.Unwatch a) given new → IsStripe p log new.table
    stripe-unwatched a given ne h =
        subst (IsStripe p log) (sym (ap (λ (s : LiveState K). s.table) h.1.changed.state)) (stripe-with p log old.table is a ne None (zero-least (2 ^ 24)))

    -- the stripe is kept, whether the aggregate is registered or refused
    pub held-watch : IsLegal p log → (is_of : K → List ℕ → Type 0) (id : List ℕ) → AreAt is_of id old.rows → (n : ℕ) → AreRowsOf p.schema n old.rows → (spec : Spec) (r : Result ℕ Refusal)
        → IfOk r (λ a. Accepts content old (step.Watch spec) (reply.Aggregate a) new) → IfErr r (λ e. Refuses old (step.Watch spec) e new)
        → IsStripe p log new.table × AreAt is_of id new.rows × AreRowsOf p.schema n new.rows
    held-watch legal is_of id here n of spec (Ok a) done refused =
        (stripe-watched legal spec (reply.Aggregate a) done, watched-here is_of id here spec (reply.Aggregate a) done, subst (AreRowsOf p.schema n) (sym (same-rows spec (reply.Aggregate a) done)) of)
    held-watch legal is_of id here n of spec (Err e) done refused =
        subst (λ (s : State K). IsStripe p log s.table × AreAt is_of id s.rows × AreRowsOf p.schema n s.rows) (sym refused.0) (is, here, of)

    pub held-unwatch : (is_of : K → List ℕ → Type 0) (id : List ℕ) → AreAt is_of id old.rows → (n : ℕ) → AreRowsOf p.schema n old.rows → (a : ℕ) → a ≢ 0 → (r : Result Unit Refusal)
        → OnOk r (Accepts content old (step.Unwatch a) reply.Done new) → IfErr r (λ e. Refuses old (step.Unwatch a) e new)
        → IsStripe p log new.table × AreAt is_of id new.rows × AreRowsOf p.schema n new.rows
    held-unwatch is_of id here n of a ne (Ok x) done refused =
        (stripe-unwatched a reply.Done ne done, unwatched-here is_of id here a reply.Done done, subst (AreRowsOf p.schema n) (sym (ap (λ (s : LiveState K). s.rows) done.1.changed.state)) of)
    held-unwatch is_of id here n of a ne (Err e) done refused =
        subst (λ (s : State K). IsStripe p log s.table × AreAt is_of id s.rows × AreRowsOf p.schema n s.rows) (sym refused.0) (is, here, of)

    -- why an aggregate is not registered in the stripe
    pub refused-watched : (spec : Spec) (given : Refusal) → Refuses old (step.Watch spec) given new → WatchRefusal p.schema spec given
    refused-watched spec given h = subst (λ schema. WatchRefusal schema spec given) is.schema (watch-why old.table spec given h.1)

  module _ (p : Planned) (is : IsPlan p) (n : ℕ) (fresh : old ≡ empty_state p.schema p.limits n) (spec : Spec) (gauge : spec ≡ p.gauge) where
    is-fresh : old.table ≡ empty_table p.schema p.limits
    is-fresh = ap (λ (s : State K). s.table) fresh

    -- an empty table after its gauge is registered
    pub empty-watched : (is_of : K → List ℕ → Type 0) (given : Reply) → ((id : List ℕ) → AreAt is_of id old.rows) → Accepts content old (step.Watch spec) given new → IsEmpty is_of p n new
    empty-watched is_of given here h = record {
      stripe = subst (IsStripe p []) (sym table) (stripe-opened p is h.0 (subst (λ (t : Table). lowest_free t ≡ Some h.0) is-fresh h.2.changed.number));
      here = λ id. watched-here is_of id (here id) spec given h;
      rows = subst (AreRowsOf p.schema n) (sym (same-rows spec given h ∙ ap (λ (s : State K). s.rows) fresh)) (empty-of p.schema p.limits n);
    }
      where
        table : new.table ≡ after_register_at h.0 p.gauge (empty_table p.schema p.limits)
        table =
            ap (λ (s : LiveState K). s.table) h.2.changed.state
            ∙ ap (after_register_at h.0 spec) is-fresh
            ∙ ap (λ (x : Spec). after_register_at h.0 x (empty_table p.schema p.limits)) gauge

    -- the gauge is registered, unless memory runs out
    pub empty-refused : (given : Refusal) → Refuses old (step.Watch spec) given new → given ≡ refusal.NoMemory
    empty-refused given h =
        let free : watch_refusal old.table spec ≡ None =
        ap (λ (t : Table). watch_refusal t spec) is-fresh ∙ ap (watch_refusal (empty_table p.schema p.limits)) gauge ∙ gauge-free p is in
        let may : MayRefuse None true given = subst (λ (due : Option Refusal). MayRefuse due true given) free h.1 in
        may.0

-- a new stripe has an empty table and an empty history
pub empty-stripe : {K : Type 0} (is_of : K → List ℕ → Type 0) (p : Planned) (n : ℕ) (store : List ℕ) (log : List Entry) (s : State K) → log ≡ [] → IsEmpty is_of p n s → IsStripe p log s.table × AreAt is_of store s.rows × AreRowsOf p.schema n s.rows
empty-stripe is_of p n store log s none empty = (subst (λ l. IsStripe p l s.table) (sym none) empty.stripe, empty.here store, empty.rows)

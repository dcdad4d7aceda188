-- Registrations in a stripe: the free number, and undoing one.
use Rattle.std.proofs.Common.{◌≡◌, ◌≢◌, ℕ, zero, suc, ◌+◌, ◌<◌, ◌≤◌, Bool, true, false, not, List, [], ◌∷◌, drop, get_or, length, Option, None, Some, is_none, is_some, option_map, slice_get, slice_set, IfSome, refl, sym, ap, subst, ◌∙◌, arith, Result, IfErr, OnErr, OnOk}
use Rattle.std.specs.declared.result.Result.TheVariants.{Ok, Err}
use Rattle.std.proofs.lemmas.List.{drop_all, drop_more}
use Rattle.std.proofs.lemmas.Option.{slice_get-get_or}
use Rattle.far_types.specs.declared.refusal.Refusal.{Refusal}
use Rattle.far_types.specs.declared.spec.Spec.{Spec}
use Rattle.far_types.specs.MayRefuse.{MayRefuse}
use Rattle.far_types.specs.Table.{Table, Registered}
use Rattle.far_aggregates.specs.Aggregates.{free_from, flattened}
use Rattle.far_table.specs.Watching.{lowest_free, after_register_at, unwatch_refusal, with_aggregate}
use Rattle.far_frame.specs.Effects.{Accepts, Refuses}
use Rattle.far_frame.specs.State.{State}
use Rattle.far_frame.specs.declared.step.Reply.TheVariants as reply
use Rattle.far_frame.specs.declared.step.Step.TheVariants as step
use Rattle.far_sessions.specs.Histories.{Planned}
use Rattle.far_sessions.specs.declared.view.Entry.{Entry}
use Rattle.far_shared.specs.Stripes.{StripeState, IsStripe}
use Rattle.far_shared.specs.Watching.{IsAsBefore, after_register, after_unregister, uncounted}
use Rattle.far_shared.proofs.FoursPending.{registered_now}
use Rattle.far_shared.proofs.StripesRegistry.{free-within, number-free}

-- a reader finds nothing exactly if the number is free
pub none-found : {A B C : Type 0} (found : Option A) (there : Option B) (f : A → C) (h : B → C) (b : Bool) → is_some found ≡ not b → option_map f found ≡ option_map h there → b ≡ is_none there
none-found None None f h true some same = refl
none-found None None f h false some same = absurd cc
none-found None (Some y) f h b some same = absurd cc
none-found (Some x) None f h b some same = absurd cc
none-found (Some x) (Some y) f h true some same = absurd cc
none-found (Some x) (Some y) f h false some same = refl

-- a fact holds also if the call is refused
pub at-err : {A E P : Type 0} (r : Result A E) → P → OnErr r P
at-err (Ok x) p = tt
at-err (Err e) p = p

free-head : (n : ℕ) (x : Option Registered) (xs : List (Option Registered)) → is_none x ≡ true → free_from n (x ∷ xs) ≡ Some n
free-head n None xs free = refl
free-head n (Some r) xs free = absurd cc

in_use-head : (n : ℕ) (x : Option Registered) (xs : List (Option Registered)) → is_none x ≡ false → free_from n (x ∷ xs) ≡ free_from (n + 1) xs
in_use-head n None xs in_use = absurd cc
in_use-head n (Some r) xs in_use = refl

module _ (xs : List (Option Registered)) (a : ℕ) (within : a < length xs) where
  column_index : flattened (slice_get xs a) ≡ get_or xs a None
  column_index = ap flattened (slice_get-get_or xs a None within)

  -- if number a is free, it is the lowest free one from a on
  pub free-here : is_none (flattened (slice_get xs a)) ≡ true → free_from a (drop a xs) ≡ Some a
  free-here free = ap (free_from a) (drop_more xs a None within) ∙ free-head a (get_or xs a None) (drop (a + 1) xs) (ap is_none (sym column_index) ∙ free)

  -- if number a is in use, the lowest free one is from a + 1 on
  pub free-past : is_none (flattened (slice_get xs a)) ≡ false → free_from a (drop a xs) ≡ free_from (a + 1) (drop (a + 1) xs)
  free-past in_use = ap (free_from a) (drop_more xs a None within) ∙ in_use-head a (get_or xs a None) (drop (a + 1) xs) (ap is_none (sym column_index) ∙ in_use)

-- past the last number none is free
pub free-end : (xs : List (Option Registered)) (a : ℕ) → length xs ≤ a → free_from a (drop a xs) ≡ None
free-end xs a past = ap (free_from a) (drop_all a xs past)

-- the lowest free number is not the gauge's
pub next-number : (p : Planned) (log : List Entry) (table : Table) → IsStripe p log table → (found : Option ℕ) → found ≡ lowest_free table → IfSome found (λ a. (a ≢ 0) × (a < 32))
next-number p log table is None same = tt
next-number p log table is (Some a) same = number-free p log table is a (sym same)

-- writing under the lowest free number and removing it again restores the aggregates
set-undone : (n m : ℕ) (xs : List (Option Registered)) (a : ℕ) (x : Option Registered) → free_from n xs ≡ Some m → m ≡ n + a → slice_set (slice_set xs a x) a None ≡ xs
set-undone n m [] a x free at = absurd cc
set-undone n m (None ∷ xs) zero x free at = refl
set-undone n m (None ∷ xs) (suc a) x free at = absurd (let same : n ≡ m = cc in omega (arith, same, at))
set-undone n m (Some r ∷ xs) zero x free at = absurd (let past = free-within (n + 1) xs m free in omega (arith, past.0, at))
set-undone n m (Some r ∷ xs) (suc a) x free at = ap (λ (rest : List (Option Registered)). Some r ∷ rest) (set-undone (n + 1) m xs a x free (omega (arith, at)))

-- removing an aggregate that is not registered changes nothing
set-nothing : (xs : List (Option Registered)) (a : ℕ) → flattened (slice_get xs a) ≡ None → slice_set xs a None ≡ xs
set-nothing [] a none = refl
set-nothing (x ∷ xs) zero none = ap (λ (y : Option Registered). y ∷ xs) (sym none)
set-nothing (x ∷ xs) (suc a) none = ap (λ (rest : List (Option Registered)). x ∷ rest) (set-nothing xs a none)

none-there : (aggregate : Option Registered) (given : Refusal) → MayRefuse (unwatch_refusal aggregate) false given → aggregate ≡ None
none-there None given may = refl
none-there (Some r) given may = absurd (let off : false ≡ true = may.1 in cc)

-- a history and its table
abbrev pub held : {K : Type 0} → List Entry → State K → StripeState K
held log state = record { log = log; state = state }

module _ {K : Type 0} where
  -- undoing a registration restores all but the count of registrations
  pub undone : (a : ℕ) (spec : Spec) (h : StripeState K) → lowest_free h.state.table ≡ Some a → uncounted (after_unregister a (after_register a spec h)) ≡ uncounted h
  undone a spec h free =
      ap (λ (all : List (Option Registered)). uncounted (record h { state = record h.state { table = record h.state.table { aggregates = all } } }))
      (set-undone 0 a h.state.table.aggregates a (Some (registered_now spec h.state.table)) free (omega arith))

  -- an unchanged stripe is as before
  pub unchanged : {old new : StripeState K} → new ≡ old → IsAsBefore old new
  unchanged {old} {new} same =
      let count : new.state.table.registrations ≡ old.state.table.registrations = ap (λ (h : StripeState K). h.state.table.registrations) same in
      record { same = ap uncounted same; counted = omega (arith, count); once = omega (arith, count) }

  -- a stripe is as before after a registration was made and undone
  pub register-undone : (a : ℕ) (spec : Spec) (old made new : StripeState K) → lowest_free old.state.table ≡ Some a → made ≡ after_register a spec old → new ≡ after_unregister a made → IsAsBefore old new
  register-undone a spec old made new free is back =
      let left : new ≡ after_unregister a (after_register a spec old) = back ∙ ap (after_unregister a) is in
      let count : new.state.table.registrations ≡ old.state.table.registrations + 1 = ap (λ (h : StripeState K). h.state.table.registrations) left in
      record { same = ap uncounted left ∙ undone a spec old free; counted = omega (arith, count); once = omega (arith, count) }

  -- a registration of a copy, under the number that was found before, is the registration
  pub at-number : (a b : ℕ) (copy spec : Spec) (old new : StripeState K) → copy ≡ spec → lowest_free old.state.table ≡ Some a → (lowest_free old.state.table ≡ Some b) × (new ≡ after_register b copy old) → new ≡ after_register a spec old
  at-number a b copy spec old new same free done =
      let both : Some b ≡ Some a = sym done.0 ∙ free in
      let at : b ≡ a = cc in
      done.1 ∙ ap (λ (n : ℕ). after_register n copy old) at ∙ ap (λ (s : Spec). after_register a s old) same

module _ {K : Type 0} (content : K → List ℕ) (old new : State K) where
  -- the state after a registration
  pub watched : (log : List Entry) (spec : Spec) (a : ℕ) → Accepts content old (step.Watch spec) (reply.Aggregate a) new → (lowest_free old.table ≡ Some a) × (held log new ≡ after_register a spec (held log old))
  watched log spec a h =
      let is-a : reply.Aggregate a ≡ reply.Aggregate h.0 = h.1 in
      let same : h.0 ≡ a = cc in
      let moved : new ≡ record old { table = after_register_at h.0 spec old.table } =
      λ i. record { table = (h.2.changed.state i).table; rows = (h.2.changed.state i).rows; accesses = h.2.accesses i } in
      (subst (λ (n : ℕ). lowest_free old.table ≡ Some n) same h.2.changed.number, ap (held log) moved ∙ ap (λ (n : ℕ). after_register n spec (held log old)) same)

  -- the state after a number is to be forgotten, whether or not it has an aggregate
  pub forgotten : (a : ℕ) (r : Result Unit Refusal) → OnOk r (Accepts content old (step.Unwatch a) reply.Done new) → IfErr r (λ e. Refuses old (step.Unwatch a) e new) → new ≡ record old { table = with_aggregate a None old.table }
  forgotten a (Ok x) done refused = λ i. record { table = (done.1.changed.state i).table; rows = (done.1.changed.state i).rows; accesses = done.1.accesses i }
  forgotten a (Err e) done refused =
      refused.0 ∙ ap (λ (all : List (Option Registered)). record old { table = record old.table { aggregates = all } }) (sym (set-nothing old.table.aggregates a (none-there (flattened (slice_get old.table.aggregates a)) e refused.1)))

-- Why an aggregate is not registered, or a row group is not scanned.
use Rattle.std.proofs.Common.{◌≡◌, ◌≢◌, ℕ, zero, suc, ◌<◌, ◌≤◌, Bool, true, false, not, List, [], ◌∷◌, set, Option, None, Some, refl, subst, sym, ap, ◌∙◌, arith}
use Rattle.std.specs.Prelude.{◌^◌, ◌==◌, cond, is_none, nat_lt}
use Rattle.std.specs.Option.{option_or}
use Rattle.std.proofs.lemmas.Bool.Decides.{nat_tests}
use Rattle.far_types.specs.declared.cell.Kind.{Kind}
use Rattle.far_types.specs.declared.refusal.Refusal.{Refusal}
use Rattle.far_types.specs.declared.refusal.Refusal.TheVariants as refusal
use Rattle.far_types.specs.declared.spec.Spec.{Spec}
use Rattle.far_types.specs.Bounds.{spec_refusal}
use Rattle.far_types.specs.FirstOf.{first_of}
use Rattle.far_types.specs.MayRefuse.{MayRefuse}
use Rattle.far_types.specs.Table.{Table, Registered, is_pending}
use Rattle.far_table.specs.State.{LiveState, IsChecked, AreChecked}
use Rattle.far_table.specs.Watching.{lowest_free, group_count, needed_from, watch_refusal, scan_refusal}

-- a call may return the due refusal
pub due : (o : Option Refusal) (grows : Bool) (e : Refusal) → o ≡ Some e → MayRefuse o grows e
due o grows e is = subst (λ due. MayRefuse due grows e) (sym is) refl

-- if no refusal is due, a call may return `NoMemory`
pub for-memory : (o : Option Refusal) (e : Refusal) → o ≡ None → e ≡ refusal.NoMemory → MayRefuse o true e
for-memory o e free is = subst (λ due. MayRefuse due true e) (sym free) (is, refl)

module _ (table : Table) (spec : Spec) where
  abbrev rest : List (Bool × Refusal)
  rest = (is_none (lowest_free table), refusal.TooManyAggregates) ∷ (table.registrations == 2 ^ 32, refusal.TooManyAggregates) ∷ []

  pub watch-wrong : (e : Refusal) → spec_refusal table.schema spec ≡ Some e → watch_refusal table spec ≡ Some e
  watch-wrong e wrong = ap (λ o. option_or o (first_of rest)) wrong

  module _ (right : spec_refusal table.schema spec ≡ None) where
    right-one : watch_refusal table spec ≡ first_of rest
    right-one = ap (λ o. option_or o (first_of rest)) right

    pub watch-full : lowest_free table ≡ None → watch_refusal table spec ≡ Some refusal.TooManyAggregates
    watch-full full = right-one ∙ ap (λ (o : Option ℕ). first_of ((is_none o, refusal.TooManyAggregates) ∷ (table.registrations == 2 ^ 32, refusal.TooManyAggregates) ∷ [])) full

    module _ (a : ℕ) (free : lowest_free table ≡ Some a) where
      numbered : watch_refusal table spec ≡ cond (table.registrations == 2 ^ 32) (Some refusal.TooManyAggregates) None
      numbered = right-one ∙ ap (λ (o : Option ℕ). first_of ((is_none o, refusal.TooManyAggregates) ∷ (table.registrations == 2 ^ 32, refusal.TooManyAggregates) ∷ [])) free

      pub watch-used : table.registrations ≡ 2 ^ 32 → watch_refusal table spec ≡ Some refusal.TooManyAggregates
      watch-used used = let e : (table.registrations == 2 ^ 32) ≡ true = grind (arith, nat_tests) in numbered ∙ ap (λ b. cond b (Some refusal.TooManyAggregates) None) e

      pub watch-free : table.registrations ≢ 2 ^ 32 → watch_refusal table spec ≡ None
      watch-free few = let e : (table.registrations == 2 ^ 32) ≡ false = grind (arith, nat_tests) in numbered ∙ ap (λ b. cond b (Some refusal.TooManyAggregates) None) e

module _ {K : Type 0} (s : LiveState K) (r : Registered) (g : ℕ) where
  abbrev away : List (Bool × Refusal)
  away = needed_from s.rows r.spec g 0 s.rows.column_indexes

  pub scan-out : group_count s.table ≤ g → scan_refusal s (Some r) g ≡ Some refusal.OutOfRange
  scan-out past = let e : nat_lt g (group_count s.table) ≡ false = grind (arith, nat_tests) in ap (λ b. cond (not b) (Some refusal.OutOfRange) (cond (not (is_pending r.pending g)) (Some refusal.StaleJob) (first_of away))) e

  scan-in : g < group_count s.table → scan_refusal s (Some r) g ≡ cond (not (is_pending r.pending g)) (Some refusal.StaleJob) (first_of away)
  scan-in within = let e : nat_lt g (group_count s.table) ≡ true = grind (arith, nat_tests) in ap (λ b. cond (not b) (Some refusal.OutOfRange) (cond (not (is_pending r.pending g)) (Some refusal.StaleJob) (first_of away))) e

  pub scan-stale : g < group_count s.table → is_pending r.pending g ≡ false → scan_refusal s (Some r) g ≡ Some refusal.StaleJob
  scan-stale within scanned = scan-in within ∙ ap (λ b. cond (not b) (Some refusal.StaleJob) (first_of away)) scanned

  pub scan-left : g < group_count s.table → is_pending r.pending g ≡ true → scan_refusal s (Some r) g ≡ first_of away
  scan-left within left = scan-in within ∙ ap (λ b. cond (not b) (Some refusal.StaleJob) (first_of away)) left

-- writing a valid registration, or none, keeps the registrations valid
pub checked-put : (schema : List Kind) (aggregates : List (Option Registered)) (a : ℕ) (aggregate : Option Registered) → AreChecked schema aggregates → IsChecked schema aggregate → AreChecked schema (set aggregates a aggregate)
checked-put schema [] a aggregate checked is = tt
checked-put schema (other ∷ rest) zero aggregate checked is = (is, checked.1)
checked-put schema (other ∷ rest) (suc a) aggregate checked is = (checked.0, checked-put schema rest a aggregate checked.1 is)

-- The table of a stripe and the replay of its history agree.
use Rattle.std.proofs.Common.{◌≡◌, ℕ, ◌+◌, ◌<◌, ◌≤◌, ◌^◌, Bool, true, false, List, [], ◌∷◌, ◌++◌, length, Option, None, Some, refl, sym, ap, subst, ◌∙◌, arith}
use Rattle.std.proofs.lemmas.List.{length-append}
use Rattle.std.specs.Prelude.{ℤ, cond, ◌&&◌, ◌||◌, ◌==◌, nat_lt}
use Rattle.far_types.specs.declared.edit.Edit.{Edit}
use Rattle.far_types.specs.declared.edit.Edit.TheVariants as edit
use Rattle.far_types.specs.declared.refusal.Refusal.{Refusal}
use Rattle.far_types.specs.declared.refusal.Refusal.TheVariants as refusal
use Rattle.far_types.specs.declared.spec.Spec.{Spec}
use Rattle.far_types.specs.FirstOf.{first_of}
use Rattle.far_types.specs.declared.limits.Limits.{Limits}
use Rattle.far_types.specs.declared.cell.Kind.{Kind}
use Rattle.far_types.specs.Bounds.{spec_refusal}
use Rattle.far_types.specs.Edits.{after_edit, edit_refusal, places_after}
use Rattle.far_types.specs.Table.{Place, Table, empty_table}
use Rattle.far_aggregates.specs.Readings.{plain_in}
use Rattle.far_sessions.specs.declared.reading.Reading.{Reading}
use Rattle.far_sessions.specs.declared.view.Entry.{Entry}
use Rattle.far_sessions.specs.Histories.{Planned, IsLegal, replay, folded, gauge_of}
use Rattle.far_sessions.specs.Rule.{entry}
use Rattle.far_sessions.proofs.Histories.{replay_on-push}
use Rattle.far_sessions.proofs.HistoriesLegality.{schema_stays, limits_stay, few_edits}
use Rattle.far_shared.specs.Applying.{WhyNot, place_of}
use Rattle.far_shared.specs.Fours.{pending_in}
use Rattle.far_shared.specs.Plans.{IsPlan, is_plain, or_else}
use Rattle.far_shared.specs.Stripes.{IsStripe, first_registered}
use Rattle.far_shared.specs.Works.{KeepsRows}
use Rattle.far_shared.proofs.FoursPending.{at-most, zero-least}
use Rattle.far_shared.proofs.HistoriesPlaces.{few-places}

alike : (one other : Table) (e : Edit) → one.schema ≡ other.schema → one.limits ≡ other.limits → one.places ≡ other.places → one.edits ≡ other.edits → edit_refusal one e ≡ edit_refusal other e
alike one other e schema limits places edits =
    ap (λ (kinds : List Kind). edit_refusal (record one { schema = kinds }) e) schema
    ∙ ap (λ (l : Limits). edit_refusal (record one { schema = other.schema; limits = l }) e) limits
    ∙ ap (λ (all : List Place). edit_refusal (record one { schema = other.schema; limits = other.limits; places = all }) e) places
    ∙ ap (λ (n : ℕ). edit_refusal (record one { schema = other.schema; limits = other.limits; places = other.places; edits = n }) e) edits

why-alike : (one other : Table) (e : Edit) (given : Refusal) → one.schema ≡ other.schema → one.limits ≡ other.limits → one.places ≡ other.places → one.edits ≡ other.edits → WhyNot other e given → WhyNot one e given
why-alike one other e given schema limits places edits why =
    subst (λ (kinds : List Kind). WhyNot (record one { schema = kinds }) e given) (sym schema)
    (subst (λ (l : Limits). WhyNot (record one { schema = other.schema; limits = l }) e given) (sym limits)
    (subst (λ (all : List Place). WhyNot (record one { schema = other.schema; limits = other.limits; places = all }) e given) (sym places)
    (subst (λ (n : ℕ). WhyNot (record one { schema = other.schema; limits = other.limits; places = other.places; edits = n }) e given) (sym edits) why)))

-- the gauge of a plan is ungrouped
pub plan-plain : (p : Planned) → IsPlan p → is_plain p.gauge ≡ true
plan-plain p is = by (is_plain p.gauge) is.allowed
  where
    by : (b : Bool) → or_else (cond b (spec_refusal p.schema p.gauge) (Some refusal.BadSpec)) (first_of ((p.sessions == 0 || nat_lt 64 p.sessions, refusal.OutOfRange) ∷ [])) ≡ None → b ≡ true
    by true free = refl
    by false free = absurd cc

-- the gauge of a plan is valid for the plan's schema
pub plan-checked : (p : Planned) → IsPlan p → spec_refusal p.schema p.gauge ≡ None
plan-checked p is = by (is_plain p.gauge) (spec_refusal p.schema p.gauge) is.allowed
  where
    by : (b : Bool) (due : Option Refusal) → or_else (cond b due (Some refusal.BadSpec)) (first_of ((p.sessions == 0 || nat_lt 64 p.sessions, refusal.OutOfRange) ∷ [])) ≡ None → due ≡ None
    by true None free = refl
    by true (Some due) free = absurd cc
    by false due free = absurd cc

-- the first registered aggregate, if it is ungrouped, reads its count and sum
pub plain-read : (spec : Spec) (places : List Place) → is_plain spec ≡ true → plain_in places (Some (first_registered spec)) ≡ Some (folded spec places)
plain-read spec places plain = by (is_plain spec) plain
  where
    by : (b : Bool) → b ≡ true → cond (b && true) (Some (folded spec places)) None ≡ Some (folded spec places)
    by true is = refl
    by false is = absurd cc

abbrev pub reading : ℕ → ℕ × ℤ → Reading
reading edits x = record { edits = edits; count = x.0; sum = x.1 }

-- a reader returns only one value
pub same-read : (read : Option (ℕ × ℤ)) (x y : ℕ × ℤ) → read ≡ Some x → read ≡ Some y → x ≡ y
same-read read x y one other = (let both : Some x ≡ Some y = sym one ∙ other in cc)

pub reads-as : (edits : ℕ) (x y : ℕ × ℤ) → x ≡ y → reading edits x ≡ reading edits y
reads-as edits x y same = ap (reading edits) same

module _ (p : Planned) (log : List Entry) (table : Table) (is : IsStripe p log table) where
  -- the table and the replay differ only in their aggregates, so edits have the same refusals and places
  pub same-refusal : (e : Edit) → edit_refusal (replay p log) e ≡ edit_refusal table e
  same-refusal e =
      let schema : (replay p log).schema ≡ table.schema = schema_stays (empty_table p.schema p.limits) log ∙ sym is.schema in
      let limits : (replay p log).limits ≡ table.limits = limits_stay (empty_table p.schema p.limits) log ∙ sym is.limits in
      alike (replay p log) table e schema limits (sym is.places) (sym is.edits)

  pub same-why : (e : Edit) (given : Refusal) → WhyNot table e given → WhyNot (replay p log) e given
  same-why e given =
      why-alike (replay p log) table e given (schema_stays (empty_table p.schema p.limits) log ∙ sym is.schema) (limits_stay (empty_table p.schema p.limits) log ∙ sym is.limits) (sym is.places) (sym is.edits)

  pub same-place : (e : Edit) → place_of table e ≡ place_of (replay p log) e
  same-place (edit.Insert row) = ap length is.places
  same-place (edit.Set at c cell) = refl
  same-place (edit.Remove at) = refl

  -- a stripe has fewer than 2 ^ 63 edits
  pub few : IsLegal p log → length log < 2 ^ 63
  few legal = omega (arith, few_edits (empty_table p.schema p.limits) log legal (omega arith), is.plan.limits.edits_high)

  -- a stripe has at most 2 ^ 24 places
  pub places-few : IsLegal p log → length table.places ≤ 2 ^ 24
  places-few legal =
      subst (λ (all : List Place). length all ≤ 2 ^ 24) (sym is.places)
      (at-most _ _ _ (few-places (empty_table p.schema p.limits) log legal (zero-least p.limits.places)) is.plan.limits.places_high)

  -- the table after one more edit agrees with the longer history
  pub stripe-edited : (by : ℕ) (e : Edit) → IsStripe p (log ++ entry by e ∷ []) (after_edit e table)
  stripe-edited by e =
      let pushed = replay_on-push (empty_table p.schema p.limits) log (entry by e) in record {
        plan = is.plan;
        schema = is.schema;
        limits = is.limits;
        places = ap (places_after e) is.places ∙ sym (ap (λ (t : Table). t.places) pushed);
        edits = ap (λ n. n + 1) is.edits ∙ sym (ap (λ (t : Table). t.edits) pushed);
        aggregates = is.aggregates;
        gauge = is.gauge;
        few = is.few;
      }

  -- what the gauge reads after one more edit of the history
  pub gauge-edited : (by : ℕ) (e : Edit) (places : List Place) → places ≡ (after_edit e table).places
      → record { edits = length log + 1; count = (folded p.gauge places).0; sum = (folded p.gauge places).1 } ≡ gauge_of p (log ++ entry by e ∷ [])
  gauge-edited by e places now =
      let after : places ≡ (replay p (log ++ entry by e ∷ [])).places = now ∙ (stripe-edited by e).places in
      let count : length log + 1 ≡ length (log ++ entry by e ∷ []) = omega (arith, length-append log (entry by e ∷ [])) in
      rw after (rw count refl)

  -- the stripe after the edit is made in its table and appended to its history
  pub stripe-made : (by : ℕ) (e : Edit) (now : List Entry) (after : Table) → now ≡ log ++ entry by e ∷ [] → after ≡ after_edit e table → IsStripe p now after
  stripe-made by e now after longer changed =
      subst (λ l. IsStripe p l after) (sym longer) (subst (IsStripe p (log ++ entry by e ∷ [])) (sym changed) (stripe-edited by e))

  pub stripe-same : (now : List Entry) (after : Table) → now ≡ log → after ≡ table → IsStripe p now after
  stripe-same now after same kept = subst (λ l. IsStripe p l after) (sym same) (subst (IsStripe p log) (sym kept) is)

  -- if the gauge was right before the edit, it is right after it
  pub reads-edited : (by : ℕ) (e : Edit) (before after : Reading) (now : Table) → before ≡ gauge_of p log → now ≡ after_edit e table
      → after ≡ record { edits = before.edits + 1; count = (folded p.gauge now.places).0; sum = (folded p.gauge now.places).1 } → after ≡ gauge_of p (log ++ entry by e ∷ [])
  reads-edited by e before after now returned changed reads =
      reads
      ∙ ap (λ (r : Reading). record { edits = r.edits + 1; count = (folded p.gauge now.places).0; sum = (folded p.gauge now.places).1 }) returned
      ∙ gauge-edited by e now.places (ap (λ (t : Table). t.places) changed)

-- a table that keeps its rows stays the table of the stripe
pub stripe-unchanged : (p : Planned) (log : List Entry) (old new : Table) → KeepsRows old new → IsStripe p log old → IsStripe p log new
stripe-unchanged p log old new kept is = record {
  plan = is.plan;
  schema = kept.schema ∙ is.schema;
  limits = kept.limits ∙ is.limits;
  places = kept.places ∙ is.places;
  edits = kept.edits ∙ is.edits;
  aggregates = kept.aggregates ∙ is.aggregates;
  gauge = kept.scanned 0 (ap pending_in is.gauge) ∙ is.gauge;
  few = λ a. at-most _ _ _ (kept.fewer a) (is.few a);
}

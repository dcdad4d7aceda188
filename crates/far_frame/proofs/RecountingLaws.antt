-- What a recount of an aggregate folds, and that its answer is the one over the current rows.
use Rattle.std.proofs.Common.{◌≡◌, ℕ, ◌<◌, Bool, true, List, map, length, None, Some, Result, refl, sym, ap, subst, ◌∙◌}
use Rattle.std.specs.Prelude.{IfOk, IsSomeAnd, option_map}
use Rattle.std.proofs.lemmas.Result.{IfOk-weaker}
use Rattle.far_types.specs.declared.answer.Answer.{Answer}
use Rattle.far_types.specs.declared.cell.Kind.{Kind}
use Rattle.far_types.specs.declared.refusal.Refusal.{Refusal}
use Rattle.far_types.specs.declared.spec.Spec.{Spec}
use Rattle.far_types.specs.Answers.{answer_over}
use Rattle.far_types.specs.Bounds.{spec_refusal}
use Rattle.far_types.specs.Table.{Registered, rows_of}
use Rattle.far_rows.specs.ColumnIndexes.{kind_of}
use Rattle.far_rows.specs.Places.{places_in}
use Rattle.far_rows.specs.Rows.{Rows}
use Rattle.far_aggregates.specs.Accumulators.{RegistryEntry, registered_of}
use Rattle.far_aggregates.specs.Aggregates.{aggregate_in}
use Rattle.far_aggregates.specs.Lending.{IsServed}
use Rattle.far_table.specs.MixedGroups.{MayFold}
use Rattle.far_table.specs.Recounting.{IsAnswerNow}
use Rattle.far_table.specs.State.{IsChecked, AreChecked}
use Rattle.far_table.specs.TableRows.{TableRows}
use Rattle.far_table.proofs.WatchingScans.{IsOf, an-aggregate, checked-at}
use Rattle.far_frame.specs.State.{State}
use Rattle.far_frame.proofs.LiveEdits.{shown}
use Rattle.far_frame.proofs.OffloadingMerge.{needed-below}

module _ {K : Type 0} (t : TableRows K) (registry : List RegistryEntry) (a : ℕ) (spec : Spec) (given : Some spec ≡ option_map (λ (r : Registered). r.spec) (aggregate_in registry a)) where
  found : IsOf (aggregate_in registry a) spec
  found = an-aggregate (aggregate_in registry a) spec given

  -- the specification of an aggregate is valid for the columns of the table
  pub spec-right : AreChecked t.schema (registered_of registry) → spec_refusal t.schema spec ≡ None
  spec-right checked = ap (λ (s : Spec). spec_refusal t.schema s) (sym found.same) ∙ subst (IsChecked t.schema) found.is (checked-at t.schema (registered_of registry) a checked)

  module _ (held : Rows K) (same : held ≡ t.held) where
    -- the rows may be folded for an aggregate
    pub may-fold : ((schema : List Kind) (spec : Spec) (some : ℕ → Bool) → spec_refusal schema spec ≡ None → ((c : ℕ) → c < length schema → some c ≡ true) → IsServed some spec)
        → AreChecked t.schema (registered_of registry) → map kind_of t.held.column_indexes ≡ t.schema → MayFold held spec
    may-fold law checked kinds =
        let right = spec-right checked in
        subst (λ (r : Rows K). MayFold r spec) (sym same) record {
          tests = (law t.schema spec (λ c. true) right (λ c within. refl)).tests;
          columns = needed-below law t.held t.schema kinds spec right;
        }

    -- the answer over the held rows is the aggregate's answer over the table's rows
    pub answered : (content : K → List ℕ) → t.places ≡ places_in content t.held → (accesses : List (List ℕ)) (n : ℕ) (now : State K) → shown accesses t n registry ≡ now
        → (r : Result Answer Refusal) → IfOk r (λ answer. answer ≡ answer_over spec (rows_of (places_in content held))) → IfOk r (IsAnswerNow now.table a)
    answered content places accesses n now view r = IfOk-weaker r _ _ (λ answer is.
        subst (λ (s : State K). IsAnswerNow s.table a answer) view
        (subst (λ o. IsSomeAnd o (λ aggregate. answer ≡ answer_over aggregate.spec (rows_of t.places))) (sym found.is)
        (is
        ∙ ap (λ (r : Rows K). answer_over spec (rows_of (places_in content r))) same
        ∙ ap (λ ps. answer_over spec (rows_of ps)) (sym places)
        ∙ ap (λ s. answer_over s (rows_of t.places)) (sym found.same))))

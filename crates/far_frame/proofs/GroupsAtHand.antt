-- If no object of the row group is away, all columns that an aggregate needs are in memory.
use Rattle.std.proofs.Common.{◌≡◌, ℕ, zero, suc, ◌+◌, ◌/◌, ◌<◌, Bool, true, false, List, [], ◌∷◌, map, length, Option, None, Some, sym, ap, subst, ◌∙◌}
use Rattle.std.specs.Prelude.{cond, is_none, slice_get}
use Rattle.std.proofs.lemmas.List.{length-map}
use Rattle.std.proofs.lemmas.Option.{same_Some, none-some}
use Rattle.far_types.specs.declared.cell.Kind.{Kind}
use Rattle.far_types.specs.declared.refusal.Refusal.TheVariants as refusal
use Rattle.far_types.specs.declared.spec.Spec.{Spec}
use Rattle.far_types.specs.Bounds.{spec_refusal}
use Rattle.far_types.specs.FirstOf.{first_of}
use Rattle.far_types.specs.Table.{Registered}
use Rattle.far_rows.specs.declared.column_index.ColumnIndex.{ColumnIndex}
use Rattle.far_rows.specs.ColumnIndexes.{kind_of}
use Rattle.far_rows.specs.Rows.{Rows, AreRows}
use Rattle.far_rows.specs.Refusing.{away_at, absents, absents_from}
use Rattle.far_aggregates.specs.Lending.{IsServed, AreServed}
use Rattle.far_table.specs.State.{AreChecked}
use Rattle.far_table.specs.Groups.{has_column}
use Rattle.far_table.proofs.FirstOfLaws.{free-head}
use Rattle.far_table.proofs.EditsSetRefusals.{found-at}
use Rattle.far_table.proofs.WatchingColumns.{lend-due}

module _ {K : Type 0} (r : Rows K) (g : ℕ) where
  -- no object of the row group is away
  none-away : (n : ℕ) (column_indexes : List ColumnIndex) → first_of (absents_from r g n column_indexes) ≡ None → (k : ℕ) (s : ColumnIndex) → slice_get column_indexes k ≡ Some s → (away_at r g s).0 ≡ false
  none-away n [] free k s at = absurd (none-some s at)
  none-away n (t ∷ column_indexes) free zero s at = let same = same_Some t s at in subst (λ (u : ColumnIndex). (away_at r g u).0 ≡ false) same (free-head (away_at r g t).0 (refusal.Absent n g) (first_of (absents_from r g (n + 1) column_indexes)) free).0
  none-away n (t ∷ column_indexes) free (suc k) s at = none-away (n + 1) column_indexes (free-head (away_at r g t).0 (refusal.Absent n g) (first_of (absents_from r g (n + 1) column_indexes)) free).1 k s at

module _ {K : Type 0} (content : K → List ℕ) (held : Rows K) (are : AreRows content held) (p : ℕ) (inside : p < length held.alive) (free : first_of (absents held (p / held.size)) ≡ None) where
  -- each column of the row group is in memory
  at-hand : (c : ℕ) → c < length held.column_indexes → has_column record { rows = held; group = p / held.size } c ≡ true
  at-hand c within =
      let g = p / held.size in
      let found = found-at held.column_indexes c within in
      let answered = none-away held g 0 held.column_indexes free c found.0 found.1 in
      ap is_none (lend-due content held are p inside c found.0 found.1 ∙ ap (λ (b : Bool). cond b (Some (refusal.Absent c g)) None) answered)

  abbrev has : ℕ → Bool
  has = has_column record { rows = held; group = p / held.size }

  -- so each registered aggregate finds the columns that it needs
  pub all-served : ((schema : List Kind) (spec : Spec) (some : ℕ → Bool) → spec_refusal schema spec ≡ None → ((c : ℕ) → c < length schema → some c ≡ true) → IsServed some spec)
      → (schema : List Kind) → map kind_of held.column_indexes ≡ schema → (aggregates : List (Option Registered)) → AreChecked schema aggregates → AreServed has aggregates
  all-served law schema kinds [] checked = tt
  all-served law schema kinds (None ∷ rest) checked = (tt, all-served law schema kinds rest checked.1)
  all-served law schema kinds (Some a ∷ rest) checked =
      let count : length schema ≡ length held.column_indexes = sym (ap length kinds) ∙ length-map held.column_indexes kind_of in
      (law schema a.spec has checked.0 (λ c within. at-hand c (subst (λ n. c < n) count within)), all-served law schema kinds rest checked.1)

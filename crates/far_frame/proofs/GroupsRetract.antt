-- After an edit, the columns of the row group are in memory, so that aggregates can retract pairs.
use Rattle.std.proofs.Common.{◌≡◌, ℕ, ◌+◌, ◌/◌, ◌<◌, Bool, true, List, [], ◌∷◌, map, length, Option, None, refl, sym, ap, subst, ◌∙◌, arith}
use Rattle.far_types.specs.declared.cell.Kind.{Kind}
use Rattle.far_types.specs.declared.refusal.Refusal.{Refusal}
use Rattle.far_types.specs.declared.spec.Spec.{Spec}
use Rattle.far_types.specs.Bounds.{spec_refusal}
use Rattle.far_types.specs.FirstOf.{first_of}
use Rattle.far_types.specs.Table.{Registered, in_group}
use Rattle.far_rows.specs.declared.column_index.ColumnIndex.{ColumnIndex}
use Rattle.far_rows.specs.declared.column_index.ColumnIndex.TheVariants as column_index
use Rattle.far_rows.specs.ColumnIndexes.{kind_of}
use Rattle.far_rows.specs.Rows.{Rows, AreRows, all_cells}
use Rattle.far_rows.specs.Refusing.{absents, absents_from, absent_at}
use Rattle.far_rows.specs.Places.{places_in}
use Rattle.far_aggregates.specs.Lending.{IsServed, AreServed}
use Rattle.far_table.specs.State.{AreChecked}
use Rattle.far_table.specs.TableRows.{TableRows}
use Rattle.far_table.specs.Groups.{GroupRows, has_column, places_here}
use Rattle.far_table.proofs.Places.{length-places}
use Rattle.far_frame.proofs.GroupsAtHand.{all-served}

module _ {K : Type 0} (r : Rows K) (flags : List Bool) where
  -- which objects are away does not depend on the flags
  pub absents-flags : (g n : ℕ) (column_indexes : List ColumnIndex) → absents_from (record r { alive = flags }) g n column_indexes ≡ absents_from r g n column_indexes
  absents-flags g n [] = refl
  absents-flags g n (column_index.Number i ∷ column_indexes) = ap (λ (rest : List (Bool × Refusal)). absent_at r n g (column_index.Number i) ∷ rest) (absents-flags g (n + 1) column_indexes)
  absents-flags g n (column_index.Text i ∷ column_indexes) = ap (λ (rest : List (Bool × Refusal)). absent_at r n g (column_index.Text i) ∷ rest) (absents-flags g (n + 1) column_indexes)

  -- after a removal the same objects are away
  pub absents-cleared : (now : Rows K) (g : ℕ) → now ≡ record r { alive = flags } → absents now g ≡ absents r g
  absents-cleared now g is = ap (λ (rows : Rows K). absents rows g) is ∙ absents-flags g 0 r.column_indexes

module _ {K : Type 0} (content : K → List ℕ) (t : TableRows K) (places : t.places ≡ places_in content t.held) (size : t.held.size ≡ t.limits.group) where
  -- the places that the row group's objects hold are the places of the table's row group
  pub places-here : (g : ℕ) → places_here content record { rows = t.held; group = g } ≡ in_group t.limits.group g t.places
  places-here g = λ i. in_group (size i) g (sym places i)

  -- each registered aggregate finds the columns that it needs
  pub served-here : ((schema : List Kind) (spec : Spec) (some : ℕ → Bool) → spec_refusal schema spec ≡ None → ((c : ℕ) → c < length schema → some c ≡ true) → IsServed some spec)
      → AreRows content t.held → map kind_of t.held.column_indexes ≡ t.schema → (p : ℕ) → p < length t.places → first_of (absents t.held (p / t.limits.group)) ≡ None
      → (aggregates : List (Option Registered)) → AreChecked t.schema aggregates → AreServed (has_column record { rows = t.held; group = p / t.limits.group }) aggregates
  served-here law are kinds p inside free aggregates checked =
      let long : length t.places ≡ length t.held.alive = ap length places ∙ length-places (all_cells content t.held) t.held.alive in
      subst (λ n. AreServed (has_column record { rows = t.held; group = p / n }) aggregates) size
      (all-served content t.held are p (omega (arith, inside, long)) (subst (λ n. first_of (absents t.held (p / n)) ≡ None) (sym size) free) law t.schema kinds aggregates checked)

-- the lent row group is the one with the number g
pub lent-is : {K : Type 0} (t : TableRows K) (lent : GroupRows K) (n g : ℕ) → n ≡ g → lent ≡ record { rows = t.held; group = n } → lent ≡ record { rows = t.held; group = g }
lent-is t lent n g same is = is ∙ (λ i. record { rows = t.held; group = same i })

-- The columns that a row group lends, looked up one after another.
use Rattle.std.proofs.Common.{◌≡◌, ◌≢◌, ◌⊎◌, ℕ, zero, suc, ◌+◌, ◌<◌, ◌≤◌, true, false, List, [], ◌∷◌, length, get_or, replicate, set, Option, None, Some, Result, Ok, Err, inl, inr, refl, sym, ap, subst, ◌∙◌, arith}
use Rattle.std.specs.Prelude.{is_none, option_map, slice_get, IfOk}
use Rattle.std.specs.Option.{option_or}
use Rattle.std.specs.Result.{result_ok}
use Rattle.std.proofs.lemmas.List.{length-set, get_or-set_same, get_or-set_other}
use Rattle.std.proofs.lemmas.Bool.{cases_order}
use Rattle.std.proofs.lemmas.Option.{slice_get_past}
use Rattle.far_types.specs.declared.refusal.Refusal.{Refusal}
use Rattle.far_types.specs.declared.refusal.Refusal.TheVariants as refusal
use Rattle.far_types.specs.FirstOf.{first_of}
use Rattle.far_types.specs.Table.{in_group}
use Rattle.far_scopes.specs.Refusing.{refusal_in}
use Rattle.far_rows.specs.declared.lent_column.LentColumn.{LentColumn}
use Rattle.far_rows.specs.Moving.{object_at}
use Rattle.far_rows.specs.Rows.{all_cells}
use Rattle.far_rows.specs.Refusing.{absent_in}
use Rattle.far_rows.specs.Lending.{IsLent, cells_lent}
use Rattle.far_rows.specs.Jobs.{evac_refusal}
use Rattle.far_table.specs.Groups.{GroupRows, IsLentOf, has_column}

abbrev nothing : Option LentColumn
nothing = None

none-yet : (n column : ℕ) → get_or (replicate n nothing) column None ≡ None
none-yet zero column = refl
none-yet (suc n) zero = refl
none-yet (suc n) (suc column) = none-yet n column

module _ {K : Type 0} (content : K → List ℕ) (g : GroupRows K) where
  -- the columns below k are looked up, and the others are still empty
  pub record AreBelow (k : ℕ) (columns : List (Option LentColumn)) : Type 0 where
    pub count : length columns ≡ 16
    pub lent : (column : ℕ) → column < k → IsLentOf content g column (get_or columns column None)
    pub rest : (column : ℕ) → k ≤ column → get_or columns column None ≡ None

  -- at the beginning no column is looked up
  pub none-below : AreBelow 0 (replicate 16 None)
  none-below = record { count = refl; lent = λ column under. absurd (omega (arith, under)); rest = λ column past. none-yet 16 column }

  refused : (column : ℕ) (e : Refusal) → Some e ≡ evac_refusal g.rows column g.group → has_column g column ≡ false
  refused column e due = ap is_none (sym due)

  -- the result of looking up one column
  pub looked : (column : ℕ) (r : Result LentColumn Refusal) → refusal_in r ≡ evac_refusal g.rows column g.group → IfOk r IsLent
      → IfOk r (λ lent. option_map (in_group g.rows.size g.group) (slice_get (all_cells content g.rows) column) ≡ Some (cells_lent lent))
      → IsLentOf content g column (result_ok r)
  looked column (Ok lent) due form cells = record { there = λ has. refl; form = form; cells = cells }
  looked column (Err e) due form cells = record { there = λ has. absurd (let no : true ≡ false = sym has ∙ refused column e due in cc); form = tt; cells = tt }

  pub one-more : (k : ℕ) (columns : List (Option LentColumn)) (found : Option LentColumn) → k < 16 → AreBelow k columns → IsLentOf content g k found → AreBelow (k + 1) (set columns k found)
  one-more k columns found few below is = record {
    count = length-set columns k found ∙ below.count;
    lent = λ column under. by column under (cases_order column k);
    rest = λ column past. (let other : column ≢ k = λ e. omega (arith, past, e) in get_or-set_other columns k column found None other ∙ below.rest column (omega (arith, past)));
  } where
    inside : k < length columns
    inside = omega (arith, few, below.count)

    by : (column : ℕ) → column < k + 1 → (column ≡ k) ⊎ ((column < k) ⊎ (k < column)) → IsLentOf content g column (get_or (set columns k found) column None)
    by column under (inr (inl less)) = (let other : column ≢ k = λ e. omega (arith, less, e) in subst (IsLentOf content g column) (sym (get_or-set_other columns k column found None other)) (below.lent column less))
    by column under (inr (inr more)) = absurd (omega (arith, under, more))
    by column under (inl same) = subst (λ (c : ℕ). IsLentOf content g c (get_or (set columns k found) c None)) (sym same) (subst (IsLentOf content g k) (sym (get_or-set_same columns k found None inside)) is)

  -- the row group has no column past the last
  no-column : (column : ℕ) → length g.rows.column_indexes ≤ column → has_column g column ≡ false
  no-column column past = λ i. is_none (option_or (first_of ((is_none (slice_get_past g.rows.column_indexes column past i), refusal.NoColumn) ∷ (is_none (object_at g.rows column g.group), refusal.OutOfRange) ∷ [])) (first_of (absent_in g.rows column g.group ∷ [])))

  -- at the end all columns are looked up
  pub all-below : (columns : List (Option LentColumn)) → AreBelow (length g.rows.column_indexes) columns → (column : ℕ) → IsLentOf content g column (get_or columns column None)
  all-below columns below column = by (cases_order column (length g.rows.column_indexes)) where
    past-all : length g.rows.column_indexes ≤ column → IsLentOf content g column (get_or columns column None)
    past-all past = subst (IsLentOf content g column) (sym (below.rest column past)) record { there = λ has. absurd (let no : true ≡ false = sym has ∙ no-column column past in cc); form = tt; cells = tt }

    by : (column ≡ length g.rows.column_indexes) ⊎ ((column < length g.rows.column_indexes) ⊎ (length g.rows.column_indexes < column)) → IsLentOf content g column (get_or columns column None)
    by (inr (inl within)) = below.lent column within
    by (inl same) = past-all (omega (arith, same))
    by (inr (inr more)) = past-all (omega (arith, more))

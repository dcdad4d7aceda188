-- A column that is not in memory is away.
use Rattle.std.proofs.Common.{◌≡◌, ℕ, ◌*◌, ◌<◌, Bool, true, false, List, [], ◌∷◌, length, Option, Some, refl, sym, ap, ◌∙◌}
use Rattle.std.specs.Prelude.{is_none, slice_get}
use Rattle.std.specs.Option.{option_map_or}
use Rattle.far_types.specs.declared.refusal.Refusal.TheVariants as refusal
use Rattle.far_types.specs.declared.spec.Spec.{Spec}
use Rattle.far_types.specs.FirstOf.{first_of}
use Rattle.far_rows.specs.declared.column_index.ColumnIndex.{ColumnIndex}
use Rattle.far_rows.specs.Rows.{Rows, AreRows}
use Rattle.far_rows.specs.Refusing.{away_at, absent_at, absent_in}
use Rattle.far_table.specs.Groups.{has_column}
use Rattle.far_table.proofs.EditsSetRefusals.{found-at}
use Rattle.far_table.proofs.WatchingColumns.{lend-at}

-- if a column of a row group with places is not in memory, its object is away
pub not-at-hand : {K : Type 0} (content : K → List ℕ) (r : Rows K) (are : AreRows content r) (spec : Spec) (column g : ℕ) → column < length r.column_indexes → g * r.size < length r.alive → has_column record { rows = r; group = g } column ≡ false → (absent_in r column g).0 ≡ true
not-at-hand content r are spec column g inside begun lacking =
    let found = found-at r.column_indexes column inside in
    let s : ColumnIndex = found.0 in
    let is : slice_get r.column_indexes column ≡ Some s = found.1 in
    let due = lend-at content r are spec g begun column s is in
    ap (λ (t : Option ColumnIndex). (option_map_or (absent_at r column g) t (false, refusal.StaleJob)).0) is ∙ answered (away_at r g s).0 (sym (ap is_none due) ∙ lacking) where
      answered : (b : Bool) → is_none (first_of ((b, refusal.Absent column g) ∷ [])) ≡ false → b ≡ true
      answered true is = refl
      answered false is = absurd cc

-- The refusal of an insert or a removal by the rows over objects is the one that is due to the table.
use Rattle.std.proofs.Common.{◌≡◌, ℕ, ◌/◌, ◌<◌, ◌≤◌, Bool, true, false, not, List, [], ◌∷◌, ◌++◌, map, length, Option, None, Some, refl, sym, ap, subst, ◌∙◌, arith}
use Rattle.std.specs.Prelude.{◌==◌, ◌||◌, cond, nat_lt}
use Rattle.std.specs.List.{list_any}
use Rattle.std.specs.Option.{option_map_or, option_or}
use Rattle.std.proofs.lemmas.Bool.{eqb-false}
use Rattle.std.proofs.lemmas.Bool.Decides.{nat_tests}
use Rattle.far_types.specs.declared.cell.Cell.{Cell}
use Rattle.far_types.specs.declared.cell.Kind.{Kind}
use Rattle.far_types.specs.declared.edit.Edit.{Edit}
use Rattle.far_types.specs.declared.edit.Edit.TheVariants as edit
use Rattle.far_types.specs.declared.limits.Limits.{Limits}
use Rattle.far_types.specs.declared.refusal.Refusal.{Refusal}
use Rattle.far_types.specs.declared.refusal.Refusal.TheVariants as refusal
use Rattle.far_types.specs.Edits.{edit_faults, overfills}
use Rattle.far_types.specs.FirstOf.{first_of}
use Rattle.far_scopes.specs.Movement.{Movement, version_of}
use Rattle.far_scopes.specs.Refusing.{written_out}
use Rattle.far_rows.specs.declared.column_index.ColumnIndex.{ColumnIndex}
use Rattle.far_rows.specs.declared.column_index.ColumnIndex.TheVariants as column_index
use Rattle.far_rows.specs.ColumnIndexes.{Values, kind_of, row_of}
use Rattle.far_rows.specs.Rows.{Rows, all_cells, object_of}
use Rattle.far_rows.specs.Refusing.{absents, no_space_for_texts, no_space_for_numbers, is_written_out, some_written_out}
use Rattle.far_rows.specs.Places.{text_parts}
use Rattle.far_rows.specs.Plain.{insert_refusal}
use Rattle.far_table.specs.TableRows.{TableRows, AreWritten, AreTableRows, asked, rows_in}
use Rattle.far_table.specs.Edits.{edit_due, group_of}
use Rattle.far_table.proofs.FirstOfLaws.{first-behind, passed, or-assoc, last-used}
use Rattle.far_table.proofs.Places.{length-places}

-- if no object was written more often than the table was edited, and the table may be edited, each object may be written
pub not-out : {X K : Type 0} (limits : Limits) (edits : ℕ) (m : Movement X K) → AreWritten limits edits m → edits ≤ limits.edits → (edits == limits.edits) ≡ false → (o : ℕ) → (written_out m o).0 ≡ false
not-out limits edits m bounded few left o =
    let ne = eqb-false edits limits.edits left in
    let at = bounded.versions o in
    let below : version_of m o < m.max_writes = omega (arith, ne, at, few, bounded.max_writes) in
    let e : nat_lt (version_of m o) m.max_writes ≡ true = grind (arith, nat_tests) in
    ap not e

none-any : {A : Type 0} (test : A → Bool) (xs : List A) → ((x : A) → test x ≡ false) → list_any test xs ≡ false
none-any test [] each = refl
none-any test (x ∷ xs) each = let here = each x in let rest = none-any test xs each in λ i. here i || rest i

none-there : (test : ℕ → Bool) (found : Option ℕ) → ((o : ℕ) → test o ≡ false) → option_map_or test found false ≡ false
none-there test None each = refl
none-there test (Some o) each = each o

module _ {K : Type 0} (content : K → List ℕ) (schema : List Kind) (limits : Limits) (held : Rows K) (new_row : Values) (edits : ℕ) (holds : AreTableRows content schema limits held new_row edits) where
  abbrev t : TableRows K
  t = rows_in content schema limits held new_row edits

  -- whether the table has reached its limit of edits
  abbrev used : Bool
  used = edits == limits.edits

  abbrev last : Option Refusal
  last = first_of ((used, refusal.EditsUsedUp) ∷ [])

  none-out : used ≡ false → (g : ℕ) → (some_written_out held g).0 ≡ false
  none-out left g = none-any (is_written_out held g) held.column_indexes each where
    each : (s : ColumnIndex) → is_written_out held g s ≡ false
    each (column_index.Number i) = none-there (λ o. (written_out held.number_objects o).0) (object_of held (column_index.Number i) g) (not-out limits edits held.number_objects holds.numbers_written holds.edits_few left)
    each (column_index.Text i) = none-there (λ o. (written_out held.text_objects o).0) (object_of held (column_index.Text i) g) (not-out limits edits held.text_objects holds.texts_written holds.edits_few left)

  next-group : length held.alive / held.size ≡ length t.places / limits.group
  next-group = λ i. sym (length-places (all_cells content held) held.alive) i / holds.layout.group i

  loaded-due : first_of (edit_faults schema limits t.places (edit.Insert (row_of held.column_indexes new_row))) ≡ None → option_or (insert_refusal content limits held new_row) last ≡ edit_due (asked t) (edit.Insert (row_of held.column_indexes new_row))
  loaded-due free =
      let e : Edit = edit.Insert (row_of held.column_indexes new_row) in
      let g = length held.alive / held.size in
      let away = absents held g in
      let over = overfills (map kind_of held.column_indexes) limits e t.places in
      let texts = no_space_for_texts held (text_parts content limits held e (length t.places / limits.group)) in
      let numbers = no_space_for_numbers held in
      let tests : List (Bool × Refusal) = (over, refusal.ChunkFull) ∷ texts ∷ numbers ∷ some_written_out held g ∷ [] in
      let end : List (Bool × Refusal) = texts ∷ numbers ∷ (used, refusal.EditsUsedUp) ∷ [] in
      let tail : option_or (first_of tests) last ≡ first_of ((over, refusal.ChunkFull) ∷ end) =
      sym (first-behind tests ((used, refusal.EditsUsedUp) ∷ []))
      ∙ ap (λ o. cond over (Some refusal.ChunkFull) (cond texts.0 (Some refusal.RegionFull) (cond numbers.0 (Some refusal.RegionFull) o))) (last-used (some_written_out held g).0 used (λ left. none-out left g)) in
      ap (λ o. option_or o last) (first-behind away tests)
      ∙ or-assoc (first_of away) (first_of tests) last
      ∙ ap (option_or (first_of away)) tail
      ∙ sym (first-behind away ((over, refusal.ChunkFull) ∷ end))
      ∙ (λ i. first_of (absents held (next-group i) ++ (overfills (holds.kinds i) limits e t.places, refusal.ChunkFull) ∷ end))
      ∙ sym (passed (edit_faults schema limits t.places e) (absents held (group_of (asked t) e) ++ (overfills schema limits e t.places, refusal.ChunkFull) ∷ end) free)

  -- the refusal of an insert of the loaded row, if the row has no fault of its own
  pub insert-due : (row : List Cell) → row_of held.column_indexes new_row ≡ row → first_of (edit_faults schema limits t.places (edit.Insert row)) ≡ None → option_or (insert_refusal content limits held new_row) last ≡ edit_due (asked t) (edit.Insert row)
  insert-due row is = subst (λ r. first_of (edit_faults schema limits t.places (edit.Insert r)) ≡ None → option_or (insert_refusal content limits held new_row) last ≡ edit_due (asked t) (edit.Insert r)) is loaded-due

  -- the refusal of a removal, if it has no fault of its own
  pub remove-due : (p : ℕ) → first_of (edit_faults schema limits t.places (edit.Remove p)) ≡ None → option_or (first_of (absents held (p / limits.group))) last ≡ edit_due (asked t) (edit.Remove p)
  remove-due p free =
      let end : List (Bool × Refusal) = (false, refusal.ChunkFull) ∷ (used, refusal.EditsUsedUp) ∷ [] in
      sym (first-behind (absents held (p / limits.group)) end)
      ∙ sym (passed (edit_faults schema limits t.places (edit.Remove p)) (absents held (p / limits.group) ++ end) free)

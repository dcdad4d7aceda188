-- The refusal of a set by the rows over objects is the one that is due to the table.
use Rattle.std.proofs.Common.{◌≡◌, ℕ, zero, suc, ◌/◌, ◌<◌, Bool, false, not, List, [], ◌∷◌, ◌++◌, length, ℤ, Option, None, Some, refl, sym, ap, subst, ◌∙◌, arith}
use Rattle.std.specs.Prelude.{◌==◌, ◌&&◌, cond, option_map, slice_get}
use Rattle.std.specs.Option.{option_and_then, option_map_or, option_or}
use Rattle.std.proofs.lemmas.Nat.{div_below}
use Rattle.std.proofs.lemmas.Option.{slice_get-map, slice_get_within, get_or_from_slice_get}
use Rattle.far_types.specs.declared.cell.Cell.{Cell}
use Rattle.far_types.specs.declared.cell.Kind.{Kind}
use Rattle.far_types.specs.declared.edit.Edit.{Edit}
use Rattle.far_types.specs.declared.edit.Edit.TheVariants as edit
use Rattle.far_types.specs.declared.limits.Limits.{Limits}
use Rattle.far_types.specs.declared.refusal.Refusal.{Refusal}
use Rattle.far_types.specs.declared.refusal.Refusal.TheVariants as refusal
use Rattle.far_types.specs.Bounds.{is_text}
use Rattle.far_types.specs.Edits.{edit_faults, overfills, text_object_length, places_after}
use Rattle.far_types.specs.FirstOf.{first_of}
use Rattle.far_log.specs.RegionState.{fits_in}
use Rattle.far_columns.specs.Vector.{Vector, IsShaped}
use Rattle.far_texts.specs.Texts.{Texts, HasGroups}
use Rattle.far_rows.specs.declared.object.Object.{Object}
use Rattle.far_rows.specs.declared.new_cell.NewCell.{NewCell}
use Rattle.far_rows.specs.declared.column_index.ColumnIndex.{ColumnIndex}
use Rattle.far_rows.specs.declared.column_index.ColumnIndex.TheVariants as column_index
use Rattle.far_rows.specs.ColumnIndexes.{Values, IsColumnIn, kind_of}
use Rattle.far_rows.specs.Rows.{Rows, AreRows, object_of}
use Rattle.far_rows.specs.Moving.{object_at, object_in}
use Rattle.far_rows.specs.Refusing.{absents}
use Rattle.far_rows.specs.Setting.{cell_of}
use Rattle.far_rows.specs.Plain.{no_space_alone, writes_used, cell_set_refusal}
use Rattle.far_table.specs.TableRows.{TableRows, AreTableRows, asked, rows_in}
use Rattle.far_table.specs.Edits.{edit_due}
use Rattle.far_table.proofs.FirstOfLaws.{first-behind, passed, or-assoc, last-used}
use Rattle.far_table.proofs.EditsRefusals.{not-out}

pub found-at : {A : Type 0} (xs : List A) (i : ℕ) → i < length xs → (x : A) × (slice_get xs i ≡ Some x)
found-at [] i within = absurd (omega (arith, within))
found-at (x ∷ xs) zero within = (x, refl)
found-at (x ∷ xs) (suc i) within = found-at xs i (omega (arith, within))

module _ {K : Type 0} (content : K → List ℕ) (held : Rows K) (are : AreRows content held) where
  -- a column has an object for the row group of each place
  pub object-there : (c : ℕ) (s : ColumnIndex) → slice_get held.column_indexes c ≡ Some s → (p : ℕ) → p < length held.alive → (o : ℕ) × (object_of held s (p / held.size) ≡ Some o)
  object-there c s lies p below = by s (subst (IsColumnIn (length held.numbers) (length held.texts)) (get_or_from_slice_get held.column_indexes c s s lies) (are.column_indexes.within c s (slice_get_within held.column_indexes c s lies))) where
    by : (some : ColumnIndex) → IsColumnIn (length held.numbers) (length held.texts) some → (o : ℕ) × (object_of held some (p / held.size) ≡ Some o)
    by (column_index.Number i) inside =
        let found = found-at held.numbers i inside in
        let v : Vector (Option ℤ) = found.0 in
        let same = get_or_from_slice_get held.numbers i v v found.1 in
        let same_length = subst (λ (w : Vector (Option ℤ)). (w.size ≡ held.size) × (w.len ≡ length held.alive)) same (are.same_length_numbers i v inside) in
        let shaped = subst IsShaped same (are.shaped i v inside) in
        let object = found-at v.objects (p / v.size) (div_below p v.size (length v.objects) shaped.some (omega (arith, below, same_length.1, shaped.enough))) in
        (object.0, ap (option_and_then (λ (w : Vector (Option ℤ)). slice_get w.objects (p / held.size))) found.1 ∙ (λ k. slice_get v.objects (p / sym same_length.0 k)) ∙ object.1)
    by (column_index.Text i) inside =
        let found = found-at held.texts i inside in
        let v : Texts = found.0 in
        let same = get_or_from_slice_get held.texts i v v found.1 in
        let same_length = subst (λ (w : Texts). (w.size ≡ held.size) × (w.len ≡ length held.alive)) same (are.same_length_texts i v inside) in
        let has = subst HasGroups same (are.grouped i v inside) in
        let object = found-at v.objects (p / v.size) (div_below p v.size (length v.objects) has.some (omega (arith, below, same_length.1, has.held))) in
        (object.0, ap (option_and_then (λ (w : Texts). slice_get w.objects (p / held.size))) found.1 ∙ (λ k. slice_get v.objects (p / sym same_length.0 k)) ∙ object.1)

module _ {K : Type 0} (content : K → List ℕ) (schema : List Kind) (limits : Limits) (held : Rows K) (new_row : Values) (edits : ℕ) (holds : AreTableRows content schema limits held new_row edits) where
  abbrev t : TableRows K
  t = rows_in content schema limits held new_row edits

  abbrev used : Bool
  used = edits == limits.edits

  abbrev last : Option Refusal
  last = first_of ((used, refusal.EditsUsedUp) ∷ [])

  -- whether the region lacks space for the texts of the row group after the set
  abbrev crowded : Edit → ℕ → ℕ → Bool
  crowded e c g = not (fits_in held.text_objects.memory.state (text_object_length limits c g (places_after e t.places)))

  space-of : (s : ColumnIndex) (e : Edit) (c g o : ℕ) → no_space_alone content limits held e c g (object_in s o) ≡ (is_text (Some (kind_of s)) && crowded e c g, refusal.RegionFull)
  space-of (column_index.Number i) e c g o = refl
  space-of (column_index.Text i) e c g o = refl

  writes-of : (s : ColumnIndex) (o : ℕ) → writes_used content limits held (object_in s o) ≡ ((writes_used content limits held (object_in s o)).0, refusal.EditsUsedUp)
  writes-of (column_index.Number i) o = refl
  writes-of (column_index.Text i) o = refl

  not-written : (s : ColumnIndex) (o : ℕ) → used ≡ false → (writes_used content limits held (object_in s o)).0 ≡ false
  not-written (column_index.Number i) o left = not-out limits edits held.number_objects holds.numbers_written holds.edits_few left o
  not-written (column_index.Text i) o left = not-out limits edits held.text_objects holds.texts_written holds.edits_few left o

  kind-at : (c : ℕ) (s : ColumnIndex) → slice_get held.column_indexes c ≡ Some s → Some (kind_of s) ≡ slice_get schema c
  kind-at c s lies = sym (slice_get-map kind_of held.column_indexes c ∙ ap (option_map kind_of) lies) ∙ ap (λ (kinds : List Kind). slice_get kinds c) holds.kinds

  module _ (are : AreRows content held) (c p : ℕ) (value : NewCell) (s : ColumnIndex) (lies : slice_get held.column_indexes c ≡ Some s) (below : p < length held.alive) where
    value-due : first_of (edit_faults schema limits t.places (edit.Set p c (cell_of value))) ≡ None → option_or (cell_set_refusal content limits held c p value) last ≡ edit_due (asked t) (edit.Set p c (cell_of value))
    value-due free =
        let e : Edit = edit.Set p c (cell_of value) in
        let g = p / limits.group in
        let there = object-there content held are c s lies p below in
        let at : object_at held c (p / held.size) ≡ Some (object_in s there.0) = ap (option_and_then (λ (u : ColumnIndex). option_map (object_in u) (object_of held u (p / held.size)))) lies ∙ ap (option_map (object_in s)) there.1 in
        let out = (writes_used content limits held (object_in s there.0)).0 in
        let space : option_map_or (no_space_alone content limits held e c g) (object_at held c (p / held.size)) (false, refusal.StaleJob) ≡ (is_text (slice_get schema c) && crowded e c g, refusal.RegionFull) =
        ap (λ (found : Option Object). option_map_or (no_space_alone content limits held e c g) found (false, refusal.StaleJob)) at
        ∙ space-of s e c g there.0
        ∙ (λ i. (is_text (kind-at c s lies i) && crowded e c g, refusal.RegionFull)) in
        let writes : option_map_or (writes_used content limits held) (object_at held c (p / held.size)) (false, refusal.StaleJob) ≡ (out, refusal.EditsUsedUp) =
        ap (λ (found : Option Object). option_map_or (writes_used content limits held) found (false, refusal.StaleJob)) at ∙ writes-of s there.0 in
        let full = is_text (slice_get schema c) && crowded e c g in
        let away = absents held g in
        let over = overfills schema limits e t.places in
        let tests : List (Bool × Refusal) = (over, refusal.ChunkFull) ∷ (full, refusal.RegionFull) ∷ (out, refusal.EditsUsedUp) ∷ [] in
        let end : List (Bool × Refusal) = (over, refusal.ChunkFull) ∷ (full, refusal.RegionFull) ∷ (used, refusal.EditsUsedUp) ∷ [] in
        let tail : option_or (first_of tests) last ≡ first_of end =
        sym (first-behind tests ((used, refusal.EditsUsedUp) ∷ []))
        ∙ ap (λ o. cond over (Some refusal.ChunkFull) (cond full (Some refusal.RegionFull) o)) (last-used out used (not-written s there.0)) in
        (λ i. option_or (first_of (absents held (p / holds.layout.group i) ++ (overfills (holds.kinds i) limits e t.places, refusal.ChunkFull) ∷ space i ∷ writes i ∷ [])) last)
        ∙ ap (λ o. option_or o last) (first-behind away tests)
        ∙ or-assoc (first_of away) (first_of tests) last
        ∙ ap (option_or (first_of away)) tail
        ∙ sym (first-behind away end)
        ∙ sym (passed (edit_faults schema limits t.places e) (away ++ end) free)

    -- the refusal of a set, if the value has no fault of its own
    pub set-due : (cell : Cell) → cell_of value ≡ cell → first_of (edit_faults schema limits t.places (edit.Set p c cell)) ≡ None → option_or (cell_set_refusal content limits held c p value) last ≡ edit_due (asked t) (edit.Set p c cell)
    set-due cell is = subst (λ (x : Cell). first_of (edit_faults schema limits t.places (edit.Set p c x)) ≡ None → option_or (cell_set_refusal content limits held c p value) last ≡ edit_due (asked t) (edit.Set p c x)) is value-due

-- Why setting a cell is refused, in terms of the places.
use Rattle.std.proofs.Common.{◌≡◌, ℕ, ◌/◌, ◌<◌, Bool, false, not, List, [], ◌∷◌, length, Option, None, Some, refl, sym, ap, subst, ◌∙◌, arith}
use Rattle.std.specs.Prelude.{ℤ, ◌&&◌, All, cond, option_map, slice_get}
use Rattle.std.specs.Option.{option_and_then, option_map_or, option_or}
use Rattle.std.proofs.lemmas.Bool.{lt-ltb}
use Rattle.std.proofs.lemmas.List.Elements.{All-nil, All-cons}
use Rattle.std.proofs.lemmas.Nat.{div_below}
use Rattle.std.proofs.lemmas.Option.{slice_get-map, slice_get-get_or, slice_get_within, get_or_from_slice_get}
use Rattle.far_types.specs.declared.cell.Kind.{Kind}
use Rattle.far_types.specs.declared.edit.Edit.{Edit}
use Rattle.far_types.specs.declared.edit.Edit.TheVariants as edit
use Rattle.far_types.specs.declared.limits.Limits.{Limits}
use Rattle.far_types.specs.declared.refusal.Refusal.{Refusal}
use Rattle.far_types.specs.declared.refusal.Refusal.TheVariants as refusal
use Rattle.far_types.specs.Bounds.{is_text}
use Rattle.far_types.specs.Cells.{is_too_long}
use Rattle.far_types.specs.Edits.{places_after}
use Rattle.far_types.specs.FormLengths.{texts_length}
use Rattle.far_types.specs.FirstOf.{first_of}
use Rattle.far_log.specs.RegionState.{fits_in}
use Rattle.far_scopes.specs.Refusing.{absent, written_out}
use Rattle.far_columns.specs.Vector.{Vector, IsShaped, object_at as number_at}
use Rattle.far_columns.specs.Refusing.{past_end as past_numbers}
use Rattle.far_texts.specs.Texts.{Texts, HasGroups, lists_of, object_at as text_at}
use Rattle.far_texts.specs.Effects.{group_with}
use Rattle.far_texts.specs.Refusing.{text_too_long, past_end, chunk_full}
use Rattle.far_rows.specs.declared.column_index.ColumnIndex.{ColumnIndex}
use Rattle.far_rows.specs.declared.column_index.ColumnIndex.TheVariants as column_index
use Rattle.far_rows.specs.declared.object.Object.{Object}
use Rattle.far_rows.specs.declared.new_cell.NewCell.{NewCell}
use Rattle.far_rows.specs.declared.new_cell.NewCell.TheVariants as new
use Rattle.far_types.specs.Lent.{text_cell}
use Rattle.far_rows.specs.ColumnIndexes.{IsColumnIn, kind_of}
use Rattle.far_rows.specs.Rows.{Rows, AreRows, object_of}
use Rattle.far_rows.specs.Setting.{cell_of, kind_in, set_refusal, value_refusal}
use Rattle.far_rows.specs.Moving.{object_in, object_at}
use Rattle.far_rows.specs.Refusing.{absents}
use Rattle.far_rows.specs.Places.{places_in, AreOf}
use Rattle.far_rows.specs.Plain.{is_too_full, no_space_alone, writes_used, cell_set_refusal}
use Rattle.far_rows.proofs.PlacesTextSize.{found-at, is_over, set-long, set-full}
use Rattle.far_scopes.proofs.FirstOfCases.{first-append}
use Rattle.far_rows.proofs.PlainLaws.{skip, none-away}

same-length : (text : Option (List ℕ)) → is_too_long (text_cell text) ≡ false → (text_too_long text).0 ≡ false
same-length None short = refl
same-length (Some text) short = short

-- a column with a known kind has an index of this kind
pub found-column_index : (found : Option ColumnIndex) (kind : Kind) → option_map kind_of found ≡ Some kind → (s : ColumnIndex) × (found ≡ Some s) × (kind_of s ≡ kind)
found-column_index None kind is = absurd cc
found-column_index (Some s) kind is = (s, refl, cc)

module _ {K : Type 0} (content : K → List ℕ) (r : Rows K) (are : AreRows content r) (limits : Limits) (of : AreOf limits r) (column place : ℕ) (below : place < length r.alive) where
  abbrev g : ℕ
  g = place / r.size

  -- the tests that remain if no object of the row group is away
  abbrev later : NewCell → Option Object → List (Bool × Refusal)
  later value at = (is_too_full content limits r (edit.Set place column (cell_of value)), refusal.ChunkFull) ∷ option_map_or (no_space_alone content limits r (edit.Set place column (cell_of value)) column (place / limits.group)) at (false, refusal.StaleJob) ∷ option_map_or (writes_used content limits r) at (false, refusal.StaleJob) ∷ []

  abbrev rest : NewCell → Option Object → Option Refusal
  rest value at = first_of (later value at)

  object-is : (s : ColumnIndex) (o : ℕ) → slice_get r.column_indexes column ≡ Some s → object_of r s g ≡ Some o → object_at r column g ≡ Some (object_in s o)
  object-is s o lies is = ap (option_and_then (λ (t : ColumnIndex). option_map (object_in t) (object_of r t g))) lies ∙ ap (option_map (object_in s)) is

  number-plain : (i : ℕ) (number : Option ℤ) → slice_get r.column_indexes column ≡ Some (column_index.Number i) → first_of (absents r g) ≡ None → value_refusal content r (column_index.Number i) place (new.Number number) ≡ rest (new.Number number) (object_at r column g)
  number-plain i number lies free =
      let inside : i < length r.numbers = subst (IsColumnIn (length r.numbers) (length r.texts)) (get_or_from_slice_get r.column_indexes column (column_index.Number i) (column_index.Number i) lies) (are.column_indexes.within column (column_index.Number i) (slice_get_within r.column_indexes column (column_index.Number i) lies)) in
      let found = found-at r.numbers i inside in
      let c : Vector (Option ℤ) = found.0 in
      let same = get_or_from_slice_get r.numbers i c c found.1 in
      let same_length = subst (λ (d : Vector (Option ℤ)). (d.size ≡ r.size) × (d.len ≡ length r.alive)) same (are.same_length_numbers i c inside) in
      let shaped = subst IsShaped same (are.shaped i c inside) in
      let within : place < c.len = omega (arith, below, same_length.1) in
      let begun = div_below place c.size (length c.objects) shaped.some (omega (arith, within, shaped.enough)) in
      let o = number_at c place in
      let m = r.number_objects in
      let at : object_of r (column_index.Number i) g ≡ Some o = ap (option_and_then (λ (d : Vector (Option ℤ)). slice_get d.objects g)) found.1 ∙ ap (λ n. slice_get c.objects (place / n)) (sym same_length.0) ∙ slice_get-get_or c.objects (place / c.size) 0 begun in
      let here : (absent m o).0 ≡ false = sym (ap (λ (p : Option ℕ). (option_map_or (absent m) p (false, refusal.StaleJob)).0) at) ∙ none-away r g 0 r.column_indexes free column (column_index.Number i) lies in
      let past : (past_numbers c place).0 ≡ false = ap not (lt-ltb place c.len within) in
      let none : All (λ (case : Bool × Refusal). case.0 ≡ false) (past_numbers c place ∷ absent m o ∷ []) = All-cons (λ (case : Bool × Refusal). case.0 ≡ false) (past_numbers c place) (absent m o ∷ []) past (All-cons (λ (case : Bool × Refusal). case.0 ≡ false) (absent m o) [] here (All-nil (λ (case : Bool × Refusal). case.0 ≡ false))) in
      let e : Edit = edit.Set place column (cell_of (new.Number number)) in
      let over = is_over limits column (place / limits.group) (places_after e (places_in content r)) in
      let full : is_too_full content limits r e ≡ false = ap (λ (kind : Option Kind). is_text kind && over) (slice_get-map kind_of r.column_indexes column ∙ ap (option_map kind_of) lies) in
      ap (option_and_then (λ (d : Vector (Option ℤ)). first_of (past_numbers d place ∷ absent m (number_at d place) ∷ written_out m (number_at d place) ∷ []))) found.1
      ∙ skip (past_numbers c place ∷ absent m o ∷ []) (written_out m o ∷ []) none
      ∙ (λ k. cond (sym full k) (Some refusal.ChunkFull) (first_of (option_map_or (no_space_alone content limits r e column (place / limits.group)) (sym (object-is (column_index.Number i) o lies at) k) (false, refusal.StaleJob) ∷ option_map_or (writes_used content limits r) (sym (object-is (column_index.Number i) o lies at) k) (false, refusal.StaleJob) ∷ [])))

  text-plain : (i : ℕ) (text : Option (List ℕ)) → slice_get r.column_indexes column ≡ Some (column_index.Text i) → is_too_long (text_cell text) ≡ false → first_of (absents r g) ≡ None → value_refusal content r (column_index.Text i) place (new.Text text) ≡ rest (new.Text text) (object_at r column g)
  text-plain i text lies short free =
      let inside : i < length r.texts = subst (IsColumnIn (length r.numbers) (length r.texts)) (get_or_from_slice_get r.column_indexes column (column_index.Text i) (column_index.Text i) lies) (are.column_indexes.within column (column_index.Text i) (slice_get_within r.column_indexes column (column_index.Text i) lies)) in
      let found = found-at r.texts i inside in
      let c : Texts = found.0 in
      let same = get_or_from_slice_get r.texts i c c found.1 in
      let same_length = subst (λ (d : Texts). (d.size ≡ r.size) × (d.len ≡ length r.alive)) same (are.same_length_texts i c inside) in
      let has = subst HasGroups same (are.grouped i c inside) in
      let within : place < c.len = omega (arith, below, same_length.1) in
      let begun = div_below place c.size (length c.objects) has.some (omega (arith, within, has.held)) in
      let o = text_at c place in
      let m = r.text_objects in
      let at : object_of r (column_index.Text i) g ≡ Some o = ap (option_and_then (λ (d : Texts). slice_get d.objects g)) found.1 ∙ ap (λ n. slice_get c.objects (place / n)) (sym same_length.0) ∙ slice_get-get_or c.objects (place / c.size) 0 begun in
      let here : (absent m o).0 ≡ false = sym (ap (λ (p : Option ℕ). (option_map_or (absent m) p (false, refusal.StaleJob)).0) at) ∙ none-away r g 0 r.column_indexes free column (column_index.Text i) lies in
      let past : (past_end c place refusal.OutOfRange).0 ≡ false = ap not (lt-ltb place c.len within) in
      let P : Bool × Refusal → Type 0 = λ case. case.0 ≡ false in
      let none : All P (text_too_long text ∷ past_end c place refusal.OutOfRange ∷ absent m o ∷ []) =
      All-cons P (text_too_long text) (past_end c place refusal.OutOfRange ∷ absent m o ∷ []) (same-length text short) (All-cons P (past_end c place refusal.OutOfRange) (absent m o ∷ []) past (All-cons P (absent m o) [] here (All-nil P))) in
      let e : Edit = edit.Set place column (cell_of (new.Text text)) in
      let texts = group_with (lists_of content m) c place text in
      let long = set-long content r are limits of column i place c text lies found.1 below in
      let full = set-full content r are limits of column i place c text lies found.1 below in
      ap (option_and_then (λ (d : Texts). first_of (text_too_long text ∷ past_end d place refusal.OutOfRange ∷ absent m (text_at d place) ∷ chunk_full d (group_with (lists_of content m) d place text) ∷ (not (fits_in m.memory.state (texts_length (group_with (lists_of content m) d place text))), refusal.RegionFull) ∷ written_out m (text_at d place) ∷ []))) found.1
      ∙ skip (text_too_long text ∷ past_end c place refusal.OutOfRange ∷ absent m o ∷ []) (chunk_full c texts ∷ (not (fits_in m.memory.state (texts_length texts)), refusal.RegionFull) ∷ written_out m o ∷ []) none
      ∙ (λ k. cond (full k) (Some refusal.ChunkFull) (first_of ((not (fits_in m.memory.state (long k)), refusal.RegionFull) ∷ written_out m o ∷ [])))
      ∙ (λ k. first_of ((is_too_full content limits r e, refusal.ChunkFull) ∷ option_map_or (no_space_alone content limits r e column (place / limits.group)) (sym (object-is (column_index.Text i) o lies at) k) (false, refusal.StaleJob) ∷ option_map_or (writes_used content limits r) (sym (object-is (column_index.Text i) o lies at) k) (false, refusal.StaleJob) ∷ []))

  by-column_index : (s : ColumnIndex) (value : NewCell) → slice_get r.column_indexes column ≡ Some s → kind_of s ≡ kind_in value → is_too_long (cell_of value) ≡ false → first_of (absents r g) ≡ None → value_refusal content r s place value ≡ rest value (object_at r column g)
  by-column_index (column_index.Number i) (new.Number number) lies kind short free = number-plain i number lies free
  by-column_index (column_index.Text i) (new.Text text) lies kind short free = text-plain i text lies short free
  by-column_index (column_index.Number i) (new.Text text) lies kind short free = absurd cc
  by-column_index (column_index.Text i) (new.Number number) lies kind short free = absurd cc

  pub set-plain : (value : NewCell) → option_map kind_of (slice_get r.column_indexes column) ≡ Some (kind_in value) → is_too_long (cell_of value) ≡ false → set_refusal content r column place value ≡ cell_set_refusal content limits r column place value
  set-plain value of_kind short =
      let s = found-column_index (slice_get r.column_indexes column) (kind_in value) of_kind in
      ap (option_or (first_of (absents r g))) (ap (option_and_then (λ (t : ColumnIndex). value_refusal content r t place value)) s.1)
      ∙ by (first_of (absents r g)) refl (value_refusal content r s.0 place value) (rest value (object_at r column g)) (by-column_index s.0 value s.1 s.2 short)
      ∙ sym (first-append (absents r g) (later value (object_at r column g))) where
        by : (due : Option Refusal) → first_of (absents r g) ≡ due → (a b : Option Refusal) → (first_of (absents r g) ≡ None → a ≡ b) → option_or due a ≡ option_or due b
        by None is a b same = same is
        by (Some f) is a b same = refl

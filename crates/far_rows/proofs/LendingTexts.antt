-- Borrowed ranges of text columns, as the contracts of rows describe them.
use Rattle.std.proofs.Common.{◌≡◌, ℕ, ◌+◌, ◌-◌, ◌/◌, ◌<◌, Bool, true, false, List, [], ◌∷◌, map, length, get_or, drop, Option, Some, refl, sym, ap, ◌∙◌}
use Rattle.std.specs.Prelude.{◌||◌, nat_lt, min, if◌then◌else◌, is_none, option_map, slice_get, slice_range}
use Rattle.std.specs.List.{range_with_len, zip}
use Rattle.std.specs.Option.{option_map_or, option_or}
use Rattle.std.proofs.lemmas.List.{length-take, length-drop}
use Rattle.std.proofs.lemmas.Option.{slice_get-map}
use Rattle.std.proofs.lemmas.Simd.{map-map}
use Rattle.std.proofs.lemmas.Slice.Zip.{firsts-zip, seconds-zip}
use Rattle.far_types.specs.declared.cell.Cell.{Cell}
use Rattle.far_types.specs.declared.refusal.Refusal.{Refusal}
use Rattle.far_types.specs.declared.refusal.Refusal.TheVariants as refusal
use Rattle.far_types.specs.Bounds.{is_int}
use Rattle.far_types.specs.FirstOf.{first_of}
use Rattle.far_scopes.specs.Movement.{Movement}
use Rattle.far_scopes.specs.Refusing.{first_absent}
use Rattle.far_columns.specs.Pieces.{overlapped_groups}
use Rattle.far_texts.specs.Texts.{Texts, HasGroups, lists_of, texts_in}
use Rattle.far_texts.specs.Lending.{texts_refusal as column_refusal}
use Rattle.far_scopes.proofs.FirstOfCases.{first-append}
use Rattle.far_texts.proofs.TextsGroups.{texts-length}
use Rattle.far_rows.specs.declared.column_index.ColumnIndex.{ColumnIndex}
use Rattle.far_rows.specs.declared.column_index.ColumnIndex.TheVariants as column_index
use Rattle.far_types.specs.Lent.{text_cell}
use Rattle.far_rows.specs.ColumnIndexes.{kind_of, column_in}
use Rattle.far_rows.specs.Rows.{Rows, AreRows, all_numbers, all_texts, all_cells}
use Rattle.far_rows.specs.Refusing.{away_at, absent_at, no_range, texts_refusal}
use Rattle.far_rows.specs.Lending.{texts_of}
use Rattle.far_rows.proofs.RefusingNames.{range-named}
use Rattle.far_rows.proofs.RowsReading.{all-read, absent-text, text-cells, text-column}
use Rattle.far_rows.proofs.LendingNumbers.{absent-of, absent-range, range-map}

or-swap : (a b : Bool) → a || b ≡ b || a
or-swap true true = refl
or-swap true false = refl
or-swap false true = refl
or-swap false false = refl

-- the first object of a range that is away; an empty range has no objects
overlapped-by : {X K : Type 0} (m : Movement X K) (os : List ℕ) (some : Bool) (first end : ℕ) → first_absent m (if some then slice_range os first end else []) ≡ first_of (map (absent-of m os) (range_with_len first (if some then end - first else 0)))
overlapped-by m os true first end = absent-range m os first (end - first)
overlapped-by m os false first end = refl

-- a range is equally long in two lists of equal length
range-length : {X Y : Type 0} (xs : List X) (ys : List Y) (from to : ℕ) → length xs ≡ length ys → length (slice_range ys from to) ≡ length (slice_range xs from to)
range-length xs ys from to same =
    length-take (to - from) (drop from ys)
    ∙ ap (min (to - from)) (length-drop from ys ∙ ap (λ n. n - from) (sym same) ∙ sym (length-drop from xs))
    ∙ sym (length-take (to - from) (drop from xs))

module _ {K : Type 0} (content : K → List ℕ) (r : Rows K) (are : AreRows content r) (i from to : ℕ) (c : Texts) (within : i < length r.texts) (read : c ≡ get_or r.texts i c) where
  same_length : (c.size ≡ r.size) × (c.len ≡ length r.alive)
  same_length = all-read (λ (t : Texts). (t.size ≡ r.size) × (t.len ≡ length r.alive)) r.texts i c are.same_length_texts within read

  pub flags-same_length : length r.alive ≡ c.len
  flags-same_length = sym same_length.1

  pub texts-read : texts_in (lists_of content r.text_objects) c ≡ texts_of content r (column_index.Text i)
  texts-read = sym (text-cells content r are i c within read)

  module _ (has : HasGroups c) where
    same_length-parts : length (slice_range r.alive from to) ≡ length (slice_range (texts_in (lists_of content r.text_objects) c) from to)
    same_length-parts =
        let long : length (texts_in (lists_of content r.text_objects) c) ≡ length r.alive = texts-length (lists_of content r.text_objects) c (text-column content r are i c within read) has ∙ same_length.1 in
        range-length (texts_in (lists_of content r.text_objects) c) r.alive from to long

    module _ (lent : List (Option (List ℕ) × Bool)) (is : lent ≡ zip (slice_range (texts_in (lists_of content r.text_objects) c) from to) (slice_range r.alive from to)) where
      pub lent-values : map (λ (t : Option (List ℕ) × Bool). t.0) lent ≡ slice_range (texts_of content r (column_index.Text i)) from to
      lent-values =
          ap (map (λ (t : Option (List ℕ) × Bool). t.0)) is
          ∙ firsts-zip (slice_range (texts_in (lists_of content r.text_objects) c) from to) (slice_range r.alive from to) same_length-parts
          ∙ ap (λ (ts : List (Option (List ℕ))). slice_range ts from to) texts-read

      pub lent-flags : map (λ (t : Option (List ℕ) × Bool). t.1) lent ≡ slice_range r.alive from to
      lent-flags =
          ap (map (λ (t : Option (List ℕ) × Bool). t.1)) is
          ∙ seconds-zip (slice_range (texts_in (lists_of content r.text_objects) c) from to) (slice_range r.alive from to) same_length-parts

  pub part-refused : column_refusal r.text_objects c from to ≡ first_of (no_range r from to ∷ map (λ g. away_at r g (column_index.Text i)) (overlapped_groups r.size from to))
  part-refused =
      let cases : ℕ → List (Bool × Refusal) = λ s. map (absent-of r.text_objects c.objects) (overlapped_groups s from to) in
      let range : ℕ → Bool × Refusal = λ len. (nat_lt to from || nat_lt len to, refusal.OutOfRange) in
      (λ k. option_or (first_of ((or-swap (nat_lt c.len to) (nat_lt to from) k, refusal.OutOfRange) ∷ [])) (overlapped-by r.text_objects c.objects (nat_lt from to) (from / c.size) ((to - 1) / c.size + 1) k))
      ∙ sym (first-append (range c.len ∷ []) (cases c.size))
      ∙ (λ k. first_of (range (same_length.1 k) ∷ cases (same_length.0 k)))
      ∙ ap (λ (f : ℕ → Bool × Refusal). first_of (no_range r from to ∷ map f (overlapped_groups r.size from to))) (λ k g. sym (absent-text content r are g i c within read) k)

-- a column whose index is known
module _ {K : Type 0} (content : K → List ℕ) (r : Rows K) (column i from to : ℕ) (lies : slice_get r.column_indexes column ≡ Some (column_index.Text i)) where
  pub part-cells : (lent : List (Option (List ℕ) × Bool)) → map (λ (t : Option (List ℕ) × Bool). t.0) lent ≡ slice_range (texts_of content r (column_index.Text i)) from to → option_map (λ (cells : List Cell). slice_range cells from to) (slice_get (all_cells content r) column) ≡ Some (map (λ (t : Option (List ℕ) × Bool). text_cell t.0) lent)
  part-cells lent is =
      ap (option_map (λ (cells : List Cell). slice_range cells from to)) (slice_get-map (column_in (all_numbers content r) (all_texts content r)) r.column_indexes column ∙ ap (option_map (column_in (all_numbers content r) (all_texts content r))) lies)
      ∙ ap Some (range-map text_cell (texts_of content r (column_index.Text i)) from to ∙ ap (map text_cell) (sym is) ∙ map-map text_cell (λ (t : Option (List ℕ) × Bool). t.0) lent)

  pub part-due : AreRows content r → texts_refusal r column from to ≡ first_of (no_range r from to ∷ map (λ g. away_at r g (column_index.Text i)) (overlapped_groups r.size from to))
  part-due are =
      ap (λ (s : Option ColumnIndex). first_of (
      (is_none s, refusal.NoColumn)
      ∷ (is_int (option_map kind_of s), refusal.WrongKind)
      ∷ no_range r from to
      ∷ map (λ g. option_map_or (absent_at r column g) s (false, refusal.StaleJob)) (overlapped_groups r.size from to))) lies
      ∙ sym (range-named content r are column (column_index.Text i) lies from to (overlapped_groups r.size from to))

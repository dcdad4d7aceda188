-- Borrowed ranges of number columns, as the contracts of rows describe them.
use Rattle.std.proofs.Common.{◌≡◌, ℕ, zero, suc, ℤ, ◌+◌, ◌<◌, Bool, false, List, [], ◌∷◌, map, length, get_or, take, drop, Option, Some, inl, inr, refl, sym, ap, ◌∙◌, arith}
use Rattle.std.specs.Prelude.{◌||◌, nat_lt, is_none, option_map, slice_get, slice_range}
use Rattle.std.specs.List.{range_with_len}
use Rattle.std.specs.Option.{option_map_or, option_or}
use Rattle.std.proofs.lemmas.Bool.{cases_lt, cases_Bool}
use Rattle.std.proofs.lemmas.List.{drop_all, drop_more, take-map, drop-map}
use Rattle.std.proofs.lemmas.Option.{slice_get-get_or, slice_get_past, slice_get-map}
use Rattle.std.proofs.Math.Seq.{take-nil}
use Rattle.far_types.specs.declared.cell.Cell.{Cell}
use Rattle.far_types.specs.declared.refusal.Refusal.{Refusal}
use Rattle.far_types.specs.declared.refusal.Refusal.TheVariants as refusal
use Rattle.far_types.specs.Bounds.{is_text}
use Rattle.far_types.specs.FirstOf.{first_of}
use Rattle.far_scopes.specs.Movement.{Movement, is_local}
use Rattle.far_scopes.specs.Refusing.{absent, first_absent}
use Rattle.far_columns.specs.Vector.{Vector}
use Rattle.far_columns.specs.Pieces.{first_overlapped, overlapped_count, overlapped_groups, pieces_of}
use Rattle.far_columns.specs.Refusing.{pieces_refusal}
use Rattle.far_columns.specs.Numbers.{Numbers, numbers_in, with_flags}
use Rattle.far_scopes.proofs.FirstOfCases.{first-append}
use Rattle.far_rows.specs.declared.column_index.ColumnIndex.{ColumnIndex}
use Rattle.far_rows.specs.declared.column_index.ColumnIndex.TheVariants as column_index
use Rattle.far_types.specs.Lent.{int_cell}
use Rattle.far_rows.specs.ColumnIndexes.{kind_of, column_in}
use Rattle.far_rows.specs.Rows.{Rows, AreRows, all_numbers, all_texts, all_cells}
use Rattle.far_rows.specs.Refusing.{away_at, absent_at, no_range, ints_refusal}
use Rattle.far_rows.specs.Lending.{numbers_of}
use Rattle.far_rows.proofs.RefusingNames.{range-named}
use Rattle.far_rows.proofs.RowsReading.{all-read, absent-number, numbers-read}

-- the first of several objects that is away
module _ {X K : Type 0} (m : Movement X K) (os : List ℕ) where
  abbrev pub absent-of : ℕ → Bool × Refusal
  absent-of g = option_map_or (absent m) (slice_get os g) (false, refusal.StaleJob)

  first-here : (o : ℕ) (rest : List ℕ) (cases : List (Bool × Refusal)) → first_absent m rest ≡ first_of cases → first_absent m (o ∷ rest) ≡ first_of (absent m o ∷ cases)
  first-here o rest cases same = elim (cases_Bool (is_local m o)) [ inl here ↦ rw here same | inr away ↦ rw away refl ]

  pub absent-range : (a n : ℕ) → first_absent m (take n (drop a os)) ≡ first_of (map absent-of (range_with_len a n))
  absent-range a zero = refl
  absent-range a (suc n) =
      let rest = absent-range (a + 1) n in
      elim (cases_lt a (length os)) [
        | inl within ↦
            ap (λ l. first_absent m (take (suc n) l)) (drop_more os a 0 within)
            ∙ first-here (get_or os a 0) (take n (drop (a + 1) os)) (map absent-of (range_with_len (a + 1) n)) rest
            ∙ ap (λ o. first_of (option_map_or (absent m) o (false, refusal.StaleJob) ∷ map absent-of (range_with_len (a + 1) n))) (sym (slice_get-get_or os a 0 within))
        | inr past ↦
            ap (λ l. first_absent m (take (suc n) l)) (drop_all a os past)
            ∙ ap (first_absent m) (sym (ap (take n) (drop_all (a + 1) os (omega arith)) ∙ take-nil n))
            ∙ rest
            ∙ ap (λ o. first_of (option_map_or (absent m) o (false, refusal.StaleJob) ∷ map absent-of (range_with_len (a + 1) n))) (sym (slice_get_past os a past))
      ]

-- a range of a list, after a function is applied to all elements
pub range-map : {X Y : Type 0} (f : X → Y) (xs : List X) (from to : ℕ) → slice_range (map f xs) from to ≡ map f (slice_range xs from to)
range-map f xs from to = ap (take _) (drop-map f from xs) ∙ take-map f _ (drop from xs)

module _ {K : Type 0} (content : K → List ℕ) (r : Rows K) (are : AreRows content r) (i from to : ℕ) (c : Vector (Option ℤ)) (within : i < length r.numbers) (read : c ≡ get_or r.numbers i c) where
  same_length : (c.size ≡ r.size) × (c.len ≡ length r.alive)
  same_length = all-read (λ (v : Vector (Option ℤ)). (v.size ≡ r.size) × (v.len ≡ length r.alive)) r.numbers i c are.same_length_numbers within read

  pub pieces-read : (flags : List Bool) → with_flags (pieces_of (numbers_in content r.number_objects c) c.size from to) flags ≡ with_flags (pieces_of (numbers_of content r (column_index.Number i)) r.size from to) flags
  pieces-read flags =
      let numbers = sym (numbers-read content r are i c within read) in
      λ k. with_flags (pieces_of (numbers k) (same_length.0 k) from to) flags

  pub range-read : slice_range (numbers_in content r.number_objects c) from to ≡ slice_range (numbers_of content r (column_index.Number i)) from to
  range-read = ap (λ (ns : Numbers). slice_range ns from to) (sym (numbers-read content r are i c within read))

  pub part-refused : pieces_refusal r.number_objects c from to ≡ first_of (no_range r from to ∷ map (λ g. away_at r g (column_index.Number i)) (overlapped_groups r.size from to))
  part-refused =
      let cases : ℕ → List (Bool × Refusal) = λ s. map (absent-of r.number_objects c.objects) (overlapped_groups s from to) in
      let range : ℕ → Bool × Refusal = λ len. (nat_lt to from || nat_lt len to, refusal.OutOfRange) in
      ap (option_or (first_of (range c.len ∷ []))) (absent-range r.number_objects c.objects (first_overlapped c.size from) (overlapped_count c.size from to))
      ∙ sym (first-append (range c.len ∷ []) (cases c.size))
      ∙ (λ k. first_of (range (same_length.1 k) ∷ cases (same_length.0 k)))
      ∙ ap (λ (f : ℕ → Bool × Refusal). first_of (no_range r from to ∷ map f (overlapped_groups r.size from to))) (λ k g. sym (absent-number content r are g i c within read) k)

-- a column whose index is known
module _ {K : Type 0} (content : K → List ℕ) (r : Rows K) (column i from to : ℕ) (lies : slice_get r.column_indexes column ≡ Some (column_index.Number i)) where
  pub part-cells : (numbers : Numbers) → numbers ≡ slice_range (numbers_of content r (column_index.Number i)) from to → option_map (λ (cells : List Cell). slice_range cells from to) (slice_get (all_cells content r) column) ≡ Some (map int_cell numbers)
  part-cells numbers is =
      ap (option_map (λ (cells : List Cell). slice_range cells from to)) (slice_get-map (column_in (all_numbers content r) (all_texts content r)) r.column_indexes column ∙ ap (option_map (column_in (all_numbers content r) (all_texts content r))) lies)
      ∙ ap Some (range-map int_cell (numbers_of content r (column_index.Number i)) from to ∙ ap (map int_cell) (sym is))

  pub part-due : AreRows content r → ints_refusal r column from to ≡ first_of (no_range r from to ∷ map (λ g. away_at r g (column_index.Number i)) (overlapped_groups r.size from to))
  part-due are =
      ap (λ (s : Option ColumnIndex). first_of (
      (is_none s, refusal.NoColumn)
      ∷ (is_text (option_map kind_of s), refusal.WrongKind)
      ∷ no_range r from to
      ∷ map (λ g. option_map_or (absent_at r column g) s (false, refusal.StaleJob)) (overlapped_groups r.size from to))) lies
      ∙ sym (range-named content r are column (column_index.Number i) lies from to (overlapped_groups r.size from to))

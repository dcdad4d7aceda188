-- Parts of columns: as the rows lend them, and as the plain table has them.
use Rattle.std.proofs.Common.{◌≡◌, ℕ, zero, suc, ◌+◌, ◌-◌, ◌*◌, ◌/◌, ◌<◌, ◌≤◌, min, Bool, true, false, List, [], ◌∷◌, ◌++◌, length, map, take, drop, get_or, Option, None, Some, Result, inl, inr, refl, sym, ap, subst, ◌∙◌, arith, take-take, drop-drop}
use Rattle.std.specs.Prelude.{◌||◌, nat_lt, not, is_none, IfOk, option_map, slice_get, slice_index_or, slice_range}
use Rattle.std.specs.declared.result.Result.TheVariants.{Ok, Err}
use Rattle.std.specs.List.{flat_map, range_with_len}
use Rattle.std.specs.Option.{option_map_or}
use Rattle.std.proofs.lemmas.Bool.{cases_lt, le-ltb, lt-ltb}
use Rattle.std.proofs.lemmas.List.{length-map, map-append, append_assoc, append-nil, drop-take}
use Rattle.std.proofs.lemmas.List.Edits.{length-between}
use Rattle.std.proofs.lemmas.Nat.{le-div}
use Rattle.std.proofs.lemmas.Option.{none-some, same_Some, slice_get-map, slice_get_within, slice_get-get_or, get_or_from_slice_get}
use Rattle.std.proofs.Math.Nat.{div-mul-le_self, eq-or-lt_of_le}
use Rattle.far_types.specs.declared.cell.Cell.{Cell}
use Rattle.far_types.specs.declared.cell.Cell.TheVariants as cell
use Rattle.far_types.specs.declared.cell.Kind.{Kind}
use Rattle.far_types.specs.declared.cell.Kind.TheVariants as kind
use Rattle.far_types.specs.declared.refusal.Refusal.{Refusal}
use Rattle.far_types.specs.declared.refusal.Refusal.TheVariants as refusal
use Rattle.far_types.specs.Bounds.{is_int, is_text}
use Rattle.far_types.specs.Cells.{cell_at}
use Rattle.far_types.specs.FirstOf.{first_of}
use Rattle.far_types.specs.Lent.{int_cell, text_cell}
use Rattle.far_types.specs.Bounds.{AreLimits}
use Rattle.far_types.specs.Table.{Table, Place, column as column_of, part}
use Rattle.far_scopes.specs.Refusing.{refusal_in}
use Rattle.far_columns.specs.Pieces.{pieces_of, overlapped_groups, overlapped_count}
use Rattle.far_columns.proofs.PiecesLaws.{none-pieces, pieces-step, joined-pieces, end, further, ends}
use Rattle.far_columns.specs.Numbers.{Numbers, with_flags}
use Rattle.far_rows.specs.declared.column_index.ColumnIndex.{ColumnIndex}
use Rattle.far_rows.specs.declared.column_index.ColumnIndex.TheVariants as column_index
use Rattle.far_rows.specs.ColumnIndexes.{kind_of, column_in}
use Rattle.far_rows.specs.Rows.{Rows, AreRows, all_numbers, all_texts, all_cells}
use Rattle.far_rows.specs.Places.{places_in, row_at}
use Rattle.far_rows.specs.Refusing.{no_column, no_range, no_row, of_numbers, absent_in, absent_at, ints_refusal, text_refusal, texts_refusal}
use Rattle.far_rows.specs.Lending.{lent_ints, numbers_of}
use Rattle.far_rows.proofs.RowsSameLength.{column-long}
use Rattle.far_rows.proofs.LendingNumbers.{range-map}
use Rattle.far_rows.proofs.Places.{length-places, places-column, placed}
use Rattle.far_frame.specs.declared.piece.TextPiece.{TextPiece}
use Rattle.far_frame.specs.declared.step.Reply.{Reply}
use Rattle.far_frame.specs.declared.step.Reply.TheVariants as reply
use Rattle.far_table.specs.State.{LiveState}
use Rattle.far_table.specs.TableRows.{TableRows}
use Rattle.far_types.specs.declared.limits.Limits.{Limits}
use Rattle.far_frame.specs.State.{State}
use Rattle.far_frame.specs.Effects.{Replies}
use Rattle.far_frame.specs.Lending.{Piece, IsReplyOf, AreObserved, IsLent, piece_of, pieces_in, flags_of, ints_lent, texts_lent, text_piece, lent_part, lend_refusal}

-- a range of a column has the cells and flags of a range of places
module _ (c : ℕ) (places : List Place) (from to : ℕ) where
  pub cells-range : slice_range (column_of c places) from to ≡ column_of c (slice_range places from to)
  cells-range = range-map (λ (place : Place). cell_at c place.cells) places from to

  pub flags-range : slice_range (flags_of places) from to ≡ flags_of (slice_range places from to)
  flags-range = range-map (λ (place : Place). place.alive) places from to

  pub piece-range : record { cells = slice_range (column_of c places) from to; flags = slice_range (flags_of places) from to } ≡ piece_of c (slice_range places from to)
  piece-range = λ i. record { cells = cells-range i; flags = flags-range i }

-- a range of one place has only its cell
one-taken : {A : Type 0} (xs : List A) (p : ℕ) (x : A) → slice_get xs p ≡ Some x → take 1 (drop p xs) ≡ x ∷ []
one-taken [] p x is = absurd (omega (arith, slice_get_within [] p x is))
one-taken (y ∷ ys) zero x is = (let same : y ≡ x = same_Some y x is in ap (λ z. z ∷ []) same)
one-taken (y ∷ ys) (suc p) x is = one-taken ys p x is

pub part-one : (table : Table) (column place : ℕ) (one : Cell) → slice_get (column_of column table.places) place ≡ Some one → part column place (place + 1) table.places ≡ one ∷ []
part-one table column place one is =
    let alone : place + 1 - place ≡ 1 = omega arith in
    ap (λ n. take n (drop place (column_of column table.places))) alone ∙ one-taken (column_of column table.places) place one is

-- lending a column of numbers row group by row group, with the flags, lends the pieces of its range
module _ (size : ℕ) (some : 0 < size) (c : ℕ) (nums : Numbers) (places : List Place) (same : column_of c places ≡ map int_cell nums) where
  abbrev IsCut : ℕ → ℕ → Type 0
  IsCut from to = map ints_lent (with_flags (pieces_of nums size from to) (slice_range (flags_of places) from to)) ≡ map (piece_of c) (pieces_of places size from to)

  as-long : length nums ≡ length places
  as-long = sym (length-map nums int_cell) ∙ sym (ap length same) ∙ length-map places (λ (place : Place). cell_at c place.cells)

  cut-none : (from to : ℕ) → to ≡ from → IsCut from to
  cut-none from to e = subst (IsCut from) (sym e) (rw (none-pieces nums size some from, none-pieces places size some from) refl)

  module _ (from to : ℕ) (more : from < to) (within : to ≤ length places) where
    abbrev mid : ℕ
    mid = end size some from to more

    mid-low : from < mid
    mid-low = further size some from to more

    mid-high : mid ≤ to
    mid-high = ends size some from to more

    first-long : length (slice_range nums from mid) ≡ mid - from
    first-long = length-between nums from mid (omega (arith, as-long, within, mid-high))

    parted : to - from ≡ mid - from + (to - mid)
    parted = omega (arith, mid-low, mid-high)

    first-flags : take (mid - from) (slice_range (flags_of places) from to) ≡ slice_range (flags_of places) from mid
    first-flags = take-take (mid - from) (to - from) (drop from (flags_of places)) (omega (arith, parted))

    other-flags : drop (mid - from) (slice_range (flags_of places) from to) ≡ slice_range (flags_of places) mid to
    other-flags = ap (λ n. drop (mid - from) (take n (drop from (flags_of places)))) parted ∙ drop-take (mid - from) (to - mid) (drop from (flags_of places))
        ∙ ap (take (to - mid)) (drop-drop (mid - from) from (flags_of places) ∙ (let e : from + (mid - from) ≡ mid = omega (arith, mid-low) in ap (λ n. drop n (flags_of places)) e))

    first-cells : map int_cell (slice_range nums from mid) ≡ column_of c (slice_range places from mid)
    first-cells = sym (range-map int_cell nums from mid) ∙ sym (ap (λ cells. slice_range cells from mid) same) ∙ cells-range c places from mid

    cut-step : IsCut mid to → IsCut from to
    cut-step rest =
        ap (λ pieces. map ints_lent (with_flags pieces (slice_range (flags_of places) from to))) (pieces-step nums size some from to more)
        ∙ ap (λ n. ints_lent (slice_range nums from mid, take n (slice_range (flags_of places) from to)) ∷ map ints_lent (with_flags (pieces_of nums size mid to) (drop n (slice_range (flags_of places) from to)))) first-long
        ∙ (λ i. record { cells = first-cells i; flags = (first-flags ∙ flags-range c places from mid) i } ∷ map ints_lent (with_flags (pieces_of nums size mid to) (other-flags i)))
        ∙ ap (λ pieces. piece_of c (slice_range places from mid) ∷ pieces) rest
        ∙ sym (ap (map (piece_of c)) (pieces-step places size some from to more))

  cut-up : (n from to : ℕ) → to ≤ from + n → from ≤ to → to ≤ length places → IsCut from to
  cut-up zero from to near low within = cut-none from to (omega (arith, near, low))
  cut-up (suc n) from to near low within = elim (cases_lt from to) [
    | inl more ↦ cut-step from to more within (cut-up n (end size some from to more) to (omega (arith, near, further size some from to more)) (ends size some from to more) within)
    | inr past ↦ cut-none from to (omega (arith, past, low))
  ]

  pub all-cut : (from to : ℕ) → from ≤ to → to ≤ length places → IsCut from to
  all-cut from to low within = cut-up to from to (omega arith) low within

-- the pieces of a range are its first piece and the pieces of the rest
module _ (size : ℕ) (some : 0 < size) (c : ℕ) (places : List Place) where
  pub lent-none : (from to : ℕ) → to ≤ from → from ≤ to → map (piece_of c) (pieces_of places size from to) ≡ []
  lent-none from to past low = (let e : to ≡ from = omega (arith, past, low) in ap (λ n. map (piece_of c) (pieces_of places size from n)) e ∙ ap (map (piece_of c)) (none-pieces places size some from))

  pub lent-step : (from to : ℕ) (more : from < to) → map (piece_of c) (pieces_of places size from to)
      ≡ record { cells = slice_range (column_of c places) from (min to ((from / size + 1) * size)); flags = slice_range (flags_of places) from (min to ((from / size + 1) * size)) } ∷ map (piece_of c) (pieces_of places size (min to ((from / size + 1) * size)) to)
  lent-step from to more = ap (map (piece_of c)) (pieces-step places size some from to more)
      ∙ ap (λ one. one ∷ map (piece_of c) (pieces_of places size (end size some from to more) to)) (sym (piece-range c places from (end size some from to more)))

-- if no refusal is due, none of the tests applies
first-off : (case : Bool × Refusal) (cases : List (Bool × Refusal)) → first_of (case ∷ cases) ≡ None → (case.0 ≡ false) × (first_of cases ≡ None)
first-off (true, why) cases none = absurd cc
first-off (false, why) cases none = (refl, none)

first-on : (case : Bool × Refusal) (cases : List (Bool × Refusal)) → case.0 ≡ false → first_of cases ≡ None → first_of (case ∷ cases) ≡ None
first-on case cases off none = rw off none

neither : (a b : Bool) → (a || b) ≡ false → (a ≡ false) × (b ≡ false)
neither true b off = absurd cc
neither false b off = (refl, off)

not-below : (a b : ℕ) → nat_lt a b ≡ false → b ≤ a
not-below a b off = elim (cases_lt a b) [ inl less ↦ absurd (let on : true ≡ false = sym (lt-ltb a b less) ∙ off in cc) | inr past ↦ past ]

is-below : (a b : ℕ) → not (nat_lt a b) ≡ false → a < b
is-below a b off = elim (cases_lt a b) [ inl less ↦ less | inr past ↦ absurd (let on : true ≡ false = sym (ap not (le-ltb a b past)) ∙ off in cc) ]

-- the tests of a range of row groups pass exactly if the test of each passes
off-range : (f : ℕ → Bool × Refusal) (a n : ℕ) → first_of (map f (range_with_len a n)) ≡ None → (k : ℕ) → a ≤ k → k < a + n → (f k).0 ≡ false
off-range f a zero none k low high = absurd (omega (arith, low, high))
off-range f a (suc n) none k low high =
    let parts = first-off (f a) (map f (range_with_len (a + 1) n)) none in
    elim (eq-or-lt_of_le low) [ inl e ↦ subst (λ (m : ℕ). (f m).0 ≡ false) e parts.0 | inr above ↦ off-range f (a + 1) n parts.1 k (omega (arith, above)) (omega (arith, high)) ]

on-range : (f : ℕ → Bool × Refusal) (a n : ℕ) → ((k : ℕ) → a ≤ k → k < a + n → (f k).0 ≡ false) → first_of (map f (range_with_len a n)) ≡ None
on-range f a zero each = refl
on-range f a (suc n) each = first-on (f a) (map f (range_with_len (a + 1) n)) (each a (omega arith) (omega arith)) (on-range f (a + 1) n (λ k low high. each k (omega (arith, low)) (omega (arith, high))))

same-group : (size a b : ℕ) → 0 < size → a ≤ b → a / size ≤ b / size
same-group size a b some low = le-div (a / size) b size some (let down = div-mul-le_self a size in omega (arith, down, low))

-- if the tests of a range pass, so do the tests of each range within it
part-through : (f : ℕ → Bool × Refusal) (size from to a b : ℕ) → 0 < size → from ≤ a → b ≤ to → first_of (map f (overlapped_groups size from to)) ≡ None → first_of (map f (overlapped_groups size a b)) ≡ None
part-through f size from to a b some low high none = elim (cases_lt a b) [
  | inl more ↦ on-range f (a / size) (overlapped_count size a b) (λ k above below.
      let count : overlapped_count size a b ≡ (b - 1) / size + 1 - a / size = rw (lt-ltb a b more) refl in
      let all : overlapped_count size from to ≡ (to - 1) / size + 1 - from / size = rw (lt-ltb from to (omega (arith, more, low, high))) refl in
      let first = same-group size from a some low in
      let last = same-group size (b - 1) (to - 1) some (omega (arith, high)) in
      off-range f (from / size) (overlapped_count size from to) none k (omega (arith, first, above)) (omega (arith, above, below, count, all, first, last)))
  | inr past ↦ (let count : overlapped_count size a b ≡ 0 = rw (le-ltb a b past) refl in ap (λ n. first_of (map f (range_with_len (a / size) n))) count)
]

placed-flags : (rows : ℕ → List Cell) (n : ℕ) (flags : List Bool) → flags_of (placed rows n flags) ≡ flags
placed-flags rows n [] = refl
placed-flags rows n (flag ∷ flags) = ap (λ rest. flag ∷ rest) (placed-flags rows (n + 1) flags)

module _ {K : Type 0} (content : K → List ℕ) (r : Rows K) (are : AreRows content r) where
  abbrev places : List Place
  places = places_in content r

  place-flags : flags_of places ≡ r.alive
  place-flags = placed-flags (row_at (all_cells content r)) 0 r.alive

  range-within : (from to : ℕ) → (no_range r from to).0 ≡ false → (from ≤ to) × (to ≤ length places)
  range-within from to off =
      let both = neither (nat_lt to from) (nat_lt (length r.alive) to) off in
      (not-below to from both.0, (let high = not-below (length r.alive) to both.1 in let long = length-places (all_cells content r) r.alive in omega (arith, high, long)))

  module _ (column : ℕ) where
    -- the cells of a column are the cells of its places
    column-read : (cells : List Cell) → slice_get (all_cells content r) column ≡ Some cells → column_of column places ≡ cells
    column-read cells lies =
        let within : column < length r.column_indexes = subst (λ (n : ℕ). column < n) (length-map r.column_indexes (column_in (all_numbers content r) (all_texts content r))) (slice_get_within (all_cells content r) column cells lies) in
        places-column (all_cells content r) r.alive column (column-long content r are column within) ∙ get_or_from_slice_get (all_cells content r) column cells [] lies

    pub part-read : (from to : ℕ) (cells : List Cell) → option_map (λ (all : List Cell). slice_range all from to) (slice_get (all_cells content r) column) ≡ Some cells → cells ≡ part column from to places
    part-read from to cells is = by (slice_get (all_cells content r) column) refl is where
      by : (found : Option (List Cell)) → slice_get (all_cells content r) column ≡ found → option_map (λ (all : List Cell). slice_range all from to) found ≡ Some cells → cells ≡ part column from to places
      by None lies is = absurd (none-some cells is)
      by (Some all) lies is = sym (same_Some (slice_range all from to) cells is) ∙ ap (λ l. slice_range l from to) (sym (column-read all lies))

    pub cell-read : (place : ℕ) (one : Cell) → place < length r.alive → option_map (λ (all : List Cell). slice_index_or all place cell.Missing) (slice_get (all_cells content r) column) ≡ Some one → slice_get (column_of column places) place ≡ Some one
    cell-read place one below is = by (slice_get (all_cells content r) column) refl is where
      long : (all : List Cell) → column_of column places ≡ all → place < length all
      long all same = (let wide = sym (ap length same) ∙ length-map places (λ (p : Place). cell_at column p.cells) ∙ length-places (all_cells content r) r.alive in omega (arith, wide, below))

      by : (found : Option (List Cell)) → slice_get (all_cells content r) column ≡ found → option_map (λ (all : List Cell). slice_index_or all place cell.Missing) found ≡ Some one → slice_get (column_of column places) place ≡ Some one
      by None lies is = absurd (none-some one is)
      by (Some all) lies is =
          let same = column-read all lies in
          ap (λ l. slice_get l place) same ∙ slice_get-get_or all place cell.Missing (long all same) ∙ ap Some (same_Some (get_or all place cell.Missing) one is)

    pub flags-read : (from to : ℕ) → slice_range r.alive from to ≡ slice_range (flags_of places) from to
    flags-read from to = ap (λ (flags : List Bool). slice_range flags from to) (sym place-flags)

    module _ (from to : ℕ) where
      ints-by : (found : Option ColumnIndex) → slice_get r.column_indexes column ≡ found
          → first_of ((is_none found, refusal.NoColumn) ∷ (is_text (option_map kind_of found), refusal.WrongKind) ∷ no_range r from to ∷ map (λ g. option_map_or (absent_at r column g) found (false, refusal.StaleJob)) (overlapped_groups r.size from to)) ≡ None
          → map ints_lent (option_map_or (λ (s : ColumnIndex). with_flags (pieces_of (numbers_of content r s) r.size from to) (slice_range r.alive from to)) found []) ≡ map (piece_of column) (pieces_of places r.size from to)
      ints-by None lies none = absurd cc
      ints-by (Some (column_index.Text i)) lies none = absurd cc
      ints-by (Some (column_index.Number i)) lies none =
          let s : ColumnIndex = column_index.Number i in
          let nums = numbers_of content r s in
          let same = column-read (map int_cell nums) (slice_get-map (column_in (all_numbers content r) (all_texts content r)) r.column_indexes column ∙ ap (option_map (column_in (all_numbers content r) (all_texts content r))) lies) in
          let range = range-within from to (first-off (no_range r from to) (map (λ g. absent_at r column g s) (overlapped_groups r.size from to)) none).0 in
          ap (λ (flags : List Bool). map ints_lent (with_flags (pieces_of nums r.size from to) flags)) (flags-read from to) ∙ all-cut r.size are.some column nums places same from to range.0 range.1

      -- lending a part of a column of numbers lends the pieces that the plain table has
      pub ints-part : ints_refusal r column from to ≡ None → map ints_lent (lent_ints content r column from to) ≡ map (piece_of column) (pieces_of places r.size from to)
      ints-part none = ints-by (slice_get r.column_indexes column) refl none

module _ {K : Type 0} (r : Rows K) (column from to : ℕ) where
  skips : (off : Bool) (cases : List (Bool × Refusal)) → off ≡ false → first_of (no_column r column ∷ (off, refusal.WrongKind) ∷ cases) ≡ first_of (no_column r column ∷ cases)
  skips off cases is = rw is refl

  abbrev there : List (Bool × Refusal)
  there = no_range r from to ∷ map (absent_in r column) (overlapped_groups r.size from to)

  -- lending is refused as for numbers or for texts, by the column's kind, and with `NoColumn` if there is no column
  pub lends-ints : option_map kind_of (slice_get r.column_indexes column) ≡ Some kind.Int → ints_refusal r column from to ≡ lend_refusal r column from to
  lends-ints is = skips (is_text (option_map kind_of (slice_get r.column_indexes column))) there (ap is_text is)

  pub lends-texts : option_map kind_of (slice_get r.column_indexes column) ≡ Some kind.Text → texts_refusal r column from to ≡ lend_refusal r column from to
  lends-texts is = skips (is_int (option_map kind_of (slice_get r.column_indexes column))) there (ap is_int is)

  pub lends-none : option_map kind_of (slice_get r.column_indexes column) ≡ None → lend_refusal r column from to ≡ Some refusal.NoColumn
  lends-none is = by (slice_get r.column_indexes column) is where
    by : (found : Option ColumnIndex) → option_map kind_of found ≡ None → first_of ((is_none found, refusal.NoColumn) ∷ there) ≡ Some refusal.NoColumn
    by None none = refl
    by (Some s) none = absurd (none-some (kind_of s) (sym none))

  -- if a range of a text column may be lent, so may each range within it
  pub texts-part : 0 < r.size → (a b : ℕ) → from ≤ a → a ≤ b → b ≤ to → texts_refusal r column from to ≡ None → texts_refusal r column a b ≡ None
  texts-part some a b low between high none =
      let groups : ℕ → ℕ → List (Bool × Refusal) = λ m n. map (absent_in r column) (overlapped_groups r.size m n) in
      let known = first-off (no_column r column) (of_numbers r column ∷ no_range r from to ∷ groups from to) none in
      let kind = first-off (of_numbers r column) (no_range r from to ∷ groups from to) known.1 in
      let range = first-off (no_range r from to) (groups from to) kind.1 in
      let within = not-below (length r.alive) to (neither (nat_lt to from) (nat_lt (length r.alive) to) range.0).1 in
      first-on (no_column r column) (of_numbers r column ∷ no_range r a b ∷ groups a b) known.0
      (first-on (of_numbers r column) (no_range r a b ∷ groups a b) kind.0
      (first-on (no_range r a b) (groups a b) (rw (le-ltb b a between, le-ltb (length r.alive) b (omega (arith, high, within))) refl)
      (part-through (absent_in r column) r.size from to a b some low high range.1)))

  pub lends-low : lend_refusal r column from to ≡ None → from ≤ to
  lends-low none = not-below to from (neither (nat_lt to from) (nat_lt (length r.alive) to) (first-off (no_range r from to) (map (absent_in r column) (overlapped_groups r.size from to)) (first-off (no_column r column) there none).1).0).0

pieces-given : (of : Option Kind) (pieces : List Piece) (given : Reply) → IsReplyOf of pieces given → pieces_in given ≡ pieces
pieces-given of pieces (reply.Ints copies) is = is.1
pieces-given of pieces (reply.Texts copies) is = is.1
pieces-given of pieces (reply.Place place) is = absurd is
pieces-given of pieces reply.Done is = absurd is
pieces-given of pieces (reply.Aggregate a) is = absurd is
pieces-given of pieces (reply.Answer answer) is = absurd is
pieces-given of pieces (reply.Job n) is = absurd is
pieces-given of pieces (reply.Next found) is = absurd is
pieces-given of pieces (reply.Refused why) is = absurd is

-- joining pieces is the same as taking one piece of all their places
pub joined : {X : Type 0} (field : Piece → List X) (of : Place → X) (c : ℕ) → ((places : List Place) → field (piece_of c places) ≡ map of places) → (pieces : List (List Place)) → flat_map field (map (piece_of c) pieces) ≡ map of (flat_map (λ p. p) pieces)
joined field of c each [] = refl
joined field of c each (one ∷ pieces) = (λ i. each one i ++ joined field of c each pieces i) ∙ sym (map-append of one (flat_map (λ p. p) pieces))

-- the pieces of a range, joined, are the range
module _ (table : Table) (limits : AreLimits table.limits) (column from to : ℕ) (low : from ≤ to) where
  all : flat_map (λ p. p) (pieces_of table.places table.limits.group from to) ≡ slice_range table.places from to
  all = joined-pieces table.places table.limits.group limits.group_low from to low

  pub part-cells : flat_map (λ piece. piece.cells) (lent_part table column from to) ≡ part column from to table.places
  part-cells = joined (λ piece. piece.cells) (λ place. cell_at column place.cells) column (λ places. refl) (pieces_of table.places table.limits.group from to)
      ∙ ap (column_of column) all ∙ sym (cells-range column table.places from to)

  pub part-flags : flat_map (λ piece. piece.flags) (lent_part table column from to) ≡ slice_range (flags_of table.places) from to
  part-flags = joined (λ piece. piece.flags) (λ place. place.alive) column (λ places. refl) (pieces_of table.places table.limits.group from to)
      ∙ ap flags_of all ∙ sym (flags-range column table.places from to)

  -- the pieces of a lend reply, joined, are the range
  module _ (given : Reply) (gives : IsReplyOf (slice_get table.schema column) (lent_part table column from to) given) where
    the-pieces : pieces_in given ≡ lent_part table column from to
    the-pieces = pieces-given (slice_get table.schema column) (lent_part table column from to) given gives

    pub given-cells : flat_map (λ piece. piece.cells) (pieces_in given) ≡ part column from to table.places
    given-cells = ap (flat_map (λ piece. piece.cells)) the-pieces ∙ part-cells

    pub given-flags : flat_map (λ piece. piece.flags) (pieces_in given) ≡ slice_range (flags_of table.places) from to
    given-flags = ap (flat_map (λ piece. piece.flags)) the-pieces ∙ part-flags

-- the rows hold the table's places
pub record AreHeld {K : Type 0} (content : K → List ℕ) (held : Rows K) (table : Table) : Type 0 where
  pub rows : AreRows content held
  pub places : table.places ≡ places_in content held
  pub size : held.size ≡ table.limits.group

pub are-held : {K : Type 0} (content : K → List ℕ) (t : TableRows K) (held : Rows K) (inside s : LiveState K) → held ≡ t.held → AreRows content t.held → t.places ≡ places_in content t.held → t.held.size ≡ t.limits.group
    → t.limits ≡ inside.table.limits → t.places ≡ inside.table.places → inside ≡ s → AreHeld content held s.table
are-held {K} content t held inside s is are places same_length limits of view = record {
  rows = subst (AreRows content) (sym is) are;
  places = sym (ap (λ (u : LiveState K). u.table.places) view) ∙ sym of ∙ places ∙ ap (places_in content) (sym is);
  size = ap (λ (r : Rows K). r.size) is ∙ same_length ∙ ap (λ (l : Limits). l.group) limits ∙ ap (λ (u : LiveState K). u.table.limits.group) view;
}

-- what the rows lend are parts of the table
module _ {K : Type 0} (content : K → List ℕ) (held : Rows K) (table : Table) (are : AreHeld content held table) (column : ℕ) where
  pub lent-ints : (from to : ℕ) (r : Result (List (Numbers × List Bool)) Refusal) → IfOk r (λ lents. lents ≡ lent_ints content held column from to) → refusal_in r ≡ ints_refusal held column from to
      → IfOk r (λ lents. map ints_lent lents ≡ lent_part table column from to)
  lent-ints from to (Ok lents) lent due = ap (map ints_lent) lent ∙ ints-part content held are.rows column from to (sym due) ∙ (λ i. map (piece_of column) (pieces_of (sym are.places i) (are.size i) from to))
  lent-ints from to (Err e) lent due = lent

  pub lent-texts : (from to : ℕ) (r : Result (List (Option (List ℕ) × Bool)) Refusal) → IfOk r (λ lent. option_map (λ (cells : List Cell). slice_range cells from to) (slice_get (all_cells content held) column) ≡ Some (map (λ (t : Option (List ℕ) × Bool). text_cell t.0) lent))
      → IfOk r (λ lent. map (λ (cell : Option (List ℕ) × Bool). text_cell cell.0) lent ≡ part column from to table.places)
  lent-texts from to (Ok lent) cells = part-read content held are.rows column from to (map (λ (t : Option (List ℕ) × Bool). text_cell t.0) lent) cells ∙ ap (part column from to) (sym are.places)
  lent-texts from to (Err e) cells = cells

  pub lent-flags : (from to : ℕ) (r : Result (List (Option (List ℕ) × Bool)) Refusal) → IfOk r (λ lent. map (λ (t : Option (List ℕ) × Bool). t.1) lent ≡ slice_range held.alive from to)
      → IfOk r (λ lent. map (λ (t : Option (List ℕ) × Bool). t.1) lent ≡ slice_range (flags_of table.places) from to)
  lent-flags from to (Ok lent) flags = flags ∙ flags-read content held are.rows column from to ∙ ap (λ (places : List Place). slice_range (flags_of places) from to) (sym are.places)
  lent-flags from to (Err e) flags = flags

  pub lent-text : {X : Type 0} (text_of : X → Option (List ℕ)) (place : ℕ) (r : Result X Refusal) → IfOk r (λ text. option_map (λ (cells : List Cell). slice_index_or cells place cell.Missing) (slice_get (all_cells content held) column) ≡ Some (text_cell (text_of text)))
      → refusal_in r ≡ text_refusal held column place → IfOk r (λ text. slice_get (column_of column table.places) place ≡ Some (text_cell (text_of text)))
  lent-text text_of place (Ok text) one due =
      let known = first-off (no_column held column) (of_numbers held column ∷ no_row held place ∷ absent_in held column (place / held.size) ∷ []) (sym due) in
      let kind = first-off (of_numbers held column) (no_row held place ∷ absent_in held column (place / held.size) ∷ []) known.1 in
      let row = first-off (no_row held place) (absent_in held column (place / held.size) ∷ []) kind.1 in
      ap (λ (places : List Place). slice_get (column_of column places) place) are.places ∙ cell-read content held are.rows column place (text_cell (text_of text)) (is-below place (length held.alive) row.0) one
  lent-text text_of place (Err e) one due = one

-- copying one more of the lent parts
module _ {Y L : Type 0} (f : L → Y) (all : List Y) where
  pub copied-more : (had new : List Y) (y : Y) (lents rest : List L) (x : L) → new ≡ had ++ y ∷ [] → lents ≡ x ∷ rest → y ≡ f x → had ++ map f lents ≡ all → new ++ map f rest ≡ all
  copied-more had new y lents rest x more is same before =
      ap (λ l. l ++ map f rest) more ∙ append_assoc had (y ∷ []) (map f rest) ∙ ap (λ z. had ++ z ∷ map f rest) same ∙ sym (ap (λ l. had ++ map f l) is) ∙ before

  pub copied-all : (had : List Y) (lents : List L) → lents ≡ [] → had ++ map f lents ≡ all → had ≡ all
  copied-all had lents none before = sym (append-nil had) ∙ sym (ap (λ l. had ++ map f l) none) ∙ before

pub copies-pushed : {X Y : Type 0} (shown : X → Y) (had new : List X) (x : X) → new ≡ had ++ x ∷ [] → map shown new ≡ map shown had ++ shown x ∷ []
copies-pushed shown had new x more = ap (map shown) more ∙ map-append shown had (x ∷ [])

-- a reply with the copied pieces is a correct reply to a lend
pub lent-reply : {K : Type 0} (column from to : ℕ) (old new : State K) (given : Reply) (refuses : Refusal → Type 0) → IsReplyOf (slice_get old.table.schema column) (lent_part old.table column from to) given → lend_refusal old.rows column from to ≡ None
    → AreObserved column (overlapped_groups old.rows.size from to) old new → Replies (λ served. IsLent column from to old served new) refuses given
lent-reply column from to old new (reply.Ints copies) refuses gives due accesses = record { due = due; says = gives; used = accesses }
lent-reply column from to old new (reply.Texts copies) refuses gives due accesses = record { due = due; says = gives; used = accesses }
lent-reply column from to old new (reply.Place place) refuses gives due accesses = absurd gives
lent-reply column from to old new reply.Done refuses gives due accesses = absurd gives
lent-reply column from to old new (reply.Aggregate a) refuses gives due accesses = absurd gives
lent-reply column from to old new (reply.Answer answer) refuses gives due accesses = absurd gives
lent-reply column from to old new (reply.Job n) refuses gives due accesses = absurd gives
lent-reply column from to old new (reply.Next found) refuses gives due accesses = absurd gives
lent-reply column from to old new (reply.Refused why) refuses gives due accesses = absurd gives

-- copying one more piece of texts
module _ (column : ℕ) (places : List Place) (size : ℕ) (some : 0 < size) (start to : ℕ) (more : start < to) (all : List Piece) where
  pub copied-texts-more : (had new : List TextPiece) (copy : TextPiece) (lent : List (Option (List ℕ) × Bool)) → new ≡ had ++ copy ∷ [] → text_piece copy ≡ texts_lent lent
      → map (λ (cell : Option (List ℕ) × Bool). text_cell cell.0) lent ≡ part column start (min to ((start / size + 1) * size)) places → map (λ (cell : Option (List ℕ) × Bool). cell.1) lent ≡ slice_range (flags_of places) start (min to ((start / size + 1) * size))
      → map text_piece had ++ map (piece_of column) (pieces_of places size start to) ≡ all → map text_piece new ++ map (piece_of column) (pieces_of places size (min to ((start / size + 1) * size)) to) ≡ all
  copied-texts-more had new copy lent pushed same cells flags before =
      let behind = map (piece_of column) (pieces_of places size (min to ((start / size + 1) * size)) to) in
      ap (λ l. l ++ behind) (copies-pushed text_piece had new copy pushed)
      ∙ append_assoc (map text_piece had) (text_piece copy ∷ []) behind
      ∙ ap (λ one. map text_piece had ++ one ∷ behind) (same ∙ (λ i. record { cells = cells i; flags = flags i }))
      ∙ ap (λ l. map text_piece had ++ l) (sym (lent-step size some column places start to more))
      ∙ before

  pub next-further : start < min to ((start / size + 1) * size)
  next-further = further size some start to more

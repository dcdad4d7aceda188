-- The values of a row at each index, while its cells are loaded one by one.
use Rattle.std.proofs.Common.{◌≡◌, ◌≢◌, ℕ, zero, suc, ◌+◌, ◌<◌, Bool, true, false, List, [], ◌∷◌, ◌++◌, map, length, take, get_or, None, refl, sym, ap, ◌∙◌, arith}
use Rattle.std.specs.Prelude.{◌&&◌, All, AllPairs}
use Rattle.std.proofs.Common.{drop, set}
use Rattle.std.proofs.lemmas.List.{get_or-set_same, get_or-set_other, get_or-take, get_or-drop, get_or_default, length-set, length-take, drop-set-lt, drop-drop, map-append, take_more}
use Rattle.std.proofs.lemmas.List.Elements.{All-head, All-tail}
use Rattle.far_types.specs.declared.cell.Cell.{Cell}
use Rattle.far_types.specs.declared.cell.Cell.TheVariants as cell
use Rattle.far_types.specs.Cells.{is_of_kind}
use Rattle.far_types.specs.Edits.{kinds_fit}
use Rattle.far_rows.specs.declared.column_index.ColumnIndex.{ColumnIndex}
use Rattle.far_rows.specs.declared.column_index.ColumnIndex.TheVariants as column_index
use Rattle.far_types.specs.Lent.{int_cell, text_cell}
use Rattle.far_rows.specs.ColumnIndexes.{Values, IsColumnIn, kind_of, cell_in, row_of, with_value}

and-left : (a b : Bool) → a && b ≡ true → a ≡ true
and-left true b both = refl
and-left false b both = both

and-right : (a b : Bool) → a && b ≡ true → b ≡ true
and-right true b both = both
and-right false b both = cc

-- each cell of a row that fits the kinds has its column's kind
kind-at : (column_indexes : List ColumnIndex) (row : List Cell) (i : ℕ) (s : ColumnIndex) (d : Cell) → kinds_fit (map kind_of column_indexes) row ≡ true → i < length column_indexes → i < length row → is_of_kind (kind_of (get_or column_indexes i s)) (get_or row i d) ≡ true
kind-at [] row i s d fit a b = absurd (omega arith)
kind-at (first ∷ column_indexes) [] i s d fit a b = absurd (omega arith)
kind-at (first ∷ column_indexes) (new ∷ row) zero s d fit a b = and-left (is_of_kind (kind_of first) new) (kinds_fit (map kind_of column_indexes) row) fit
kind-at (first ∷ column_indexes) (new ∷ row) (suc i) s d fit a b = kind-at column_indexes row i s d (and-right (is_of_kind (kind_of first) new) (kinds_fit (map kind_of column_indexes) row) fit) (omega arith) (omega arith)

-- the next cell has its column's kind too
pub kind-next : (column_indexes : List ColumnIndex) (row : List Cell) (i j : ℕ) (s : ColumnIndex) (new : Cell) → kinds_fit (map kind_of column_indexes) row ≡ true → i ≡ j → i < length column_indexes → (j < length row) × (new ≡ get_or row j new) → is_of_kind (kind_of (get_or column_indexes i s)) new ≡ true
kind-next column_indexes row i j s new fit same within turn =
    ap (is_of_kind (kind_of (get_or column_indexes i s))) (turn.1 ∙ ap (λ n. get_or row n new) (sym same)) ∙ kind-at column_indexes row i s new fit within (omega (arith, turn.0))

-- the next cell that was not loaded yet is the row's
pub same-next : (cells row : List Cell) (n : ℕ) (d : Cell) → drop n cells ≡ drop n row → get_or cells n d ≡ get_or row n d
same-next cells row n d rest =
    let here : n + 0 ≡ n = omega arith in
    sym (get_or-drop n cells 0 d ∙ ap (λ i. get_or cells i d) here) ∙ ap (λ l. get_or l 0 d) rest ∙ get_or-drop n row 0 d ∙ ap (λ i. get_or row i d) here

-- the remaining cells are the row's, also after the next cell is loaded and replaced
pub same-later : (cells row : List Cell) (n : ℕ) (left : Cell) → drop n cells ≡ drop n row → drop (n + 1) (set cells n left) ≡ drop (n + 1) row
same-later cells row n left rest = drop-set-lt (n + 1) cells n left (omega arith) ∙ sym (drop-drop 1 n cells) ∙ ap (drop 1) rest ∙ drop-drop 1 n row

-- the loaded cells, after one more is loaded
pub taken-more : (row taken : List Cell) (n : ℕ) (new : Cell) → n < length row → new ≡ get_or row n new → taken ≡ take n row → taken ++ new ∷ [] ≡ take (n + 1) row
taken-more row taken n new within is so-far = ap (λ cells. cells ++ new ∷ []) so-far ∙ ap (λ cell. take n row ++ cell ∷ []) is ∙ sym (take_more row n new within)

-- all indexes before the n-th differ from it
others-before : (column_indexes : List ColumnIndex) (n : ℕ) (s : ColumnIndex) → AllPairs (λ s t. s ≢ t) column_indexes → n < length column_indexes → All (λ t. t ≢ get_or column_indexes n s) (take n column_indexes)
others-before column_indexes n s once within k d below =
    let early : k < n = omega (arith, length-take n column_indexes) in
    rw (get_or-take n column_indexes k d early, get_or_default column_indexes n s d within) (once k n d early within)

module _ (values : Values) where
  -- an index has the cell that was put at it
  pub cell-same : (s : ColumnIndex) (new : Cell) → IsColumnIn (length values.numbers) (length values.texts) s → is_of_kind (kind_of s) new ≡ true → cell_in (with_value values s new) s ≡ new
  cell-same (column_index.Number i) (cell.Int number) within of_kind = ap int_cell (get_or-set_same values.numbers i _ None within)
  cell-same (column_index.Number i) (cell.Text text) within of_kind = cc
  cell-same (column_index.Number i) cell.Missing within of_kind = ap int_cell (get_or-set_same values.numbers i _ None within)
  cell-same (column_index.Text i) (cell.Int number) within of_kind = cc
  cell-same (column_index.Text i) (cell.Text text) within of_kind = ap text_cell (get_or-set_same values.texts i _ None within)
  cell-same (column_index.Text i) cell.Missing within of_kind = ap text_cell (get_or-set_same values.texts i _ None within)

  -- another index keeps its cell
  cell-other : (s t : ColumnIndex) (new : Cell) → s ≢ t → cell_in (with_value values t new) s ≡ cell_in values s
  cell-other (column_index.Number i) (column_index.Number j) new other = ap int_cell (get_or-set_other values.numbers j i _ None (λ e. other (ap column_index.Number e)))
  cell-other (column_index.Number i) (column_index.Text j) new other = refl
  cell-other (column_index.Text i) (column_index.Number j) new other = refl
  cell-other (column_index.Text i) (column_index.Text j) new other = ap text_cell (get_or-set_other values.texts j i _ None (λ e. other (ap column_index.Text e)))

  row-other : (column_indexes : List ColumnIndex) (t : ColumnIndex) (new : Cell) → All (λ s. s ≢ t) column_indexes → row_of column_indexes (with_value values t new) ≡ row_of column_indexes values
  row-other [] t new others = refl
  row-other (s ∷ column_indexes) t new others =
      let here = cell-other s t new (All-head (λ s. s ≢ t) s column_indexes others) in
      let there = row-other column_indexes t new (All-tail (λ s. s ≢ t) s column_indexes others) in
      λ k. here k ∷ there k

  pub numbers-unchanged : (s : ColumnIndex) (new : Cell) → length (with_value values s new).numbers ≡ length values.numbers
  numbers-unchanged (column_index.Number i) new = length-set values.numbers i _
  numbers-unchanged (column_index.Text i) new = refl

  pub texts-unchanged : (s : ColumnIndex) (new : Cell) → length (with_value values s new).texts ≡ length values.texts
  texts-unchanged (column_index.Number i) new = refl
  texts-unchanged (column_index.Text i) new = length-set values.texts i _

  -- the first n indexes keep their cells, and the next index gets its cell
  pub row-more : (column_indexes : List ColumnIndex) (n : ℕ) (d : ColumnIndex) (new : Cell) → AllPairs (λ s t. s ≢ t) column_indexes → n < length column_indexes → IsColumnIn (length values.numbers) (length values.texts) (get_or column_indexes n d) → is_of_kind (kind_of (get_or column_indexes n d)) new ≡ true → row_of (take (n + 1) column_indexes) (with_value values (get_or column_indexes n d) new) ≡ row_of (take n column_indexes) values ++ new ∷ []
  row-more column_indexes n d new once within is of_kind =
      let s : ColumnIndex = get_or column_indexes n d in
      ap (λ ts. row_of ts (with_value values s new)) (take_more column_indexes n d within)
      ∙ map-append (cell_in (with_value values s new)) (take n column_indexes) (s ∷ [])
      ∙ (λ k. row-other (take n column_indexes) s new (others-before column_indexes n d once within) k ++ cell-same s new is of_kind k ∷ [])

  -- an index stays in range after other cells were loaded
  pub within-still : (old : Values) (column_indexes : List ColumnIndex) (n : ℕ) (d : ColumnIndex) → All (IsColumnIn (length old.numbers) (length old.texts)) column_indexes → n < length column_indexes → length values.numbers ≡ length old.numbers → length values.texts ≡ length old.texts → IsColumnIn (length values.numbers) (length values.texts) (get_or column_indexes n d)
  within-still old column_indexes n d all within numbers texts = rw (numbers, texts) (all n d within)

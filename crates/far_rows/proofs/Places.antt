-- The places, from the columns and the flags.
use Rattle.std.proofs.Common.{◌≡◌, ℕ, zero, suc, ◌+◌, ◌*◌, ◌<◌, Bool, false, List, [], ◌∷◌, map, length, take, drop, get_or, set, Option, None, Some, refl, sym, ap, ◌∙◌, arith}
use Rattle.std.specs.List.{enumerate_from}
use Rattle.std.proofs.lemmas.List.{drop_all, drop_more, length-map, get_or-set_same, take-map, drop-map}
use Rattle.std.proofs.lemmas.List.FromFn.{length-enumerate_from}
use Rattle.std.proofs.lemmas.Option.{unwrap_or-slice_get}
use Rattle.std.proofs.Math.ListN.{get_or-map}
use Rattle.far_types.specs.declared.cell.Cell.{Cell}
use Rattle.far_types.specs.declared.cell.Cell.TheVariants as cell
use Rattle.far_types.specs.Cells.{cell_at, text_in}
use Rattle.far_types.specs.Edits.{with_cell, after_remove, change_at}
use Rattle.far_types.specs.Table.{Place, column, in_group}
use Rattle.far_types.specs.Lent.{text_cell}
use Rattle.far_rows.specs.Places.{row_at, places_of}

-- the places from the n-th on: a row for each flag
abbrev pub placed : (ℕ → List Cell) → ℕ → List Bool → List Place
placed rows n flags = map (λ (at : ℕ × Bool). record { cells = rows at.0; alive = at.1 }) (enumerate_from n flags)

pub length-places : (columns : List (List Cell)) (flags : List Bool) → length (places_of columns flags) ≡ length flags
length-places columns flags = length-map (enumerate_from 0 flags) (λ (at : ℕ × Bool). record { cells = row_at columns at.0; alive = at.1 }) ∙ length-enumerate_from 0 flags

cell-there : (columns : List (List Cell)) (c p : ℕ) → cell_at c (row_at columns p) ≡ get_or (get_or columns c []) p cell.Missing
cell-there columns c p = unwrap_or-slice_get (row_at columns p) c cell.Missing ∙ get_or-map (λ (cells : List Cell). get_or cells p cell.Missing) columns c []

-- each column of the places is the column that the places were made from
placed-column : (columns : List (List Cell)) (c n : ℕ) (flags : List Bool) → n + length flags ≡ length (get_or columns c []) → column c (placed (row_at columns) n flags) ≡ drop n (get_or columns c [])
placed-column columns c n [] count = sym (drop_all n (get_or columns c []) (omega (arith, count)))
placed-column columns c n (flag ∷ flags) count =
    let cells = get_or columns c [] in
    let here : cell_at c (row_at columns n) ≡ get_or cells n cell.Missing = cell-there columns c n in
    let there = placed-column columns c (n + 1) flags (omega (arith, count)) in
    (λ i. here i ∷ there i) ∙ sym (drop_more cells n cell.Missing (omega (arith, count)))

pub places-column : (columns : List (List Cell)) (flags : List Bool) (c : ℕ) → length (get_or columns c []) ≡ length flags → column c (places_of columns flags) ≡ get_or columns c []
places-column columns flags c count = placed-column columns c 0 flags (omega (arith, count))

cell-set : (c : ℕ) (row : List Cell) (new : Cell) → c < length row → cell_at c (set row c new) ≡ new
cell-set c row new within = unwrap_or-slice_get (set row c new) c cell.Missing ∙ get_or-set_same row c new cell.Missing within

-- the column after one of its cells is changed
changed-column : (rows : ℕ → List Cell) (c : ℕ) (new : Cell) → ((i : ℕ) → c < length (rows i)) → (n p : ℕ) (flags : List Bool) → column c (change_at (with_cell c new) p (placed rows n flags)) ≡ set (column c (placed rows n flags)) p new
changed-column rows c new wide n p [] = refl
changed-column rows c new wide n zero (flag ∷ flags) = let here = cell-set c (rows n) new (wide n) in λ i. here i ∷ column c (placed rows (n + 1) flags)
changed-column rows c new wide n (suc p) (flag ∷ flags) = ap (λ (cells : List Cell). cell_at c (rows n) ∷ cells) (changed-column rows c new wide (n + 1) p flags)

pub set-column : (columns : List (List Cell)) (flags : List Bool) (c p : ℕ) (new : Cell) → c < length columns → length (get_or columns c []) ≡ length flags → column c (change_at (with_cell c new) p (places_of columns flags)) ≡ set (get_or columns c []) p new
set-column columns flags c p new within count =
    changed-column (row_at columns) c new (λ i. omega (arith, within, length-map columns (λ (cells : List Cell). get_or cells i cell.Missing))) 0 p flags
    ∙ ap (λ (cells : List Cell). set cells p new) (places-column columns flags c count)

-- a text that is turned into a cell is turned back into this text
text-round_trip : (text : Option (List ℕ)) → text_in (text_cell text) ≡ text
text-round_trip None = refl
text-round_trip (Some text) = refl

texts-round_trip : (texts : List (Option (List ℕ))) → map text_in (map text_cell texts) ≡ texts
texts-round_trip [] = refl
texts-round_trip (text ∷ texts) = let here = text-round_trip text in let rest = texts-round_trip texts in λ i. here i ∷ rest i

pub group-round_trip : (size g : ℕ) (texts : List (Option (List ℕ))) → map text_in (in_group size g (map text_cell texts)) ≡ in_group size g texts
group-round_trip size g texts =
    ap (λ (cells : List Cell). map text_in (take size cells)) (drop-map text_cell (g * size) texts)
    ∙ ap (map text_in) (take-map text_cell size (drop (g * size) texts))
    ∙ texts-round_trip (in_group size g texts)

pub placed-clear : (rows : ℕ → List Cell) (n p : ℕ) (flags : List Bool) → placed rows n (set flags p false) ≡ change_at after_remove p (placed rows n flags)
placed-clear rows n p [] = refl
placed-clear rows n zero (flag ∷ flags) = refl
placed-clear rows n (suc p) (flag ∷ flags) = ap (λ (places : List Place). record { cells = rows n; alive = flag } ∷ places) (placed-clear rows (n + 1) p flags)

-- the places after one is removed
pub places-clear : (columns : List (List Cell)) (flags : List Bool) (p : ℕ) → places_of columns (set flags p false) ≡ change_at after_remove p (places_of columns flags)
places-clear columns flags p = placed-clear (row_at columns) 0 p flags

-- The places after a row is appended, and after a cell is set.
use Rattle.std.proofs.Common.{◌≡◌, ◌≢◌, ℕ, zero, suc, ◌+◌, ◌<◌, ◌≤◌, Bool, List, [], ◌∷◌, ◌++◌, length, get_or, set, inl, inr, refl, sym, ap, ◌∙◌, arith}
use Rattle.std.specs.Prelude.{All}
use Rattle.std.proofs.lemmas.Bool.{cases_lt}
use Rattle.std.proofs.lemmas.List.{map-set, set-get_or, set_past, get_or-set_same, get_or-set_other, get_or_append_left, get_or_push}
use Rattle.std.proofs.lemmas.List.Elements.{All-head, All-tail}
use Rattle.std.proofs.Math.ListN.{get_or-map}
use Rattle.far_types.specs.declared.cell.Cell.{Cell}
use Rattle.far_types.specs.declared.cell.Cell.TheVariants as cell
use Rattle.far_types.specs.Edits.{with_cell, change_at}
use Rattle.far_types.specs.Table.{Place}
use Rattle.far_rows.specs.ColumnIndexes.{with_row}
use Rattle.far_rows.specs.Setting.{with_cell_at}
use Rattle.far_rows.specs.Places.{row_at, places_of}
use Rattle.far_rows.proofs.Places.{placed, length-places}

-- each column has n cells
abbrev pub AsLong : ℕ → List (List Cell) → Type 0
AsLong n columns = All (λ (cells : List Cell). length cells ≡ n) columns

row_at-cell : (columns : List (List Cell)) (c p : ℕ) → get_or (row_at columns p) c cell.Missing ≡ get_or (get_or columns c []) p cell.Missing
row_at-cell columns c p = get_or-map (λ (cells : List Cell). get_or cells p cell.Missing) columns c []

row_at-set : (columns : List (List Cell)) (c p : ℕ) (new : Cell) → p < length (get_or columns c []) → row_at (with_cell_at columns c p new) p ≡ set (row_at columns p) c new
row_at-set columns c p new within =
    map-set (λ (cells : List Cell). get_or cells p cell.Missing) columns c (set (get_or columns c []) p new)
    ∙ ap (set (row_at columns p) c) (get_or-set_same (get_or columns c []) p new cell.Missing within)

row_at-set_other : (columns : List (List Cell)) (c p : ℕ) (new : Cell) (i : ℕ) → i ≢ p → row_at (with_cell_at columns c p new) i ≡ row_at columns i
row_at-set_other columns c p new i other =
    map-set (λ (cells : List Cell). get_or cells i cell.Missing) columns c (set (get_or columns c []) p new)
    ∙ ap (set (row_at columns i) c) (get_or-set_other (get_or columns c []) p i new cell.Missing other ∙ sym (row_at-cell columns c i))
    ∙ set-get_or (row_at columns i) c cell.Missing

row_at-with : (columns : List (List Cell)) (row : List Cell) (n i : ℕ) → AsLong n columns → i < n → row_at (with_row columns row) i ≡ row_at columns i
row_at-with [] row n i long within = refl
row_at-with (cells ∷ columns) [] n i long within = refl
row_at-with (cells ∷ columns) (new ∷ row) n i long within =
    let l : length cells ≡ n = All-head (λ (cs : List Cell). length cs ≡ n) cells columns long in
    let here = get_or_append_left cells (new ∷ []) cell.Missing i (omega arith) in
    let there = row_at-with columns row n i (All-tail (λ (cs : List Cell). length cs ≡ n) cells columns long) within in
    λ k. here k ∷ there k

row_at-new : (columns : List (List Cell)) (row : List Cell) (n : ℕ) → AsLong n columns → length row ≡ length columns → row_at (with_row columns row) n ≡ row
row_at-new [] [] n long width = refl
row_at-new [] (new ∷ row) n long width = absurd (omega arith)
row_at-new (cells ∷ columns) [] n long width = absurd (omega arith)
row_at-new (cells ∷ columns) (new ∷ row) n long width =
    let l : length cells ≡ n = All-head (λ (cs : List Cell). length cs ≡ n) cells columns long in
    let here = get_or_push cells new cell.Missing n l in
    let there = row_at-new columns row n (All-tail (λ (cs : List Cell). length cs ≡ n) cells columns long) (omega arith) in
    λ k. here k ∷ there k

placed-same : (f g : ℕ → List Cell) (n : ℕ) (flags : List Bool) → ((i : ℕ) → n ≤ i → i < n + length flags → f i ≡ g i) → placed f n flags ≡ placed g n flags
placed-same f g n [] same = refl
placed-same f g n (flag ∷ flags) same =
    let here : f n ≡ g n = same n (omega arith) (omega arith) in
    let there : placed f (n + 1) flags ≡ placed g (n + 1) flags = placed-same f g (n + 1) flags (λ i low high. same i (omega arith) (omega arith)) in
    λ i. record { cells = here i; alive = flag } ∷ there i

placed-push : (f : ℕ → List Cell) (n : ℕ) (flags : List Bool) (flag : Bool) → placed f n (flags ++ flag ∷ []) ≡ placed f n flags ++ record { cells = f (n + length flags); alive = flag } ∷ []
placed-push f n [] flag = let e : n ≡ n + 0 = omega arith in λ i. record { cells = f (e i); alive = flag } ∷ []
placed-push f n (first ∷ flags) flag =
    let e : n + 1 + length flags ≡ n + suc (length flags) = omega arith in
    ap (λ (places : List Place). record { cells = f n; alive = first } ∷ places) (placed-push f (n + 1) flags flag)
    ∙ (λ i. record { cells = f n; alive = first } ∷ (placed f (n + 1) flags ++ record { cells = f (e i); alive = flag } ∷ []))

placed-set : (f g : ℕ → List Cell) (c : ℕ) (new : Cell) (n p at : ℕ) (flags : List Bool) → n + p ≡ at → g at ≡ set (f at) c new → ((i : ℕ) → i ≢ at → g i ≡ f i) → placed g n flags ≡ change_at (with_cell c new) p (placed f n flags)
placed-set f g c new n p at [] e here there = refl
placed-set f g c new n zero at (flag ∷ flags) e here there =
    let first : g n ≡ set (f n) c new = let m : at ≡ n = omega arith in rw m at here in
    let rest : placed g (n + 1) flags ≡ placed f (n + 1) flags = placed-same g f (n + 1) flags (λ i low high. there i (λ same. absurd (omega arith))) in
    λ i. record { cells = first i; alive = flag } ∷ rest i
placed-set f g c new n (suc p) at (flag ∷ flags) e here there =
    let first : g n ≡ f n = there n (λ same. absurd (omega arith)) in
    let rest = placed-set f g c new (n + 1) p at flags (omega arith) here there in
    λ i. record { cells = first i; alive = flag } ∷ rest i

-- the places after a row is appended
pub places-push : (columns : List (List Cell)) (row : List Cell) (flags : List Bool) (flag : Bool) → AsLong (length flags) columns → length row ≡ length columns → places_of (with_row columns row) (flags ++ flag ∷ []) ≡ places_of columns flags ++ record { cells = row; alive = flag } ∷ []
places-push columns row flags flag long width =
    let e : 0 + length flags ≡ length flags = omega arith in
    let new : row_at (with_row columns row) (0 + length flags) ≡ row = rw e (row_at-new columns row (length flags) long width) in
    let rest : placed (row_at (with_row columns row)) 0 flags ≡ placed (row_at columns) 0 flags = placed-same (row_at (with_row columns row)) (row_at columns) 0 flags (λ i low high. row_at-with columns row (length flags) i long (omega arith)) in
    placed-push (row_at (with_row columns row)) 0 flags flag ∙ (λ i. rest i ++ record { cells = new i; alive = flag } ∷ [])

changed-past : (change : Place → Place) (p : ℕ) (places : List Place) → length places ≤ p → change_at change p places ≡ places
changed-past change p [] past = refl
changed-past change zero (place ∷ places) past = absurd (omega (arith, past))
changed-past change (suc p) (place ∷ places) past = ap (λ (rest : List Place). place ∷ rest) (changed-past change p places (omega (arith, past)))

-- the places after a cell is set; past the end nothing changes
pub places-set : (columns : List (List Cell)) (flags : List Bool) (c p : ℕ) (new : Cell) → length (get_or columns c []) ≡ length flags → places_of (with_cell_at columns c p new) flags ≡ change_at (with_cell c new) p (places_of columns flags)
places-set columns flags c p new count = elim (cases_lt p (length (get_or columns c []))) [
  | inl within ↦ placed-set (row_at columns) (row_at (with_cell_at columns c p new)) c new 0 p p flags (omega arith) (row_at-set columns c p new within) (λ i other. row_at-set_other columns c p new i other)
  | inr past ↦
      ap (λ (cells : List Cell). places_of (set columns c cells) flags) (set_past (get_or columns c []) p new past)
      ∙ ap (λ (cs : List (List Cell)). places_of cs flags) (set-get_or columns c [])
      ∙ sym (changed-past (with_cell c new) p (places_of columns flags) (omega (arith, past, count, length-places columns flags)))
]

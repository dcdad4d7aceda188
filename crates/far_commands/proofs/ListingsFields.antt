-- A row, printed field by field.
use Rattle.std.proofs.Common.{◌≡◌, ◌==◌, ◌+◌, ◌≤◌, ℕ, zero, suc, Bool, List, [], ◌∷◌, ◌++◌, length, None, Some, map, drop, append_assoc, append-nil, ◌∙◌, refl, sym, ap, arith}
use Rattle.std.specs.Prelude.{slice_get, option_map, is_none, if◌then◌else◌}
use Rattle.std.proofs.lemmas.Bool.{eqb-true}
use Rattle.std.specs.Option.{option_map_or}
use Rattle.csv.specs.Writing.{default_writer, field_text, fields_text, is_blank, row_body}
use Rattle.far_types.specs.declared.cell.Cell.{Cell}
use Rattle.far_types.specs.Table.{Place}
use Rattle.far_commands.specs.Listings.{cell_text, cells_at, field_in_record, row_line}
use Rattle.far_script.specs.Printing.{record_text}
use Rattle.far_script.proofs.PrintingLaws.{is-some}

-- the cells of a place that exists
pub cells-there : (places : List Place) (p : ℕ) (cells : List Cell) → option_map (λ place. place.cells) (slice_get places p) ≡ Some cells → cells_at p places ≡ cells
cells-there places p cells = elim (slice_get places p) as (λ found. option_map (λ place. place.cells) found ≡ Some cells → option_map_or (λ place. place.cells) found [] ≡ cells) [
  | None ↦ λ h. cc h
  | Some place ↦ λ h. cc h
]

drop-none : (cells : List Cell) (i : ℕ) → slice_get cells i ≡ None → drop i cells ≡ []
drop-none [] zero h = refl
drop-none [] (suc i) h = refl
drop-none (cell ∷ cells) zero h = cc h
drop-none (cell ∷ cells) (suc i) h = drop-none cells i h

same : (a b : Cell) → Some a ≡ Some b → a ≡ b
same a b h = cc h

drop-some : (cells : List Cell) (i : ℕ) (cell : Cell) → slice_get cells i ≡ Some cell → drop i cells ≡ cell ∷ drop (suc i) cells
drop-some [] i cell h = cc h
drop-some (first ∷ cells) zero cell h = ap (λ (x : Cell). x ∷ cells) (same first cell h)
drop-some (first ∷ cells) (suc i) cell h = drop-some cells i cell h

one : (i : ℕ) → suc i ≡ i + 1
one i = omega arith

pub drop-past : {A : Type 0} (items : List A) (i : ℕ) → length items ≤ i → drop i items ≡ []
drop-past [] zero h = refl
drop-past [] (suc i) h = refl
drop-past (item ∷ items) zero h = absurd (omega (arith, h))
drop-past (item ∷ items) (suc i) h = drop-past items i (omega (arith, h))

-- printing one more field
pub field-more : (cells : List Cell) (i : ℕ) (cell : Cell) (page after whole : List ℕ) → slice_get cells i ≡ Some cell
    → after ≡ (page ++ 44 ∷ []) ++ field_text default_writer (cell_text cell)
    → page ++ fields_text default_writer (map cell_text (drop i cells)) ≡ whole
    → after ++ fields_text default_writer (map cell_text (drop (i + 1) cells)) ≡ whole
unfolding fields_text
field-more cells i cell page after whole h grown e =
    let rest = fields_text default_writer (map cell_text (drop (i + 1) cells)) in
    let split : drop i cells ≡ cell ∷ drop (i + 1) cells = drop-some cells i cell h ∙ ap (λ (n : ℕ). cell ∷ drop n cells) (one i) in
    rw grown (append_assoc (page ++ 44 ∷ []) (field_text default_writer (cell_text cell)) rest
    ∙ append_assoc page (44 ∷ []) (field_text default_writer (cell_text cell) ++ rest)
    ∙ ap (λ (left : List Cell). page ++ fields_text default_writer (map cell_text left)) (sym split) ∙ e)

-- after the last field the row is complete
fields-none : (cells : List Cell) (i : ℕ) (page whole : List ℕ) → drop i cells ≡ []
    → page ++ fields_text default_writer (map cell_text (drop i cells)) ≡ whole → page ≡ whole
unfolding fields_text
fields-none cells i page whole none e =
    sym (append-nil page) ∙ ap (λ (left : List Cell). page ++ fields_text default_writer (map cell_text left)) (sym none) ∙ e

pub fields-end : (cells : List Cell) (i : ℕ) (page whole : List ℕ) → slice_get cells i ≡ None
    → page ++ fields_text default_writer (map cell_text (drop i cells)) ≡ whole → page ≡ whole
fields-end cells i page whole h e = fields-none cells i page whole (drop-none cells i h) e

pub fields-past : (cells : List Cell) (i : ℕ) (page whole : List ℕ) → length cells ≤ i
    → page ++ fields_text default_writer (map cell_text (drop i cells)) ≡ whole → page ≡ whole
fields-past cells i page whole h e = fields-none cells i page whole (drop-past cells i h) e

pub row-none : (page : List ℕ) (cells : List Cell) → slice_get cells 0 ≡ None → (page ++ 34 ∷ 34 ∷ []) ++ 10 ∷ [] ≡ page ++ row_line cells
unfolding is_blank
row-none page [] h = append_assoc page (34 ∷ 34 ∷ []) (10 ∷ [])
row-none page (cell ∷ cells) h = cc h

pub row-some : (page : List ℕ) (cells : List Cell) (first : Cell) (lone : Bool) → slice_get cells 0 ≡ Some first → lone ≡ is_none (slice_get cells 1)
    → ((page ++ field_in_record lone (cell_text first)) ++ fields_text default_writer (map cell_text (drop 1 cells))) ++ 10 ∷ [] ≡ page ++ row_line cells
unfolding is_blank fields_text
row-some page [] first lone h k = cc h
row-some page (cell ∷ []) first lone h k =
    let body = record_text (cell_text cell ∷ []) in
    rw (k, sym (same cell first h)) (ap (λ (t : List ℕ). t ++ 10 ∷ []) (append-nil (page ++ body)) ∙ append_assoc page body (10 ∷ [])
    ∙ ap (λ (t : List ℕ). page ++ t) (append_assoc (row_body default_writer (cell_text cell ∷ [])) (if is_blank default_writer (cell_text cell ∷ []) then 34 ∷ 34 ∷ [] else []) (10 ∷ [])))
row-some page (cell ∷ next ∷ cells) first lone h k =
    let field = field_text default_writer (cell_text cell) in
    let more = fields_text default_writer (map cell_text (next ∷ cells)) in
    rw (k, sym (same cell first h)) (ap (λ (t : List ℕ). t ++ 10 ∷ []) (append_assoc page field more) ∙ append_assoc page (field ++ more) (10 ∷ []))

-- a row has only one cell exactly if it has no second cell
pub lone-by-length : (cells : List Cell) (first : Cell) (len : ℕ) → slice_get cells 0 ≡ Some first → len ≡ length cells → (len == 1) ≡ is_none (slice_get cells 1)
lone-by-length [] first len h k = cc h
lone-by-length (cell ∷ []) first len h k = rw k refl
lone-by-length (cell ∷ next ∷ cells) first len h k = rw k (is-some (length (cell ∷ next ∷ cells) == 1) (λ e. let same = eqb-true (length (cell ∷ next ∷ cells)) 1 e in omega (arith, same)))

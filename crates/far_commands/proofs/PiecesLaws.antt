-- Lent pieces, printed value by value.
use Rattle.std.proofs.Common.{◌≡◌, ◌==◌, ◌+◌, ◌<◌, ◌≤◌, ℕ, Bool, true, false, List, [], ◌∷◌, ◌++◌, length, map, drop, get_or, codes, append_assoc, append-nil, ◌∙◌, refl, sym, ap, arith, Some, is_none}
use Rattle.std.specs.Prelude.{slice_get}
use Rattle.std.proofs.lemmas.List.{drop_more}
use Rattle.csv.specs.Writing.{default_writer, field_text, fields_text, is_blank}
use Rattle.far_types.specs.declared.cell.Cell.{Cell}
use Rattle.far_frame.specs.Lending.{Piece}
use Rattle.far_commands.specs.Listings.{cell_text, field_in_record, row_line}
use Rattle.far_commands.specs.Pieces.{group_text, next_text, piece_text, pieces_text}
use Rattle.far_script.specs.Printing.{line_end, texts_of}
use Rattle.far_script.proofs.PrintingLaws.{is-some, not-zero}
use Rattle.far_commands.proofs.ListingsFields.{drop-past, row-some}

-- printing the text of item i
pub texts-more : {A : Type 0} (text : A → List ℕ) (items : List A) (i : ℕ) (d : A) (page after whole : List ℕ)
    → i < length items → after ≡ page ++ text (get_or items i d)
    → page ++ texts_of text (drop i items) ≡ whole
    → after ++ texts_of text (drop (i + 1) items) ≡ whole
texts-more text items i d page after whole low grown e =
    rw grown (append_assoc page (text (get_or items i d)) (texts_of text (drop (i + 1) items))
    ∙ sym (ap (λ rest. page ++ texts_of text rest) (drop_more items i d low)) ∙ e)

-- after the last item the text is complete
pub texts-end : {A : Type 0} (text : A → List ℕ) (items : List A) (i : ℕ) (page whole : List ℕ)
    → length items ≤ i → page ++ texts_of text (drop i items) ≡ whole → page ≡ whole
texts-end text items i page whole past e = sym (append-nil page) ∙ sym (ap (λ rest. page ++ texts_of text rest) (drop-past items i past)) ∙ e

-- a comma and a field
abbrev pub next_field : {A : Type 0} → (A → Cell) → A → List ℕ
next_field as_cell value = 44 ∷ field_text default_writer (cell_text (as_cell value))

pub behind-comma : (page mid after field : List ℕ) → mid ≡ page ++ 44 ∷ [] → after ≡ mid ++ field → after ≡ page ++ 44 ∷ field
behind-comma page mid after field comma grown = rw (grown, comma) (append_assoc page (44 ∷ []) field)

pub fields-as-texts : {A : Type 0} (as_cell : A → Cell) (values : List A) → texts_of (next_field as_cell) values ≡ fields_text default_writer (map cell_text (map as_cell values))
unfolding fields_text
fields-as-texts as_cell [] = refl
fields-as-texts as_cell (value ∷ values) = ap (λ (rest : List ℕ). next_field as_cell value ++ rest) (fields-as-texts as_cell values)

pub texts-mapped : {A B : Type 0} (text : B → List ℕ) (f : A → B) (items : List A) → texts_of (λ item. text (f item)) items ≡ texts_of text (map f items)
texts-mapped text f [] = refl
texts-mapped text f (item ∷ items) = ap (λ (rest : List ℕ). text (f item) ++ rest) (texts-mapped text f items)

-- the row of an empty list of values
pub row-empty : {A : Type 0} (as_cell : A → Cell) (values : List A) → length values < 1 → row_line (map as_cell values) ≡ 34 ∷ 34 ∷ 10 ∷ []
unfolding is_blank
row-empty as_cell [] none = refl
row-empty as_cell (value ∷ values) none = absurd (omega (arith, none))

is-lone : {A : Type 0} (as_cell : A → Cell) (first : A) (rest : List A) → (length rest == 0) ≡ is_none (slice_get (map as_cell (first ∷ rest)) 1)
is-lone as_cell first [] = refl
is-lone as_cell first (value ∷ rest) = is-some (length (value ∷ rest) == 0) (not-zero (length rest))

-- the row of a first value and the values after it
pub row-whole : {A : Type 0} (as_cell : A → Cell) (values rest : List A) (first : A) (lone : Bool) (page before : List ℕ) → 1 ≤ length values
    → first ≡ get_or values 0 first → rest ≡ drop 1 values → lone ≡ (length rest == 0)
    → before ≡ (page ++ field_in_record lone (cell_text (as_cell first))) ++ fields_text default_writer (map cell_text (map as_cell rest))
    → before ++ 10 ∷ [] ≡ page ++ row_line (map as_cell values)
row-whole as_cell [] rest first lone page before some is split is_lone grown = absurd (omega (arith, some))
row-whole as_cell (value ∷ values) rest first lone page before some is split is_lone grown =
    rw (grown, split) (row-some page (map as_cell (value ∷ values)) (as_cell first) lone (sym (ap (λ x. Some (as_cell x)) is)) ((rw split at is_lone) ∙ is-lone as_cell value values))

-- the text of no pieces, and of some
pub pieces-none : {A : Type 0} (as_piece : A → Piece) (copies : List A) → (length copies == 0) ≡ true → codes "empty\n" ≡ pieces_text (map as_piece copies)
pieces-none as_piece [] none = refl
pieces-none as_piece (copy ∷ copies) none = absurd (not-zero (length copies) none)

pub pieces-some : {A : Type 0} (as_piece : A → Piece) (copies : List A) → (length copies == 0) ≡ false → texts_of (λ copy. piece_text (as_piece copy)) copies ≡ pieces_text (map as_piece copies)
pieces-some as_piece [] some = cc some
pieces-some as_piece (copy ∷ copies) some = texts-mapped piece_text as_piece (copy ∷ copies)

-- the text of no row groups, and of some
pub next-none : (groups : List ℕ) → (length groups == 0) ≡ true → codes "next none\n" ≡ next_text groups
next-none [] none = refl
next-none (group ∷ groups) none = absurd (not-zero (length groups) none)

pub next-some : (groups page now : List ℕ) → (length groups == 0) ≡ false → now ≡ (page ++ codes "next") ++ texts_of group_text groups → now ++ 10 ∷ [] ≡ page ++ next_text groups
next-some [] page now some e = cc some
next-some (group ∷ groups) page now some e =
    rw e (append_assoc (page ++ codes "next") (texts_of group_text (group ∷ groups)) line_end ∙ append_assoc page (codes "next") (texts_of group_text (group ∷ groups) ++ line_end))

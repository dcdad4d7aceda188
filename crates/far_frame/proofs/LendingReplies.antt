-- A reply with the pieces of a part exists: its cells and flags as vectors.
use Rattle.std.proofs.Common.{◌≡◌, ℕ, suc, ◌+◌, ◌-◌, ◌/◌, ◌<◌, ◌≤◌, ◌^◌, Bool, List, [], ◌∷◌, ◌++◌, length, map, drop, Option, None, Some, inl, inr, refl, sym, ap, subst, ◌∙◌, arith}
use Rattle.std.specs.Prelude.{⊤, ℤ, slice_range, slice_get}
use Rattle.std.specs.List.{flat_map}
use Rattle.std.specs.declared.vec.Vec.{Vec}
use Rattle.std.specs.declared.alloc.Global.{Global}
use Rattle.std.proofs.lemmas.Bool.{cases_lt, le-ltb, lt-ltb}
use Rattle.std.proofs.lemmas.List.{length-append, length-map, length-take, map-append}
use Rattle.std.proofs.Math.Nat.{div-le_self}
use denote.RawPtr.{null_ptr}
use Rattle.far_types.specs.declared.cell.Cell.{Cell}
use Rattle.far_types.specs.declared.cell.Cell.TheVariants as cell
use Rattle.far_types.specs.declared.cell.Kind.TheVariants as kind
use Rattle.far_types.specs.Cells.{cell_at}
use Rattle.far_types.specs.Lent.{int_cell, text_cell}
use Rattle.far_types.specs.Table.{Table, Place, column as column_of, part}
use Rattle.far_columns.specs.Pieces.{pieces_of, overlapped_count}
use Rattle.far_columns.proofs.PiecesLaws.{joined-pieces, length-pieces}
use Rattle.far_columns.specs.Numbers.{Numbers}
use Rattle.far_frame.specs.declared.piece.IntPiece.{IntPiece}
use Rattle.far_frame.specs.declared.piece.TextPiece.{TextPiece}
use Rattle.far_frame.specs.declared.step.Reply.{Reply}
use Rattle.far_frame.specs.declared.step.Reply.TheVariants as reply
use Rattle.far_frame.specs.Lending.{Piece, IsReplyOf, flags_of, int_piece, ints_lent, lent_part, piece_of, text_piece}
use Rattle.far_frame.proofs.LendingLaws.{cells-range, joined}

abbrev heap : Global
heap = record { memory = record { seal = tt } }

-- a vector with the elements of a list
abbrev vec_of : {X : Type 0} (xs : List X) → length xs < 2 ^ 63 → Vec X Global
vec_of xs few = record { ptr = null_ptr; len = length xs; cap = length xs; alloc = heap; items = xs; ok = (refl, omega arith); small = few }

-- each element of a list has the property P
abbrev Each : {X : Type 0} → (X → Type 0) → List X → Type 0
Each P [] = ⊤
Each P (x ∷ xs) = P x × Each P xs

module _ {X : Type 0} (P : X → Type 0) where
  each-first : (xs ys : List X) → Each P (xs ++ ys) → Each P xs
  each-first [] ys each = tt
  each-first (x ∷ xs) ys each = (each.0, each-first xs ys each.1)

  each-rest : (xs ys : List X) → Each P (xs ++ ys) → Each P ys
  each-rest [] ys each = each
  each-rest (x ∷ xs) ys each = each-rest xs ys each.1

  each-both : (xs ys : List X) → Each P xs → Each P ys → Each P (xs ++ ys)
  each-both [] ys first rest = rest
  each-both (x ∷ xs) ys first rest = (first.0, each-both xs ys first.1 rest)

-- values of one kind, and the cells that are made of them
module _ {V : Type 0} (as_cell : V → Cell) (value_of : Cell → V) (again : (v : V) → as_cell (value_of (as_cell v)) ≡ as_cell v) where
  -- the cell is of this kind
  abbrev IsOf : Cell → Type 0
  IsOf it = as_cell (value_of it) ≡ it

  each-of : {L : Type 0} (value : L → V) (ls : List L) → Each IsOf (map (λ l. as_cell (value l)) ls)
  each-of value [] = tt
  each-of value (l ∷ ls) = (again (value l), each-of value ls)

  read-again : (cells : List Cell) → Each IsOf cells → map as_cell (map value_of cells) ≡ cells
  read-again [] each = refl
  read-again (it ∷ cells) each = λ i. each.0 i ∷ read-again cells each.1 i

  -- pieces of a column of this kind can be copied
  module _ {Copy : Type 0} (shown : Copy → Piece) (copy : (vs : List V) (flags : List Bool) → length vs < 2 ^ 63 → length flags < 2 ^ 63 → (it : Copy) × (shown it ≡ record { cells = map as_cell vs; flags = flags })) (column : ℕ) where
    copied : (pieces : List (List Place)) → length (flat_map (λ p. p) pieces) < 2 ^ 63 → Each IsOf (column_of column (flat_map (λ p. p) pieces))
        → (copies : List Copy) × (map shown copies ≡ map (piece_of column) pieces) × (length copies ≡ length pieces)
    copied [] few each = ([], refl, refl)
    copied (places ∷ pieces) few each =
        let rest = flat_map (λ p. p) pieces in
        let cells = column_of column places in
        let parts : Each IsOf (cells ++ column_of column rest) = subst (Each IsOf) (map-append (λ (place : Place). cell_at column place.cells) places rest) each in
        let long = length-append places rest in
        let more = copied pieces (omega (arith, few, long)) (each-rest IsOf cells (column_of column rest) parts) in
        let wide : length (map value_of cells) ≡ length places = length-map cells value_of ∙ length-map places (λ (place : Place). cell_at column place.cells) in
        let flagged : length (flags_of places) ≡ length places = length-map places (λ (place : Place). place.alive) in
        let one = copy (map value_of cells) (flags_of places) (omega (arith, few, long, wide)) (omega (arith, few, long, flagged)) in
        let same = read-again cells (each-first IsOf cells (column_of column rest) parts) in
        (one.0 ∷ more.0, (λ i. (one.1 ∙ (λ j. record { cells = same j; flags = flags_of places })) i ∷ more.1 i), ap suc more.2)

abbrev number_of : Cell → Option ℤ
number_of (cell.Int number) = Some number
number_of (cell.Text text) = None
number_of cell.Missing = None

abbrev text_of : Cell → Option (List ℕ)
text_of (cell.Int number) = None
text_of (cell.Text text) = Some text
text_of cell.Missing = None

number-again : (v : Option ℤ) → int_cell (number_of (int_cell v)) ≡ int_cell v
number-again None = refl
number-again (Some number) = refl

text-again : (v : Option (List ℕ)) → text_cell (text_of (text_cell v)) ≡ text_cell v
text-again None = refl
text-again (Some text) = refl

overlapped-few : (size from to : ℕ) → overlapped_count size from to ≤ to
overlapped-few size from to = elim (cases_lt from to) [
  | inl more ↦ (let count : overlapped_count size from to ≡ (to - 1) / size + 1 - from / size = rw (lt-ltb from to more) refl in let down = div-le_self (to - 1) size in omega (arith, count, down, more))
  | inr past ↦ (let count : overlapped_count size from to ≡ 0 = rw (le-ltb from to past) refl in omega (arith, count))
]

copy-ints : (vs : List (Option ℤ)) (flags : List Bool) → length vs < 2 ^ 63 → length flags < 2 ^ 63 → (it : IntPiece) × (int_piece it ≡ record { cells = map int_cell vs; flags = flags })
copy-ints vs flags few short = (record { values = vec_of vs few; flags = vec_of flags short }, refl)

copy-texts : (vs : List (Option (List ℕ))) (flags : List Bool) → length vs < 2 ^ 63 → length flags < 2 ^ 63 → (it : TextPiece) × (text_piece it ≡ record { cells = map text_cell vs; flags = flags })
copy-texts vs flags few short = (record { values = vec_of vs few; flags = vec_of flags short }, refl)

module _ (table : Table) (some : 0 < table.limits.group) (column from to : ℕ) (low : from ≤ to) (near : to < 2 ^ 32) where
  abbrev pieces : List (List Place)
  pieces = pieces_of table.places table.limits.group from to

  all : flat_map (λ p. p) pieces ≡ slice_range table.places from to
  all = joined-pieces table.places table.limits.group some from to low

  few : length (flat_map (λ p. p) pieces) < 2 ^ 63
  few = (let long = ap length all in let short = length-take (to - from) (drop from table.places) in omega (arith, long, short, near))

  count : length pieces < 2 ^ 63
  count = (let long = length-pieces table.places table.limits.group from to in let most = overlapped-few table.limits.group from to in omega (arith, long, most, near))

  each-lent : (lents : List (Numbers × List Bool)) → Each (IsOf int_cell number_of number-again) (flat_map (λ (piece : Piece). piece.cells) (map ints_lent lents))
  each-lent [] = tt
  each-lent (lent ∷ lents) = each-both (IsOf int_cell number_of number-again) (map int_cell lent.0) (flat_map (λ (piece : Piece). piece.cells) (map ints_lent lents)) (each-of int_cell number_of number-again (λ v. v) lent.0) (each-lent lents)

  pub ints-given : (lents : List (Numbers × List Bool)) → map ints_lent lents ≡ lent_part table column from to → slice_get table.schema column ≡ Some kind.Int
      → (given : Reply) × IsReplyOf (slice_get table.schema column) (lent_part table column from to) given
  ints-given lents same of =
      let cells = ap (flat_map (λ (piece : Piece). piece.cells)) same ∙ joined (λ piece. piece.cells) (λ place. cell_at column place.cells) column (λ places. refl) pieces in
      let made = copied int_cell number_of number-again int_piece copy-ints column pieces few (subst (Each (IsOf int_cell number_of number-again)) cells (each-lent lents)) in
      (reply.Ints (vec_of made.0 (omega (arith, made.2, count))), (of, made.1))

  pub texts-given : (lent : List (Option (List ℕ) × Bool)) → map (λ (it : Option (List ℕ) × Bool). text_cell it.0) lent ≡ part column from to table.places → slice_get table.schema column ≡ Some kind.Text
      → (given : Reply) × IsReplyOf (slice_get table.schema column) (lent_part table column from to) given
  texts-given lent same of =
      let cells = same ∙ cells-range column table.places from to ∙ ap (column_of column) (sym all) in
      let made = copied text_cell text_of text-again text_piece copy-texts column pieces few (subst (Each (IsOf text_cell text_of text-again)) cells (each-of text_cell text_of text-again (λ (it : Option (List ℕ) × Bool). it.0) lent)) in
      (reply.Texts (vec_of made.0 (omega (arith, made.2, count))), (of, made.1))

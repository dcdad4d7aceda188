-- Lent parts of columns, in terms of the plain table, and the access history.
use Rattle.std.specs.Prelude.{◌≡◌, ℕ, Bool, ℤ, nat_lt, not, List, [], ◌∷◌, map, length, slice_get, slice_set, Option, Some, None}
use Rattle.std.specs.List.{fold}
use Rattle.std.specs.Option.{option_map_or}
use Rattle.far_types.specs.declared.cell.Cell.{Cell}
use Rattle.far_types.specs.declared.cell.Kind.{Kind}
use Rattle.far_types.specs.declared.cell.Kind.TheVariants as kind
use Rattle.far_types.specs.declared.refusal.Refusal.{Refusal}
use Rattle.far_types.specs.declared.refusal.Refusal.TheVariants as refusal
use Rattle.far_types.specs.FirstOf.{first_of}
use Rattle.far_types.specs.Lent.{int_cell, text_cell}
use Rattle.far_types.specs.Table.{Table, Place, column as column_of, groups}
use Rattle.far_columns.specs.Pieces.{pieces_of, overlapped_groups}
use Rattle.far_prefetcher.specs.Strides.{history_of, with_access, proposed}
use Rattle.far_rows.specs.Rows.{Rows}
use Rattle.far_rows.specs.Moving.{object_at, after_touch}
use Rattle.far_rows.specs.Refusing.{no_column, no_range, absent_in}
use Rattle.far_frame.specs.declared.piece.IntPiece.{IntPiece}
use Rattle.far_frame.specs.declared.piece.TextPiece.{TextPiece}
use Rattle.far_frame.specs.declared.step.Reply.{Reply}
use Rattle.far_frame.specs.declared.step.Reply.TheVariants as reply
use Rattle.far_frame.specs.State.{State}

-- adjacent places of one row group: the cells of a column at these places, and whether each place is alive
pub record Piece : Type 0 where
  pub cells : List Cell
  pub flags : List Bool

-- the flags of all places
abbrev pub flags_of : List Place → List Bool
flags_of places = map (λ place. place.alive) places

-- the piece of a column at some places
abbrev pub piece_of : ℕ → List Place → Piece
piece_of column places = record { cells = column_of column places; flags = flags_of places }

-- a lent part of a column: a piece for each row group that has some of its places
abbrev pub lent_part : Table → ℕ → ℕ → ℕ → List Piece
lent_part table column from to = map (piece_of column)
    (pieces_of table.places table.limits.group from to)

-- a lent piece of numbers
abbrev pub ints_lent : List (Option ℤ) × List Bool → Piece
ints_lent lent = record { cells = map int_cell lent.0; flags = lent.1 }

-- a lent piece of texts
abbrev pub texts_lent : List (Option (List ℕ) × Bool) → Piece
texts_lent lent = record
    { cells = map (λ cell. text_cell cell.0) lent; flags = map (λ cell. cell.1) lent }

-- a copied piece of numbers
abbrev pub int_piece : IntPiece → Piece
int_piece copy = record { cells = map int_cell copy.values.items; flags = copy.flags.items }

-- a copied piece of texts
abbrev pub text_piece : TextPiece → Piece
text_piece copy = record { cells = map text_cell copy.values.items; flags = copy.flags.items }

-- the pieces in a reply, none if it has no part of a column
abbrev pub pieces_in : Reply → List Piece
pieces_in (reply.Ints copies) = map int_piece copies.items
pieces_in (reply.Texts copies) = map text_piece copies.items
pieces_in _ = []

-- the reply has these pieces, of a column of this kind
abbrev pub IsReplyOf : Option Kind → List Piece → Reply → Type 0
IsReplyOf of pieces (reply.Ints copies) = (of ≡ Some kind.Int)
    × (map int_piece copies.items ≡ pieces)
IsReplyOf of pieces (reply.Texts copies) = (of ≡ Some kind.Text)
    × (map text_piece copies.items ≡ pieces)
IsReplyOf of pieces _ = ⊥

-- the access histories after some row groups of a column were accessed, in order
abbrev pub after_access_all : List (List ℕ) → ℕ → List ℕ → List (List ℕ)
after_access_all accesses column lent = fold
    (λ histories g. slice_set histories column (with_access (history_of histories column) g))
    accesses lent

-- why a prefetch is refused: there is no such column
abbrev pub prefetch_refusal : Table → ℕ → Option Refusal
prefetch_refusal table column = first_of
    ((not (nat_lt column (length table.schema)), refusal.NoColumn) ∷ [])

-- the row groups of a column to fetch next
abbrev pub next_groups : Table → List (List ℕ) → ℕ → List ℕ
next_groups table accesses column = proposed (groups table.limits.group (length table.places))
    (history_of accesses column)

module _ {K : Type 0} where
  -- the objects after those of some row groups of a column were marked as recently used, in order
  abbrev pub after_touch_all : Rows K → ℕ → List ℕ → Rows K
  after_touch_all r column lent = fold
      (λ rows g. option_map_or (after_touch rows) (object_at rows column g) rows) r lent

  -- why lending a part of a column is refused: there is no such column, the places do not all exist, or the object of a row group with
  -- some of them is away. The refusal names the first such object
  abbrev pub lend_refusal : Rows K → ℕ → ℕ → ℕ → Option Refusal
  lend_refusal r column from to = first_of
      (no_column r column ∷ no_range r from to
      ∷ map (absent_in r column) (overlapped_groups r.size from to))

  -- row groups of a column were accessed, in order: their objects are marked as recently used, and the history has them
  pub record AreObserved (column : ℕ) (lent : List ℕ) (old new : State K) : Type 0 where
    pub table : new.table ≡ old.table
    pub rows : new.rows ≡ after_touch_all old.rows column lent
    pub accesses : new.accesses ≡ after_access_all old.accesses column lent

  -- a part of a column is lent
  pub record IsLent (column from to : ℕ) (old : State K) (given : Reply)
      (new : State K) : Type 0 where
    pub due : lend_refusal old.rows column from to ≡ None
    pub says : IsReplyOf (slice_get old.table.schema column) (lent_part old.table column from to)
        given
    pub used : AreObserved column (overlapped_groups old.rows.size from to) old new

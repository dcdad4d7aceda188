-- How lent parts of columns and the row groups to fetch next are printed.
use Rattle.std.specs.Prelude.{ℕ, Bool, List, [], ◌∷◌, ◌++◌, codes, decimal, if◌then◌else◌}
use Rattle.far_frame.specs.Lending.{Piece}
use Rattle.far_commands.specs.Listings.{row_line}
use Rattle.far_script.specs.Printing.{space, line_end, texts_of}

-- the mark that says whether a place is alive
abbrev pub flag_text : Bool → List ℕ
flag_text alive = if alive then codes "+" else codes "-"

-- a piece: the marks of its places, and its cells as a row
abbrev pub piece_text : Piece → List ℕ
piece_text piece = codes "piece " ++ texts_of flag_text piece.flags ++ space ++ row_line piece.cells

-- the pieces of a part, or `empty` if it has none
abbrev pub pieces_text : List Piece → List ℕ
pieces_text [] = codes "empty\n"
pieces_text (piece ∷ pieces) = texts_of piece_text (piece ∷ pieces)

-- a row group, after a space
abbrev pub group_text : ℕ → List ℕ
group_text group = space ++ decimal group

-- the row groups to fetch next, or `none`
abbrev pub next_text : List ℕ → List ℕ
next_text [] = codes "next none\n"
next_text (group ∷ groups) = codes "next" ++ texts_of group_text (group ∷ groups) ++ line_end

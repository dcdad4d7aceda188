use Rattle.std.proofs.Common.{◌≡◌, ◌++◌, ◌+◌, ◌*◌, ◌/◌, ℕ, min, map, ap, subst, sym, ◌∙◌}
use Rattle.std.specs.Prelude.{slice_range}
use Rattle.far_types.specs.Table.{part}
use Rattle.far_columns.specs.Pieces.{pieces_of}
use Rattle.far_frame.specs.Lending.{Piece, flags_of, lent_part, piece_of}
use Rattle.far_frame.proofs.LendingLaws.{lent-step}
use Rattle.far_commands.specs.Pieces.{piece_text}
use Rattle.far_script.specs.Printing.{texts_of}
use Rattle.far_commands.proofs.PiecesLending.{text-next}
use Rattle.far_commands.proofs.lending.lent_texts.Goals as goal

pub loop-start-preserved : goal.loop-start-preserved
loop-start-preserved g c =
    let places = c.args.view.now.table.places in
    let column = c.args.column in
    let to = c.args.to in
    let size = c.size-size.result in
    let start = c.loop-start.start in
    let page = c.loop-start.page in
    let end = min to ((start / size + 1) * size) in
    let is : c.min-end.result ≡ end = c.min-end.ensures in
    let whole = c.args.page.now ++ texts_of piece_text (lent_part c.args.view.now.table column c.args.from to) in
    let one : Piece = record { cells = part column start end places; flags = slice_range (flags_of places) start end } in
    let rest = map (piece_of column) (pieces_of places size end to) in
    let grown = c.in_ok-text_piece.ensures.ok c.if-not-branch.false ∙ (λ i. page ++ piece_text record { cells = part column start (is i) places; flags = slice_range (flags_of places) start (is i) }) in
    let before = sym (ap (λ pieces. page ++ texts_of piece_text pieces) (lent-step size c.size-size.ensures.some column places start to c.loop-start-test.true)) ∙ c.loop-start.invariant in
    subst (λ (mid : ℕ). c.text_piece.new.page ++ texts_of piece_text (map (piece_of column) (pieces_of places size mid to)) ≡ whole) (sym is) (text-next piece_text one rest page c.text_piece.new.page whole grown before)

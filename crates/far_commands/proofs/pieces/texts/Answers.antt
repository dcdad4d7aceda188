use Rattle.std.proofs.Common.{◌++◌, ◌∙◌, ap, sym}
use Rattle.far_frame.specs.Lending.{text_piece}
use Rattle.far_commands.specs.Pieces.{piece_text}
use Rattle.far_commands.proofs.PiecesLaws.{pieces-none, pieces-some, texts-end, texts-more}
use Rattle.far_commands.proofs.pieces.texts.Goals as goal

pub returns-then-is_empty : goal.returns-then-is_empty
returns-then-is_empty c = record { ok = rw (sym (pieces-none text_piece c.args.pieces.now (sym c.if-is_empty.ensures))) c.text.ensures.ok }

pub loop-lent-preserved : goal.loop-lent-preserved
loop-lent-preserved c =
    let page = c.loop-lent.page in
    texts-more (λ copy. piece_text (text_piece copy)) c.args.pieces.now c.loop-lent.lent-index c.lent-item.result page c.piece.new.page _ c.loop-lent-test.true
    ((rw (c.as_slice.ensures.value, c.as_slice-in-loop-lent.ensures.value) at c.in_ok-piece.ensures.ok) ∙ ap (λ copy. page ++ piece_text (text_piece copy)) c.lent-item.is) c.loop-lent.invariant

pub returns : goal.returns
returns c = record {
  ok =
      texts-end (λ copy. piece_text (text_piece copy)) c.args.pieces.now c.loop-lent.lent-index c.loop-lent.page _ c.loop-lent-test.false c.loop-lent.invariant
      ∙ ap (λ text. c.args.page.now ++ text) (pieces-some text_piece c.args.pieces.now (sym c.if-is_empty.ensures));
}

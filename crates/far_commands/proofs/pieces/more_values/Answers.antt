use Rattle.std.proofs.Common.{◌++◌, ◌∙◌, ap}
use Rattle.csv.specs.Writing.{default_writer, field_text}
use Rattle.far_commands.specs.Listings.{cell_text}
use Rattle.far_commands.proofs.PiecesLaws.{behind-comma, fields-as-texts, next_field, texts-end, texts-more}
use Rattle.far_commands.proofs.pieces.more_values.Goals as goal

pub loop-value-preserved : goal.loop-value-preserved
loop-value-preserved g c =
    let text = next_field g.V.Value.cell in
    let page = c.loop-value.page in
    let field = field_text default_writer (cell_text (g.V.Value.cell c.value-item.result)) in
    texts-more text c.args.values.now c.loop-value.value-index c.value-item.result page c.cell.new.page _ c.loop-value-test.true
    (behind-comma page c.byte.new.self c.cell.new.page field c.in_ok-byte.ensures.ok (rw c.lend.ensures at c.in_ok-cell.ensures.ok)
    ∙ ap (λ value. page ++ text value) c.value-item.is) c.loop-value.invariant

pub returns : goal.returns
returns g c = record {
  ok =
      texts-end (next_field g.V.Value.cell) c.args.values.now c.loop-value.value-index c.loop-value.page _ c.loop-value-test.false c.loop-value.invariant
      ∙ ap (λ text. c.args.page.now ++ text) (fields-as-texts g.V.Value.cell c.args.values.now);
}

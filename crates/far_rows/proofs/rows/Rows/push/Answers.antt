use Rattle.std.proofs.Common.{true, ◌∙◌}
use Rattle.far_rows.specs.ColumnIndexes.{row_of}
use Rattle.far_rows.specs.Rows.{all_cells}
use Rattle.far_rows.specs.Places.{places_of}
use Rattle.far_rows.proofs.RowsSameLength.{cells-long, row-wide}
use Rattle.far_rows.proofs.ByKindLaws.{push-kinds}
use Rattle.far_rows.proofs.PlacesChanged.{places-push}
use Rattle.far_rows.proofs.rows.Rows.push.Goals as goal

pub push_row-requires-clause-free : goal.push_row-requires-clause-free
push_row-requires-clause-free g c κs within = push-kinds g.S.FarTickets.content c.args.self.now c.len-len.ensures.rows c.args.row.now c.requires.row.texts c.texts-texts.ensures.short ∙ c.requires.free

pub returns-clause-places : goal.returns-clause-places
returns-clause-places g c =
    let content = g.S.FarTickets.content in
    let r = c.args.self.now in
    let rows = c.len-len.ensures.rows in
    let done = c.in_ok-push_row.ensures.pushed in
    (λ k. places_of (done.cells k) (done.alive k))
    ∙ places-push (all_cells content r) (row_of r.column_indexes c.args.row.now) r.alive true (cells-long content r rows) (row-wide content r rows c.args.row.now)

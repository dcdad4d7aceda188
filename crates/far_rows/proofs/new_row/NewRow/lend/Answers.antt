use Rattle.std.proofs.Common.{take, length, ap, arith, length-take}
use Rattle.std.proofs.lemmas.List.{length-map}
use Rattle.far_rows.specs.ColumnIndexes.{cell_in}
use Rattle.far_rows.proofs.new_row.NewRow.lend.Goals as goal

pub push-requires : goal.push-requires
push-requires c =
    let some = take c.loop-column_index.column_index-index c.args.column_indexes.now in
    omega (arith, c.requires.few, ap length c.loop-column_index.invariant, length-map some (cell_in c.args.self.now), length-take c.loop-column_index.column_index-index c.args.column_indexes.now)

use Rattle.std.proofs.Common.{◌<◌, length, arith}
use Rattle.std.proofs.lemmas.Grind.{common_steps}
use Rattle.far_c.specs.ColumnFaults.{IsReadIn}
use Rattle.far_c.proofs.FirstFaults.{more-read-at}
use Rattle.far_c.proofs.columns.read_column_row.Goals as goal

pub loop-column-preserved : goal.loop-column-preserved
loop-column-preserved c =
    let test = c.loop-column-test.true in
    let below : c.loop-column.column < length c.args.columns.now = omega (arith, test) in
    record {
      there = grind (arith, common_steps);
      cells = grind (arith, common_steps);
      read = more-read-at (IsReadIn c.args.row) c.args.columns.now c.loop-column.column _ below c.in_ok-cell.ensures.read c.loop-column.invariant.read;
    }

use Rattle.std.proofs.Common.{◌<◌, length, arith}
use Rattle.std.proofs.lemmas.Grind.{common_steps}
use Rattle.far_c.specs.Unreadable.{IsReadable}
use Rattle.far_c.proofs.FirstFaults.{more-read-at}
use Rattle.far_c.proofs.cell.read_row.Goals as goal

pub loop-column-preserved : goal.loop-column-preserved
loop-column-preserved c =
    let test = c.loop-column-test.true in
    let below : c.loop-column.column < length c.args.cells.now = omega (arith, test) in
    record {
      there = grind (arith, common_steps);
      cells = grind (arith, common_steps);
      readable = more-read-at IsReadable c.args.cells.now c.loop-column.column _ below c.in_ok-lend.ensures.readable c.loop-column.invariant.readable;
    }

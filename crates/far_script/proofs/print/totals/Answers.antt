use Rattle.far_script.specs.Printing.{total_text}
use Rattle.far_script.proofs.PrintingLaws.{texts-go-on}
use Rattle.far_script.proofs.print.totals.Goals as goal

pub loop-line-preserved : goal.loop-line-preserved
loop-line-preserved c = texts-go-on total_text c.args.lines.now c.loop-line.line-index c.line-item.result _ _ _
    (rw c.as_slice-line-items.ensures at c.loop-line-test.true) (rw c.as_slice-line-items.ensures at c.line-item.is) c.in_ok-total.ensures.ok c.loop-line.invariant

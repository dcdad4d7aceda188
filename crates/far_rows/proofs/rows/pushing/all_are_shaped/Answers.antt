use Rattle.std.proofs.Common.{subst}
use Rattle.std.specs.Prelude.{All}
use Rattle.std.proofs.lemmas.List.{take_all}
use Rattle.std.proofs.lemmas.List.Elements.{All-more}
use Rattle.far_columns.specs.Vector.{IsShaped}
use Rattle.far_rows.proofs.rows.pushing.all_are_shaped.Goals as goal

pub loop-column-preserved : goal.loop-column-preserved
loop-column-preserved c =
    All-more IsShaped c.args.columns.now c.loop-column.column-index c.column-item.result c.loop-column-test.true c.loop-column.invariant (subst IsShaped c.column-item.is c.len-len.ensures.shaped)

pub returns : goal.returns
returns c = subst (All IsShaped) (take_all c.loop-column.column-index c.args.columns.now c.loop-column-test.false) c.loop-column.invariant

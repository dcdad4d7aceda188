use Rattle.std.proofs.Common.{◌<◌, length, sym, ap, ◌∙◌, arith}
use Rattle.far_table.proofs.OffloadingTickets.{step-copied, step-dirty}
use Rattle.far_table.proofs.copies.are_copied.Goals as goal

pub returns-then-lacks : goal.returns-then-lacks
returns-then-lacks g c =
    let r = c.args.rows.now in
    let k = c.loop-column.column in
    let registry = ap length c.column_indexes-column-end.ensures in
    let below : k < length r.column_indexes = omega (arith, c.loop-column-test.true, registry) in
    sym (c.loop-column.invariant ∙ step-dirty r c.args.spec.now c.args.group k below (sym c.lacks.ensures ∙ c.if-lacks.true))

pub loop-column-preserved : goal.loop-column-preserved
loop-column-preserved g c =
    let r = c.args.rows.now in
    let k = c.loop-column.column in
    let registry = ap length c.column_indexes-column-end.ensures in
    let below : k < length r.column_indexes = omega (arith, c.loop-column-test.true, registry) in
    c.loop-column.invariant ∙ step-copied r c.args.spec.now c.args.group k below (sym c.lacks.ensures ∙ c.if-lacks.false)

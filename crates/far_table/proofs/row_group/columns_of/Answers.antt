use Rattle.std.proofs.Common.{◌≡◌, ◌+◌, ◌<◌, ℕ, length, slice_set, sym, ap, subst, arith}
use Rattle.std.specs.Result.{result_ok}
use Rattle.far_table.specs.Groups.{GroupRows}
use Rattle.far_table.proofs.GroupsColumns.{AreBelow, looked, one-more, all-below}
use Rattle.far_table.proofs.row_group.columns_of.Goals as goal

pub loop-column-preserved : goal.loop-column-preserved
loop-column-preserved g c =
    let content = g.S.FarTickets.content in
    let group : GroupRows g.row.S-Ticket.Denot = record { rows = c.args.rows.now; group = c.args.group } in
    let k = c.loop-column.column in
    let columns = c.loop-column.columns in
    let found = result_ok c.group_column.result in
    let registry = ap length c.column_indexes-column-end.ensures in
    let few : k < 16 = omega (arith, c.loop-column-test.true, registry, c.len-len.ensures.rows.column_indexes.count, c.len-len.ensures.rows.few) in
    let is = looked content group k c.group_column.result c.group_column.ensures.refused c.group_column.ensures.form c.group_column.ensures.cells in
    subst (λ lent. AreBelow content group (k + 1) (slice_set columns k lent)) (sym c.ok.ensures.value) (one-more content group k columns found few c.loop-column.invariant is)

pub returns-clause-lent : goal.returns-clause-lent
returns-clause-lent g c =
    let content = g.S.FarTickets.content in
    let group : GroupRows g.row.S-Ticket.Denot = record { rows = c.args.rows.now; group = c.args.group } in
    let registry = ap length c.column_indexes-column-end.ensures in
    let all : c.loop-column.column ≡ length c.args.rows.now.column_indexes = omega (arith, c.loop-column-test.false, c.loop-column.auto.column-end, registry) in
    all-below content group c.loop-column.columns (subst (λ (k : ℕ). AreBelow content group k c.loop-column.columns) all c.loop-column.invariant)

use Rattle.std.proofs.Common.{◌≡◌, List, Some, refl, rules, subst}
use Rattle.far_types.specs.declared.cell.Kind.{Kind}
use Rattle.far_c.specs.ColumnFaults.{AreColumnsOf, IsNotAppended}
use Rattle.far_c.proofs.ColumnsFit.{row-stopped, stopped}
use Rattle.far_c.proofs.columns.fc_insert_columns.Goals as goal

pub returns-clause-rejected : goal.returns-clause-rejected
returns-clause-rejected c = λ high.
    let unread = c.insert_rows.ensures.unread high in
    let kinds : c.as_slice.result.now ≡ c.in-Some.table.now.world.state.table.schema = search rules in
    let fit = subst (λ (ks : List Kind). AreColumnsOf ks c.args.rows c.args.columns.now) kinds (c.if-not-fit.ensures.0 refl) in
    let why = row-stopped c.args.columns.now c.args.rows c.insert_rows.new.inserted c.insert_rows.result c.in-Some.table.now fit unread.0 unread.1 in
    stopped (IsNotAppended c.args.columns.now c.args.rows c.insert_rows.new.inserted) c.insert_rows.result c.args.handle.now.table (Some c.insert_rows.new.table) c.in-Some.table.now c.insert_rows.new.table c.in-Some.ensures.value refl (c.insert_rows.ensures.kept high) why

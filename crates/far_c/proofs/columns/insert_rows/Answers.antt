use Rattle.std.proofs.Common.{◌≡◌, ◌∙◌, rules, sym, ap, subst}
use Rattle.far_frame.specs.declared.step.Reply.TheVariants as reply
use Rattle.far_c.specs.ColumnFaults.{IsRowRead}
use Rattle.far_c.specs.Columns.{insert_of}
use Rattle.far_c.specs.Outcomes.{IsAccepted, IsServed}
use Rattle.far_c.specs.TableState.{TableState}
use Rattle.far_c.proofs.ColumnsFit.{first-more}
use Rattle.far_c.proofs.InOrder.{next-served}
use Rattle.far_c.proofs.columns.insert_rows.Goals as goal

pub loop-row-preserved : goal.loop-row-preserved
loop-row-preserved c =
    let steps = insert_of c.args.columns.now in
    let served : IsServed (steps c.loop-row.row) c.edit.result c.loop-row.table c.edit.new.self = search rules in
    let is : c.edit.result ≡ reply.Place c.in_default.field-0 = search rules in
    record {
      rows = next-served steps c.loop-row.row c.args.table.now c.loop-row.table c.edit.new.self c.edit.result c.loop-row.invariant.rows served (subst IsAccepted (sym is) tt);
      kept = ap (λ (t : TableState). t.refusal) served.1 ∙ c.loop-row.invariant.kept;
      read = first-more (IsRowRead c.args.columns.now) c.loop-row.row c.loop-row.invariant.read c.in-Ok.ensures.read;
    }

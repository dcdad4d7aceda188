use Rattle.std.proofs.Common.{◌≡◌, ◌∙◌, rules, sym, ap, subst}
use Rattle.far_frame.specs.declared.step.Reply.TheVariants as reply
use Rattle.far_c.specs.ColumnFaults.{IsReadIn}
use Rattle.far_c.specs.Columns.{set_of}
use Rattle.far_c.specs.Outcomes.{IsAccepted, IsServed}
use Rattle.far_c.specs.TableState.{TableState}
use Rattle.far_c.proofs.ColumnsFit.{first-more}
use Rattle.far_c.proofs.InOrder.{next-served}
use Rattle.far_c.proofs.setting.set_cells.Goals as goal

pub loop-index-preserved : goal.loop-index-preserved
loop-index-preserved c =
    let steps = set_of c.args.column c.args.places.now c.args.values.now in
    let served : IsServed (steps c.loop-index.index) c.edit.result c.loop-index.table c.edit.new.self = search rules in
    let is : c.edit.result ≡ reply.Done = search rules in
    record {
      cells = next-served steps c.loop-index.index c.args.table.now c.loop-index.table c.edit.new.self c.edit.result c.loop-index.invariant.cells served (subst IsAccepted (sym is) tt);
      kept = ap (λ (t : TableState). t.refusal) served.1 ∙ c.loop-index.invariant.kept;
      read = first-more (λ index. IsReadIn index c.args.values.now) c.loop-index.index c.loop-index.invariant.read c.in-Ok.ensures.read;
    }

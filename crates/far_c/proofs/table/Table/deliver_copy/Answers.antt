use Rattle.std.specs.Prelude.{IfErr}
use Rattle.std.proofs.Common.{subst}
use Rattle.far_rows.specs.Copies.{copy_of}
use Rattle.far_rows.specs.Jobs.{fetch_refusal}
use Rattle.far_c.specs.Delivering.{WhyNoCopy}
use Rattle.far_c.specs.TableState.{TableState}
use Rattle.far_c.proofs.Delivered.{why-no-copy}
use Rattle.far_c.proofs.table.Table.deliver_copy.Goals as goal

pub returns-clause-refused : goal.returns-clause-refused
returns-clause-refused c =
    let done = c.deliver_copy.ensures in
    let rows = c.self.inside.world.state.rows in
    subst (λ (t : TableState). IfErr c.deliver_copy.result (WhyNoCopy t.world.state.rows c.args.column c.args.group c.args.bytes.now)) c.self.view_is
    (why-no-copy (copy_of rows c.args.column c.args.group) c.args.bytes.now (fetch_refusal rows c.args.column c.args.group) c.deliver_copy.result done.other done.refused)

use Rattle.std.specs.Prelude.{IfErr}
use Rattle.std.proofs.Common.{subst}
use Rattle.far_frame.specs.Delivering.{wanted_by}
use Rattle.far_c.specs.Contents.{number_of}
use Rattle.far_c.specs.Delivering.{WhyNotTaken}
use Rattle.far_c.specs.TableState.{TableState}
use Rattle.far_c.proofs.Delivered.{why-not-taken}
use Rattle.far_c.proofs.table.Table.deliver.Goals as goal

pub returns-clause-refused : goal.returns-clause-refused
returns-clause-refused c =
    let done = c.deliver.ensures in
    subst (λ (t : TableState). IfErr c.deliver.result (WhyNotTaken (wanted_by number_of t.world c.args.job c.args.number) c.args.bytes.now)) c.self.view_is
    (why-not-taken (wanted_by number_of c.self.inside.world c.args.job c.args.number) c.args.bytes.now c.deliver.result done.stale done.other done.refused)

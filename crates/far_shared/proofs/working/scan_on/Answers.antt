use Rattle.far_table.specs.Watching.{aggregate_at}
use Rattle.far_frame.specs.State.{live}
use Rattle.far_shared.proofs.JobsRefusals.{if-err}
use Rattle.far_shared.proofs.WorksLaws.{either-keeps, scan-keeps, scan-numbers}
use Rattle.far_shared.proofs.working.scan_on.Goals as goal

pub returns-clause-numbers : goal.returns-clause-numbers
returns-clause-numbers g c =
    if-err c.scan_group.result _ _ (λ e h. scan-numbers (live c.args.frame.now) (aggregate_at c.args.frame.now.table c.args.aggregate) c.args.group e h.1) c.scan_group.ensures.err

pub returns-clause-keeps : goal.returns-clause-keeps
returns-clause-keeps g c =
    either-keeps c.scan_group.result c.args.frame.now c.scan_group.new.self _ _ (λ x h. scan-keeps (live c.args.frame.now) (live c.scan_group.new.self) c.args.aggregate c.args.group h.1.changed) (λ e h. h.0) c.scan_group.ensures.ok c.scan_group.ensures.err

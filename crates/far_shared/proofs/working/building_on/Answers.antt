use Rattle.std.proofs.Common.{◌≡◌, true, rules}
use Rattle.far_aggregates.specs.Aggregates.{is_pending_in}
use Rattle.far_table.specs.Watching.{aggregate_at}
use Rattle.far_frame.specs.State.{live}
use Rattle.far_shared.proofs.WorksLaws.{offload-numbers}
use Rattle.far_shared.proofs.working.building_on.Goals as goal

pub returns-in_err-begin_offload-clause-numbers : goal.returns-in_err-begin_offload-clause-numbers
returns-in_err-begin_offload-clause-numbers g c =
    let now = c.args.frame.now in
    let left : is_pending_in (aggregate_at now.table c.in-Some.aggregate) c.in-Some.group ≡ true = search rules in
    let one = offload-numbers (live now) (aggregate_at now.table c.in-Some.aggregate) c.in-Some.group _ left c.in_err-begin_offload.ensures.refused in
    search rules

use Rattle.std.proofs.Common.{◌+◌, ◌*◌}
use Rattle.far_table.proofs.recounting.+calls.Given as goal

abbrev pub decreases-call_each : goal.decreases-call_each
decreases-call_each g l = 2 * l.count

abbrev pub decreases-back : goal.decreases-back
decreases-back g l = 2 * l.last + 1

use Rattle.std.proofs.Common.{slice_index}
use Rattle.far_host.proofs.LaneLaws.{maj_outvoted}
use Rattle.far_host.proofs.lanes.maj.Goals as goal

pub returns : goal.returns
returns c j below =
    rw (c.xor-3.ensures j below, c.and.ensures j below, c.xor-2.ensures j below, c.xor.ensures j below)
    (maj_outvoted (slice_index c.args.x j) (slice_index c.args.y j) (slice_index c.args.z j))

use Rattle.std.proofs.Common.{ap, arith}
use Rattle.std.specs.Prelude.{sum_by}
use Rattle.far_log.specs.RegionState.{fill_of, IsRegion}
use Rattle.far_log.proofs.StorageSegments.{space-rest}
use Rattle.far_log.proofs.region.Region.space.Goals as goal

pub overflow_sub-result : goal.overflow_sub-result
overflow_sub-result g c =
    let region : IsRegion c.args.self.now = rw (← c.self.view_is) c.self.invariant.region in
    omega (arith, space-rest c.args.self.now region.layout, c.capacity.ensures, c.filled.ensures, ap (sum_by fill_of) c.self.view_is)

pub returns : goal.returns
returns g c =
    let region : IsRegion c.args.self.now = rw (← c.self.view_is) c.self.invariant.region in
    omega (arith, space-rest c.args.self.now region.layout, c.capacity.ensures, c.filled.ensures, ap (sum_by fill_of) c.self.view_is)

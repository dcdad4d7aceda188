use Rattle.std.proofs.Common.{◌≡◌, ◌≤◌, ◌-◌, length, map, drop}
use Rattle.far_log.specs.RegionState.{space_in}
use Rattle.far_log.specs.Fitting.{waiting_fit}
use Rattle.far_log.proofs.SkippingLaws.{AreLong}
use Rattle.far_log.proofs.region.Region.fits_in_order.Given as goal

abbrev pub invariant-loop-number : goal.invariant-loop-number
invariant-loop-number g l = record {
  first : l.skip.first ≤ l.number;
  long : AreLong l.skip.len l.waiting;
  fits : waiting_fit (map space_in l.self) l.lens ≡ waiting_fit (map space_in (drop l.number l.self)) l.waiting;
}

abbrev pub decreases-loop-number : goal.decreases-loop-number
decreases-loop-number g l = length l.self - l.number

use Rattle.far_log.proofs.RegionStateLaws.{region-new}
use Rattle.far_log.proofs.SkippingLaws.{skip-nothing}
use Rattle.far_log.proofs.region.Region.new.Goals as goal

pub invariant_of-result : goal.invariant_of-result
invariant_of-result g c = record {
  region = rw c.in_ok-new.ensures.empty (region-new c.args.segments c.args.size c.requires);
  skipped = rw c.none.ensures (skip-nothing _);
}

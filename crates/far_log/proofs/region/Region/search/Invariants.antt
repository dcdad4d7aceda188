use Rattle.std.proofs.Common.{◌≤◌, ◌-◌, length}
use Rattle.far_log.proofs.SkippingLaws.{HasNoSpace}
use Rattle.far_log.proofs.region.Region.search.Given as goal

abbrev pub invariant-loop-number : goal.invariant-loop-number
invariant-loop-number g l = record {
  first : l.known.first ≤ l.number;
  least : l.known.len ≤ l.more;
  most : l.more ≤ l.len;
  passed : HasNoSpace l.self l.number l.more;
}

abbrev pub decreases-loop-number : goal.decreases-loop-number
decreases-loop-number g l = length l.self - l.number

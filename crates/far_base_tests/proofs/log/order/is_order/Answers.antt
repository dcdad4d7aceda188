use Rattle.std.proofs.Common.{◌<◌, subst, sym}
use Rattle.far_log.proofs.RegionStateLaws.{below-size}
use Rattle.far_base_tests.proofs.log.order.is_order.Goals as goal

pub returns : goal.returns
returns g c = λ all. record {
  listed = c.are_parts.ensures c.if-not-are_parts.false;
  whole = λ offset some. c.are_all.ensures all offset (subst (λ n. offset < n) (sym c.size.ensures.size) (below-size c.args.region.now c.args.segment offset c.size.ensures.sound some)) some;
  once = c.are_distinct.ensures c.if-not-are_distinct.false;
}

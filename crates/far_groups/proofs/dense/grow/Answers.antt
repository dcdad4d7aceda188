use Rattle.std.proofs.Common.{refl, ap, ◌∙◌, arith}
use Rattle.std.specs.Prelude.{pos}
use Rattle.far_groups.specs.KeyTree.{by_number}
use Rattle.far_groups.specs.Dense.{by_place}
use Rattle.far_groups.proofs.DenseLaws.{push_none}
use Rattle.far_groups.proofs.dense.grow.Goals as goal

pub returns-in_err-push-clause-same : goal.returns-in_err-push-clause-same
returns-in_err-push-clause-same c = ap by_place c.in_err-push.ensures.items ∙ c.loop-place.invariant.same

pub loop-place-preserved : goal.loop-place-preserved
loop-place-preserved c = record {
  same = ap by_place c.in_ok-push.ensures.items ∙ ap by_number (push_none 0 c.loop-place.dense.items (0, pos 0) refl) ∙ c.loop-place.invariant.same;
  len = omega (arith, c.loop-place.invariant.len, c.in_ok-push.ensures.len);
}

use Rattle.std.proofs.Common.{◌≡◌, length, arith}
use Rattle.far_extrema.proofs.RunsLaws.{joined_next_values, joined_all_values}
use Rattle.far_extrema.proofs.run.joined.Goals as goal

pub loop-value-preserved : goal.loop-value-preserved
loop-value-preserved c =
    joined_next_values c.args.values.now c.loop-value.value-index _ c.loop-value.top _ (omega (arith, c.loop-value-test.true)) c.value-item.is c.either-top.ensures c.loop-value.invariant

pub returns : goal.returns
returns c =
    let all : c.loop-value.value-index ≡ length c.args.values.now = omega (arith, c.loop-value-test.false, c.loop-value.auto.value-index-end) in
    joined_all_values c.args.values.now c.loop-value.value-index c.loop-value.top all c.loop-value.invariant

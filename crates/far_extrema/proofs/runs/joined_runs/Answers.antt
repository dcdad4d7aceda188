use Rattle.std.proofs.Common.{◌≡◌, ◌<◌, length, arith, subst, ap, ◌∙◌}
use Rattle.far_types.specs.Effects.{join_min_maxes, merge_two}
use Rattle.far_extrema.specs.Spreads.{IsTopOf}
use Rattle.far_extrema.proofs.PartsLaws.{joins_none, joins_more, joins_all}
use Rattle.far_extrema.proofs.runs.joined_runs.Goals as goal

pub loop-run-init : goal.loop-run-init
loop-run-init c = joins_none c.args.runs.now

pub loop-run-preserved : goal.loop-run-preserved
loop-run-preserved c =
    let within : c.loop-run.run-index < length c.args.runs.now = omega (arith, c.loop-run-test.true) in
    joins_more c.args.firsts.now c.args.runs.now c.loop-run.run-index c.run-item.result c.loop-run.top c.either-top.result c.requires.rise c.requires.parts within c.run-item.is
    (subst (IsTopOf c.run-item.result.min_maxes) c.top.ensures.is c.top.ensures.top)
    (c.either-top.ensures ∙ ap (merge_two join_min_maxes c.loop-run.top) c.top.ensures.is) c.loop-run.invariant

pub returns : goal.returns
returns c =
    let all : c.loop-run.run-index ≡ length c.args.runs.now = omega (arith, c.loop-run-test.false, c.loop-run.auto.run-index-end) in
    joins_all c.args.runs.now c.loop-run.run-index c.loop-run.top all c.loop-run.invariant

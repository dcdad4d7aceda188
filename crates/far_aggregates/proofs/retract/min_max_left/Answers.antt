use Rattle.std.proofs.Common.{ap, ◌∙◌}
use Rattle.std.specs.FinMap as fin
use Rattle.far_types.specs.Answers.{extrema}
use Rattle.far_aggregates.proofs.ScansLaws.{pairs-lent}
use Rattle.far_aggregates.proofs.retract.min_max_left.Goals as goal

pub returns-then-has_no_test : goal.returns-then-has_no_test
returns-then-has_no_test g c =
    let is = pairs-lent c.args.spec.now (g.G.LendGroup.places c.args.group.now) c.untested_columns.result c.alive.result.now c.untested_columns.ensures c.alive.ensures in
    c.min_max_under.ensures.min_max ∙ ap (λ pairs. fin.get (extrema pairs) c.args.key.now) is

pub returns : goal.returns
returns g c =
    let is = pairs-lent c.args.spec.now (g.G.LendGroup.places c.args.group.now) c.needed_columns.result c.alive-2.result.now c.needed_columns.ensures c.alive-2.ensures in
    c.min_max_under-2.ensures.min_max ∙ ap (λ pairs. fin.get (extrema pairs) c.args.key.now) is

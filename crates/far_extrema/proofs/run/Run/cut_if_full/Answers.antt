use Rattle.std.proofs.Common.{◌<◌, ◌-◌, subst, Some, arith, get_or}
use Rattle.std.proofs.lemmas.List.{get_or_default}
use Rattle.far_extrema.specs.Runs.{RunState, IsCut}
use Rattle.far_extrema.proofs.RunsLaws.{cut_at_end}
use Rattle.far_extrema.proofs.run.Run.cut_if_full.Goals as goal

pub returns-then-index-group-clause-cut : goal.returns-then-index-group-clause-cut
returns-then-index-group-clause-cut c =
    let gs = c.self.inside.groups.items in
    let last : get_or gs (c.len-len.result - 1) 0 < c.args.group = (let one = get_or_default gs (c.len-len.result - 1) c.index.result.now 0 (omega (arith, c.if-len-lt64.false, c.len-len.ensures)) in omega (arith, one, c.index.ensures, c.if-index-group.true)) in
    subst (λ (s : RunState). IsCut c.args.group s.min_maxes s.min_maxes (Some (c.args.group, c.new.result))) c.self.view_is
    (cut_at_end gs c.self.inside.values.items (c.len-len.result - 1) c.args.group c.new.result c.self.invariant.0 (omega (arith, c.if-len-lt64.false, c.len-len.ensures)) last c.new.ensures)

pub returns-clause-cut : goal.returns-clause-cut
returns-clause-cut c = c.cut.ensures.cut c.args.group

use Rattle.std.proofs.Common.{ap, ◌∙◌}
use Rattle.std.specs.FinMap as fin
use Rattle.far_groups.specs.Dense.{by_place}
use Rattle.far_groups.proofs.DensePlaces.{get_behind, get_elsewhere}
use Rattle.far_groups.proofs.by_key.place_for.Goals as goal

pub returns-in-None-clause-none : goal.returns-in-None-clause-none
returns-in-None-clause-none c = get_elsewhere c.args.dense.now.items c.args.key.now c.in-None.ensures.none

pub returns-else-may_place-clause-none : goal.returns-else-may_place-clause-none
returns-else-may_place-clause-none c =
    ap (fin.get (by_place c.args.dense.now.items)) c.in-Some.ensures.some ∙ get_behind c.args.dense.now.items c.in-Some.place (c.may_place.ensures.may_not c.if-may_place.false)

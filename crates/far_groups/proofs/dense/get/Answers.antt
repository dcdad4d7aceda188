use Rattle.std.proofs.Common.{sym, ◌∙◌, arith}
use Rattle.far_groups.proofs.CountSumsLaws.{no_count, some_count}
use Rattle.far_groups.proofs.DensePlaces.{get_place, get_behind, stands, gone}
use Rattle.far_groups.proofs.dense.get.Goals as goal

pub returns-then-place-len : goal.returns-then-place-len
returns-then-place-len c = sym (get_behind c.args.dense.now.items c.args.place (omega arith))

pub returns-then-found-eq0 : goal.returns-then-found-eq0
returns-then-found-eq0 c =
    let found = c.index-found.result.now in
    sym (get_place c.args.dense.now.items c.args.place found (omega arith) c.index-found.ensures ∙ gone found (no_count c.found.view_is c.if-found-eq0.true))

pub returns : goal.returns
returns c =
    let found = c.index-found.result.now in
    sym (get_place c.args.dense.now.items c.args.place found (omega arith) c.index-found.ensures ∙ stands found (some_count c.found.view_is c.if-found-eq0.false))

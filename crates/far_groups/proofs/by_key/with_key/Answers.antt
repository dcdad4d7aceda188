use Rattle.std.proofs.Common.{ap, ◌∙◌}
use Rattle.std.specs.FinMap as fin
use Rattle.far_groups.specs.CountSums.{totals_of}
use Rattle.far_groups.proofs.KeyTreeLaws.{get_other}
use Rattle.far_groups.proofs.ByKeyLaws.{new_capacity}
use Rattle.far_groups.proofs.by_key.with_key.Goals as goal

pub add_under-requires-clause-capacity : goal.add_under-requires-clause-capacity
add_under-requires-clause-capacity g c =
    let key = c.args.key.now in
    let new = ap (λ es. fin.get (totals_of es) key) c.in_ok-keys.ensures.ok ∙ get_other g.K.TreeKey.as_key c.args.tree.now.entries key c.requires.other in
    new_capacity (fin.get (totals_of c.in_ok-keys.keys.entries) key) c.args.more new c.requires.more_valid_sums

pub returns-in_err-keys-clause-new : goal.returns-in_err-keys-clause-new
returns-in_err-keys-clause-new g c = get_other g.K.TreeKey.as_key c.args.tree.now.entries c.args.key.now c.requires.other

pub returns-clause-new : goal.returns-clause-new
returns-clause-new g c = get_other g.K.TreeKey.as_key c.args.tree.now.entries c.args.key.now c.requires.other

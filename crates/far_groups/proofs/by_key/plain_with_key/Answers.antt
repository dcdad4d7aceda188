use Rattle.far_groups.proofs.ByKeyLaws.{get_under_key}
use Rattle.far_groups.proofs.by_key.plain_with_key.Goals as goal

pub returns-in_err-keys-clause-new : goal.returns-in_err-keys-clause-new
returns-in_err-keys-clause-new c = get_under_key c.args.count_sum c.args.key.now c.requires.other

pub returns-clause-new : goal.returns-clause-new
returns-clause-new c = get_under_key c.args.count_sum c.args.key.now c.requires.other

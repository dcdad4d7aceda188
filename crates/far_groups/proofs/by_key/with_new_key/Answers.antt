use Rattle.far_groups.proofs.ByKeyLaws.{plain_valid_sums}
use Rattle.far_groups.proofs.by_key.with_new_key.Goals as goal

pub returns-in-None-clause-valid_sums : goal.returns-in-None-clause-valid_sums
returns-in-None-clause-valid_sums c = plain_valid_sums c.args.more c.requires.more_valid_sums

use Rattle.far_groups.proofs.LivePairs.{can_retract, counted, can_join}
use Rattle.far_groups.proofs.laws.pairs_meet_the_conditions.Goals as goal

pub returns : goal.returns
returns c = record { retractable = can_retract; counted = counted; joinable = can_join }

use Rattle.far_types.proofs.EffectsLaws.{totals-cons, totals-among, totals-append, without_pair-totals}
use Rattle.far_types.proofs.laws.totals_follow_the_pairs.Goals as goal

pub returns : goal.returns
returns c = record { more = totals-cons; less = without_pair-totals; anywhere = totals-among; joined = totals-append }

use Rattle.far_types.proofs.EffectsLaws.{extrema-cons, extrema-among, extrema-append}
use Rattle.far_types.proofs.laws.extrema_follow_the_pairs.Goals as goal

pub returns : goal.returns
returns c = record { more = extrema-cons; anywhere = extrema-among; joined = extrema-append }

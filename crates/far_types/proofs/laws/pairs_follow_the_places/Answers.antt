use Rattle.far_types.proofs.TablePairs.{pairs_of-rows}
use Rattle.far_types.proofs.laws.pairs_follow_the_places.Goals as goal

pub returns : goal.returns
returns c = λ spec places. pairs_of-rows spec places

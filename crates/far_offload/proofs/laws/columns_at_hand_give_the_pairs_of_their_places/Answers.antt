use Rattle.far_types.specs.Table.{in_group}
use Rattle.far_offload.proofs.AtHandLaws.{at-hand}
use Rattle.far_offload.proofs.laws.columns_at_hand_give_the_pairs_of_their_places.Goals as goal

pub returns : goal.returns
returns c = λ spec columns size g places are. at-hand spec columns (in_group size g places) are

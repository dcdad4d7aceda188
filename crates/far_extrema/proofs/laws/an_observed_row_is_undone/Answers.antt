use Rattle.far_types.specs.Answers.{extrema}
use Rattle.far_extrema.proofs.MinMaxesRemoval.{observed-undo}
use Rattle.far_extrema.proofs.laws.an_observed_row_is_undone.Goals as goal

pub returns : goal.returns
returns c pairs pair = observed-undo (extrema pairs) pair

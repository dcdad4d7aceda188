use Rattle.far_frame.proofs.TableListing.{all-due}
use Rattle.far_frame.proofs.laws.the_first_chunk_that_is_away_is_named.Goals as goal

pub returns : goal.returns
returns g c = λ s kept. all-due g.S.FarTickets.content s kept

use Rattle.far_frame.proofs.TablePins.{run-pinned}
use Rattle.far_frame.proofs.laws.a_pinned_chunk_is_local.Goals as goal

pub returns : goal.returns
returns c = run-pinned

use Rattle.std.proofs.Common.{refl}
use Rattle.far_host.proofs.lanes.padding.Goals as goal

pub returns : goal.returns
returns c = rw (c.requires, c.copy_from_slice.ensures.after, c.to_be_bytes.ensures) refl

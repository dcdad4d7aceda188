use Rattle.std.proofs.Common.{ℕ, ◌/◌, ◌^◌}
use Rattle.far_host.proofs.LaneLaws.{lane_splat}
use Rattle.far_host.proofs.lanes.shift_right.Goals as goal

pub returns : goal.returns
returns c j below = lane_splat (λ (a n : ℕ). a / 2 ^ n) c.args.x c.args.k j c.fits-x.0 below

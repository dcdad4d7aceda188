use Rattle.far_host.proofs.LaneLaws.{lane_rotated}
use Rattle.far_host.proofs.lanes.rotate_right.Goals as goal

pub returns : goal.returns
returns c j below = lane_rotated c.args.x c.args.k j c.fits-x.0 c.requires.0 c.requires.1 below

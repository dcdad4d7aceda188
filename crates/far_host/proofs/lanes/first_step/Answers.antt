use Rattle.std.proofs.Common.{arith, refl, sym}
use Rattle.sha2.proofs.Schedule256.{rounds_first}
use Rattle.far_host.specs.Lanes.{hash_lane, word_lane}
use Rattle.far_host.proofs.LaneLaws.{word_of_lane}
use Rattle.far_host.proofs.lanes.first_step.Goals as goal

pub returns : goal.returns
returns c j b h below window held =
    rounds_first b h (word_lane j c.args.w.now) (hash_lane j c.args.v) c.args.t _ _ _ c.requires window held refl
    (sym (word_of_lane c.args.w.now j c.args.t (omega arith))) (c.round.ensures j below)

use Rattle.std.proofs.Common.{arith}
use Rattle.sha2.proofs.Schedule256.{IsRoundsAt_at}
use Rattle.far_host.proofs.lanes.four_steps.Goals as goal

pub returns : goal.returns
returns c j b h below held =
    let one = c.step-v.ensures j b h below held in
    let two = c.step-v-2.ensures j b h below one in
    let three = c.step-v-3.ensures j b h below (IsRoundsAt_at b h _ _ _ _ (omega arith) two) in
    let four = c.step.ensures j b h below (IsRoundsAt_at b h _ _ _ _ (omega arith) three) in
    IsRoundsAt_at b h _ _ _ _ (omega arith) four

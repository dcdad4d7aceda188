use Rattle.std.proofs.Common.{ap, ◌∙◌, arith}
use Rattle.sha2.specs.Sha256.{rounds, schedule}
use Rattle.far_host.proofs.lanes.first_four_steps.Goals as goal

pub returns : goal.returns
returns c j b h below window held =
    let after = rounds h (schedule b 48) in
    let one = c.first_step-v.ensures j b h below window held in
    let two = c.first_step-v-2.ensures j b h below window one in
    let three = c.first_step-v-3.ensures j b h below window (two ∙ ap after (omega arith)) in
    c.first_step.ensures j b h below window (three ∙ ap after (omega arith)) ∙ ap after (omega arith)

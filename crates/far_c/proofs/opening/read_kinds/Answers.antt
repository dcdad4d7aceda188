use Rattle.std.proofs.Common.{◌<◌, length, arith}
use Rattle.std.proofs.lemmas.Grind.{common_steps}
use Rattle.far_c.specs.Unreadable.{IsKind}
use Rattle.far_c.proofs.FirstFaults.{more-read-at}
use Rattle.far_c.proofs.opening.read_kinds.Goals as goal

pub loop-kind-preserved : goal.loop-kind-preserved
loop-kind-preserved c =
    let test = c.loop-kind-test.true in
    let below : c.loop-kind.kind-index < length c.args.kinds.now = omega (arith, test) in
    record {
      made = grind (arith, common_steps);
      readable = more-read-at IsKind c.args.kinds.now c.loop-kind.kind-index _ below c.in-Some.ensures.1 c.loop-kind.invariant.readable;
    }

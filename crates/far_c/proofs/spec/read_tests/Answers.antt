use Rattle.std.proofs.Common.{◌<◌, length, arith}
use Rattle.std.proofs.lemmas.Grind.{common_steps}
use Rattle.far_c.specs.Unreadable.{IsReadableTest}
use Rattle.far_c.proofs.FirstFaults.{more-read-at}
use Rattle.far_c.proofs.spec.read_tests.Goals as goal

pub loop-test-preserved : goal.loop-test-preserved
loop-test-preserved c =
    let test = c.loop-test-test.true in
    let below : c.loop-test.test-index < length c.args.tests.now = omega (arith, test) in
    record {
      made = grind (arith, common_steps);
      readable = more-read-at IsReadableTest c.args.tests.now c.loop-test.test-index _ below c.in_ok-read.ensures.readable c.loop-test.invariant.readable;
    }

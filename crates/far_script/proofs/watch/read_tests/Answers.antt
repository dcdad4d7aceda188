use Rattle.far_script.proofs.WatchesTests.{tests-go-on}
use Rattle.far_script.proofs.watch.read_tests.Goals as goal

pub loop-words-preserved : goal.loop-words-preserved
loop-words-preserved c = tests-go-on _ _ _ _ _ _ (rw c.in-Some.is at c.in_ok-test.ensures.test) c.in_ok-push-in-Some.ensures.items c.loop-words.invariant

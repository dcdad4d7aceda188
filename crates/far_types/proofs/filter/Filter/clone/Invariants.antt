use Rattle.std.proofs.Common.{◌≡◌, take}
use Rattle.far_types.proofs.filter.Filter.clone.Given as goal

abbrev pub invariant-loop-test : goal.invariant-loop-test
invariant-loop-test l = l.tests.items ≡ take l.test-index l.self

use Rattle.std.proofs.Common.{◌≡◌, map, take}
use Rattle.std.specs.List.{All}
use Rattle.far_c.specs.Specs.{test_of}
use Rattle.far_c.specs.Unreadable.{IsReadableTest}
use Rattle.far_c.proofs.spec.read_tests.Given as goal

abbrev pub invariant-loop-test : goal.invariant-loop-test
invariant-loop-test l = record {
  made : l.made.items ≡ map test_of (take l.test-index l.tests);
  readable : All IsReadableTest (take l.test-index l.tests);
}

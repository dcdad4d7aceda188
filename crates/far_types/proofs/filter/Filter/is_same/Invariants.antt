use Rattle.std.proofs.Common.{◌≡◌, take}
use Rattle.far_types.proofs.filter.Filter.is_same.Given as goal

abbrev pub invariant-loop-test : goal.invariant-loop-test
invariant-loop-test l = take l.test l.self ≡ take l.test l.other

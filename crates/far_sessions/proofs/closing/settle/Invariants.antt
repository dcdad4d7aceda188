use Rattle.std.proofs.Common.{◌≡◌}
use Rattle.far_sessions.specs.Closing.{SeenByAll}
use Rattle.far_sessions.proofs.closing.settle.Given as goal

abbrev pub invariant-loop-session : goal.invariant-loop-session
invariant-loop-session g l = record {
  zero : l.keepers.zero ≡ l.fn.keepers.zero;
  one : l.keepers.one ≡ l.fn.keepers.one;
  two : l.keepers.two ≡ l.fn.keepers.two;
  three : l.keepers.three ≡ l.fn.keepers.three;
  all_zero : SeenByAll 0 l.fn.keepers.zero l.yielded;
  all_one : SeenByAll 1 l.fn.keepers.one l.yielded;
  all_two : SeenByAll 2 l.fn.keepers.two l.yielded;
  all_three : SeenByAll 3 l.fn.keepers.three l.yielded;
}

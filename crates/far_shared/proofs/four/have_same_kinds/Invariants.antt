use Rattle.std.proofs.Common.{◌≡◌, take}
use Rattle.far_shared.proofs.four.have_same_kinds.Given as goal

abbrev pub invariant-loop-column : goal.invariant-loop-column
invariant-loop-column l = take l.column l.kinds ≡ take l.column l.others

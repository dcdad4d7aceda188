use Rattle.std.proofs.Common.{◌≡◌, ◌++◌, length, map}
use Rattle.far_frame.specs.Lending.{int_piece, ints_lent, lent_part}
use Rattle.far_frame.proofs.world.lending.copied_ints.Given as goal

abbrev pub invariant-loop-lent : goal.invariant-loop-lent
invariant-loop-lent g l = map int_piece l.copies.items ++ map ints_lent l.lents ≡ lent_part l.frame.table l.column l.from l.to

abbrev pub decreases-loop-lent : goal.decreases-loop-lent
decreases-loop-lent g l = length l.lents

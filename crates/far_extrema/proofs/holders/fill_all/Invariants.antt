use Rattle.far_extrema.proofs.HoldersReserve.{IsFilling}
use Rattle.far_extrema.proofs.holders.fill_all.Given as goal

abbrev pub invariant-loop-key : goal.invariant-loop-key
invariant-loop-key l = record {
  filling : IsFilling l.initial.holders l.holders l.group l.min_maxes.entries l.key-iterator;
}

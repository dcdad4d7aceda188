use Rattle.std.proofs.Common.{◌≢◌, ◌≡◌, None, Option}
use Rattle.far_types.specs.declared.key.Key.{Key}
use Rattle.far_types.proofs.AnswersByKeyMaps as map_in
use Rattle.far_extrema.specs.Holders.{reserved_at, HaveSameMinMaxes}
use Rattle.far_extrema.proofs.holders.reserve_all.Given as goal

abbrev pub invariant-loop-key : goal.invariant-loop-key
invariant-loop-key l = record {
  min_maxes : HaveSameMinMaxes l.initial.holders l.holders;
  reserved : (q : Option Key) → map_in.at l.min_maxes.entries q ≢ None → map_in.at l.key-iterator q ≡ None → reserved_at l.holders q ≢ None;
}

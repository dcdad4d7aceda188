use Rattle.std.proofs.Common.{◌≡◌, ◌+◌, ◌≤◌, ◌++◌, map, take, length}
use Rattle.std.specs.Prelude.{is_some}
use Rattle.far_c.specs.Parts.{flags_in, numbers_in, or_zero}
use Rattle.far_c.proofs.numbers.copy_pieces.Given as goal

abbrev pub invariant-loop-lent : goal.invariant-loop-lent
invariant-loop-lent l = record {
  left : l.at + length (numbers_in l.lents) ≡ length (numbers_in l.initial.lents);
  flags_left : l.flag + length (flags_in l.lents) ≡ length (flags_in l.initial.lents);
  values_long : length (numbers_in l.initial.lents) ≤ length l.values;
  valid_long : length (numbers_in l.initial.lents) ≤ length l.valid;
  alive_long : length (flags_in l.initial.lents) ≤ length l.alive;
  values : take l.at l.values ++ map or_zero (numbers_in l.lents) ≡ map or_zero (numbers_in l.initial.lents);
  valid : take l.at l.valid ++ map is_some (numbers_in l.lents) ≡ map is_some (numbers_in l.initial.lents);
  alive : take l.flag l.alive ++ flags_in l.lents ≡ flags_in l.initial.lents;
}

abbrev pub decreases-loop-lent : goal.decreases-loop-lent
decreases-loop-lent l = length l.lents

use Rattle.std.proofs.Common.{◌≡◌, map, take}
use Rattle.std.specs.Prelude.{is_some}
use Rattle.far_c.specs.Parts.{or_zero}
use Rattle.far_c.proofs.numbers.write_numbers.Given as goal

abbrev pub invariant-loop-i : goal.invariant-loop-i
invariant-loop-i l = record {
  values : take l.i l.values ≡ map or_zero (take l.i l.numbers);
  valid : take l.i l.valid ≡ map is_some (take l.i l.numbers);
}

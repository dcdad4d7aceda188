use Rattle.std.proofs.Common.{◌≡◌, map, take}
use Rattle.std.specs.List.{AllByRecursion}
use Rattle.far_codec.specs.FarForm.{number_bytes}
use Rattle.far_codec.specs.PlainNumbers.{IsThere}
use Rattle.far_codec.proofs.present.are_present.Given as goal

abbrev pub invariant-loop-i : goal.invariant-loop-i
invariant-loop-i l = record {
  same : take l.i l.words ≡ map number_bytes (take l.i l.numbers);
  there : AllByRecursion IsThere (take l.i l.numbers);
}

use Rattle.std.proofs.Common.{◌≡◌, ◌++◌, take}
use Rattle.std.specs.List.{flat_map, AllByRecursion}
use Rattle.far_codec.specs.FarForm.{number_bytes}
use Rattle.far_codec.specs.PlainNumbers.{IsThere}
use Rattle.far_codec.proofs.present.push_few.Given as goal

abbrev pub invariant-loop-number : goal.invariant-loop-number
invariant-loop-number l = record {
  written : l.form.items ≡ l.fn.form.items ++ flat_map number_bytes (take l.number-index l.numbers);
  there : AllByRecursion IsThere (take l.number-index l.numbers);
}

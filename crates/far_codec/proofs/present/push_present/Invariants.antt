use Rattle.std.proofs.Common.{◌≡◌, ◌*◌, ◌++◌, take}
use Rattle.std.specs.List.{flat_map, AllByRecursion}
use Rattle.far_codec.specs.FarForm.{number_bytes}
use Rattle.far_codec.specs.PlainNumbers.{IsThere}
use Rattle.far_codec.proofs.present.push_present.Given as goal

abbrev pub invariant-loop-i : goal.invariant-loop-i
invariant-loop-i l = record {
  written : l.form.items ≡ l.fn.form.items ++ flat_map number_bytes (take (64 * l.i) l.numbers);
  there : AllByRecursion IsThere (take (64 * l.i) l.numbers);
}

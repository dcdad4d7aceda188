use Rattle.std.proofs.Common.{◌≡◌, ◌^◌, ◌<◌, ℕ, true, Some, take, slice_index}
use Rattle.std.specs.Char.{is_ascii_digit}
use Rattle.far_script.specs.Numbers.{digits_from}
use Rattle.far_script.proofs.number.first_digits.Given as goal

abbrev pub invariant-loop-at : goal.invariant-loop-at
invariant-loop-at l = record {
  small : l.number < 10 ^ 18;
  number : digits_from 0 (take l.at l.text) ≡ Some l.number;
  digits : (k : ℕ) → k < l.at → is_ascii_digit (slice_index l.text k) ≡ true;
}

use Rattle.std.proofs.Common.{◌≡◌, ◌^◌, ◌<◌, drop}
use Rattle.far_script.specs.Numbers.{digits_from}
use Rattle.far_script.proofs.number.digits.Given as goal

abbrev pub invariant-loop-byte : goal.invariant-loop-byte
invariant-loop-byte l = record {
  read : digits_from 0 l.text ≡ digits_from l.number (drop l.byte-index l.text);
  small : l.number < 2 ^ 64;
}

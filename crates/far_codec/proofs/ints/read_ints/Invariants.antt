use Rattle.std.proofs.Common.{◌≡◌, cond, [], get_or, map, length, vec_len, None, Some}
use Rattle.std.specs.Prelude.{vec_capacity}
use Rattle.std.specs.List.{range_with_len}
use Rattle.far_codec.specs.Reading.{is_missing, number_of}
use Rattle.far_codec.proofs.ints.read_ints.Given as goal

abbrev pub invariant-loop-i : goal.invariant-loop-i
invariant-loop-i l = record {
  read : l.numbers.items ≡ map (λ k. cond (is_missing l.parts.mask.now k) None (Some (number_of (get_or l.parts.words.now k [])))) (range_with_len 0 l.i);
  len : vec_len l.numbers ≡ l.i;
  space : vec_capacity l.numbers ≡ length l.parts.words.now;
}

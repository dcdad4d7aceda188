use Rattle.std.proofs.Common.{arith}
use Rattle.std.proofs.lemmas.List.{length-replicate, drop-replicate}
use Rattle.far_columns.proofs.vector.FarVector.new.Goals as goal

pub invariant_of-result : goal.invariant_of-result
invariant_of-result g c = rw (c.new.ensures.items, c.in_ok-default_values.ensures.default_value) record {
  shaped = record { some = c.requires; short = c.ranges.size.fits; few = omega arith; sorted = λ i j d less within. absurd (omega arith); enough = omega arith; needed = omega (arith, c.requires) };
  long = length-replicate c.args.size c.args.default_value;
  default_value = drop-replicate 1 c.args.size c.args.default_value;
}

use Rattle.std.proofs.Common.{refl}
use Rattle.far_types.proofs.laws.worked_refusals.Goals as goal

pub returns : goal.returns
returns c = record {
  used_up = (refl, refl, refl, refl);
  first_refusal = (refl, refl, refl, refl, refl);
  over_length = (refl, refl, refl, refl, refl);
}

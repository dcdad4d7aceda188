use Rattle.std.proofs.Common.{refl}
use Rattle.far_types.proofs.laws.worked_edits.Goals as goal

pub returns : goal.returns
returns c = record {
  what_edits_do = (refl, refl, refl, refl);
  space_for_texts = (refl, refl, refl, refl, refl, refl, refl, refl, refl, refl);
  order_of_refusals = (refl, refl, refl, refl, refl, refl, refl, refl, refl, refl, refl, refl, refl, refl);
  row_groups = (refl, refl, refl, refl);
}

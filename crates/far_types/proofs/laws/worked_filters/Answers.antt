use Rattle.std.proofs.Common.{refl}
use Rattle.far_types.proofs.laws.worked_filters.Goals as goal

pub returns : goal.returns
returns c = record {
  comparisons = (refl, refl);
  tests_of_texts = (refl, refl, refl);
  allowed_aggregates = (refl, refl, refl, refl, refl, refl, refl, refl, refl);
}

use Rattle.far_columns.proofs.VectorsLaws.{no-vectors, vectors-more, vectors-after, others-after, vectors-stay, elements-stay}
use Rattle.far_columns.proofs.laws.vectors_stay_together.Goals as goal

pub returns : goal.returns
returns g c = record {
  none = no-vectors;
  more = vectors-more;
  after = λ old new vectors k v changed are at change. vectors-after old new vectors are k v changed at change;
  others = λ old new vectors k v changed are at change. others-after old new vectors are k v changed at change;
  moved = vectors-stay;
  kept = elements-stay;
}

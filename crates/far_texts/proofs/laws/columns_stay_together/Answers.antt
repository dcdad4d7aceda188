use Rattle.far_texts.proofs.ColumnsLaws.{no-columns, columns-more, columns-after, others-after, columns-stay, texts-stay}
use Rattle.far_texts.proofs.laws.columns_stay_together.Goals as goal

pub returns : goal.returns
returns c = record {
  none = no-columns;
  more = columns-more;
  after = λ old new columns k was changed are at change. columns-after old new columns are k was changed at change;
  others = λ old new columns k was changed are at change. others-after old new columns are k was changed at change;
  moved = columns-stay;
  kept = texts-stay;
}

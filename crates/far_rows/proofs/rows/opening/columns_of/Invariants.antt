use Rattle.std.proofs.Common.{◌≡◌, ◌++◌, length, drop}
use Rattle.far_rows.specs.ColumnIndexes.{column_indexes_from}
use Rattle.far_rows.specs.Opening.{numbers_from, texts_from}
use Rattle.far_rows.proofs.rows.opening.columns_of.Given as goal

abbrev pub invariant-loop-kind : goal.invariant-loop-kind
invariant-loop-kind l = record {
  column : l.column ≡ l.kind-index;
  column_indexes : l.columns.column_indexes.items ++ column_indexes_from (length l.columns.numbers.items) (length l.columns.texts.items) (drop l.kind-index l.kind-items) ≡ column_indexes_from 0 0 l.kind-items;
  numbers : l.columns.numbers.items ++ numbers_from l.limits.group l.column (drop l.kind-index l.kind-items) ≡ numbers_from l.limits.group 0 l.kind-items;
  texts : l.columns.texts.items ++ texts_from l.limits.group l.limits.text_size l.column (drop l.kind-index l.kind-items) ≡ texts_from l.limits.group l.limits.text_size 0 l.kind-items;
}

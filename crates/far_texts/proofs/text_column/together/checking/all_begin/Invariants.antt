use Rattle.std.proofs.Common.{◌≡◌}
use Rattle.std.specs.Prelude.{drop}
use Rattle.far_texts.specs.Together.{all_begin}
use Rattle.far_texts.proofs.text_column.together.checking.all_begin.Given as goal

abbrev pub invariant-loop-column : goal.invariant-loop-column
invariant-loop-column l = all_begin l.columns ≡ all_begin (drop l.column-index l.columns)

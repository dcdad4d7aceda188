use Rattle.std.proofs.Common.{◌≡◌}
use Rattle.std.specs.Prelude.{drop}
use Rattle.far_types.specs.FirstOf.{first_of}
use Rattle.far_texts.specs.RefusingTogether.{absents}
use Rattle.far_texts.proofs.text_column.together.checking.all_here.Given as goal

abbrev pub invariant-loop-column : goal.invariant-loop-column
invariant-loop-column g l = first_of (absents l.objects l.columns) ≡ first_of (absents l.objects (drop l.column-index l.columns))

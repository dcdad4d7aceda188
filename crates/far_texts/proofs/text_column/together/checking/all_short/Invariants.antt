use Rattle.std.proofs.Common.{◌≡◌}
use Rattle.std.specs.Prelude.{drop}
use Rattle.far_texts.specs.RefusingTogether.{any_too_long}
use Rattle.far_texts.proofs.text_column.together.checking.all_short.Given as goal

abbrev pub invariant-loop-text : goal.invariant-loop-text
invariant-loop-text l = (any_too_long l.texts).0 ≡ (any_too_long (drop l.text-index l.texts)).0

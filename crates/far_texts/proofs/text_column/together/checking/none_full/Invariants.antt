use Rattle.std.proofs.Common.{◌≡◌}
use Rattle.std.specs.Prelude.{drop}
use Rattle.far_texts.specs.Texts.{lists_of}
use Rattle.far_texts.specs.RefusingTogether.{any_full}
use Rattle.far_texts.proofs.text_column.together.checking.none_full.Given as goal

abbrev pub invariant-loop-k : goal.invariant-loop-k
invariant-loop-k g l = (any_full (lists_of g.S.FarTickets.content l.objects) l.columns l.texts).0 ≡ (any_full (lists_of g.S.FarTickets.content l.objects) (drop l.k l.columns) (drop l.k l.texts)).0

use Rattle.std.proofs.Common.{ap, ◌∙◌}
use Rattle.far_texts.specs.RefusingTogether.{any_too_long}
use Rattle.far_rows.proofs.RefusingTextSize.{missing-short}
use Rattle.far_rows.proofs.new_row.NewRow.new.Goals as goal

pub invariant_of-result : goal.invariant_of-result
invariant_of-result c = ap (λ texts. (any_too_long texts).0) c.in_ok-nothing-2.ensures.missing ∙ missing-short c.args.texts

use Rattle.std.proofs.Common.{take}
use Rattle.std.specs.Prelude.{All}
use Rattle.far_texts.specs.Texts.{HasGroups}
use Rattle.far_rows.proofs.rows.pushing.all_have_groups.Given as goal

abbrev pub invariant-loop-column : goal.invariant-loop-column
invariant-loop-column l = All HasGroups (take l.column-index l.columns)

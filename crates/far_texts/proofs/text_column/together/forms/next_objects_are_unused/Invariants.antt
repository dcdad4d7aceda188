use Rattle.std.proofs.Common.{◌≤◌, length, take}
use Rattle.std.specs.Prelude.{All}
use Rattle.far_texts.specs.Texts.{Texts, HasGroups}
use Rattle.far_texts.proofs.text_column.together.forms.next_objects_are_unused.Given as goal

abbrev pub invariant-loop-column : goal.invariant-loop-column
invariant-loop-column g l = All (λ (c : Texts). length c.objects ≤ length l.objects.records) (take l.column-index l.columns) × All HasGroups (take l.column-index l.columns)

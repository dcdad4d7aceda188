use Rattle.std.proofs.Common.{◌≡◌}
use Rattle.std.specs.Prelude.{slice_range}
use Rattle.far_scopes.specs.Refusing.{first_absent}
use Rattle.far_texts.proofs.text_column.TextColumn.all_here.Given as goal

abbrev pub invariant-loop-group : goal.invariant-loop-group
invariant-loop-group g l = first_absent l.objects (slice_range l.self.objects l.first l.end) ≡ first_absent l.objects (slice_range l.self.objects l.group l.end)

use Rattle.std.proofs.Common.{◌≡◌, drop}
use Rattle.std.specs.List.{list_any}
use Rattle.far_scopes.specs.Refusing.{written_out}
use Rattle.far_texts.specs.Texts.{Texts}
use Rattle.far_texts.specs.Effects.{last_object}
use Rattle.far_texts.proofs.text_column.together.asking.all_writable.Given as goal

abbrev pub invariant-loop-column : goal.invariant-loop-column
invariant-loop-column g l = list_any (λ (c : Texts). (written_out l.objects (last_object c)).0) l.columns ≡ list_any (λ (c : Texts). (written_out l.objects (last_object c)).0) (drop l.column-index l.columns)

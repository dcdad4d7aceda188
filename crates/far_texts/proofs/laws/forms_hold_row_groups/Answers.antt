use Rattle.far_texts.proofs.TextsInGroups.{texts-of-group, group-with-text, group-with-next}
use Rattle.far_texts.proofs.laws.forms_hold_row_groups.Goals as goal

pub returns : goal.returns
returns c = record { group = texts-of-group; with_text = group-with-text; next = group-with-next }

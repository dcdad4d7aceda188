use Rattle.std.proofs.Common.{rules}
use Rattle.far_texts.proofs.text_column.TextColumn.extend_group.Goals as goal

pub returns-clause-extended : goal.returns-clause-extended
returns-clause-extended g c = record { pushed = search rules; replaced = search rules; list = search rules }

use Rattle.std.proofs.Common.{◌∙◌, sym}
use Rattle.far_script.proofs.PlainLines.{breaks-behind}
use Rattle.far_script.proofs.lines.has_break.Goals as goal

pub returns-else-contains : goal.returns-else-contains
returns-else-contains c = c.contains-else-contains.ensures.value ∙ breaks-behind c.args.bytes.now (sym c.contains.ensures.value ∙ c.if-contains.false)

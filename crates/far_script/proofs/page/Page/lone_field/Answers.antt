use Rattle.std.proofs.Common.{sym}
use Rattle.far_script.proofs.PrintingLaws.{lone-empty, lone-same}
use Rattle.far_script.proofs.page.Page.lone_field.Goals as goal

pub returns-then-is_empty : goal.returns-then-is_empty
returns-then-is_empty c = record { ok = rw (lone-empty c.args.field.now (sym c.if-is_empty.ensures)) c.text.ensures.ok }

pub returns-else-is_empty : goal.returns-else-is_empty
returns-else-is_empty c = record { ok = rw (lone-same c.args.field.now (sym c.if-is_empty.ensures)) c.field.ensures.ok }

use Rattle.far_rows_tests.proofs.MovingObjects.{begun-is-ok}
use Rattle.far_rows_tests.proofs.rows.callers.object_begun.Goals as goal

pub returns : goal.returns
returns g c = begun-is-ok g.S.FarTickets.content c.args.rows.now c.len-len.ensures.rows c.args.group c.requires.used c.args.column c.requires.column c.object.result c.object.ensures.object c.object.ensures.refused

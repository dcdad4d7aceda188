use Rattle.std.proofs.Common.{sym}
use Rattle.far_c.proofs.ColumnsFit.{are-offsets}
use Rattle.far_c.proofs.columns.are_offsets.Goals as goal

pub returns : goal.returns
returns c = are-offsets c.args.rows c.args.len c.args.offsets.now c.is_sorted.result c.in-Some.last.now c.is_sorted.ensures.cases (sym c.in-Some.ensures.value) c.if-offsets-rows.false c.if-last-len.false

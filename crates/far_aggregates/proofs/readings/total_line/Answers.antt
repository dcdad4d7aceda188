use Rattle.std.proofs.Common.{Some, sym, ap, ◌∙◌}
use Rattle.far_aggregates.proofs.LinesLaws.{line-there, zero-line, line-none, none_of, some_of}
use Rattle.far_aggregates.proofs.readings.total_line.Goals as goal
use Rattle.far_aggregates.proofs.readings.total_line.Goals.{else-is_none-via-then-is_none+else-is_none-2, else-is_none-via-else-is_none}

pub returns-in-Some : goal.returns-in-Some
returns-in-Some c fit = ap Some c.of_totals.ensures ∙ line-there c.args.column c.args.live.now.totals c.args.key.now c.in-Some.found (sym c.in-Some.ensures)

pub returns-then-is_none-2 : goal.returns-then-is_none-2
returns-then-is_none-2 c fit =
    let column = none_of c.args.column c.is_none.result c.is_none.ensures c.if-is_none.true in
    let key = none_of c.args.key.now c.is_none-then-is_none.result c.is_none-then-is_none.ensures c.if-is_none-2.true in
    zero-line c.args.column c.args.live.now.totals c.args.key.now column key fit (sym c.in-None.ensures)

pub returns-else-is_none : goal.returns-else-is_none
returns-else-is_none c fit = line-none c.args.column c.args.live.now.totals c.args.key.now (sym c.in-None.ensures) (λ column key. elim c.else-is_none.branch [
  | else-is_none-via-then-is_none+else-is_none-2 w ↦ some_of c.args.key.now w.is_none-then-is_none.result w.is_none-then-is_none.ensures w.if-is_none-2.false key
  | else-is_none-via-else-is_none w ↦ some_of c.args.column c.is_none.result c.is_none.ensures w.if-is_none.false column
])

use Rattle.std.proofs.Common.{◌≡◌, ◌++◌, drop}
use Rattle.far_script.specs.Printing.{texts_of, total_text}
use Rattle.far_script.proofs.print.totals.Given as goal

abbrev pub invariant-loop-line : goal.invariant-loop-line
invariant-loop-line l = l.page ++ texts_of total_text (drop l.line-index l.lines) ≡ l.initial.page ++ texts_of total_text l.lines

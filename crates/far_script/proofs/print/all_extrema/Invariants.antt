use Rattle.std.proofs.Common.{◌≡◌, ◌++◌, drop}
use Rattle.far_script.specs.Printing.{texts_of, extrema_text}
use Rattle.far_script.proofs.print.all_extrema.Given as goal

abbrev pub invariant-loop-line : goal.invariant-loop-line
invariant-loop-line l = l.page ++ texts_of extrema_text (drop l.line-index l.lines) ≡ l.initial.page ++ texts_of extrema_text l.lines

use Rattle.std.proofs.Common.{[], ℕ, List, length, ◌≤◌}
use Rattle.far_script.specs.Flow.{Reads, Prints}
use Rattle.far_script.specs.Lines.{Blank}
use Rattle.far_shell.proofs.first_line.first_command.Given as goal

abbrev pub invariant-loop-turn : goal.invariant-loop-turn
invariant-loop-turn g l = (bytes : List ℕ) × (lines : List (List ℕ)) × Reads g.R.Read l.fn.input bytes l.input
    × Prints (g.W.Write.contents l.fn.writer) l.fn.output.page [] (g.W.Write.contents l.writer) l.output.page
    × Blank bytes lines × (l.turn ≤ length bytes) × (l.input.source.reads ≤ l.fn.input.source.reads)

use Rattle.std.proofs.Common.{ℕ, List, length, ◌≤◌, ◌+◌}
use Rattle.far_script.specs.Flow.{Reads, Prints}
use Rattle.far_commands.specs.WorldRules.{both_rules}
use Rattle.far_shell.specs.Scripts.{AnswersLines}
use Rattle.far_shell.proofs.lines.serve_lines.Given as goal

abbrev pub invariant-loop-turn : goal.invariant-loop-turn
invariant-loop-turn g l = (bytes : List ℕ) × (text : List ℕ) × Reads g.R.Read l.fn.input bytes l.input
    × Prints (g.W.Write.contents l.fn.writer) l.fn.output.page text (g.W.Write.contents l.writer) l.output.page
    × AnswersLines (both_rules g.S.FarTickets) l.fn.progress bytes text l.progress
    × (l.turn ≤ length bytes) × (l.progress.number ≤ l.turn + 1) × (l.input.source.reads ≤ l.fn.input.source.reads)

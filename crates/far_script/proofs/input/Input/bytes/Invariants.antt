use Rattle.std.proofs.Common.{[], ◌+◌, ◌≤◌}
use Rattle.far_script.specs.Flow.{Reads, Prints}
use Rattle.far_script.proofs.input.Input.bytes.Given as goal

abbrev pub invariant-loop-turn : goal.invariant-loop-turn
invariant-loop-turn g l = Reads g.R.Read l.fn.self [] l.self
    × Prints (g.W.Write.contents l.fn.writer) l.fn.output.page [] (g.W.Write.contents l.writer) l.output.page
    × (l.self.source.reads + l.turn ≤ l.fn.self.source.reads)

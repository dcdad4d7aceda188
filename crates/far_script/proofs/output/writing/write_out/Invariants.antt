use Rattle.std.proofs.Common.{length, take, ◌≤◌, ◌⊎◌, IsTrue}
use Rattle.std.specs.Io.KnownBytes.{Appends}
use Rattle.far_script.proofs.output.writing.write_out.Given as goal

abbrev pub invariant-loop-turn : goal.invariant-loop-turn
invariant-loop-turn g l =
    (l.taken ≤ length l.bytes) × Appends (g.W.Write.contents l.fn.writer) (g.W.Write.contents l.writer) (take l.taken l.bytes) × (IsTrue g.W.Sink.may_fail ⊎ (l.turn ≤ l.taken))

use Rattle.std.proofs.Common.{IsTrue, inl}
use Rattle.std.proofs.KnownBytes.{Appends-kept}
use Rattle.far_script.proofs.FlowLaws.{took-more, written-rest, within-rest}
use Rattle.far_script.proofs.output.writing.write_out.Goals.{in-Ok, in-Err+else-ne}
use Rattle.far_script.proofs.output.writing.write_out.Goals as goal

pub loop-turn-preserved : goal.loop-turn-preserved
loop-turn-preserved g c = elim c.match-write_some.branch [
  | in-Ok w ↦ rw w.taken-is (
    within-rest c.args.bytes.now c.loop-turn.taken _ c.loop-turn.invariant.0 w.in-Ok.ensures.bound,
    written-rest _ _ _ c.args.bytes.now c.loop-turn.taken _ c.loop-turn.invariant.1 w.in-Ok.ensures.bytes,
    took-more (IsTrue g.W.Sink.may_fail) c.loop-turn.turn c.loop-turn.taken w.in-Ok.count w.in-Ok.count-test.1 c.loop-turn.invariant.2,
  )
  | in-Err+else-ne w ↦ rw w.taken-is (c.loop-turn.invariant.0, Appends-kept _ _ _ _ c.loop-turn.invariant.1 w.in-Err.ensures.bytes, inl w.in-Err.ensures.failed)
]

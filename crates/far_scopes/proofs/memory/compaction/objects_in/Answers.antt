use Rattle.std.proofs.Common.{sym, ap, subst, ◌∙◌, arith}
use Rattle.std.specs.Option.{option_and_then}
use Rattle.far_scopes.specs.SegmentObjects.{offset_if, AreObjects}
use Rattle.far_scopes.proofs.MemoryWordPlaces.{word-read}
use Rattle.far_scopes.proofs.SegmentObjectsLists.{objects-push, objects-past}
use Rattle.far_scopes.proofs.memory.compaction.objects_in.Goals.{in-Some+in_ok-push, in_default}
use Rattle.far_scopes.proofs.memory.compaction.objects_in.Goals as goal

pub returns-clause-found : goal.returns-clause-found
returns-clause-found c =
    subst (λ n. AreObjects c.args.words.now c.args.segment c.args.hot n c.loop-object.found.items) (omega (arith, c.loop-object-test.false, c.loop-object.auto.object-end)) c.loop-object.invariant

pub loop-object-preserved : goal.loop-object-preserved
loop-object-preserved c =
    let read = word-read c.args.words.now c.loop-object.object c.index-words-object.result c.loop-object-test.true c.index-words-object.is in
    let answer = ap (option_and_then (offset_if c.args.segment c.args.hot)) read ∙ sym c.offset_if.ensures in
    elim c.match-offset_if.branch [
      | in-Some+in_ok-push w ↦ rw (w.found-is, w.in_ok-push.ensures.items) (objects-push c.args.words.now c.args.segment c.args.hot c.loop-object.object w.in-Some.offset c.loop-object.found.items c.loop-object.invariant (answer ∙ w.in-Some.is))
      | in_default w ↦ rw w.found-is (objects-past c.args.words.now c.args.segment c.args.hot c.loop-object.object c.loop-object.found.items c.loop-object.invariant (answer ∙ w.in_default.is))
    ]

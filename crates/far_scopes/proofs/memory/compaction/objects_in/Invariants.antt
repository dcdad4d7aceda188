use Rattle.far_scopes.specs.SegmentObjects.{AreObjects}
use Rattle.far_scopes.proofs.memory.compaction.objects_in.Given as goal

abbrev pub invariant-loop-object : goal.invariant-loop-object
invariant-loop-object l = AreObjects l.words l.segment l.hot l.object l.found.items

use Rattle.std.proofs.Common.{◌≡◌, ◌+◌, ◌≤◌}
use Rattle.far_scopes.specs.SegmentObjects.{Settles}
use Rattle.far_scopes.specs.Cool.{cool_in}
use Rattle.far_scopes.proofs.memory.compaction.settle.Given as goal

abbrev pub invariant-loop-k : goal.invariant-loop-k
invariant-loop-k l = record {
  settled : Settles l.fn.words l.words l.objects l.moved.segment l.moved.offsets.items l.k;
  cooled : cool_in l.words ≡ cool_in l.fn.words + l.cooled;
  few : l.cooled ≤ l.k;
}

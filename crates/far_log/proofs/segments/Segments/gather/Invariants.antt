use Rattle.std.proofs.Common.{◌≡◌, take, map}
use Rattle.far_log.specs.RegionState.{segment_of}
use Rattle.far_log.specs.Effects.{gathered, with_segment}
use Rattle.far_log.proofs.segments.Segments.gather.Given as goal

abbrev pub invariant-loop-offset : goal.invariant-loop-offset
invariant-loop-offset g l = record {
  state : l.self ≡ with_segment l.fn.self l.to (record (segment_of l.fn.self l.to) { parts = gathered (segment_of l.fn.self l.from).parts (take l.offset-index l.order) });
  offsets : l.offsets.items ≡ map (λ p. p.offset) (gathered (segment_of l.fn.self l.from).parts (take l.offset-index l.order));
}

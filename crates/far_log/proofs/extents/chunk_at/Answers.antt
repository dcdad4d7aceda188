use Rattle.std.proofs.Common.{◌≡◌, length, drop, ap, arith, length-take, length-drop}
use Rattle.far_log.specs.Chunking.{capacity_at, start_at}
use Rattle.far_log.specs.Storage.{extents_of}
use Rattle.far_log.proofs.ChunkingLayout.{start-size, start-last}
use Rattle.far_log.proofs.StorageParts.{adjacent-sorted}
use Rattle.far_log.proofs.StorageEntries.{chunk-behind, chunk-before}
use Rattle.far_log.proofs.extents.chunk_at.Goals as goal

pub bounds-chunk-0 : goal.bounds-chunk-0
bounds-chunk-0 c = omega (arith, ap length c.chunk.ensures, length-take (capacity_at 64 c.loop-number.number) (drop (start_at 64 c.loop-number.number) c.args.table.now), length-drop (start_at 64 c.loop-number.number) c.args.table.now, c.loop-number.invariant.there, start-size 64 c.loop-number.number)

pub loop-number-preserved : goal.loop-number-preserved
loop-number-preserved c =
    let last = start-last 64 c.loop-number.number c.loop-number-test.true in
    record {
      few = omega (arith, c.loop-number.invariant.few);
      there = omega (arith, c.loop-number.invariant.there, last);
      before = λ k s e at.
          let first = rw c.chunk.ensures at c.if-chunk-offset.false in
          let under = chunk-before c.args.table.now (start_at 64 c.loop-number.number) (capacity_at 64 c.loop-number.number) _ (adjacent-sorted 0 (extents_of c.args.table.now) c.requires.adjacent) c.loop-number.invariant.there (omega (arith, start-size 64 c.loop-number.number)) k c.args.offset s first e at in
          omega (arith, under, last);
    }

pub returns-then-chunk-offset-clause-found : goal.returns-then-chunk-offset-clause-found
returns-then-chunk-offset-clause-found c = λ k s e at.
    let first = rw c.chunk.ensures at c.if-chunk-offset.true in
    let behind = chunk-behind c.args.table.now (start_at 64 c.loop-number.number) (capacity_at 64 c.loop-number.number) _ (adjacent-sorted 0 (extents_of c.args.table.now) c.requires.adjacent) c.loop-number.invariant.there (omega (arith, start-size 64 c.loop-number.number)) k c.args.offset s first e at in
    (behind, c.loop-number.invariant.before k s e at)

pub returns-clause-found : goal.returns-clause-found
returns-clause-found c = λ k s e at.
    let none : c.loop-number.number ≡ 0 = omega (arith, c.loop-number-test.false) in
    let under = c.loop-number.invariant.before k s e at in
    (omega arith, omega (arith, under, ap (start_at 64) none, ap (capacity_at 64) none))

use Rattle.std.proofs.Common.{◌≡◌, ◌-◌, Some, length, drop, ap, sym, subst, arith, length-take, length-drop}
use Rattle.std.specs.Prelude.{slice_get}
use Rattle.far_log.specs.Chunking.{capacity_at, start_at}
use Rattle.far_log.specs.Storage.{extents_of, IsSorted}
use Rattle.far_log.proofs.ChunkingLayout.{start-size}
use Rattle.far_log.proofs.StorageParts.{adjacent-sorted}
use Rattle.far_log.proofs.StorageEntries.{part-sorted, in-part}
use Rattle.far_log.proofs.extents.number_among.Goals as goal

pub extent_among-requires-clause-some : goal.extent_among-requires-clause-some
extent_among-requires-clause-some c = omega (arith, ap length c.chunk.ensures, length-take (capacity_at 64 c.chunk_at-chunk.result) (drop (start_at 64 c.chunk_at-chunk.result) c.args.table.now), length-drop (start_at 64 c.chunk_at-chunk.result) c.args.table.now, c.chunk_at-chunk.ensures.there, start-size 64 c.chunk_at-chunk.result)

pub extent_among-requires-clause-sorted : goal.extent_among-requires-clause-sorted
extent_among-requires-clause-sorted c = subst (λ es. IsSorted (extents_of es)) (sym c.chunk.ensures) (part-sorted c.args.table.now (start_at 64 c.chunk_at-chunk.result) (capacity_at 64 c.chunk_at-chunk.result) (adjacent-sorted 0 (extents_of c.args.table.now) c.requires.adjacent))

pub returns : goal.returns
returns c = λ k s e at.
    let bounds = c.chunk_at-chunk.ensures.found k s e at in
    let here = in-part c.args.table.now (start_at 64 c.chunk_at-chunk.result) (capacity_at 64 c.chunk_at-chunk.result) k s e bounds.0 bounds.1 in
    let found = c.extent_among.ensures.found (k - start_at 64 c.chunk_at-chunk.result) s (subst (λ es. slice_get (extents_of es) (k - start_at 64 c.chunk_at-chunk.result) ≡ Some s) (sym c.chunk.ensures) here) at in
    omega (arith, found, bounds.0, c.start_of.ensures.start)

pub overflow_add-result : goal.overflow_add-result
overflow_add-result c = omega (arith, c.extent_among.ensures.within, c.chunk.type_inv.1, c.start_of.ensures.small)

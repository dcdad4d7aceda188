use Rattle.std.proofs.Common.{◌≡◌, ◌+◌, ◌-◌, Some, length, drop, ap, sym, subst, ◌∙◌, arith, length-take, length-drop}
use Rattle.std.specs.Prelude.{slice_get}
use Rattle.far_log.specs.Chunking.{capacity_at, start_at}
use Rattle.far_log.specs.Storage.{extents_of, IsSorted}
use Rattle.far_log.proofs.ChunkingLayout.{start-size}
use Rattle.far_log.proofs.StorageParts.{adjacent-sorted}
use Rattle.far_log.proofs.StorageEntries.{part-sorted, in-part, among}
use Rattle.far_log.proofs.extents.extent_at.Goals as goal

pub extent_among-requires-clause-some : goal.extent_among-requires-clause-some
extent_among-requires-clause-some c = omega (arith, ap length c.chunk-entries.ensures, length-take (capacity_at 64 c.chunk_at.result) (drop (start_at 64 c.chunk_at.result) c.args.table.now), length-drop (start_at 64 c.chunk_at.result) c.args.table.now, c.chunk_at.ensures.there, start-size 64 c.chunk_at.result)

pub extent_among-requires-clause-sorted : goal.extent_among-requires-clause-sorted
extent_among-requires-clause-sorted c = subst (λ es. IsSorted (extents_of es)) (sym c.chunk-entries.ensures) (part-sorted c.args.table.now (start_at 64 c.chunk_at.result) (capacity_at 64 c.chunk_at.result) (adjacent-sorted 0 (extents_of c.args.table.now) c.requires))

pub returns-clause-there : goal.returns-clause-there
returns-clause-there c = (start_at 64 c.chunk_at.result + c.extent_among.result, among c.args.table.now (start_at 64 c.chunk_at.result) (capacity_at 64 c.chunk_at.result) c.chunk-entries.result.now c.extent_among.result _ c.chunk-entries.ensures c.extent_among.ensures.within)

pub returns-clause-found : goal.returns-clause-found
returns-clause-found c = λ k s e at.
    let bounds = c.chunk_at.ensures.found k s e at in
    let here = in-part c.args.table.now (start_at 64 c.chunk_at.result) (capacity_at 64 c.chunk_at.result) k s e bounds.0 bounds.1 in
    let found = c.extent_among.ensures.found (k - start_at 64 c.chunk_at.result) s (subst (λ es. slice_get (extents_of es) (k - start_at 64 c.chunk_at.result) ≡ Some s) (sym c.chunk-entries.ensures) here) at in
    let same : start_at 64 c.chunk_at.result + c.extent_among.result ≡ k = omega (arith, found, bounds.0) in
    sym (ap (slice_get (extents_of c.args.table.now)) (sym same) ∙ among c.args.table.now (start_at 64 c.chunk_at.result) (capacity_at 64 c.chunk_at.result) c.chunk-entries.result.now c.extent_among.result _ c.chunk-entries.ensures c.extent_among.ensures.within) ∙ e

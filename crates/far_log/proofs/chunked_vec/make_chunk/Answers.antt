use Rattle.std.proofs.Common.{◌≡◌, length, ap, ◌∙◌, arith}
use Rattle.far_log.specs.Chunking.{capacity_at, start_at}
use Rattle.far_log.proofs.ChunkingLayout.{add-chunk, joined-add}
use Rattle.far_log.proofs.chunked_vec.make_chunk.Goals as goal

pub returns-in_ok-push-clause-kept : goal.returns-in_ok-push-clause-kept
returns-in_ok-push-clause-kept g c =
    let next : c.args.chunk ≡ length c.args.chunks.now.items = omega (arith, c.if-chunk-len.true, c.len.ensures, c.args.chunks.now.ok.0) in
    rw c.in_ok-push.ensures.items (add-chunk 64 c.args.chunks.now.items c.in_ok-with_capacity.field-0 c.requires.kept (c.requires.full next ∙ ap (start_at 64) next) c.in_ok-with_capacity.ensures.items (omega (arith, c.in_ok-with_capacity.ensures.capacity, c.chunk_capacity.ensures.size, ap (capacity_at 64) next)))

pub returns-in_ok-push-clause-same : goal.returns-in_ok-push-clause-same
returns-in_ok-push-clause-same g c = rw c.in_ok-push.ensures.items (joined-add c.args.chunks.now.items c.in_ok-with_capacity.field-0 c.in_ok-with_capacity.ensures.items)

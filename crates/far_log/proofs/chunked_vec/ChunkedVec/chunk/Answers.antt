use Rattle.std.proofs.Common.{◌≡◌, ◌-◌, Some, sym, ◌∙◌, arith}
use Rattle.std.specs.Prelude.{slice_get}
use Rattle.std.proofs.lemmas.List.{take_all}
use Rattle.std.proofs.lemmas.Option.{slice_get_read}
use Rattle.far_log.specs.Chunking.{start_at}
use Rattle.far_log.proofs.ChunkingLayout.{chunk-there, cut-chunk}
use Rattle.far_log.proofs.ChunkingVecs.{index-within}
use Rattle.far_log.proofs.chunked_vec.ChunkedVec.chunk.Goals as goal

pub index-chunk-requires : goal.index-chunk-requires
index-chunk-requires g c =
    let lt = index-within c.self.inside.chunks.items c.self.inside.len c.args.self.now (start_at 64 c.args.chunk) c.self.view_is c.requires.there in
    omega (arith, chunk-there 64 c.self.inside.chunks.items c.args.chunk c.self.invariant.chunks (omega (arith, lt, c.self.invariant.within)), c.self.inside.chunks.ok.0)

pub returns-then-left-len : goal.returns-then-left-len
returns-then-left-len g c =
    let lt = index-within c.self.inside.chunks.items c.self.inside.len c.args.self.now (start_at 64 c.args.chunk) c.self.view_is c.requires.there in
    let there = chunk-there 64 c.self.inside.chunks.items c.args.chunk c.self.invariant.chunks (omega (arith, lt, c.self.invariant.within)) in
    let here : slice_get c.self.inside.chunks.items c.args.chunk ≡ Some c.index-chunk.result.now = slice_get_read c.self.inside.chunks.items _ c.args.chunk c.index-chunk.result.now c.self.inside.chunks.ok.0 (omega (arith, there, c.self.inside.chunks.ok.0)) c.index-chunk.ensures in
    rw (← c.self.view_is, c.deref.ensures.value, c.start_of.ensures.start)
    (cut-chunk 64 c.self.inside.len c.self.inside.chunks.items c.args.chunk c.index-chunk.result.now c.self.invariant.chunks here c.self.invariant.within (omega (arith, lt)))

pub returns : goal.returns
returns g c =
    let lt = index-within c.self.inside.chunks.items c.self.inside.len c.args.self.now (start_at 64 c.args.chunk) c.self.view_is c.requires.there in
    let there = chunk-there 64 c.self.inside.chunks.items c.args.chunk c.self.invariant.chunks (omega (arith, lt, c.self.invariant.within)) in
    let here : slice_get c.self.inside.chunks.items c.args.chunk ≡ Some c.index-chunk.result.now = slice_get_read c.self.inside.chunks.items _ c.args.chunk c.index-chunk.result.now c.self.inside.chunks.ok.0 (omega (arith, there, c.self.inside.chunks.ok.0)) c.index-chunk.ensures in
    let whole = take_all (c.self.inside.len - start_at 64 c.args.chunk) c.index-chunk.result.now.items (omega (arith, c.if-left-len.false, c.len.ensures, c.start_of.ensures.start, c.index-chunk.result.now.ok.0)) in
    rw (← c.self.view_is, c.deref-2.ensures.value)
    (sym whole ∙ cut-chunk 64 c.self.inside.len c.self.inside.chunks.items c.args.chunk c.index-chunk.result.now c.self.invariant.chunks here c.self.invariant.within (omega (arith, lt)))

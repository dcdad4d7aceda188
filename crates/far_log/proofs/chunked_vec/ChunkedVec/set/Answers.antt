use Rattle.std.proofs.Common.{refl, arith}
use Rattle.far_log.proofs.ChunkingVecs.{index-within, reached, chunk-is, holds, chunked-written, shown-after_write}
use Rattle.far_log.proofs.chunked_vec.ChunkedVec.set.Goals as goal

pub place_of-chunk-requires : goal.place_of-chunk-requires
place_of-chunk-requires g c =
    let lt = index-within c.self.inside.chunks.items c.self.inside.len c.args.self.now c.args.index c.self.view_is c.requires in
    omega (arith, lt, c.self.invariant.few)

pub index_mut-requires : goal.index_mut-requires
index_mut-requires g c =
    let lt = index-within c.self.inside.chunks.items c.self.inside.len c.args.self.now c.args.index c.self.view_is c.requires in
    let there = reached c.self.inside.chunks.items c.self.inside.len c.args.index _ _ c.place_of-chunk.ensures.place c.self.invariant lt in
    omega (arith, there, c.self.inside.chunks.ok.0)

pub index_mut-requires-2 : goal.index_mut-requires-2
index_mut-requires-2 g c =
    let lt = index-within c.self.inside.chunks.items c.self.inside.len c.args.self.now c.args.index c.self.view_is c.requires in
    let there = reached c.self.inside.chunks.items c.self.inside.len c.args.index _ _ c.place_of-chunk.ensures.place c.self.invariant lt in
    let here = chunk-is c.self.inside.chunks.items c.self.inside.len c.args.index _ _ c.place_of-chunk.ensures.place c.index_mut.result.now c.index_mut.ensures.value there in
    omega (arith, holds c.self.inside.chunks.items c.self.inside.len c.args.index _ _ c.place_of-chunk.ensures.place c.index_mut.result.now c.self.invariant lt here, c.index_mut.result.now.ok.0)

pub invariant_of-self : goal.invariant_of-self
invariant_of-self g c =
    let lt = index-within c.self.inside.chunks.items c.self.inside.len c.args.self.now c.args.index c.self.view_is c.requires in
    let there = reached c.self.inside.chunks.items c.self.inside.len c.args.index _ _ c.place_of-chunk.ensures.place c.self.invariant lt in
    let here = chunk-is c.self.inside.chunks.items c.self.inside.len c.args.index _ _ c.place_of-chunk.ensures.place c.index_mut.result.now c.index_mut.ensures.value there in
    chunked-written c.self.inside.chunks.items c.self.inside.len c.args.index _ _ c.place_of-chunk.ensures.place c.index_mut.result.now _ c.args.value c.self.invariant lt here refl refl

pub returns : goal.returns
returns g c =
    let lt = index-within c.self.inside.chunks.items c.self.inside.len c.args.self.now c.args.index c.self.view_is c.requires in
    let there = reached c.self.inside.chunks.items c.self.inside.len c.args.index _ _ c.place_of-chunk.ensures.place c.self.invariant lt in
    let here = chunk-is c.self.inside.chunks.items c.self.inside.len c.args.index _ _ c.place_of-chunk.ensures.place c.index_mut.result.now c.index_mut.ensures.value there in
    rw (← c.self.view_is) (shown-after_write c.self.inside.chunks.items c.self.inside.len c.args.index _ _ c.place_of-chunk.ensures.place c.index_mut.result.now _ c.args.value c.self.invariant lt here refl)

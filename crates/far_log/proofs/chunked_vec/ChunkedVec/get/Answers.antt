use Rattle.std.proofs.Common.{◌∙◌, arith}
use Rattle.std.proofs.lemmas.Option.{slice_get_read}
use Rattle.far_log.proofs.ChunkingVecs.{index-within, reached, chunk-is, holds, shown-read}
use Rattle.far_log.proofs.chunked_vec.ChunkedVec.get.Goals as goal

pub place_of-chunk-requires : goal.place_of-chunk-requires
place_of-chunk-requires g c =
    let lt = index-within c.self.inside.chunks.items c.self.inside.len c.args.self.now c.args.index c.self.view_is c.requires in
    omega (arith, lt, c.self.invariant.few)

pub index-requires : goal.index-requires
index-requires g c =
    let lt = index-within c.self.inside.chunks.items c.self.inside.len c.args.self.now c.args.index c.self.view_is c.requires in
    let there = reached c.self.inside.chunks.items c.self.inside.len c.args.index _ _ c.place_of-chunk.ensures.place c.self.invariant lt in
    omega (arith, there, c.self.inside.chunks.ok.0)

pub index-requires-2 : goal.index-requires-2
index-requires-2 g c =
    let lt = index-within c.self.inside.chunks.items c.self.inside.len c.args.self.now c.args.index c.self.view_is c.requires in
    let there = reached c.self.inside.chunks.items c.self.inside.len c.args.index _ _ c.place_of-chunk.ensures.place c.self.invariant lt in
    let here = chunk-is c.self.inside.chunks.items c.self.inside.len c.args.index _ _ c.place_of-chunk.ensures.place c.index.result.now c.index.ensures there in
    omega (arith, holds c.self.inside.chunks.items c.self.inside.len c.args.index _ _ c.place_of-chunk.ensures.place c.index.result.now c.self.invariant lt here, c.index.result.now.ok.0)

pub returns : goal.returns
returns g c =
    let lt = index-within c.self.inside.chunks.items c.self.inside.len c.args.self.now c.args.index c.self.view_is c.requires in
    let there = reached c.self.inside.chunks.items c.self.inside.len c.args.index _ _ c.place_of-chunk.ensures.place c.self.invariant lt in
    let here = chunk-is c.self.inside.chunks.items c.self.inside.len c.args.index _ _ c.place_of-chunk.ensures.place c.index.result.now c.index.ensures there in
    let within = holds c.self.inside.chunks.items c.self.inside.len c.args.index _ _ c.place_of-chunk.ensures.place c.index.result.now c.self.invariant lt here in
    rw (← c.self.view_is)
    (shown-read c.self.inside.chunks.items c.self.inside.len c.args.index _ _ c.place_of-chunk.ensures.place c.index.result.now c.self.invariant lt here
    ∙ slice_get_read c.index.result.now.items _ c.place_of-chunk.result.at c.index-2.result.now c.index.result.now.ok.0 (omega (arith, within, c.index.result.now.ok.0)) c.index-2.ensures)

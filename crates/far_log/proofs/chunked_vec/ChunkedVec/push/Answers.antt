use Rattle.std.proofs.Common.{◌≡◌, ◌≤◌, ◌++◌, ◌∷◌, [], length, take, refl, ap, ◌∙◌, arith}
use Rattle.far_log.specs.Chunking.{items_of, start_at}
use Rattle.far_log.proofs.ChunkingLayout.{next-chunk, all-full}
use Rattle.far_log.proofs.ChunkingVecs.{chunk-is, has-size, chunked-reused, shown-reused, chunked-pushed, shown-pushed, length-shown}
use Rattle.far_log.proofs.chunked_vec.ChunkedVec.push.Goals as goal
use Rattle.far_log.proofs.chunked_vec.ChunkedVec.push.Goals.{then-at-len, else-at-len}

pub place_of-chunk-requires : goal.place_of-chunk-requires
place_of-chunk-requires g c = omega (arith, c.requires, length-shown c.self.inside.chunks.items c.self.inside.len c.self.invariant, ap length c.self.view_is)

pub make_chunk-requires-clause-next : goal.make_chunk-requires-clause-next
make_chunk-requires-clause-next g c = next-chunk c.self.inside.chunks.items c.self.inside.len _ _ c.self.invariant.chunks c.self.invariant.within c.place_of-chunk.ensures.place

pub make_chunk-requires-clause-full : goal.make_chunk-requires-clause-full
make_chunk-requires-clause-full g c = λ is.
    all-full c.self.inside.chunks.items c.self.inside.len _ _ c.self.invariant.chunks c.self.invariant.within c.place_of-chunk.ensures.place is ∙ ap (start_at 64) (let e : length c.self.inside.chunks.items ≡ c.place_of-chunk.result.chunk = omega (arith, is) in e)

pub push_reserved-requires : goal.push_reserved-requires
push_reserved-requires g c =
    let here = chunk-is c.make_chunk.new.chunks.items c.self.inside.len c.self.inside.len _ _ c.place_of-chunk.ensures.place c.index_mut-chunk.result.now c.index_mut-chunk.ensures.value c.in_ok-make_chunk.ensures.there in
    let within : c.self.inside.len ≤ length (items_of c.make_chunk.new.chunks.items) = omega (arith, ap length c.in_ok-make_chunk.ensures.same, c.self.invariant.within) in
    let few = length-shown c.self.inside.chunks.items c.self.inside.len c.self.invariant in
    let size = has-size c.make_chunk.new.chunks.items c.self.inside.len c.self.inside.len _ _ c.place_of-chunk.ensures.place c.index_mut-chunk.result.now c.index_mut-chunk.result.now c.args.value c.in_ok-make_chunk.ensures.kept refl within (omega (arith, c.requires, few, ap length c.self.view_is)) here (omega (arith, c.if-at-len.false, c.len.ensures, c.index_mut-chunk.result.now.ok.0)) in
    omega (arith, size, c.index_mut-chunk.result.now.ok.0)

pub invariant_of-self-2 : goal.invariant_of-self-2
invariant_of-self-2 g c =
    let here = chunk-is c.make_chunk.new.chunks.items c.self.inside.len c.self.inside.len _ _ c.place_of-chunk.ensures.place c.index_mut-chunk.result.now c.index_mut-chunk.ensures.value c.in_ok-make_chunk.ensures.there in
    let within : c.self.inside.len ≤ length (items_of c.make_chunk.new.chunks.items) = omega (arith, ap length c.in_ok-make_chunk.ensures.same, c.self.invariant.within) in
    let few = length-shown c.self.inside.chunks.items c.self.inside.len c.self.invariant in
    elim c.if-at-len.branch [
      | then-at-len w ↦ rw w.self-inside-is (chunked-reused c.make_chunk.new.chunks.items c.self.inside.len c.self.inside.len _ _ c.place_of-chunk.ensures.place c.index_mut-chunk.result.now _ c.args.value c.in_ok-make_chunk.ensures.kept refl (omega (arith, c.requires, few, ap length c.self.view_is)) here (omega (arith, w.if-at-len.true, c.len.ensures, c.index_mut-chunk.result.now.ok.0)) refl refl)
      | else-at-len w ↦ rw w.self-inside-is (chunked-pushed c.make_chunk.new.chunks.items c.self.inside.len c.self.inside.len _ _ c.place_of-chunk.ensures.place c.index_mut-chunk.result.now w.push_reserved.new.self c.args.value c.in_ok-make_chunk.ensures.kept refl within (omega (arith, c.requires, few, ap length c.self.view_is)) here (omega (arith, w.if-at-len.false, c.len.ensures, c.index_mut-chunk.result.now.ok.0)) w.push_reserved.ensures.items w.push_reserved.ensures.capacity)
    ]

pub returns-clause-pushed : goal.returns-clause-pushed
returns-clause-pushed g c =
    let here = chunk-is c.make_chunk.new.chunks.items c.self.inside.len c.self.inside.len _ _ c.place_of-chunk.ensures.place c.index_mut-chunk.result.now c.index_mut-chunk.ensures.value c.in_ok-make_chunk.ensures.there in
    let within : c.self.inside.len ≤ length (items_of c.make_chunk.new.chunks.items) = omega (arith, ap length c.in_ok-make_chunk.ensures.same, c.self.invariant.within) in
    let few = length-shown c.self.inside.chunks.items c.self.inside.len c.self.invariant in
    let was : take c.self.inside.len (items_of c.make_chunk.new.chunks.items) ≡ c.args.self.now = ap (take c.self.inside.len) c.in_ok-make_chunk.ensures.same ∙ c.self.view_is in
    elim c.if-at-len.branch [
      | then-at-len w ↦ rw w.self-inside-is (shown-reused c.make_chunk.new.chunks.items c.self.inside.len c.self.inside.len _ _ c.place_of-chunk.ensures.place c.index_mut-chunk.result.now _ c.args.value c.in_ok-make_chunk.ensures.kept refl (omega (arith, c.requires, few, ap length c.self.view_is)) here (omega (arith, w.if-at-len.true, c.len.ensures, c.index_mut-chunk.result.now.ok.0)) refl refl ∙ ap (λ xs. xs ++ c.args.value ∷ []) was)
      | else-at-len w ↦ rw w.self-inside-is (shown-pushed c.make_chunk.new.chunks.items c.self.inside.len c.self.inside.len _ _ c.place_of-chunk.ensures.place c.index_mut-chunk.result.now w.push_reserved.new.self c.args.value c.in_ok-make_chunk.ensures.kept refl within (omega (arith, c.requires, few, ap length c.self.view_is)) here (omega (arith, w.if-at-len.false, c.len.ensures, c.index_mut-chunk.result.now.ok.0)) w.push_reserved.ensures.items w.push_reserved.ensures.capacity ∙ ap (λ xs. xs ++ c.args.value ∷ []) was)
    ]

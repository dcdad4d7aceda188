use Rattle.std.proofs.Common.{◌+◌, ◌-◌, refl, arith}
use Rattle.far_log.proofs.ChunkingLayout.{top-above, top-below, place-at, start-size}
use Rattle.far_log.proofs.chunked_vec.place_of.Goals as goal

pub overflow_sub-chunk : goal.overflow_sub-chunk
overflow_sub-chunk c = top-above (c.args.index + 64) c.ilog2.result c.ilog2.ensures.power_le c.ilog2.ensures.next_power_gt (omega arith)

pub chunk_capacity-requires : goal.chunk_capacity-requires
chunk_capacity-requires c = let below = top-below (c.args.index + 64) c.ilog2.result c.ilog2.ensures.power_le c.ilog2.ensures.next_power_gt (omega (arith, c.requires)) in omega (arith, below)

pub overflow_sub-result : goal.overflow_sub-result
overflow_sub-result c =
    let place = place-at (c.args.index + 64) c.ilog2.result c.ilog2.ensures.power_le c.ilog2.ensures.next_power_gt c.args.index refl in
    omega (arith, place.index_is, start-size 64 (c.ilog2.result - 6), c.chunk_capacity.ensures.size)

pub returns-clause-place : goal.returns-clause-place
returns-clause-place c =
    let place = place-at (c.args.index + 64) c.ilog2.result c.ilog2.ensures.power_le c.ilog2.ensures.next_power_gt c.args.index refl in
    record {
      index_is = omega (arith, place.index_is, c.chunk_capacity.ensures.size, start-size 64 (c.ilog2.result - 6));
      within = omega (arith, place.within, place.index_is, c.chunk_capacity.ensures.size, start-size 64 (c.ilog2.result - 6));
    }

pub returns-clause-few : goal.returns-clause-few
returns-clause-few c = let below = top-below (c.args.index + 64) c.ilog2.result c.ilog2.ensures.power_le c.ilog2.ensures.next_power_gt (omega (arith, c.requires)) in omega (arith, below)

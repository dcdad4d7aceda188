use Rattle.std.proofs.Common.{◌^◌, ◌≤◌, arith, pow_mono, pow-add}
use Rattle.far_log.proofs.ChunkingLayout.{size-64, start-size}
use Rattle.far_log.proofs.chunked_vec.chunk_capacity.Goals as goal

pub returns-clause-size : goal.returns-clause-size
returns-clause-size c =
    let small : 2 ^ c.args.chunk ≤ 67108864 = pow_mono c.requires in
    omega (arith, small, size-64 c.args.chunk, pow-add 2 6 c.args.chunk)

pub returns-clause-start : goal.returns-clause-start
returns-clause-start c =
    let small : 2 ^ c.args.chunk ≤ 67108864 = pow_mono c.requires in
    omega (arith, small, size-64 c.args.chunk, pow-add 2 6 c.args.chunk, start-size 64 c.args.chunk)

pub returns-clause-small : goal.returns-clause-small
returns-clause-small c =
    let small : 2 ^ c.args.chunk ≤ 67108864 = pow_mono c.requires in
    omega (arith, small)

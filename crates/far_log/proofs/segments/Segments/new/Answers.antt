use Rattle.std.proofs.Common.{◌≡◌, arith}
use Rattle.far_log.proofs.StorageSegments.{states-none, kept-none}
use Rattle.far_log.proofs.segments.Segments.new.Goals as goal

pub invariant_of-result : goal.invariant_of-result
invariant_of-result g c =
    let count : c.loop.counter ≡ c.args.count = omega (arith, c.loop.auto.counter-end) in
    rw (c.in_ok-stacks.ensures.empty, c.loop.invariant, count) (kept-none g.row.T.Denot c.args.size c.args.count (omega arith))

pub returns : goal.returns
returns g c =
    let count : c.loop.counter ≡ c.args.count = omega (arith, c.loop.auto.counter-end) in
    rw (c.in_ok-stacks.ensures.empty, c.loop.invariant, count) record { empty = states-none c.args.size c.args.count; memory = tt }

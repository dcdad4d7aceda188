use Rattle.std.proofs.Common.{arith}
use Rattle.far_extrema.proofs.NumbersLaws.{put_place}
use Rattle.far_extrema.proofs.dense.put.Goals as goal

pub returns-clause-ok : goal.returns-clause-ok
returns-clause-ok c = put_place c.args.dense.now.items c.grow.new.dense.items c.args.place c.args.holder c.grow.ensures.same (omega (arith, c.in_ok-grow.ensures.len))

use Rattle.std.proofs.Common.{arith}
use Rattle.far_columns.proofs.RefusingLaws.{within-checked}
use Rattle.far_columns.proofs.vector.FarVector.may_write_part.Goals as goal

pub position-requires-clause-within : goal.position-requires-clause-within
position-requires-clause-within g c κs within =
    let there = within-checked c.args.self.now c.args.from c.args.to c.in_ok-check_part.ensures.refused in
    omega (arith, there.0, there.1, c.if-from-to.false, c.check_part.ensures.shaped.enough)

use Rattle.std.proofs.Common.{arith}
use Rattle.far_log.proofs.segments.Segments.compact.Goals as goal

pub clear-requires : goal.clear-requires
clear-requires g c = omega (arith, c.requires.from, c.gather.ensures.count)

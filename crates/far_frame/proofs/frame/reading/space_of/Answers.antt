use Rattle.std.proofs.Common.{arith}
use Rattle.far_frame.proofs.ObjectsLaws.{space-within}
use Rattle.far_frame.proofs.frame.reading.space_of.Goals as goal

pub overflow_sub-result : goal.overflow_sub-result
overflow_sub-result g c = omega (arith, c.space-free.ensures, c.capacity.ensures, space-within c.args.objects.now.memory.state)

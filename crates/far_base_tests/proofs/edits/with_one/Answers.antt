use Rattle.std.proofs.Common.{refl, []}
use Rattle.far_base_tests.proofs.edits.with_one.Goals as goal

pub returns : goal.returns
returns c = c.in_ok-register.ensures.kept [] refl (c.new-aggregates.ensures.kept 4 [])

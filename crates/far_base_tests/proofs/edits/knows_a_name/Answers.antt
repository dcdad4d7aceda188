use Rattle.std.proofs.Common.{refl, arith, []}
use Rattle.far_base_tests.proofs.edits.knows_a_name.Goals as goal

pub append-requires-clause-kept : goal.append-requires-clause-kept
append-requires-clause-kept c = ([], refl, record { kept = c.requires; few = omega arith; fit = tt })

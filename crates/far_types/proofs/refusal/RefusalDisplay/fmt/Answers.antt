use Rattle.std.proofs.Common.{append_assoc}
use Rattle.std.proofs.Output.{has_written_of_eq}
use Rattle.far_types.proofs.refusal.RefusalDisplay.fmt.Goals as goal

pub returns-in-Absent-clause-writes : goal.returns-in-Absent-clause-writes
returns-in-Absent-clause-writes g c =
    rw c.in-Absent.is (λ plain ok. has_written_of_eq _ _ _ _ _ (simp append_assoc) (c.write-in-Absent.ensures.writes plain ok))

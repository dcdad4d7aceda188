use Rattle.std.proofs.Common.{◌≡◌}
use Rattle.far_scopes.proofs.RenewalWords.{renewed_before}
use Rattle.far_scopes.proofs.memory.LocalMemory.forget_copies.Given as goal

abbrev pub invariant-loop-word : goal.invariant-loop-word
invariant-loop-word g l = l.word-items ≡ renewed_before l.fn.self.words l.word-index

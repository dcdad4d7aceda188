use Rattle.std.proofs.Common.{length}
use Rattle.far_scopes.proofs.memory.LocalMemory.+replace_all.Given as goal

abbrev pub decreases-replace_all : goal.decreases-replace_all
decreases-replace_all g l = length l.lists.now

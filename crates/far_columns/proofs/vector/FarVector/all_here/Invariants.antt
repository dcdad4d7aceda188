use Rattle.std.proofs.Common.{◌≡◌, drop}
use Rattle.far_scopes.specs.Refusing.{first_absent}
use Rattle.far_columns.proofs.vector.FarVector.all_here.Given as goal

abbrev pub invariant-loop-o : goal.invariant-loop-o
invariant-loop-o g l = first_absent l.objects (drop l.o-index l.o-items) ≡ first_absent l.objects l.o-items

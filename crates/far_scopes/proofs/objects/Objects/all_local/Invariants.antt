use Rattle.std.proofs.Common.{◌≡◌}
use Rattle.std.specs.Prelude.{drop}
use Rattle.far_scopes.specs.Refusing.{first_absent}
use Rattle.far_scopes.proofs.objects.Objects.all_local.Given as goal

abbrev pub invariant-loop-o : goal.invariant-loop-o
invariant-loop-o g l = first_absent l.self l.objects ≡ first_absent l.self (drop l.o-index l.objects)

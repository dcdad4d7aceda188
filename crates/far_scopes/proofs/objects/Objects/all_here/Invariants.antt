use Rattle.std.proofs.Common.{◌≡◌, map}
use Rattle.std.specs.Prelude.{drop}
use Rattle.far_scopes.specs.Refusing.{first_absent}
use Rattle.far_scopes.proofs.objects.Objects.all_here.Given as goal

abbrev pub invariant-loop-replacement : goal.invariant-loop-replacement
invariant-loop-replacement g l = first_absent l.self (map (λ r. r.object) l.lists) ≡ first_absent l.self (map (λ r. r.object) (drop l.replacement-index l.lists))

use Rattle.std.proofs.Common.{◌≡◌}
use Rattle.std.specs.Prelude.{drop}
use Rattle.far_scopes.specs.Refusing.{any_written_out}
use Rattle.far_scopes.proofs.objects.Objects.all_writable.Given as goal

abbrev pub invariant-loop-replacement : goal.invariant-loop-replacement
invariant-loop-replacement g l = (any_written_out l.self l.lists).0 ≡ (any_written_out l.self (drop l.replacement-index l.lists)).0

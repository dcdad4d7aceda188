use Rattle.std.proofs.Common.{◌≡◌}
use Rattle.std.specs.Prelude.{drop}
use Rattle.far_scopes.specs.Effects.{with_lens}
use Rattle.far_scopes.proofs.objects.replacing.set_lens.Given as goal

abbrev pub invariant-loop-replacement : goal.invariant-loop-replacement
invariant-loop-replacement g l = with_lens l.fn.records l.lists ≡ with_lens l.records (drop l.replacement-index l.lists)

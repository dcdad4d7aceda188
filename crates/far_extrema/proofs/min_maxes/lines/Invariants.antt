use Rattle.std.proofs.Common.{◌≡◌, ◌++◌, map, Option}
use Rattle.std.specs.Prelude.{ℤ}
use Rattle.far_types.specs.declared.key.Key.{Key}
use Rattle.far_extrema.proofs.min_maxes.lines.Given as goal

abbrev pub invariant-loop-key : goal.invariant-loop-key
invariant-loop-key l =
    l.lines.items ++ map (λ (entry : Option Key × (ℤ × ℤ)). (entry.0, entry.1.0, entry.1.1)) l.key-iterator ≡ map (λ (entry : Option Key × (ℤ × ℤ)). (entry.0, entry.1.0, entry.1.1)) l.fn.min_maxes.entries

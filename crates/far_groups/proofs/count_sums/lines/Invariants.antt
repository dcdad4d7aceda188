use Rattle.std.proofs.Common.{◌≡◌, ◌++◌, map, ℕ, Option}
use Rattle.std.specs.Prelude.{ℤ}
use Rattle.far_types.specs.declared.key.Key.{Key}
use Rattle.far_groups.proofs.count_sums.lines.Given as goal

abbrev pub invariant-loop-key : goal.invariant-loop-key
invariant-loop-key l =
    l.lines.items ++ map (λ (entry : Option Key × (ℕ × ℤ)). (entry.0, entry.1.0, entry.1.1)) l.key-iterator ≡ map (λ (entry : Option Key × (ℕ × ℤ)). (entry.0, entry.1.0, entry.1.1)) l.fn.count_sums.entries

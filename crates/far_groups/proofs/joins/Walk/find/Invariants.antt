use Rattle.std.proofs.Common.{◌≡◌, length, Option}
use Rattle.std.specs.List.Sorted.{IsStrictlySortedBy}
use Rattle.std.specs.Map.{keys_of}
use Rattle.std.specs.declared.cmp.Ordering.TheVariants.{Less}
use Rattle.far_types.specs.declared.key.Key.{Key}
use Rattle.far_types.specs.Keys.{line_cmp}
use Rattle.far_groups.specs.Walks.{ahead, count_sum_at}
use Rattle.far_groups.proofs.joins.Walk.find.Given as goal

abbrev pub invariant-loop-self : goal.invariant-loop-self
invariant-loop-self l = record {
  ascending : IsStrictlySortedBy line_cmp (keys_of (ahead l.self-inside.next l.self-inside.rest));
  found : count_sum_at (ahead l.self-inside.next l.self-inside.rest) l.key ≡ count_sum_at l.fn.self l.key;
  rest : (above : Option Key) → line_cmp l.key above ≡ Less → count_sum_at (ahead l.self-inside.next l.self-inside.rest) above ≡ count_sum_at l.fn.self above;
}

abbrev pub decreases-loop-self : goal.decreases-loop-self
decreases-loop-self l = length (ahead l.self-inside.next l.self-inside.rest)

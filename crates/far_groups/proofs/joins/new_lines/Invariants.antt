use Rattle.std.proofs.Common.{◌≡◌, ◌++◌}
use Rattle.far_groups.specs.Walks.{new_lines}
use Rattle.far_groups.proofs.WalksLaws.{Ascend, Finds}
use Rattle.far_groups.proofs.joins.new_lines.Given as goal

abbrev pub invariant-loop-key : goal.invariant-loop-key
invariant-loop-key l = record {
  ascending : Ascend l.key-iterator;
  finds : Finds l.walk l.fn.count_sums.entries l.key-iterator;
  rest : l.lines.items ++ new_lines l.fn.count_sums.entries l.key-iterator ≡ new_lines l.fn.count_sums.entries l.fn.other.entries;
}

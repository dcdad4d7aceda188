use Rattle.std.proofs.Common.{◌≡◌, ◌≤◌, take}
use Rattle.far_types.specs.Table.{left}
use Rattle.far_aggregates.proofs.pending_groups.count_set.Given as goal

abbrev pub invariant-loop-flag : goal.invariant-loop-flag
invariant-loop-flag l = record {
  count : l.count ≡ left (take l.flag-index l.flags);
  few : l.count ≤ l.flag-index;
}

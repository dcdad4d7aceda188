use Rattle.std.proofs.Common.{◌≡◌, drop}
use Rattle.far_aggregates.specs.Aggregates.{free_from}
use Rattle.far_table.specs.Watching.{lowest_free}
use Rattle.far_shared.proofs.stripe.registering.free_number.Given as goal

abbrev pub invariant-loop-a : goal.invariant-loop-a
invariant-loop-a g l = free_from l.a (drop l.a l.frame.table.aggregates) ≡ lowest_free l.frame.table

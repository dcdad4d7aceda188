use Rattle.std.proofs.Common.{sym, arith}
use Rattle.far_aggregates.proofs.PendingFirst.{first-set, none-set}
use Rattle.far_aggregates.proofs.pending_groups.first_set.Goals as goal

pub returns-then-flags-i-clause-exact : goal.returns-then-flags-i-clause-exact
returns-then-flags-i-clause-exact c = sym (first-set c.args.flags.now c.loop-i.i c.loop-i-test.true c.loop-i.invariant c.if-flags-i.true)

pub returns-clause-exact : goal.returns-clause-exact
returns-clause-exact c = sym (none-set c.args.flags.now (λ k below. c.loop-i.invariant k (omega (arith, below, c.loop-i-test.false))))

use Rattle.std.proofs.Common.{sym, subst}
use Rattle.far_aggregates.specs.Accumulators.{Keeps}
use Rattle.far_aggregates.proofs.aggregates.Aggregates.forget.Goals as goal

pub returns-clause-kept : goal.returns-clause-kept
returns-clause-kept c = λ size places h. c.forget.ensures.kept size places (subst (Keeps size places) (sym c.self.view_is) h)

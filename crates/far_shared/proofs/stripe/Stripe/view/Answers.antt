use Rattle.std.proofs.Common.{sym, ap, subst}
use Rattle.far_types.specs.Table.{Table}
use Rattle.far_table.specs.State.{LiveState}
use Rattle.far_shared.specs.Stripes.{IsStripe}
use Rattle.far_shared.proofs.stripe.Stripe.view.Goals as goal

pub returns-clause-same : goal.returns-clause-same
returns-clause-same g c = rw (← c.self.view_is) c.scope.ensures

pub returns-clause-left : goal.returns-clause-left
returns-clause-left g c =
    let s = c.self.inside in record {
      log = s.keeper;
      legal = c.known.ensures.legal;
      stripe = subst (λ (table : Table). IsStripe g.N.PlanTag.plan s.keeper table) (sym (ap (λ (x : LiveState g.row.S-Ticket.Denot). x.table) c.scope.ensures)) c.self.invariant.0;
    }

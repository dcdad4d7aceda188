use Rattle.std.proofs.Common.{ap}
use Rattle.far_shared.specs.Stripes.{StripeState}
use Rattle.far_shared.proofs.stripe.Stripe.into_parts.Goals as goal

pub returns-clause-table : goal.returns-clause-table
returns-clause-table g c = ap (λ (h : StripeState g.row.S-Ticket.Denot). h.state) c.self.view_is

pub returns-clause-history : goal.returns-clause-history
returns-clause-history g c = ap (λ (h : StripeState g.row.S-Ticket.Denot). h.log) c.self.view_is

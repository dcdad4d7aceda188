use Rattle.far_shared.proofs.stripe.Stripe.begin.Goals as goal

pub returns-clause-begins : goal.returns-clause-begins
returns-clause-begins g c = rw (← c.self.view_is) c.begin_on.ensures.begun

pub returns-clause-why : goal.returns-clause-why
returns-clause-why g c = rw (← c.self.view_is) c.begin_on.ensures.refused

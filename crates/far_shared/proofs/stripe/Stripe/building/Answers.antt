use Rattle.far_shared.proofs.stripe.Stripe.building.Goals as goal

pub returns-clause-begins : goal.returns-clause-begins
returns-clause-begins g c = rw (← c.self.view_is) c.building_on.ensures.begun

pub returns-clause-why : goal.returns-clause-why
returns-clause-why g c = rw (← c.self.view_is) c.building_on.ensures.refused

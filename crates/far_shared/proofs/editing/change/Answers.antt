use Rattle.far_shared.proofs.editing.change.Goals as goal

pub returns-clause-changed : goal.returns-clause-changed
returns-clause-changed g c = record { made = c.in_ok-place.ensures.made; place = c.in_ok-place.ensures.place; after = c.gauged-after.ensures }

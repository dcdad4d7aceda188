use Rattle.far_aggregates.proofs.registrations.register.Goals as goal

pub returns-clause-kept : goal.returns-clause-kept
returns-clause-kept c = λ all count kept. c.put.ensures.kept c.args.size all kept (c.in_ok-aggregate.ensures.kept all count)

use Rattle.far_commands.proofs.opening.open_table.Goals as goal

pub new-requires-2-clause-here : goal.new-requires-2-clause-here
new-requires-2-clause-here g c κs within = c.in_ok-frame.ensures.here (g.S.FarTickets.store_id c.args.store)

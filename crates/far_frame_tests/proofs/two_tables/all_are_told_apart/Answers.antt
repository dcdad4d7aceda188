use Rattle.far_frame_tests.proofs.two_tables.all_are_told_apart.Goals as goal

pub is_told_apart-goes-requires-clause-own : goal.is_told_apart-goes-requires-clause-own
is_told_apart-goes-requires-clause-own g c κs within = c.fill.ensures (g.S.FarTickets.store_id c.args.store.now) c.requires.own

pub is_told_apart-goes-requires-clause-other : goal.is_told_apart-goes-requires-clause-other
is_told_apart-goes-requires-clause-other g c κs within = c.fill-2.ensures (g.S.FarTickets.store_id c.args.store.now) c.requires.other

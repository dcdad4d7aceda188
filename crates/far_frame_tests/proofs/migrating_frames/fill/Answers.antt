use Rattle.far_frame_tests.proofs.migrating_frames.fill.Goals as goal

pub send_away-requires-clause-here : goal.send_away-requires-clause-here
send_away-requires-clause-here g c κs within =
    let id = g.S.FarTickets.store_id c.args.store.now in
    c.insert_rows-inserted.ensures id (c.watch_totals-watched.ensures id c.requires.here)

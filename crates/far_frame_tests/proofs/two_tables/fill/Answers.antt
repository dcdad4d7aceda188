use Rattle.far_frame_tests.proofs.two_tables.fill.Goals as goal

pub returns : goal.returns
returns g c name at = c.watch_totals.ensures name (c.insert-inserted.ensures name at)

use Rattle.far_sessions.specs.Cells.{four}
use Rattle.far_shell.proofs.sessions.named.Given as goal

abbrev pub ghosts-opened-B-CellsTag : goal.ghosts-opened-B-CellsTag
ghosts-opened-B-CellsTag g a = record { cells = four a.made.zeroth a.made.first a.made.second a.made.third }

abbrev pub ghosts-opened-B-TableTag : goal.ghosts-opened-B-TableTag
ghosts-opened-B-TableTag g a = record { store = g.S.FarTickets.store_id a.store.now }

use Rattle.far_shell.proofs.sessions.run_sessions.Given as goal

abbrev pub ghosts-planned : goal.ghosts-planned
ghosts-planned g a = record { plan = a.plan }

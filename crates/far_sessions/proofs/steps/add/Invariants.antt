use Rattle.far_sessions.proofs.steps.add.Given as goal

abbrev pub ghosts-add_named : goal.ghosts-add_named
ghosts-add_named g a = record { edit = a.edit.value }

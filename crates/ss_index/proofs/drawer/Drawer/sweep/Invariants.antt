use Rattle.ss_index.proofs.drawer.Drawer.sweep.Given as goal

abbrev pub ghosts-sweep_counting : goal.ghosts-sweep_counting
ghosts-sweep_counting a = record { name = a.blank.name; parts = a.blank.parts }

use Rattle.ss_account.proofs.telling.page_of.Given as goal

abbrev pub ghosts-page_counting : goal.ghosts-page_counting
ghosts-page_counting a = record { name = a.blank.name; parts = a.blank.parts }

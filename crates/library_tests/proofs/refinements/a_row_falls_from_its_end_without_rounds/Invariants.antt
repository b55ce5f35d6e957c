use Rattle.library_tests.proofs.refinements.a_row_falls_from_its_end_without_rounds.Given as goal

abbrev pub ghosts-asked_by_row : goal.ghosts-asked_by_row
ghosts-asked_by_row g a = record { name = a.blank.name; parts = a.blank.parts }

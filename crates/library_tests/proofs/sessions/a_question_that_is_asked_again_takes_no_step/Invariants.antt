use Rattle.library_tests.proofs.sessions.a_question_that_is_asked_again_takes_no_step.Given as goal

abbrev pub ghosts-stays_no : goal.ghosts-stays_no
ghosts-stays_no g a = record { name = a.blank.name; parts = a.blank.parts }

use Rattle.library_tests.proofs.sessions.answers_follow_the_edits.Given as goal

abbrev pub ghosts-follows_edits : goal.ghosts-follows_edits
ghosts-follows_edits g a = record { name = a.blank.name; parts = a.blank.parts }

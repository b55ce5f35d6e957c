use Rattle.library_tests.proofs.counts.a_counter_is_made_of_a_fresh_blank.Given as goal

abbrev pub ghosts-count_two : goal.ghosts-count_two
ghosts-count_two a = record { name = a.blank.name; parts = a.blank.parts }

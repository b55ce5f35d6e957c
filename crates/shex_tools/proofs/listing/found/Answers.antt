use Rattle.shex_tools.proofs.listing.found.Goals as goal

pub returns-in-Ok-clause-of_terms : goal.returns-in-Ok-clause-of_terms
returns-in-Ok-clause-of_terms c = c.in-Ok.ensures.of_table c.requires.of_table

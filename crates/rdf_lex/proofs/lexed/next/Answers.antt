use Rattle.rdf_lex.proofs.Nexts.{lexes}
use Rattle.rdf_lex.proofs.lexed.next.Goals as goal

pub returns-clause-longest : goal.returns-clause-longest
returns-clause-longest c = lexes _ _ _ _ c.utf8.source c.requires c.scanned.ensures

use Rattle.rdf_terms.proofs.TermReading.{owned_result}
use Rattle.rdf_terms.proofs.reader.owned.Goals as goal

pub returns : goal.returns
returns c = owned_result c.args.text.now c.from_str.result c.utf8.text c.from_str.ensures

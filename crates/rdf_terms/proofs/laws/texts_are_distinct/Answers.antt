use Rattle.rdf_terms.proofs.DistinctTexts.{texts_distinct}
use Rattle.rdf_terms.proofs.laws.texts_are_distinct.Goals as goal

pub returns : goal.returns
returns c = texts_distinct

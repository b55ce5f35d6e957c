use Rattle.rdf_terms.proofs.TermReading.{iri_read}
use Rattle.rdf_terms.proofs.reader.read_iri.Goals as goal

pub returns-in_ok-owned-in-Some : goal.returns-in_ok-owned-in-Some
returns-in_ok-owned-in-Some c = iri_read c.args.text.now c.in-Some.iri.now c.in_ok-owned-in-Some.field-0 c.in-Some.ensures c.in_ok-owned-in-Some.ensures

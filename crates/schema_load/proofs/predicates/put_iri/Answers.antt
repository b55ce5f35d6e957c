use Rattle.std.proofs.Common.{inr, refl, ap, ◌∙◌, Err}
use Rattle.rdf_terms.specs.declared.terms.Term.TheVariants.{Iri}
use Rattle.schema_load.proofs.Putting.{added_one, over_iri}
use Rattle.schema_load.proofs.predicates.put_iri.Goals as goal

pub returns-in-Ok-clause-added : goal.returns-in-Ok-clause-added
returns-in-Ok-clause-added c = added_one c.args.terms.now c.put.new.self (Iri c.in_ok-copy.copy) (Iri c.args.iri.now) (ap Iri c.in_ok-copy.ensures) c.in-Ok.ensures.added

pub returns-in-Err-Full-clause-refused : goal.returns-in-Err-Full-clause-refused
returns-in-Err-Full-clause-refused c =
    let full = c.put.ensures.full.0 (c.in-Err-Full.is ∙ ap Err c.in-Err-Full.field-0-is) in
    inr (refl, over_iri c.args.terms.now (Iri c.in_ok-copy.copy) (Iri c.args.iri.now) (ap Iri c.in_ok-copy.ensures) full.0 full.1)

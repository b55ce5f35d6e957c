use Rattle.std.proofs.Common.{◌≤◌, map, subst}
use Rattle.rdf_terms.specs.Tables.{max_terms}
use Rattle.schema_documents.specs.Tree.{document_of}
use Rattle.shex_inputs.proofs.Reading.{is_schema, load_stops, strata_stops}
use Rattle.shex_inputs.proofs.schema.load_schema.Goals as goal

pub returns-in-Err-clause-stops : goal.returns-in-Err-clause-stops
returns-in-Err-clause-stops c =
    load_stops (map document_of c.args.documents.docs.items) c.new-terms.result c.in-Err.error c.load_error.result c.new-terms.ensures c.in-Err.ensures.refused c.load_error.ensures

pub returns-in-Err-strata-clause-stops : goal.returns-in-Err-strata-clause-stops
returns-in-Err-strata-clause-stops c =
    strata_stops (map document_of c.args.documents.docs.items) c.new-terms.result c.load-loaded.new.terms c.in-Ok.schema c.in-Err-strata.error c.strata_error.result c.new-terms.ensures c.in-Ok.ensures.added c.in-Ok.ensures.stands c.in-Err-strata.ensures.cycle c.strata_error.ensures

pub returns-clause-schema : goal.returns-clause-schema
returns-clause-schema c =
    is_schema (map document_of c.args.documents.docs.items) c.new-terms.result c.load-loaded.new.terms c.in-Ok.schema c.in-Ok-strata.strata c.new-terms.ensures c.in-Ok.ensures.added (subst (λ n. n ≤ max_terms) c.len-count.ensures.count c.len-count.ensures.few) c.in-Ok.ensures.stands c.in-Ok-strata.ensures.strata

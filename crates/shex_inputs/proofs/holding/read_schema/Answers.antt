use Rattle.std.proofs.Common.{map}
use Rattle.std.proofs.lemmas.Result.{err_from_is_err_and}
use Rattle.schema_documents.specs.Tree.{document_of}
use Rattle.shex_inputs.specs.Named.{inputs_with}
use Rattle.shex_inputs.proofs.Reading.{loaded_taken, unloaded_before_map, unloaded_explains, unloaded_faults, unloaded_of_schema}
use Rattle.shex_inputs.proofs.holding.read_schema.Goals as goal

pub returns-in_err-documents-clause-cause : goal.returns-in_err-documents-clause-cause
returns-in_err-documents-clause-cause g c = λ map_name.
    let p = err_from_is_err_and c.from_residual.result c.from_residual.ensures.1 in
    rw (p.1, p.2) (c.in_err-documents.ensures.cause map_name)

pub returns-in_err-documents-clause-faults : goal.returns-in_err-documents-clause-faults
returns-in_err-documents-clause-faults g c = λ map_name.
    let p = err_from_is_err_and c.from_residual.result c.from_residual.ensures.1 in
    rw (p.1, p.2) (c.in_err-documents.ensures.faults map_name)

pub returns-clause-taken : goal.returns-clause-taken
returns-clause-taken g c = λ map_name.
    let (ss, are, held) = c.in_ok-documents.ensures.taken map_name in
    loaded_taken (g.F.Files.told c.args.files.now)
    (inputs_with c.args.inputs.now map_name) c.in_ok-documents.documents ss c.load_schema.result are held c.load_schema.ensures.schema c.load_schema.ensures.labels c.load_schema.ensures.digests

pub returns-clause-of_schema : goal.returns-clause-of_schema
returns-clause-of_schema g c = unloaded_of_schema (map document_of c.in_ok-documents.documents.docs.items) c.load_schema.result c.load_schema.ensures.stops

pub returns-clause-before_map : goal.returns-clause-before_map
returns-clause-before_map g c = unloaded_before_map (map document_of c.in_ok-documents.documents.docs.items) c.load_schema.result c.load_schema.ensures.stops

pub returns-clause-cause : goal.returns-clause-cause
returns-clause-cause g c = λ map_name.
    let (ss, are, held) = c.in_ok-documents.ensures.taken map_name in
    unloaded_explains (g.F.Files.told c.args.files.now) (inputs_with c.args.inputs.now map_name) c.in_ok-documents.documents ss c.load_schema.result are held c.load_schema.ensures.stops

pub returns-clause-faults : goal.returns-clause-faults
returns-clause-faults g c = λ map_name. unloaded_faults (inputs_with c.args.inputs.now map_name)
    (map document_of c.in_ok-documents.documents.docs.items) _ _ _ _ c.load_schema.result c.load_schema.ensures.stops c.in_ok-documents.ensures.faults_stay

use Rattle.std.proofs.Common.{rules}
use Rattle.serde_json.specs.View.{view}
use Rattle.shexj_reader.specs.DocumentFaults.{DocumentFault, SchemaFault}
use Rattle.shexj_reader.proofs.Causes.{handed}
use Rattle.shexj_reader.proofs.documents.read_document.Goals as goal

pub returns-clause-cause : goal.returns-clause-cause
returns-clause-cause c =
    let d = view c.args.value.now in
    handed (λ f. SchemaFault f d) (λ f. DocumentFault f d) c.read_schema.result (λ f h. DocumentFault.bad_schema (search rules) h) c.read_schema.ensures.cause

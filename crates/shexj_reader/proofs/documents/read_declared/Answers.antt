use Rattle.serde_json.specs.View.{view}
use Rattle.shexj_reader.specs.DocumentFaults.{IsAbstract, ShapeDeclFault}
use Rattle.shexj_reader.proofs.Causes.{made}
use Rattle.shexj_reader.proofs.documents.read_declared.Goals as goal

pub returns-clause-cause : goal.returns-clause-cause
returns-clause-cause c =
    let d = view c.args.value.now in
    made (λ f. IsAbstract f d) (λ f. ShapeDeclFault f d) _ c.only_concrete.result c.map.result c.map.ensures.cases (λ f h. ShapeDeclFault.not_concrete h) c.only_concrete.ensures.cause

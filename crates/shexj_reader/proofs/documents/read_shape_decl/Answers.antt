use Rattle.serde_json.specs.View.{view}
use Rattle.shexj_reader.specs.DocumentFaults.{DeclarationFault, ShapeDeclFault}
use Rattle.shexj_reader.proofs.Causes.{made}
use Rattle.shexj_reader.proofs.documents.read_shape_decl.Goals as goal

pub returns-clause-cause : goal.returns-clause-cause
returns-clause-cause c =
    let d = view c.args.value.now in
    made (λ f. ShapeDeclFault f d) (λ f. DeclarationFault f d) _ c.read_declared.result c.map.result c.map.ensures.cases (λ f h. DeclarationFault.in_decl c.requires h) c.read_declared.ensures.cause

use Rattle.std.proofs.Common.{codes}
use Rattle.serde_json.specs.View.{view}
use Rattle.shexj_reader.specs.DocumentFaults.{DeclarationFault}
use Rattle.shexj_reader.specs.Faults.{IsBad}
use Rattle.shexj_reader.specs.Labels.{label}
use Rattle.shexj_reader.proofs.Causes.{made}
use Rattle.shexj_reader.proofs.documents.read_declaration.Goals as goal

pub returns-clause-cause : goal.returns-clause-cause
returns-clause-cause c =
    let d = view c.args.value.now in
    made (λ f. IsBad (codes "id") label f d) (λ f. DeclarationFault f d) _ c.label_at.result c.map.result c.map.ensures.cases (λ f h. DeclarationFault.bad_label h) c.label_at.ensures.cause

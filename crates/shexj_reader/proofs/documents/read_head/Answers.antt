use Rattle.std.proofs.Common.{◌⊎◌, inl, inr, codes}
use Rattle.serde_json.specs.View.{view}
use Rattle.shexj_reader.specs.DocumentFaults.{SchemaFault}
use Rattle.shexj_reader.specs.Faults.{HasActs, IsNoList}
use Rattle.shexj_reader.proofs.Causes.{made}
use Rattle.shexj_reader.proofs.documents.read_head.Goals as goal

pub returns-clause-cause : goal.returns-clause-cause
returns-clause-cause c =
    let d = view c.args.value.now in
    made (λ f. IsNoList (codes "startActs") f d ⊎ HasActs (codes "startActs") f d)
    (λ f. SchemaFault f d) _ c.no_acts.result c.map.result c.map.ensures.cases (λ f s. elim s [ inl h ↦ SchemaFault.bad_acts h | inr h ↦ SchemaFault.has_acts h ]) c.no_acts.ensures.cause

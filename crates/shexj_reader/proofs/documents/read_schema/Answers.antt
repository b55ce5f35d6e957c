use Rattle.std.proofs.Common.{codes, subst}
use Rattle.std.specs.Prelude.{IfErr, Option}
use Rattle.serde_json.specs.Data.{Data}
use Rattle.serde_json.specs.Find.{get}
use Rattle.serde_json.specs.View.{view}
use Rattle.shexj_reader.specs.DocumentFaults.{SchemaFault, ShapesFault}
use Rattle.shexj_reader.specs.Faults.{Because}
use Rattle.shexj_reader.proofs.Causes.{made}
use Rattle.shexj_reader.proofs.documents.read_schema.Goals as goal

pub returns-clause-cause : goal.returns-clause-cause
returns-clause-cause c =
    let d = view c.args.value.now in
    made (λ f. ShapesFault f (get (codes "shapes") d)) (λ f. SchemaFault f d) _ c.read_shapes.result c.map.result c.map.ensures.cases (λ f h. SchemaFault.bad_shapes h)
    (subst (λ (o : Option Data). IfErr c.read_shapes.result (Because (λ f. ShapesFault f o))) c.get-2.ensures c.read_shapes.ensures.cause)

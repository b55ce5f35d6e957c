use Rattle.std.proofs.Common.{◌⊎◌, inl, inr, codes, subst}
use Rattle.std.specs.Prelude.{Option}
use Rattle.serde_json.specs.Data.{Data}
use Rattle.serde_json.specs.Find.{get}
use Rattle.serde_json.specs.View.{view}
use Rattle.shexj_reader.specs.Faults.{Because, PlainFault}
use Rattle.shexj_reader.specs.ValueFaults.{ValueSetFault}
use Rattle.shexj_reader.proofs.Causes.{made, passed}
use Rattle.shexj_reader.proofs.constraints.read_values.Goals as goal

pub returns-in_err-values-clause-cause : goal.returns-in_err-values-clause-cause
returns-in_err-values-clause-cause c =
    let d = view c.args.value.now in
    passed (λ f. ValueSetFault f (get (codes "values") d)) (λ f. ValueSetFault f (get (codes "values") d) ⊎ PlainFault f d)
    c.from_residual.result c.in_err-values.field-0.0 c.from_residual.ensures.1 (λ f h. inl h)
    (subst (λ (o : Option Data). Because (λ f. ValueSetFault f o) c.in_err-values.field-0.0) c.get.ensures c.in_err-values.ensures.cause)

pub returns-clause-cause : goal.returns-clause-cause
returns-clause-cause c =
    let d = view c.args.value.now in
    made (λ f. PlainFault f d) (λ f. ValueSetFault f (get (codes "values") d) ⊎ PlainFault f d) _ c.only_plain.result c.map.result c.map.ensures.cases (λ f h. inr h) c.only_plain.ensures.cause

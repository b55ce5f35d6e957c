use Rattle.std.proofs.Common.{◌⊎◌, inl, inr, codes}
use Rattle.serde_json.specs.Find.{get}
use Rattle.serde_json.specs.View.{view}
use Rattle.shexj_reader.specs.ConstraintFaults.{ConstraintFault, bad_values, not_plain}
use Rattle.shexj_reader.specs.Constraints.{constraint_keys}
use Rattle.shexj_reader.specs.Faults.{PlainFault}
use Rattle.shexj_reader.specs.Keys.{with_id}
use Rattle.shexj_reader.specs.ValueFaults.{ValueSetFault}
use Rattle.shexj_reader.proofs.Causes.{made}
use Rattle.shexj_reader.proofs.constraints.read_constraint.Goals as goal

pub returns-clause-cause : goal.returns-clause-cause
returns-clause-cause c =
    let d = view c.args.value.now in
    made (λ f. ValueSetFault f (get (codes "values") d) ⊎ PlainFault f d) (λ f. ConstraintFault (with_id c.args.labelled constraint_keys) f d) _ c.read_values.result c.map.result c.map.ensures.cases
    (λ f s. elim s [ inl h ↦ bad_values h | inr h ↦ not_plain h ]) c.read_values.ensures.cause

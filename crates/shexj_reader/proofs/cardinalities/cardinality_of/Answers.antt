use Rattle.std.proofs.Common.{codes, ◌≡◌, ◌∙◌, ap}
use Rattle.std.specs.Prelude.{Some}
use Rattle.serde_json.specs.View.{view}
use Rattle.tally.specs.declared.Bound.{Bound}
use Rattle.shexj_reader.specs.ExpressionFaults.{CardinalityFault, crossed}
use Rattle.shexj_reader.specs.Faults.{form}
use Rattle.shexj_reader.proofs.Causes.{because}
use Rattle.shexj_reader.proofs.cardinalities.cardinality_of.Goals as goal

pub returns-then-high-min-clause-cause : goal.returns-then-high-min-clause-cause
returns-then-high-min-clause-cause c =
    let d = view c.args.value.now in
    because (λ f. f ≡ form (codes "max")) (λ f. CardinalityFault f d) c.bad_form.result
    (λ f h. crossed _ _ h c.in_ok-min.ensures.ok (c.in_ok-max.ensures.ok ∙ ap (λ (b : Bound). Some b) c.in-Upto.is) c.if-high-min.true) c.bad_form.ensures

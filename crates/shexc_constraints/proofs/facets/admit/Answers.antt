use Rattle.std.specs.Option.{option_copied}
use Rattle.node_constraint.specs.declared.make_error.MakeError.TheVariants as errors
use Rattle.shexc_constraints.proofs.Admitted.{sound_is_judged, refused_is_judged}
use Rattle.shexc_constraints.proofs.facets.admit.Goals as goal

pub returns-in-Ok-clause-answer : goal.returns-in-Ok-clause-answer
returns-in-Ok-clause-answer c = sound_is_judged (option_copied c.args.datatype) c.args.facet.now (rw (c.in_ok-facets.ensures.ok, c.in_ok-cloned.ensures) at c.in-Ok.ensures.sound)

pub returns-in-Err-FacetNumber-clause-answer : goal.returns-in-Err-FacetNumber-clause-answer
returns-in-Err-FacetNumber-clause-answer c =
    refused_is_judged (option_copied c.args.datatype) c.args.facet.now errors.FacetNumber (rw (c.in-Err-FacetNumber.field-0-is, c.in_ok-facets.ensures.ok, c.in_ok-cloned.ensures) at c.in-Err-FacetNumber.ensures.cause) (λ is. absurd cc)

pub returns-in-Err-Pattern-clause-answer : goal.returns-in-Err-Pattern-clause-answer
returns-in-Err-Pattern-clause-answer c = refused_is_judged (option_copied c.args.datatype) c.args.facet.now (errors.Pattern c.in-Err-Pattern.error)
    (rw (c.in-Err-Pattern.field-0-is, c.in_ok-facets.ensures.ok, c.in_ok-cloned.ensures) at c.in-Err-Pattern.ensures.cause) (λ is. absurd cc)

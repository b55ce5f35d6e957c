use Rattle.std.proofs.Common.{◌≡◌, ◌∙◌, refl, subst, ap}
use Rattle.std.specs.Prelude.{Err}
use Rattle.node_constraint.specs.Making.{Causes}
use Rattle.node_constraint.specs.declared.make_error.MakeError.{MakeError}
use Rattle.node_constraint.specs.declared.make_error.MakeError.TheVariants as Errors
use Rattle.shexj_reader.specs.ConstraintFaults.{refused}
use Rattle.shexj_reader.proofs.Refusals.{not_taken}
use Rattle.shexj_reader.proofs.constraints.make.Goals as goal

pub returns-in-Err-Pattern-clause-cause : goal.returns-in-Err-Pattern-clause-cause
returns-in-Err-Pattern-clause-cause c =
    let is : c.make.result ≡ Err (Errors.Pattern c.in-Err-Pattern.error) = c.in-Err-Pattern.is ∙ ap Err c.in-Err-Pattern.field-0-is in
    let cause = subst (λ (e : MakeError). Causes c.args.datatype c.args.facets.items e) c.in-Err-Pattern.field-0-is c.in-Err-Pattern.ensures.cause in
    refused c.in-Err-Pattern.error refl cause.1.1 (λ sound. not_taken _ c.in-Err-Pattern.error is (c.make.ensures.taken sound))

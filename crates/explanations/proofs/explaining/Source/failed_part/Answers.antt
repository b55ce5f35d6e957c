use Rattle.std.proofs.Common.{◌≡◌, ◌∙◌, Contains, ap, slice_get, Some, subst, sym}
use Rattle.std.specs.Option.{option_copied}
use Rattle.lists.proofs.Members.{got_in}
use Rattle.nonconformance.specs.Causes.{IsCause}
use Rattle.explanations.proofs.Failing.{part_is, part_why}
use Rattle.explanations.proofs.explaining.Source.failed_part.Goals as goal

pub unreachable-requires-in_default-cause : goal.unreachable-requires-in_default-cause
unreachable-requires-in_default-cause g c =
    let at : slice_get c.as_slice.result.now 0 ≡ Some c.in-Some.cause.now = sym c.first.ensures.value ∙ ap option_copied c.in-Some.is in
    let there = got_in c.as_slice.result.now 0 c.in-Some.cause.now at in
    let is = (c.in_ok-causes.ensures.all c.in-Some.cause.now).0 (subst (λ z. Contains z c.in-Some.cause.now) c.as_slice.ensures.value there) in
    let (part, same) = part_is c.args.self.now.schema.now c.args.self.now.terms.now (g.V.View.known c.args.self.now.view.now) c.args.node c.args.expr
    c.in-Some.cause.now c.requires.constraint is in
    c.in_default-cause.not-FailedPart part same

pub returns-clause-is : goal.returns-clause-is
returns-clause-is g c = λ all.
    let at : slice_get c.as_slice.result.now 0 ≡ Some c.in-Some.cause.now = sym c.first.ensures.value ∙ ap option_copied c.in-Some.is in
    let there = got_in c.as_slice.result.now 0 c.in-Some.cause.now at in
    let is = (c.in_ok-causes.ensures.all c.in-Some.cause.now).0 (subst (λ z. Contains z c.in-Some.cause.now) c.as_slice.ensures.value there) in
    part_why c.args.self.now.schema.now c.args.self.now.terms.now (g.V.View.known c.args.self.now.view.now) all c.args.node c.args.expr _ c.requires.constraint
    (subst (IsCause c.args.self.now.schema.now c.args.self.now.terms.now (g.V.View.known c.args.self.now.view.now) c.args.node c.args.expr) c.in-FailedPart.is is)

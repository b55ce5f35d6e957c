use Rattle.std.proofs.Common.{get_or, subst, sym}
use Rattle.schema_tree.specs.declared.verdicts.Verdict.TheVariants.{No}
use Rattle.schema_tree.specs.Sure.{IsSure}
use Rattle.nonconformance.proofs.Causing.{failing_on}
use Rattle.nonconformance.proofs.causes.failing.Goals as goal

pub loop-expr-preserved : goal.loop-expr-preserved
loop-expr-preserved g c =
    let Here = IsSure c.args.schema.now c.args.terms.now (g.V.View.known c.args.view.now) c.args.node in
    failing_on (λ d. Here d No) c.args.exprs.now c.loop-expr.expr-index (record { 0 = 0 }) c.in_ok-verdict.verdict c.loop-expr.found.items
    c.push_failing.new.found.items c.loop-expr-test.true c.loop-expr.invariant
    (λ is. subst (λ v. Here (get_or c.args.exprs.now c.loop-expr.expr-index (record { 0 = 0 })) v) is c.in_ok-verdict.ensures.verdict)
    (λ h. sym (c.in_ok-verdict.ensures.no_other No h)) c.in_ok-push_failing.ensures

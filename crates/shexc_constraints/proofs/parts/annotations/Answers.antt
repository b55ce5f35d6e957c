use Rattle.std.proofs.Common.{sym, ◌∙◌}
use Rattle.std.proofs.lemmas.Result.{err_from_is_err_and}
use Rattle.rdf_cursor.proofs.Loops.{loop_goes, loop_ends}
use Rattle.rdf_cursor.specs.Cursors.{ahead}
use Rattle.term_tokens.specs.Scopes.{scope_in}
use Rattle.shexc_constraints.proofs.Failing.{fails_loop}
use Rattle.shexc_constraints.specs.Reading.{annotations}
use Rattle.shexc_constraints.proofs.Places.{consumes_annotation}
use Rattle.shexc_constraints.proofs.parts.annotations.Goals as goal

pub loop-c-smaller : goal.loop-c-smaller
loop-c-smaller c = consumes_annotation (scope_in c.args.names.now) (ahead c.loop-c.c) tt (ahead c.annotation.new.c) c.in_ok-annotation.ensures.gives

pub loop-c-preserved : goal.loop-c-preserved
loop-c-preserved c = (
  loop_goes _ _ ((λ _. consumes_annotation (scope_in c.args.names.now))) _ _ _ _ _ (sym c.is_at.ensures ∙ c.loop-c-test.true) c.in_ok-annotation.ensures.gives c.loop-c.invariant.0,
  c.in_ok-annotation.ensures.source ∙ c.loop-c.invariant.1,
)

pub returns-in_err-annotation-clause-gives : goal.returns-in_err-annotation-clause-gives
unfolding annotations
returns-in_err-annotation-clause-gives c =
    let p = err_from_is_err_and c.from_residual.result c.from_residual.ensures.1 in
    rw (p.1, p.2) (fails_loop _ _ ((λ _. consumes_annotation (scope_in c.args.names.now))) c.in_err-annotation.field-0.0 _ _ _ _ (sym c.is_at.ensures
    ∙ c.loop-c-test.true) c.in_err-annotation.ensures.gives c.loop-c.invariant.0)

pub returns-clause-gives : goal.returns-clause-gives
unfolding annotations
returns-clause-gives c = loop_ends _ _ ((λ _. consumes_annotation (scope_in c.args.names.now))) _ _ _ (sym c.is_at.ensures ∙ c.loop-c-test.false) c.loop-c.invariant.0

use Rattle.std.proofs.Common.{sym, ◌∙◌}
use Rattle.std.proofs.lemmas.Result.{err_from_is_err_and}
use Rattle.rdf_cursor.proofs.Loops.{loop_goes, loop_ends}
use Rattle.rdf_cursor.specs.Cursors.{ahead}
use Rattle.term_tokens.specs.Scopes.{scope_in}
use Rattle.shexc_constraints.proofs.Failing.{fails_loop}
use Rattle.shexc_constraints.proofs.Places.{consumes_value_behind}
use Rattle.shexc_constraints.proofs.values.values.Goals as goal

pub loop-c-smaller : goal.loop-c-smaller
loop-c-smaller c = consumes_value_behind (scope_in c.args.names.now) c.loop-c.xs.items (ahead c.loop-c.c) c.value_behind.new.xs.items (ahead c.value_behind.new.c) c.in_ok-value_behind.ensures.gives

pub loop-c-preserved : goal.loop-c-preserved
loop-c-preserved c = (
  loop_goes _ _ (consumes_value_behind (scope_in c.args.names.now)) _ _ _ _ _ (sym c.at_value.ensures ∙ c.loop-c-test.true) c.in_ok-value_behind.ensures.gives c.loop-c.invariant.0,
  c.in_ok-value_behind.ensures.source ∙ c.loop-c.invariant.1,
)

pub returns-in_err-value_behind-clause-gives : goal.returns-in_err-value_behind-clause-gives
returns-in_err-value_behind-clause-gives c =
    let p = err_from_is_err_and c.from_residual.result c.from_residual.ensures.1 in
    rw (p.1, p.2) (fails_loop _ _ (consumes_value_behind (scope_in c.args.names.now)) c.in_err-value_behind.field-0.0 _ _ _ _ (sym c.at_value.ensures
    ∙ c.loop-c-test.true) c.in_err-value_behind.ensures.gives c.loop-c.invariant.0)

pub returns-clause-gives : goal.returns-clause-gives
returns-clause-gives c = loop_ends _ _ (consumes_value_behind (scope_in c.args.names.now)) _ _ _ (sym c.at_value.ensures ∙ c.loop-c-test.false) c.loop-c.invariant.0

use Rattle.std.proofs.Common.{true, sym, ◌∙◌}
use Rattle.std.proofs.lemmas.Result.{err_from_is_err_and}
use Rattle.rdf_cursor.proofs.Loops.{loop_goes, loop_ends}
use Rattle.shexc_reader.specs.Documents.{state_of}
use Rattle.rdf_cursor.specs.Cursors.{ahead}
use Rattle.shexc_constraints.proofs.Failing.{fails_loop}
use Rattle.shexc_reader.proofs.Places.{consumes_statement}
use Rattle.shexc_reader.proofs.statements.statements.Goals as goal

pub loop-c-smaller : goal.loop-c-smaller
loop-c-smaller c = consumes_statement true c.args.depth (state_of c.loop-c.state) (ahead c.loop-c.c) (state_of c.statement.new.state) (ahead c.statement.new.c) c.in_ok-statement.ensures.gives

pub loop-c-preserved : goal.loop-c-preserved
loop-c-preserved c = (
  loop_goes _ _ (consumes_statement true c.args.depth) _ _ _ _ _ (sym c.has_next.ensures ∙ c.loop-c-test.true) c.in_ok-statement.ensures.gives c.loop-c.invariant.0,
  c.in_ok-statement.ensures.source ∙ c.loop-c.invariant.1,
)

pub returns-in_err-statement-clause-gives : goal.returns-in_err-statement-clause-gives
returns-in_err-statement-clause-gives c =
    let p = err_from_is_err_and c.from_residual.result c.from_residual.ensures.1 in
    rw (p.1, p.2) (fails_loop _ _ (consumes_statement true c.args.depth) c.in_err-statement.field-0.0 _ _ _ _ (sym c.has_next.ensures
    ∙ c.loop-c-test.true) c.in_err-statement.ensures.gives c.loop-c.invariant.0)

pub returns-clause-gives : goal.returns-clause-gives
returns-clause-gives c = loop_ends _ _ (consumes_statement true c.args.depth) _ _ _ (sym c.has_next.ensures ∙ c.loop-c-test.false) c.loop-c.invariant.0

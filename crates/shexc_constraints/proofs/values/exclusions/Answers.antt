use Rattle.std.proofs.Common.{sym, ◌∙◌}
use Rattle.std.proofs.lemmas.Result.{err_from_is_err_and}
use Rattle.rdf_cursor.proofs.Loops.{loop_goes, loop_ends}
use Rattle.rdf_cursor.specs.Cursors.{ahead}
use Rattle.term_tokens.specs.Scopes.{scope_in}
use Rattle.shexc_constraints.proofs.Failing.{fails_loop}
use Rattle.shexc_constraints.specs.TextKinds.{texts}
use Rattle.shexc_constraints.specs.Reading.{exclusions}
use Rattle.shexc_constraints.proofs.Places.{consumes_exclusion}
use Rattle.shexc_constraints.proofs.Kinded.{local_texts, consumes_texts}
use Rattle.shexc_constraints.proofs.values.exclusions.Goals as goal

pub loop-kind-smaller : goal.loop-kind-smaller
loop-kind-smaller c = consumes_exclusion (scope_in c.args.names.now) (texts (scope_in c.args.names.now) c.args.kind)
    (local_texts (scope_in c.args.names.now) c.args.kind)
    (consumes_texts (scope_in c.args.names.now) c.args.kind) c.loop-kind.xs.items (ahead c.loop-kind.c) c.exclusion.new.xs.items (ahead c.exclusion.new.c) c.in_ok-exclusion.ensures.gives

pub loop-kind-preserved : goal.loop-kind-preserved
loop-kind-preserved c = (
  loop_goes _ _ (consumes_exclusion (scope_in c.args.names.now) (texts (scope_in c.args.names.now) c.args.kind) (local_texts (scope_in c.args.names.now) c.args.kind) (consumes_texts (scope_in c.args.names.now) c.args.kind)) _ _ _ _ _ (sym c.is_at.ensures ∙ c.loop-kind-test.true) c.in_ok-exclusion.ensures.gives c.loop-kind.invariant.0,
  c.in_ok-exclusion.ensures.source ∙ c.loop-kind.invariant.1,
)

pub returns-in_err-exclusion-clause-gives : goal.returns-in_err-exclusion-clause-gives
unfolding exclusions
returns-in_err-exclusion-clause-gives c =
    let p = err_from_is_err_and c.from_residual.result c.from_residual.ensures.1 in
    rw (p.1, p.2) (fails_loop _ _ (consumes_exclusion (scope_in c.args.names.now) (texts (scope_in c.args.names.now) c.args.kind) (local_texts (scope_in c.args.names.now) c.args.kind) (consumes_texts (scope_in c.args.names.now) c.args.kind)) c.in_err-exclusion.field-0.0 _ _ _ _ (sym c.is_at.ensures ∙ c.loop-kind-test.true) c.in_err-exclusion.ensures.gives c.loop-kind.invariant.0)

pub returns-clause-gives : goal.returns-clause-gives
unfolding exclusions
returns-clause-gives c =
    loop_ends _ _ (consumes_exclusion (scope_in c.args.names.now) (texts (scope_in c.args.names.now) c.args.kind) (local_texts (scope_in c.args.names.now) c.args.kind) (consumes_texts (scope_in c.args.names.now) c.args.kind)) _ _ _ (sym c.is_at.ensures ∙ c.loop-kind-test.false) c.loop-kind.invariant.0

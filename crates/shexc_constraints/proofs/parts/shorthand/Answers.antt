use Rattle.std.proofs.Common.{false}
use Rattle.rdf_cursor.specs.Cursors.{ahead}
use Rattle.term_tokens.specs.Terms as any
use Rattle.shexc_constraints.proofs.Raised.{one_by, reads, stops}
use Rattle.shexc_constraints.specs.Meanings.{shorthand_of}
use Rattle.shexc_constraints.proofs.parts.shorthand.Goals as goal

pub returns-in_err-shorthand-clause-gives : goal.returns-in_err-shorthand-clause-gives
unfolding shorthand_of
returns-in_err-shorthand-clause-gives c =
    stops (λ x. x) _ c.in_err-shorthand.field-0.0 c.from_residual.result _ (one_by (any.shorthand_of false) (ahead c.args.c.now)) c.from_residual.ensures.1 c.in_err-shorthand.ensures.gives

pub returns-clause-gives : goal.returns-clause-gives
unfolding shorthand_of
returns-clause-gives c = reads _ (one_by (any.shorthand_of false) (ahead c.args.c.now)) c.in_ok-shorthand.ensures.gives

use Rattle.std.proofs.Common.{false}
use Rattle.rdf_cursor.specs.Cursors.{ahead}
use Rattle.term_tokens.specs.Terms as any
use Rattle.shexc_constraints.proofs.Raised.{one_by, reads, stops}
use Rattle.shexc_constraints.specs.Meanings.{string_of}
use Rattle.shexc_constraints.proofs.parts.string.Goals as goal

pub returns-in_err-string-clause-gives : goal.returns-in_err-string-clause-gives
unfolding string_of
returns-in_err-string-clause-gives c =
    stops (λ x. x) _ c.in_err-string.field-0.0 c.from_residual.result _ (one_by (any.string_of false) (ahead c.args.c.now)) c.from_residual.ensures.1 c.in_err-string.ensures.gives

pub returns-clause-gives : goal.returns-clause-gives
unfolding string_of
returns-clause-gives c = reads _ (one_by (any.string_of false) (ahead c.args.c.now)) c.in_ok-string.ensures.gives

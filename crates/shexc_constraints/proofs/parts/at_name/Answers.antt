use Rattle.std.proofs.Common.{false, string_bytes}
use Rattle.rdf_cursor.specs.Cursors.{ahead}
use Rattle.term_tokens.specs.Scopes.{scope_in}
use Rattle.term_tokens.specs.Terms as any
use Rattle.shexc_constraints.proofs.Raised.{one_by, reads, stops}
use Rattle.shexc_constraints.specs.Meanings.{at_name_of}
use Rattle.shexc_constraints.proofs.parts.at_name.Goals as goal

pub returns-in_err-at_name-clause-gives : goal.returns-in_err-at_name-clause-gives
unfolding at_name_of
returns-in_err-at_name-clause-gives c =
    stops string_bytes _ c.in_err-at_name.field-0.0 c.from_residual.result _ (one_by (any.at_name_of false (scope_in c.args.names.now)) (ahead c.args.c.now)) c.from_residual.ensures.1 c.in_err-at_name.ensures.gives

pub returns-clause-gives : goal.returns-clause-gives
unfolding at_name_of
returns-clause-gives c = reads _ (one_by (any.at_name_of false (scope_in c.args.names.now)) (ahead c.args.c.now)) c.in_ok-at_name.ensures.gives

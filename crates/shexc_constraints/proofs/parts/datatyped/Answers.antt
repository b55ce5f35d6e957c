use Rattle.std.proofs.Common.{false}
use Rattle.rdf_cursor.specs.Cursors.{ahead}
use Rattle.term_tokens.specs.Scopes.{scope_in}
use Rattle.term_tokens.specs.Terms as any
use Rattle.shexc_constraints.proofs.Raised.{typed_by, reads, stops}
use Rattle.shexc_constraints.specs.Meanings.{typed_of}
use Rattle.shexc_constraints.specs.Reading.{datatyped}
use Rattle.shexc_constraints.proofs.parts.datatyped.Goals as goal

pub returns-in_err-datatyped-clause-gives : goal.returns-in_err-datatyped-clause-gives
unfolding typed_of datatyped
returns-in_err-datatyped-clause-gives c =
    stops (λ x. x) _ c.in_err-datatyped.field-0.0 c.from_residual.result _ (typed_by (any.typed_of false (scope_in c.args.names.now) c.args.lex) (ahead c.args.c.now)) c.from_residual.ensures.1 c.in_err-datatyped.ensures.gives

pub returns-clause-gives : goal.returns-clause-gives
unfolding typed_of datatyped
returns-clause-gives c = reads _ (typed_by (any.typed_of false (scope_in c.args.names.now) c.args.lex) (ahead c.args.c.now)) c.in_ok-datatyped.ensures.gives

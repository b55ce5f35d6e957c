use Rattle.std.proofs.Common.{false}
use Rattle.rdf_cursor.specs.Cursors.{ahead}
use Rattle.term_tokens.specs.Terms as any
use Rattle.shexc_constraints.proofs.Raised.{one_by, reads, stops}
use Rattle.shexc_constraints.specs.Meanings.{label_of}
use Rattle.shexc_constraints.proofs.parts.blank_label.Goals as goal

pub returns-in_err-label-clause-gives : goal.returns-in_err-label-clause-gives
unfolding label_of
returns-in_err-label-clause-gives c =
    stops (λ x. x) _ c.in_err-label.field-0.0 c.from_residual.result _ (one_by (any.label_of false) (ahead c.args.c.now)) c.from_residual.ensures.1 c.in_err-label.ensures.gives

pub returns-clause-gives : goal.returns-clause-gives
unfolding label_of
returns-clause-gives c = reads _ (one_by (any.label_of false) (ahead c.args.c.now)) c.in_ok-label.ensures.gives

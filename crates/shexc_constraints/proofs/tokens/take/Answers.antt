use Rattle.rdf_cursor.specs.Cursors.{ahead}
use Rattle.rdf_cursor.specs.Lent.{spelled}
use Rattle.shexc_constraints.proofs.Raised.{mark_by, reads, stops}
use Rattle.shexc_constraints.proofs.tokens.take.Goals as goal

pub returns-in_err-take-clause-gives : goal.returns-in_err-take-clause-gives
returns-in_err-take-clause-gives c = stops spelled _ c.in_err-take.field-0.0 c.from_residual.result _ (mark_by c.args.sought (ahead c.args.c.now)) c.from_residual.ensures.1 c.in_err-take.ensures.gives

pub returns-clause-gives : goal.returns-clause-gives
returns-clause-gives c = reads _ (mark_by c.args.sought (ahead c.args.c.now)) c.in_ok-take.ensures.gives

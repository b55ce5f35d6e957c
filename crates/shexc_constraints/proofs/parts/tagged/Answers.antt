use Rattle.rdf_cursor.specs.Cursors.{ahead}
use Rattle.term_tokens.specs.Terms as any
use Rattle.shexc_constraints.proofs.Raised.{one_by, reads, stops}
use Rattle.shexc_constraints.specs.Meanings.{tagged_of}
use Rattle.shexc_constraints.proofs.parts.tagged.Goals as goal

pub returns-in_err-tagged-clause-gives : goal.returns-in_err-tagged-clause-gives
unfolding tagged_of
returns-in_err-tagged-clause-gives c =
    stops (λ x. x) _ c.in_err-tagged.field-0.0 c.from_residual.result _ (one_by (any.tagged_of c.args.lex) (ahead c.args.c.now)) c.from_residual.ensures.1 c.in_err-tagged.ensures.gives

pub returns-clause-gives : goal.returns-clause-gives
unfolding tagged_of
returns-clause-gives c = reads _ (one_by (any.tagged_of c.args.lex) (ahead c.args.c.now)) c.in_ok-tagged.ensures.gives

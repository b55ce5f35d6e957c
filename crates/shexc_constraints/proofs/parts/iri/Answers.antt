use Rattle.std.proofs.Common.{false, string_bytes}
use Rattle.rdf_cursor.specs.Cursors.{ahead}
use Rattle.term_tokens.specs.Scopes.{scope_in}
use Rattle.term_tokens.specs.Terms as any
use Rattle.shexc_constraints.proofs.Raised.{one_by, reads, stops}
use Rattle.shexc_constraints.specs.Meanings.{iri_of}
use Rattle.shexc_constraints.specs.Reading.{iri}
use Rattle.shexc_constraints.proofs.parts.iri.Goals as goal

pub returns-in_err-iri-clause-gives : goal.returns-in_err-iri-clause-gives
unfolding iri_of iri
returns-in_err-iri-clause-gives c =
    stops string_bytes _ c.in_err-iri.field-0.0 c.from_residual.result _ (one_by (any.iri_of false (scope_in c.args.names.now)) (ahead c.args.c.now)) c.from_residual.ensures.1 c.in_err-iri.ensures.gives

pub returns-clause-gives : goal.returns-clause-gives
unfolding iri_of iri
returns-clause-gives c = reads _ (one_by (any.iri_of false (scope_in c.args.names.now)) (ahead c.args.c.now)) c.in_ok-iri.ensures.gives

use Rattle.std.proofs.Common.{false, string_bytes}
use Rattle.rdf_cursor.specs.Cursors.{ahead}
use Rattle.term_tokens.specs.Scopes.{scope_in}
use Rattle.term_tokens.specs.Terms as any
use Rattle.shexc_constraints.proofs.Raised.{one_by, reads, stops}
use Rattle.shexc_constraints.specs.Meanings.{iri_ref_of}
use Rattle.shexc_constraints.proofs.parts.iri_ref.Goals as goal

pub returns-in_err-iri_ref-clause-gives : goal.returns-in_err-iri_ref-clause-gives
unfolding iri_ref_of
returns-in_err-iri_ref-clause-gives c =
    stops string_bytes _ c.in_err-iri_ref.field-0.0 c.from_residual.result _ (one_by (any.iri_ref_of false (scope_in c.args.names.now)) (ahead c.args.c.now)) c.from_residual.ensures.1 c.in_err-iri_ref.ensures.gives

pub returns-clause-gives : goal.returns-clause-gives
unfolding iri_ref_of
returns-clause-gives c = reads _ (one_by (any.iri_ref_of false (scope_in c.args.names.now)) (ahead c.args.c.now)) c.in_ok-iri_ref.ensures.gives

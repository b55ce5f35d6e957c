use Rattle.std.proofs.Common.{sym}
use Rattle.rdf_terms.proofs.TermReading.{type_read}
use Rattle.rdf_terms.proofs.reader.with_datatype.Goals as goal

pub returns : goal.returns
returns c = type_read c.args.lex _ c.args.datatype.now c.in-Some.iri.now c.in_ok-owned.field-0 c.typed.result c.requires c.in-Some.ensures (sym c.if-eq.ensures) c.in_ok-owned.ensures c.lex.view_is c.typed.ensures.literal c.typed.ensures.none

-- The terms of data can stand on one line, in either format.
use Rattle.std.proofs.Common.{Option, Some, None, subst}
use Rattle.rdf_lex.specs.Prefixes.{AreOneLine}
use Rattle.nt_reader.specs.Endings.{ShortDocumentsHaveLines}
use Rattle.turtle_reader.specs.Documents.{DocumentsHaveLines}
use Rattle.data_reader.specs.declared.format.Format.TheVariants.{NTriples, Turtle}
use Rattle.data_reader.specs.Documents.{Context, DataHaveLines}

none_apart : {X : Type 0} (x : X) → Path (Option X) None (Some x) → ⊥
none_apart x e = cc

lines_in : (a b : Context) → Path Context a b → AreOneLine a.base a.prefixes → AreOneLine b.base b.prefixes
lines_in a b e h = subst (λ (c : Context). AreOneLine c.base c.prefixes) e h

pub data_plain : ShortDocumentsHaveLines → DocumentsHaveLines → DataHaveLines
data_plain nt turtle NTriples base bytes last triples h (e, document) =
    (lines_in _ last e (record { base = h; prefixes = λ prefix iri f. absurd (none_apart iri f) }), nt bytes triples document)
data_plain nt turtle Turtle base bytes last triples h (scope, e, document) =
    let p = turtle base bytes (scope, triples) h document in (lines_in _ last e p.0, p.1)

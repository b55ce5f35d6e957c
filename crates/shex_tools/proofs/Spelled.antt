-- What bytes spell, in either format.
use Rattle.std.proofs.Common.{◌∙◌, ap, sym, subst, refl, ℕ, List}
use Rattle.std.specs.Prelude.{Err, IfErr, Ok, Result}
use Rattle.conversion_laws.specs.Laws.{CompactAreExpressible}
use Rattle.schema_documents.specs.Tree.{Document}
use Rattle.schema_documents.specs.declared.document.Doc.{Doc}
use Rattle.schema_documents.specs.declared.error.SchemaError.{SchemaError}
use Rattle.schema_reader.specs.Documents.{AreNone, IsSchema, Read, base_alone, with_base}
use Rattle.schema_reader.specs.declared.format.Format.{Format}
use Rattle.schema_reader.specs.declared.format.Format.TheVariants.{Compact, Json}
use Rattle.shexc_reader.specs.Documents as compact
use Rattle.shexc_reader.specs.States.{document_in}
use Rattle.shexj_reader.specs.Bytes.{IsCause}
use Rattle.shexj_reader.specs.Laws as json_laws
use Rattle.shexj_writer.specs.Expressible.{IsExpressibleDocument}
use Rattle.shexj_writer.specs.Laws.{ReadAreExpressible}
use Rattle.shex_tools.specs.Documents.{Spells}
use Rattle.shex_tools.specs.Laws.{DocumentsAreExpressible, DocumentsAreOne}

-- ---- what is refused is none

pub compact_none : (base source : List ℕ) (e : SchemaError) → compact.ReadsAll base source (Err e) → AreNone Compact base source e
compact_none base source e all apart r (x, spelled, d, n) = apart (all x spelled)

pub json_none : (base source : List ℕ) (result : Result Doc SchemaError) → json_laws.RefusedAreNone → IfErr result (IsCause source) → IfErr result (AreNone Json base source)
json_none base source (Ok doc) law cause = tt
json_none base source (Err e) law cause = λ apart r (doc, text, d, n). law source e doc apart cause text

-- ---- a document that bytes spell is one of a schema, with imports that are resolved

pub as_schema : (format : Format) (base : List ℕ) (doc : Document) (bytes : List ℕ) → Spells format base doc bytes → (r : Read) × IsSchema format base r bytes
as_schema Compact base doc bytes (x, spelled, is) = (record { document = doc; names = x.scope }, (x, spelled, is, refl))
as_schema Json base doc bytes spelled = (record { document = with_base base doc; names = base_alone base }, (doc, spelled, refl, refl))

-- ---- laws

pub documents_one : compact.DocumentsAreOne → json_laws.DocumentsAreOne → DocumentsAreOne
documents_one one also Compact base bytes doc other (x, h, d) (y, k, e) = d ∙ ap document_in (one base bytes x y h k) ∙ sym e
documents_one one also Json base bytes doc other h k = also bytes doc other h k

pub documents_expressible : CompactAreExpressible → ReadAreExpressible → DocumentsAreExpressible
documents_expressible compactly law Compact base bytes doc scheme (x, h, d) = subst IsExpressibleDocument (sym d) (compactly base bytes x scheme h)
documents_expressible compactly law Json base bytes doc scheme h = law bytes doc h

-- The reader of bytes, from the reader of values.
use Rattle.std.proofs.Common.{◌≡◌, ◌≢◌, ◌∙◌, ℕ, List, refl, subst}
use Rattle.std.specs.Prelude.{Some, Result, Ok, Err, IsErrAnd, MatchResult}
use Rattle.std.specs.Str.{IsUtf8}
use Rattle.serde_json.specs.Data.{Data}
use Rattle.serde_json.specs.Read.{read}
use Rattle.schema_documents.specs.Tree.{Document, document_of}
use Rattle.schema_documents.specs.declared.document.Doc.{Doc}
use Rattle.schema_documents.specs.declared.error.SchemaError.{SchemaError}
use Rattle.schema_documents.specs.declared.error.SchemaError.TheVariants as Errors
use Rattle.shexj_reader.specs.Bytes.{HasFault, IsCause, IsDocumentText}
use Rattle.shexj_reader.specs.DocumentFaults.{DocumentFault}
use Rattle.shexj_reader.specs.Documents.{IsDocument, SpellsDocument}
use Rattle.shexj_reader.specs.Faults.{Because}
use Rattle.shexj_reader.proofs.DocumentLaws.{no_document_fault, one_document}

pub caused : (bytes : List ℕ) (d : Data) (e : SchemaError) → IsUtf8 bytes → read bytes ≡ Some d → Because (λ f. DocumentFault f d) e → IsCause bytes e
caused bytes d Errors.NotUtf8 utf json h = absurd h
caused bytes d Errors.Json utf json h = absurd h
caused bytes d (Errors.Syntax at) utf json h = absurd h
caused bytes d Errors.External utf json h = record { utf8 = utf; value = d; json = json; fault = h }
caused bytes d (Errors.Prefix at) utf json h = absurd h
caused bytes d Errors.Deep utf json h = record { utf8 = utf; value = d; json = json; fault = h }
caused bytes d Errors.Memory utf json h = tt
caused bytes d (Errors.Key name) utf json h = record { utf8 = utf; value = d; json = json; fault = h }
caused bytes d (Errors.Form name) utf json h = record { utf8 = utf; value = d; json = json; fault = h }
caused bytes d Errors.Action utf json h = record { utf8 = utf; value = d; json = json; fault = h }
caused bytes d Errors.FloatFacet utf json h = record { utf8 = utf; value = d; json = json; fault = h }
caused bytes d Errors.FacetNumber utf json h = record { utf8 = utf; value = d; json = json; fault = h }
caused bytes d (Errors.Pattern e) utf json h = record { utf8 = utf; value = d; json = json; fault = h }

-- a refusal whose fault stands in a value that spells a document is want of memory
unfaulty : (d : Data) (doc : Document) (e : SchemaError) → Because (λ f. DocumentFault f d) e → IsDocument doc d → e ≡ Errors.Memory
unfaulty d doc Errors.NotUtf8 h s = absurd h
unfaulty d doc Errors.Json h s = absurd h
unfaulty d doc (Errors.Syntax at) h s = absurd h
unfaulty d doc Errors.External h s = absurd (no_document_fault doc _ d h s)
unfaulty d doc (Errors.Prefix at) h s = absurd h
unfaulty d doc Errors.Deep h s = absurd (no_document_fault doc _ d h s)
unfaulty d doc Errors.Memory h s = refl
unfaulty d doc (Errors.Key name) h s = absurd (no_document_fault doc _ d h s)
unfaulty d doc (Errors.Form name) h s = absurd (no_document_fault doc _ d h s)
unfaulty d doc Errors.Action h s = absurd (no_document_fault doc _ d h s)
unfaulty d doc Errors.FloatFacet h s = absurd (no_document_fault doc _ d h s)
unfaulty d doc Errors.FacetNumber h s = absurd (no_document_fault doc _ d h s)
unfaulty d doc (Errors.Pattern e) h s = absurd (no_document_fault doc _ d h s)

faulty : (bytes : List ℕ) (doc : Document) (e : SchemaError) → HasFault bytes e → IsDocumentText doc bytes → e ≡ Errors.Memory
faulty bytes doc e h s =
    let json = h.json in let own = s.json in
    let same : s.value ≡ h.value = cc in
    unfaulty h.value doc e h.fault (record { spelled = subst (SpellsDocument doc) same s.spelled; within = s.within })

pub only_memory : (bytes : List ℕ) (doc : Document) (e : SchemaError) → IsCause bytes e → IsDocumentText doc bytes → e ≡ Errors.Memory
only_memory bytes doc Errors.NotUtf8 h s = absurd (h s.utf8)
only_memory bytes doc Errors.Json h s = let none = h.1 in let json = s.json in cc
only_memory bytes doc (Errors.Syntax at) h s = absurd h
only_memory bytes doc Errors.External h s = faulty bytes doc Errors.External h s
only_memory bytes doc (Errors.Prefix at) h s = absurd h
only_memory bytes doc Errors.Deep h s = faulty bytes doc Errors.Deep h s
only_memory bytes doc Errors.Memory h s = refl
only_memory bytes doc (Errors.Key name) h s = faulty bytes doc (Errors.Key name) h s
only_memory bytes doc (Errors.Form name) h s = faulty bytes doc (Errors.Form name) h s
only_memory bytes doc Errors.Action h s = faulty bytes doc Errors.Action h s
only_memory bytes doc Errors.FloatFacet h s = faulty bytes doc Errors.FloatFacet h s
only_memory bytes doc Errors.FacetNumber h s = faulty bytes doc Errors.FacetNumber h s
only_memory bytes doc (Errors.Pattern e) h s = faulty bytes doc (Errors.Pattern e) h s

pub one_reading : (bytes : List ℕ) (a b : Document) → IsDocumentText a bytes → IsDocumentText b bytes → a ≡ b
one_reading bytes a b h k =
    let json = h.json in let own = k.json in
    let same : k.value ≡ h.value = cc in
    one_document a b h.value h.spelled (subst (SpellsDocument b) same k.spelled)

pub none_refused : (bytes : List ℕ) (e : SchemaError) (doc : Document) → e ≢ Errors.Memory → IsCause bytes e → IsDocumentText doc bytes → ⊥
none_refused bytes e doc other h s = other (only_memory bytes doc e h s)

-- a refusal that a `?` passes on
pub refused_exactly : (bytes : List ℕ) (doc : Document) (d : Data) (r : Result Doc SchemaError) (e : SchemaError) → IsErrAnd r (λ x. x ≡ e) →
    Because (λ f. DocumentFault f d) e → IsUtf8 bytes → read bytes ≡ Some d → IsDocumentText doc bytes → MatchResult r (λ x. document_of x ≡ doc) (λ x. x ≡ Errors.Memory)
refused_exactly bytes doc d (Ok x) e same h utf json s = absurd same
refused_exactly bytes doc d (Err x) e same h utf json s = same ∙ only_memory bytes doc e (caused bytes d e utf json h) s

-- What the files of the schema and the data file hold, in the numbers of one table of terms.
use Rattle.std.specs.Prelude.{ℕ, Bool, true, false, List, [], ◌∷◌, ◌≡◌, ◌≤◌, IfSome, Some, length}
use Rattle.shex_io.specs.Files.{Told}
use Rattle.lists.specs.Additions.{AddsAll}
use Rattle.lists.specs.Distinct.{AreDistinct}
use Rattle.rdf_terms.specs.Tables.{max_terms}
use Rattle.rdf_terms.specs.declared.terms.Term.{Term}
use Rattle.rdf_terms.specs.declared.terms.Triple.{Triple}
use Rattle.graph_index.specs.declared.loading.TermTriple.{TermTriple}
use Rattle.graph_index.specs.Loading.{IsWithin, Loads}
use Rattle.data_reader.specs.Documents.{Context, IsData, context_of}
use Rattle.data_reader.specs.Formats.{format_of}
use Rattle.proof_file.specs.declared.head.Digests.{Digests}
use Rattle.schema_documents.specs.Tree.{Document}
use Rattle.schema_files.specs.declared.reading.FileDigests.{FileDigests}
use Rattle.shex_io.specs.Fetching.{IsFile}
use Rattle.schema_files.specs.Sources.{AreSources, Source, documents_of, root_names, source_digests}
use Rattle.schema_load.specs.Parts.{predicates_of}
use Rattle.schema_load.specs.Reading.{parts_of}
use Rattle.schema_load.specs.Stands.{Stands}
use Rattle.schema_tree.specs.declared.schema.Schema.{Schema}
use Rattle.schema_tree.specs.Edges.{IsStratum}
use Rattle.sha2.specs.Sha256.{sha256}
use Rattle.term_tokens.specs.Scopes.{Scope, scope_of}
use Rattle.shex_inputs.specs.declared.holding.Holding.{Holding}
use Rattle.shex_inputs.specs.declared.holding.Taken.{Taken}
use Rattle.shex_inputs.specs.declared.wanted.Wanted.{Wanted}
use Rattle.shex_inputs.specs.declared.wanted.Wanted.TheVariants.{Contents, Digests as Digested}
use Rattle.shex_inputs.specs.Named.{Inputs, asked_of}

-- a schema with the strata of its Shapes and a graph in the numbers of one table of terms, the base and the prefixes at the end of
-- the schema file and of the data file, and the digests of the files
pub record Held : Type 0 where
  pub schema : Schema
  pub strata : List ℕ
  pub labels : Scope
  pub terms : List Term
  pub graph : List Triple
  pub names : Context
  pub files : Digests

-- what the code holds of files with these digests
abbrev pub held_by : Holding → Digests → Held
held_by h files = record {
  schema = h.schema;
  strata = h.strata;
  labels = scope_of h.labels;
  terms = h.terms;
  graph = h.graph.triples;
  names = context_of h.names;
  files = files;
}

-- the digests of the files of a schema, and that of the bytes of the data (FIPS 180-4)
abbrev pub digests_with : FileDigests → List ℕ → Digests
digests_with digests bytes = record { schema = digests.root; imports = digests.imports; graph = record { 0 = sha256 bytes } }

-- digests are wanted
abbrev pub wants_digests : Wanted → Bool
wants_digests Contents = false
wants_digests Digested = true

-- the data file holds a document of these triples, in the format of the file's name and under the base of the data, with these
-- base and prefixes at its end
pub record HoldsData (told : Told) (i : Inputs) (last : Context) (triples : List TermTriple) : Type 0 where
  pub bytes : List ℕ
  pub file : IsFile told i.data_file bytes
  pub spelled : IsData (format_of i.data_file) i.data_base (last, triples) bytes

-- the predicates of the schema of documents, in reading order
abbrev pub predicates_in : List Document → List Term
predicates_in docs = predicates_of (parts_of docs)

-- the schema is that for which the documents stand, in the numbers of a table of its predicates, and these are the strata of its
-- Shapes: no cycle of references has a negative one (ShEx 2.1, sections 5.1 and 5.7)
pub record IsSchemaOf (docs : List Document) (first : List Term) (s : Schema) (f : List ℕ) : Type 0 where
  pub predicates : AddsAll [] (predicates_in docs) first
  pub few : length first ≤ max_terms
  pub stands : Stands docs first s
  pub strata : IsStratum s f

-- a schema and a graph in the numbers of one table of terms are those of the documents and the triples. The table has each
-- term once: first the predicates of the schema, then the terms of the triples in their order
pub record IsHolding (docs : List Document) (triples : List TermTriple) (h : Held) : Type 0 where
  pub first : List Term
  pub is_schema : IsSchemaOf docs first h.schema h.strata
  pub distinct : AreDistinct h.terms
  pub graph : Loads first [] triples h.terms h.graph
  pub within : IsWithin h.terms h.graph

-- the digests of the bytes that spell the documents of the schema, in the order of reading, and of those that spell the data (FIPS 180-4)
pub record AreFilesOf (ss : List Source) (bytes : List ℕ) (files : Digests) : Type 0 where
  pub schemas : files.schema ∷ files.imports ≡ source_digests ss
  pub graph : files.graph.0 ≡ sha256 bytes

-- the files of the schema and the data file hold these schema and graph, and the digests are of the very bytes that spell them: the
-- documents are that of the schema file and those which it imports, directly or through others
pub record IsTaken (told : Told) (i : Inputs) (h : Held) : Type 0 where
  pub sources : List Source
  pub are_sources : AreSources told (asked_of i) sources
  pub labels : Some h.labels ≡ root_names sources
  pub triples : List TermTriple
  pub holds_data : HoldsData told i h.names triples
  pub holding : IsHolding (documents_of sources) triples h
  pub digests : AreFilesOf sources holds_data.bytes h.files

-- this is taken of the files, and the digests, if there are any, are theirs
pub record HasTaken (told : Told) (i : Inputs) (t : Taken) : Type 0 where
  pub files : Digests
  pub taken : IsTaken told i (held_by t.holding files)
  pub kept : IfSome t.files (λ d. d ≡ files)

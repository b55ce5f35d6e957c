-- Why an input is refused. Each refusal stands in the bytes of the file, and what is refused is not taken.
use Rattle.std.specs.Prelude.{ℕ, List, [], ◌≡◌, ◌≢◌, ◌⊎◌, Some, map}
use Rattle.shex_io.specs.Files.{Told}
use Rattle.rdf_terms.specs.declared.terms.Term.{Term}
use Rattle.shex_io.specs.Fetching.{IsFile, IsTooLong}
use Rattle.schema_files.specs.Refusals.{IsRefused as IsRefusedFile, Reaches as ReachesFile}
use Rattle.schema_files.specs.Sources.{AreSources, Source as SchemaSource, documents_of, root_names}
use Rattle.schema_files.specs.declared.error.FilesRefusal.TheVariants as FilesRefusals
use Rattle.graph_index.specs.declared.read_error.ReadError.{ReadError}
use Rattle.graph_index.specs.declared.read_error.ReadError.TheVariants as ReadErrors
use Rattle.graph_index.specs.declared.loading.TermTriple.{TermTriple}
use Rattle.lists.specs.Additions.{AddsAll}
use Rattle.data_reader.specs.Documents.{Context, IsData}
use Rattle.data_reader.specs.Endings.{Explains as DataExplains}
use Rattle.data_reader.specs.Formats.{format_of}
use Rattle.shape_map.specs.declared.error.MapError.{MapError}
use Rattle.shape_map.specs.declared.error.MapError.TheVariants as MapErrors
use Rattle.shape_map.specs.declared.items.Item.{Item}
use Rattle.shape_map.specs.Maps.{Explains as MapExplains, IsMap}
use Rattle.shape_map.specs.Selection.{refused, selected}
use Rattle.shape_map.specs.declared.resolve.Association.{Association}
use Rattle.demand.specs.Demand.{AreTooMany}
use Rattle.schema_load.specs.Refusals.{IsRefused as IsRefusedDocuments}
use Rattle.schema_load.specs.Stands.{Stands}
use Rattle.schema_load.specs.declared.error.LoadError.{LoadError}
use Rattle.schema_load.specs.declared.error.LoadError.TheVariants as LoadErrors
use Rattle.schema_tree.specs.Cycles.{IsNegatedCycle}
use Rattle.schema_tree.specs.declared.schema.Schema.{Schema}
use Rattle.schema_tree.specs.declared.schema.ShapeId.{ShapeId}
use Rattle.shex_inputs.specs.declared.error.Refusal.{Refusal}
use Rattle.shex_inputs.specs.declared.error.Refusal.TheVariants as Refusals
use Rattle.shex_inputs.specs.declared.error.Source.{Source}
use Rattle.shex_inputs.specs.declared.error.Source.TheVariants as Sources
use Rattle.term_tokens.specs.Scopes.{Scope}
use Rattle.shex_inputs.specs.Asked.{EndsAs, HoldsMap, node_names, root_of}
use Rattle.shex_inputs.specs.Held.{Held, IsHolding, IsSchemaOf, IsTaken, predicates_in}
use Rattle.shex_inputs.specs.Named.{Inputs, asked_of, source_name}

-- the files of the schema hold documents with this schema, these strata, this table of its predicates, and these base and prefixes at
-- the end of the first
pub record Takes (told : Told) (i : Inputs) (first : List Term) (s : Schema) (f : List ℕ) (v : Scope) : Type 0 where
  pub sources : List SchemaSource
  pub are_sources : AreSources told (asked_of i) sources
  pub labels : Some v ≡ root_names sources
  pub is_schema : IsSchemaOf (documents_of sources) first s f

-- the files of the schema are taken
abbrev pub IsSchemaTaken : Told → Inputs → Type 0
IsSchemaTaken told i = (first : List Term) × (s : Schema) × (f : List ℕ) × (v : Scope) × Takes told i first s f v

-- the steps come to a file of the inputs: those before it are taken
abbrev pub Reaches : Told → Inputs → Source → Type 0
Reaches told i (Sources.Schema file) = ReachesFile told (asked_of i) file
Reaches told i Sources.Data = IsSchemaTaken told i
Reaches told i Sources.Map = (h : Held) × IsTaken told i h

-- the documents of the schema stand for no schema, for this cause
pub record StandForNone (told : Told) (i : Inputs) (e : LoadError) : Type 0 where
  pub sources : List SchemaSource
  pub are_sources : AreSources told (asked_of i) sources
  pub apart : e ≢ LoadErrors.Memory
  pub refused : IsRefusedDocuments (documents_of sources) [] e

-- these Shapes of the schema are a cycle of references with a negative one (ShEx 2.1, section 5.7.4)
pub record HasNegation (told : Told) (i : Inputs) (cycle : List ShapeId) : Type 0 where
  pub sources : List SchemaSource
  pub are_sources : AreSources told (asked_of i) sources
  pub first : List Term
  pub schema : Schema
  pub predicates : AddsAll [] (predicates_in (documents_of sources)) first
  pub stands : Stands (documents_of sources) first schema
  pub is_cycle : IsNegatedCycle schema cycle

-- the schema is taken, the data file's bytes, within the limit, have this cause where the table has the predicates of the schema,
-- and no table and graph are made of them
pub record AreUnread (told : Told) (i : Inputs) (e : ReadError) : Type 0 where
  pub first : List Term
  pub schema : Schema
  pub strata : List ℕ
  pub labels : Scope
  pub taken : Takes told i first schema strata labels
  pub bytes : List ℕ
  pub file : IsFile told i.data_file bytes
  pub apart : e ≢ ReadErrors.Memory
  pub cause : DataExplains (format_of i.data_file) i.data_base e bytes first []
  pub none : (last : Context) (triples : List TermTriple) → IsData (format_of i.data_file) i.data_base (last, triples) bytes → (h : Held) → ¬ IsHolding (documents_of taken.sources) triples h

-- the schema and the data are taken, the map file's bytes, within the limit, have this cause, and they are no map
pub record IsNoMap (told : Told) (i : Inputs) (e : MapError) : Type 0 where
  pub held : Held
  pub taken : IsTaken told i held
  pub bytes : List ℕ
  pub file : IsFile told i.map_file bytes
  pub apart : e ≢ MapErrors.Memory
  pub cause : MapExplains (node_names held.names) held.labels e bytes
  pub none : (items : List Item) → ¬ IsMap (node_names held.names) held.labels bytes items

-- the schema, the data and the bytes of the map are taken, and the map ends with this refusal
pub record IsUnresolved (told : Told) (i : Inputs) (e : MapError) : Type 0 where
  pub held : Held
  pub taken : IsTaken told i held
  pub items : List Item
  pub holds_map : HoldsMap told i held items
  pub ends : EndsAs held items (refused e)

-- the schema, the data and the map are taken, and the associations ask for more pairs than may be asked for
pub record AsksForMany (told : Told) (i : Inputs) : Type 0 where
  pub held : Held
  pub taken : IsTaken told i held
  pub items : List Item
  pub holds_map : HoldsMap told i held items
  pub associations : List Association
  pub terms : List Term
  pub ends : EndsAs held items (selected associations terms)
  pub many : AreTooMany held.schema held.graph (map root_of associations)

-- the file is the first of the inputs that is not taken, and this is why: too many bytes are refused unread, an import where no word
-- names a file for its IRI, and each other refusal is by the bytes
abbrev pub IsRefused : Told → Inputs → Refusal → Type 0
IsRefused told i (Refusals.Size source) = Reaches told i source × IsTooLong told (source_name i source)
IsRefused told i (Refusals.Schema file e) = IsRefusedFile told (asked_of i) (FilesRefusals.Document file e)
IsRefused told i (Refusals.Import file iri) = IsRefusedFile told (asked_of i) (FilesRefusals.Import file iri)
IsRefused told i (Refusals.Load e) = StandForNone told i e
IsRefused told i (Refusals.NegatedCycle cycle) = HasNegation told i cycle
IsRefused told i (Refusals.Data e) = AreUnread told i e
IsRefused told i (Refusals.Map e) = IsNoMap told i e ⊎ IsUnresolved told i e
IsRefused told i Refusals.Pairs = AsksForMany told i

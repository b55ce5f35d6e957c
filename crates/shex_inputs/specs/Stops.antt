-- How the functions inside the crate stop. Of want of memory nothing is said.
use Rattle.std.specs.Prelude.{ℕ, List, [], ◌≡◌, ◌≢◌, ⊤}
use Rattle.shex_io.specs.Files.{Told}
use Rattle.shex_io.specs.declared.files.Act.{Act}
use Rattle.rdf_terms.specs.declared.terms.Term.{Term}
use Rattle.rdf_terms.specs.declared.terms.Triple.{Triple}
use Rattle.schema_documents.specs.Tree.{Document}
use Rattle.shex_io.specs.Fetching.{HasFailed, IsTooLong}
use Rattle.schema_files.specs.declared.error.FilesError.{FilesError}
use Rattle.schema_files.specs.declared.error.FilesError.TheVariants as FilesErrors
use Rattle.schema_files.specs.declared.error.FilesRefusal.{FilesRefusal}
use Rattle.schema_files.specs.declared.error.FilesRefusal.TheVariants as FilesRefusals
use Rattle.graph_index.specs.declared.read_error.ReadError.{ReadError}
use Rattle.graph_index.specs.declared.read_error.ReadError.TheVariants as ReadErrors
use Rattle.graph_index.specs.declared.loading.TermTriple.{TermTriple}
use Rattle.graph_index.specs.Loading.{IsWithin, Loads}
use Rattle.data_reader.specs.declared.format.Format.{Format}
use Rattle.data_reader.specs.Documents.{Context, IsData}
use Rattle.data_reader.specs.Endings.{Explains as DataExplains}
use Rattle.shape_map.specs.declared.error.MapError.{MapError}
use Rattle.shape_map.specs.declared.error.MapError.TheVariants as MapErrors
use Rattle.shape_map.specs.declared.items.Item.{Item}
use Rattle.shape_map.specs.Maps.{Explains as MapExplains, IsMap}
use Rattle.term_tokens.specs.Scopes.{Scope}
use Rattle.shex_inputs.specs.declared.error.InputError.{InputError}
use Rattle.shex_inputs.specs.declared.error.InputError.TheVariants.{Refused, Failed, Memory}
use Rattle.shex_inputs.specs.declared.error.Refusal.TheVariants as Refusals
use Rattle.shex_inputs.specs.declared.error.Source.{Source}
use Rattle.shex_inputs.specs.declared.error.Source.TheVariants as Sources
use Rattle.lists.specs.Additions.{AddsAll}
use Rattle.demand.specs.declared.error.DemandError.{DemandError}
use Rattle.demand.specs.declared.error.DemandError.TheVariants as DemandErrors
use Rattle.strata.specs.declared.list.StrataError.{StrataError}
use Rattle.strata.specs.declared.list.StrataError.TheVariants as StrataErrors
use Rattle.schema_load.specs.Refusals.{IsRefused as IsRefusedDocuments}
use Rattle.schema_load.specs.Stands.{Stands}
use Rattle.schema_load.specs.declared.error.LoadError.TheVariants as LoadErrors
use Rattle.schema_tree.specs.Cycles.{IsNegatedCycle}
use Rattle.schema_tree.specs.declared.schema.Schema.{Schema}
use Rattle.shex_inputs.specs.declared.error.Refusal.{Refusal}
use Rattle.shex_inputs.specs.Held.{predicates_in}

-- a file is too long, it was not fetched, or memory ran out
abbrev pub FetchStops : Told → List ℕ → Source → ℕ → ℕ → List ℕ → Act → InputError → Type 0
FetchStops told name source before after blame act (Refused refusal) = (refusal ≡ Refusals.Size source) × IsTooLong told name × (after ≡ before)
FetchStops told name source before after blame act (Failed other) = (other ≡ source) × HasFailed name before after blame act
FetchStops told name source before after blame act Memory = after ≡ before

-- the refusal that one of the files of a schema is
abbrev pub files_refusal : FilesRefusal → Refusal
files_refusal (FilesRefusals.Size file) = Refusals.Size (Sources.Schema file)
files_refusal (FilesRefusals.Document file e) = Refusals.Schema file e
files_refusal (FilesRefusals.Import file iri) = Refusals.Import file iri

-- the stop that an error of the documents is
abbrev pub files_stop : FilesError → InputError
files_stop (FilesErrors.Refused refusal) = Refused (files_refusal refusal)
files_stop (FilesErrors.Failed file) = Failed (Sources.Schema file)
files_stop FilesErrors.Memory = Memory

-- no document that the bytes spell goes into the table and a graph within their limits
abbrev pub AreUnreadable : Format → List ℕ → List Term → List ℕ → Type 0
AreUnreadable format base first bytes =
    (last : Context) (triples : List TermTriple) → IsData format base (last, triples) bytes → (terms : List Term) (graph : List Triple) → Loads first [] triples terms graph → ¬ IsWithin terms graph

-- data are not read into a table
abbrev pub ReadingStops : Format → List ℕ → List Term → List ℕ → ReadError → Type 0
ReadingStops format base first bytes e = e ≢ ReadErrors.Memory → DataExplains format base e bytes first [] × AreUnreadable format base first bytes

-- the documents stand for no schema with strata, for this cause
abbrev pub SchemaIsRefused : List Document → Refusal → Type 0
SchemaIsRefused docs (Refusals.Load e) = (e ≢ LoadErrors.Memory) × IsRefusedDocuments docs [] e
SchemaIsRefused docs (Refusals.NegatedCycle cycle) = (first : List Term) × (s : Schema) × AddsAll [] (predicates_in docs) first × Stands docs first s × IsNegatedCycle s cycle
SchemaIsRefused docs refusal = ⊥

-- documents are not loaded: they stand for no schema with strata, or memory ran out
abbrev pub LoadStops : List Document → InputError → Type 0
LoadStops docs (Refused refusal) = SchemaIsRefused docs refusal
LoadStops docs (Failed source) = ⊥
LoadStops docs Memory = ⊤

-- the stop that the error of strata is
abbrev pub strata_stop : StrataError → InputError
strata_stop (StrataErrors.NegatedCycle cycle) = Refused (Refusals.NegatedCycle cycle)
strata_stop StrataErrors.Memory = Memory

-- the stop that the error of the pairs that are asked for is
abbrev pub demand_stop : DemandError → InputError
demand_stop DemandErrors.Pairs = Refused Refusals.Pairs
demand_stop DemandErrors.Memory = Memory

-- bytes are no map
abbrev pub MapStops : Scope → Scope → List ℕ → MapError → Type 0
MapStops nodes labels bytes e = e ≢ MapErrors.Memory → MapExplains nodes labels e bytes × ((items : List Item) → ¬ IsMap nodes labels bytes items)

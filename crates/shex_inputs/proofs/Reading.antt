-- What is refused is not read, and what is fetched in vain is said so.
use Rattle.std.proofs.Common.{◌≡◌, ◌≢◌, ◌∙◌, ap, sym, subst, ℕ, List, [], ◌∷◌, inl, inr, length, map, refl, true, ◌≤◌}
use Rattle.rdf_terms.specs.declared.terms.Term.{Term}
use Rattle.rdf_terms.specs.declared.terms.Triple.{Triple}
use Rattle.graph_index.specs.declared.loading.TermTriple.{TermTriple}
use Rattle.graph_index.specs.Loading.{IsWithin, Loads}
use Rattle.graph_index.specs.declared.read_error.ReadError.{ReadError}
use Rattle.graph_index.specs.declared.read_error.ReadError.TheVariants as Errors
use Rattle.data_reader.specs.declared.format.Format.{Format}
use Rattle.data_reader.specs.Documents.{Context, IsData}
use Rattle.data_reader.specs.Endings.{Explains as DataExplains}
use Rattle.shex_io.specs.Files.{Told}
use Rattle.shex_io.specs.declared.files.Act.{Act}
use Rattle.shex_inputs.specs.declared.error.InputError.{InputError}
use Rattle.shex_inputs.specs.declared.error.Refusal.{Refusal}
use Rattle.shex_inputs.specs.declared.error.Refusal.TheVariants as Refusals
use Rattle.shex_inputs.specs.declared.error.InputError.TheVariants.{Refused, Failed, Memory}
use Rattle.shex_inputs.specs.declared.error.Source.{Source}
use Rattle.shex_inputs.specs.declared.error.Source.TheVariants as Sources
use Rattle.data_reader.specs.Formats.{format_of}
use Rattle.schema_documents.specs.Tree.{Document, document_of}
use Rattle.shex_io.specs.Fetching.{IsFile}
use Rattle.schema_files.specs.Refusals.{Explains as FilesExplain, FaultsAs as FilesFaultAs}
use Rattle.schema_files.specs.Sources.{AreHeld, AreSources, Source as SchemaSource, digest_list, documents_of, source_digests}
use Rattle.schema_files.specs.declared.error.FilesError.{FilesError}
use Rattle.schema_files.specs.declared.error.FilesError.TheVariants as FilesErrors
use Rattle.schema_files.specs.declared.error.FilesRefusal.TheVariants as FilesRefusals
use Rattle.schema_files.specs.declared.error.SchemaFile.TheVariants.{Root}
use Rattle.schema_files.specs.declared.reading.Documents.{Documents}
use Rattle.schema_files.specs.declared.reading.FileDigests.{FileDigests}
use Rattle.sha2.specs.Sha256.{sha256}
use Rattle.shape_map.specs.declared.error.MapError.{MapError}
use Rattle.shape_map.specs.declared.error.MapError.TheVariants as MapErrors
use Rattle.shape_map.specs.declared.items.Item.{Item}
use Rattle.shape_map.specs.Selection.{UnlessMemory, refused, selected}
use Rattle.shape_map.specs.declared.resolve.Association.{Association}
use Rattle.demand.specs.Demand.{AreTooMany}
use Rattle.demand.specs.declared.error.DemandError.{DemandError}
use Rattle.demand.specs.declared.error.DemandError.TheVariants as DemandErrors
use Rattle.schema_tree.specs.declared.schema.Schema.{Schema}
use Rattle.term_tokens.specs.Scopes.{Scope, scope_of}
use Rattle.std.proofs.lemmas.Bool.{and_parts}
use Rattle.std.specs.Prelude.{IsSome, Some}
use Rattle.iri_resolve.specs.Reference.{scheme_of}
use Rattle.input_names.specs.Names.{is_base}
use Rattle.shex_inputs.specs.Asked.{EndsAs, HoldsMap, node_names, root_of}
use Rattle.shex_inputs.specs.Held.{Held, IsHolding, IsSchemaOf, IsTaken, predicates_in}
use Rattle.shex_inputs.specs.Named.{Inputs, asked_of, source_name, source_of}
use Rattle.shex_inputs.specs.Outcomes.{Explains, FaultsAs, IsBeforeMap, IsOfSchema, IsRefusalOf}
use Rattle.shex_inputs.specs.Refusals.{AreUnread, IsRefused, Reaches, Takes}
use Rattle.shex_inputs.specs.Stops.{AreUnreadable, FetchStops, LoadStops, MapStops, ReadingStops, demand_stop, files_stop, strata_stop}
use Rattle.shex_inputs.proofs.Holdings.{first_one}
use Rattle.std.specs.Prelude.{Err, IfErr, IfOk, Ok, Result}
use Rattle.lists.specs.Additions.{AddsAll}
use Rattle.rdf_terms.specs.Tables.{max_terms}
use Rattle.schema_load.specs.Refusals.{Explains as ExplainsDocuments, IsRefused as IsRefusedDocuments}
use Rattle.schema_load.specs.Stands.{Stands}
use Rattle.schema_load.specs.declared.error.LoadError.{LoadError}
use Rattle.schema_load.specs.declared.error.LoadError.TheVariants as LoadErrors
use Rattle.schema_tree.specs.Edges.{IsStratum}
use Rattle.strata.specs.Layered.{Explains as ExplainsStrata}
use Rattle.strata.specs.declared.list.StrataError.{StrataError}
use Rattle.strata.specs.declared.list.StrataError.TheVariants as StrataErrors
use Rattle.shex_inputs.specs.declared.schema.Loaded.{Loaded}
use Rattle.shex_inputs.proofs.Asking.{unless_memory}

module _ (format : Format) (base : List ℕ) (first : List Term) (old : List Triple) (bytes : List ℕ) (nothing_held : old ≡ []) where
  -- only want of memory refuses what the bytes are
  abbrev IsComplete : ReadError → Type 0
  IsComplete e = (last : Context) (triples : List TermTriple) (a : List Term) (b : List Triple) → IsData format base (last, triples) bytes →
      Loads first old triples a b → IsWithin a b → e ≡ Errors.Memory

  unread : (e : ReadError) → IsComplete e → e ≢ Errors.Memory → AreUnreadable format base first bytes
  unread e complete apart last triples spelled a b loads within = apart (complete last triples a b spelled (subst (λ g. Loads first g triples a b) (sym nothing_held) loads) within)

  caused : (e : ReadError) → DataExplains format base e bytes first old → DataExplains format base e bytes first []
  caused e h = subst (λ g. DataExplains format base e bytes first g) nothing_held h

  pub reading_stops : (e : ReadError) → DataExplains format base e bytes first old → IsComplete e → ReadingStops format base first bytes e
  reading_stops e h complete = λ apart. (caused e h, unread e complete apart)

-- what holds of want of memory and of the refusal holds of the stop
pub by_refusal : {E : Type 0} (memory : E) (refusal : E → Refusal) (e : E) (stop : InputError) (P : InputError → Type 0) → IsRefusalOf memory refusal e stop →
    P Memory → (e ≢ memory → P (Refused (refusal e))) → P stop
by_refusal memory refusal e stop P (inl (is, made)) wanting to = subst P (sym made) wanting
by_refusal memory refusal e stop P (inr (apart, made)) wanting to = subst P (sym made) (to apart)

-- a fetch that stops
pub fetch_explains : (told : Told) (i : Inputs) (source : Source) (before after : ℕ) (blame : List ℕ) (act : Act) (e : InputError) → Reaches told i source →
    FetchStops told (source_name i source) source before after blame act e → Explains told i e
fetch_explains told i source before after blame act (Refused refusal) reached (size, long, stay) = subst (λ r. IsRefused told i r) (sym size) (reached, long)
fetch_explains told i source before after blame act (Failed other) reached (same, faults) = subst (λ s. Reaches told i s) (sym same) reached
fetch_explains told i source before after blame act Memory reached stay = tt

pub fetch_faults : (told : Told) (i : Inputs) (source : Source) (before after : ℕ) (blame : List ℕ) (act : Act) (e : InputError) →
    FetchStops told (source_name i source) source before after blame act e → FaultsAs i before after blame act e
fetch_faults told i source before after blame act (Refused refusal) (size, long, stay) = stay
fetch_faults told i source before after blame act (Failed other) (same, faults) = subst (λ s. FaultsAs i before after blame act (Failed s)) (sym same) faults
fetch_faults told i source before after blame act Memory stay = stay

pub fetch_before_map : (told : Told) (name : List ℕ) (source : Source) (before after : ℕ) (blame : List ℕ) (act : Act) (e : InputError) → source ≢ Sources.Map →
    FetchStops told name source before after blame act e → IsBeforeMap e
fetch_before_map told name source before after blame act (Refused refusal) other (size, long, stay) = λ is. other (ap source_of (sym size) ∙ is)
fetch_before_map told name source before after blame act (Failed failed) other (same, faults) = λ is. other (sym same ∙ is)
fetch_before_map told name source before after blame act Memory other stay = tt

-- the documents of the schema that are not read
pub files_explain : (told : Told) (i : Inputs) (e : FilesError) (stop : InputError) → FilesExplain told (asked_of i) e → stop ≡ files_stop e → Explains told i stop
files_explain told i (FilesErrors.Refused (FilesRefusals.Size file)) stop why made = subst (Explains told i) (sym made) why
files_explain told i (FilesErrors.Refused (FilesRefusals.Document file e)) stop why made = subst (Explains told i) (sym made) why
files_explain told i (FilesErrors.Refused (FilesRefusals.Import file iri)) stop why made = subst (Explains told i) (sym made) why
files_explain told i (FilesErrors.Failed file) stop why made = subst (Explains told i) (sym made) why
files_explain told i FilesErrors.Memory stop why made = subst (Explains told i) (sym made) tt

pub files_faults : (i : Inputs) (before after : ℕ) (blame : List ℕ) (act : Act) (e : FilesError) (stop : InputError) →
    FilesFaultAs (asked_of i) before after blame act e → stop ≡ files_stop e → FaultsAs i before after blame act stop
files_faults i before after blame act (FilesErrors.Refused refusal) stop faults made = subst (FaultsAs i before after blame act) (sym made) faults
files_faults i before after blame act (FilesErrors.Failed file) stop faults made = subst (FaultsAs i before after blame act) (sym made) faults
files_faults i before after blame act FilesErrors.Memory stop faults made = subst (FaultsAs i before after blame act) (sym made) faults

pub files_before_map : (e : FilesError) (stop : InputError) → stop ≡ files_stop e → IsBeforeMap stop
files_before_map (FilesErrors.Refused (FilesRefusals.Size file)) stop made = subst IsBeforeMap (sym made) (λ e. cc)
files_before_map (FilesErrors.Refused (FilesRefusals.Document file e)) stop made = subst IsBeforeMap (sym made) (λ e. cc)
files_before_map (FilesErrors.Refused (FilesRefusals.Import file iri)) stop made = subst IsBeforeMap (sym made) (λ e. cc)
files_before_map (FilesErrors.Failed file) stop made = subst IsBeforeMap (sym made) (λ e. cc)
files_before_map FilesErrors.Memory stop made = subst IsBeforeMap (sym made) tt

pub files_of_schema : (e : FilesError) (stop : InputError) → stop ≡ files_stop e → IsOfSchema stop
files_of_schema (FilesErrors.Refused (FilesRefusals.Size file)) stop made = subst IsOfSchema (sym made) (file, refl)
files_of_schema (FilesErrors.Refused (FilesRefusals.Document file e)) stop made = subst IsOfSchema (sym made) (file, refl)
files_of_schema (FilesErrors.Refused (FilesRefusals.Import file iri)) stop made = subst IsOfSchema (sym made) (file, refl)
files_of_schema (FilesErrors.Failed file) stop made = subst IsOfSchema (sym made) (file, refl)
files_of_schema FilesErrors.Memory stop made = subst IsOfSchema (sym made) tt

-- documents that are not loaded
load_explains : (told : Told) (i : Inputs) (ss : List SchemaSource) (stop : InputError) → AreSources told (asked_of i) ss → LoadStops (documents_of ss) stop → Explains told i stop
load_explains told i ss (Refused (Refusals.Load e)) are (apart, why) = record { sources = ss; are_sources = are; apart = apart; refused = why }
load_explains told i ss (Refused (Refusals.NegatedCycle cycle)) are (first, s, predicates, stands, negated) =
    record { sources = ss; are_sources = are; first = first; schema = s; predicates = predicates; stands = stands; is_cycle = negated }
load_explains told i ss (Refused (Refusals.Size source)) are stops = absurd stops
load_explains told i ss (Refused (Refusals.Schema file e)) are stops = absurd stops
load_explains told i ss (Refused (Refusals.Import file iri)) are stops = absurd stops
load_explains told i ss (Refused (Refusals.Data e)) are stops = absurd stops
load_explains told i ss (Refused (Refusals.Map e)) are stops = absurd stops
load_explains told i ss (Refused Refusals.Pairs) are stops = absurd stops
load_explains told i ss (Failed source) are stops = absurd stops
load_explains told i ss Memory are stops = tt

load_faults : (i : Inputs) (docs : List Document) (before after : ℕ) (blame : List ℕ) (act : Act) (stop : InputError) → LoadStops docs stop → after ≡ before → FaultsAs i before after blame act stop
load_faults i docs before after blame act (Refused refusal) stops stay = stay
load_faults i docs before after blame act (Failed source) stops stay = absurd stops
load_faults i docs before after blame act Memory stops stay = stay

load_before_map : (docs : List Document) (stop : InputError) → LoadStops docs stop → IsBeforeMap stop
load_before_map docs (Refused (Refusals.Load e)) stops = λ h. cc
load_before_map docs (Refused (Refusals.NegatedCycle cycle)) stops = λ e. cc
load_before_map docs (Refused (Refusals.Size source)) stops = absurd stops
load_before_map docs (Refused (Refusals.Schema file e)) stops = absurd stops
load_before_map docs (Refused (Refusals.Import file iri)) stops = absurd stops
load_before_map docs (Refused (Refusals.Data e)) stops = absurd stops
load_before_map docs (Refused (Refusals.Map e)) stops = absurd stops
load_before_map docs (Refused Refusals.Pairs) stops = absurd stops
load_before_map docs (Failed source) stops = absurd stops
load_before_map docs Memory stops = tt

load_of_schema : (docs : List Document) (stop : InputError) → LoadStops docs stop → IsOfSchema stop
load_of_schema docs (Refused (Refusals.Load e)) stops = (Root, refl)
load_of_schema docs (Refused (Refusals.NegatedCycle cycle)) stops = (Root, refl)
load_of_schema docs (Refused (Refusals.Size source)) stops = absurd stops
load_of_schema docs (Refused (Refusals.Schema file e)) stops = absurd stops
load_of_schema docs (Refused (Refusals.Import file iri)) stops = absurd stops
load_of_schema docs (Refused (Refusals.Data e)) stops = absurd stops
load_of_schema docs (Refused (Refusals.Map e)) stops = absurd stops
load_of_schema docs (Refused Refusals.Pairs) stops = absurd stops
load_of_schema docs (Failed source) stops = absurd stops
load_of_schema docs Memory stops = tt

-- what explains a refusal of documents that is no want of memory refuses them
refused_documents : (docs : List Document) (terms : List Term) (e : LoadError) → e ≢ LoadErrors.Memory → ExplainsDocuments docs terms e → IsRefusedDocuments docs terms e
refused_documents docs terms LoadErrors.Memory apart h = absurd (apart refl)
refused_documents docs terms (LoadErrors.Twice l) apart h = h
refused_documents docs terms (LoadErrors.Missing l) apart h = h
refused_documents docs terms (LoadErrors.Circle l) apart h = h
refused_documents docs terms (LoadErrors.IncludeCircle l) apart h = h
refused_documents docs terms (LoadErrors.Deep t) apart h = h
refused_documents docs terms (LoadErrors.Occurrences t) apart h = h
refused_documents docs terms LoadErrors.Shapes apart h = h
refused_documents docs terms LoadErrors.Full apart h = h

-- documents that stand for no schema are not loaded
pub load_stops : (docs : List Document) (terms : List Term) (e : LoadError) (stop : InputError) → terms ≡ [] → ExplainsDocuments docs terms e →
    IsRefusalOf LoadErrors.Memory (λ x. Refusals.Load x) e stop → LoadStops docs stop
load_stops docs terms e stop none explains made =
    by_refusal LoadErrors.Memory (λ x. Refusals.Load x) e stop (λ z. LoadStops docs z) made tt
    (λ apart. (apart, subst (λ ts. IsRefusedDocuments docs ts e) none (refused_documents docs terms e apart explains)))

-- a schema without strata is not loaded
pub strata_stops : (docs : List Document) (old first : List Term) (s : Schema) (e : StrataError) (stop : InputError) → old ≡ [] → AddsAll old (predicates_in docs) first → Stands docs first s →
    ExplainsStrata s e → stop ≡ strata_stop e → LoadStops docs stop
strata_stops docs old first s (StrataErrors.NegatedCycle cycle) stop none adds stands explains made =
    subst (λ z. LoadStops docs z) (sym made) (first, s, subst (λ ts. AddsAll ts (predicates_in docs) first) none adds, stands, explains)
strata_stops docs old first s StrataErrors.Memory stop none adds stands explains made = subst (λ z. LoadStops docs z) (sym made) tt

-- what is loaded is the schema of the documents
pub is_schema : (docs : List Document) (old first : List Term) (s : Schema) (f : List ℕ) → old ≡ [] → AddsAll old (predicates_in docs) first →
    length first ≤ max_terms → Stands docs first s → IsStratum s f → IsSchemaOf docs first s f
is_schema docs old first s f none adds few stands strata = record {
  predicates = subst (λ ts. AddsAll ts (predicates_in docs) first) none adds;
  few = few;
  stands = stands;
  strata = strata;
}

-- what is loaded of the documents of the schema's files is taken, and what is not is explained
pub loaded_taken : (told : Told) (i : Inputs) (d : Documents) (ss : List SchemaSource) (r : Result Loaded InputError) → AreSources told (asked_of i) ss →
    AreHeld d ss → IfOk r (λ l. IsSchemaOf (map document_of d.docs.items) l.terms l.schema l.strata) → IfOk r (λ l. l.labels ≡ d.names) → IfOk r (λ l. l.digests ≡ d.digests)
    → IfOk r (λ l. (taken : Takes told i l.terms l.schema l.strata (scope_of l.labels)) × (digest_list l.digests ≡ source_digests taken.sources))
loaded_taken told i d ss (Ok l) are held h labels digests = (
  record {
    sources = ss;
    are_sources = are;
    labels = ap (λ p. Some (scope_of p)) labels ∙ held.names;
    is_schema = subst (λ docs. IsSchemaOf docs l.terms l.schema l.strata) held.documents h;
  },
  ap digest_list digests ∙ held.digests,
)
loaded_taken told i d ss (Err e) are held h labels digests = h

pub unloaded_explains : (told : Told) (i : Inputs) (d : Documents) (ss : List SchemaSource) (r : Result Loaded InputError) → AreSources told (asked_of i) ss →
    AreHeld d ss → IfErr r (LoadStops (map document_of d.docs.items)) → IfErr r (Explains told i)
unloaded_explains told i d ss (Ok l) are held h = h
unloaded_explains told i d ss (Err e) are held h = load_explains told i ss e are (subst (λ docs. LoadStops docs e) held.documents h)

pub unloaded_faults : (i : Inputs) (docs : List Document) (before after : ℕ) (blame : List ℕ) (act : Act) (r : Result Loaded InputError) →
    IfErr r (LoadStops docs) → after ≡ before → IfErr r (FaultsAs i before after blame act)
unloaded_faults i docs before after blame act (Ok l) h stay = tt
unloaded_faults i docs before after blame act (Err e) h stay = load_faults i docs before after blame act e h stay

pub unloaded_before_map : (docs : List Document) (r : Result Loaded InputError) → IfErr r (LoadStops docs) → IfErr r IsBeforeMap
unloaded_before_map docs (Ok l) h = tt
unloaded_before_map docs (Err e) h = load_before_map docs e h

pub unloaded_of_schema : (docs : List Document) (r : Result Loaded InputError) → IfErr r (LoadStops docs) → IfErr r IsOfSchema
unloaded_of_schema docs (Ok l) h = tt
unloaded_of_schema docs (Err e) h = load_of_schema docs e h

-- a stop that is no fault of the files
pub refused_faults : {E : Type 0} (memory : E) (refusal : E →
    Refusal) (e : E) (stop : InputError) (i : Inputs) (before after : ℕ) (blame : List ℕ) (act : Act) → IsRefusalOf memory refusal e stop → after ≡ before → FaultsAs i before after blame act stop
refused_faults memory refusal e stop i before after blame act made stay = by_refusal memory refusal e stop (λ z. FaultsAs i before after blame act z) made stay (λ apart. stay)

pub refused_before_map : {E : Type 0} (memory : E) (refusal : E → Refusal) (e : E) (stop : InputError) → IsRefusalOf memory refusal e stop → source_of (refusal e) ≢ Sources.Map → IsBeforeMap stop
refused_before_map memory refusal e stop made other = by_refusal memory refusal e stop IsBeforeMap made tt (λ apart. other)

-- data that are not read into the table of the predicates are not read
explained : (told : Told) (i : Inputs) (first : List Term) (s : Schema) (f : List ℕ) (v : Scope) (bytes text : List ℕ) (e : ReadError) →
    Takes told i first s f v → IsFile told i.data_file bytes → text ≡ bytes → ReadingStops (format_of i.data_file) i.data_base first text e → e ≢ Errors.Memory → AreUnread told i e
explained told i first s f v bytes text e taken file same stops apart = record {
  first = first;
  schema = s;
  strata = f;
  labels = v;
  taken = taken;
  bytes = text;
  file = subst (IsFile told i.data_file) (sym same) file;
  apart = apart;
  cause = (stops apart).0;
  none = λ last triples spelled h is.
      (stops apart).1 last triples spelled h.terms h.graph
      (subst (λ ts. Loads ts [] triples h.terms h.graph) (first_one (documents_of taken.sources) is.first first is.is_schema.predicates taken.is_schema.predicates) is.graph) is.within;
}

pub data_explains : (told : Told) (i : Inputs) (format : Format) (first : List Term) (s : Schema) (f : List ℕ) (v : Scope) (bytes text : List ℕ) (e : ReadError) (stop : InputError) →
    Takes told i first s f v → IsFile told i.data_file bytes → format ≡ format_of i.data_file → text ≡ bytes → ReadingStops format i.data_base first text e →
    IsRefusalOf Errors.Memory (λ x. Refusals.Data x) e stop → Explains told i stop
data_explains told i format first s f v bytes text e stop taken file is same stops made =
    by_refusal Errors.Memory (λ x. Refusals.Data x) e stop (λ z. Explains told i z) made tt
    (explained told i first s f v bytes text e taken file same (subst (λ m. ReadingStops m i.data_base first text e) is stops))

-- a map that is not read
pub map_explains : (told : Told) (i : Inputs) (h : Held) (bytes text : List ℕ) (e : MapError) (stop : InputError) → IsTaken told i h →
    IsFile told i.map_file bytes → text ≡ bytes → MapStops (node_names h.names) h.labels text e →
    IsRefusalOf MapErrors.Memory (λ x. Refusals.Map x) e stop → Explains told i stop
map_explains told i h bytes text e stop taken file same stops made =
    by_refusal MapErrors.Memory (λ x. Refusals.Map x) e stop (λ z. Explains told i z) made tt (λ apart. inl (record {
      held = h;
      taken = taken;
      bytes = text;
      file = subst (IsFile told i.map_file) (sym same) file;
      apart = apart;
      cause = (stops apart).0;
      none = (stops apart).1;
    }))

-- a map whose associations are refused
pub asking_explains : (told : Told) (i : Inputs) (h : Held) (items : List Item) (e : MapError) (stop : InputError) → IsTaken told i h →
    HoldsMap told i h items → UnlessMemory e (EndsAs h items (refused e)) →
    IsRefusalOf MapErrors.Memory (λ x. Refusals.Map x) e stop → Explains told i stop
asking_explains told i h items e stop taken holds ends made =
    by_refusal MapErrors.Memory (λ x. Refusals.Map x) e stop (λ z. Explains told i z) made tt
    (λ apart. inr (record { held = h; taken = taken; items = items; holds_map = holds; ends = unless_memory e (EndsAs h items (refused e)) apart ends }))

-- a map that asks for too much
pub demand_explains : (told : Told) (i : Inputs) (h : Held) (items : List Item) (associations : List Association) (terms : List Term) (e : DemandError) (stop : InputError) → IsTaken told i h →
    HoldsMap told i h items → EndsAs h items (selected associations terms) →
    (e ≢ DemandErrors.Memory → AreTooMany h.schema h.graph (map root_of associations)) → stop ≡ demand_stop e → Explains told i stop
demand_explains told i h items associations terms DemandErrors.Pairs stop taken holds ends many made =
    subst (λ z. Explains told i z) (sym made) (record { held = h; taken = taken; items = items; holds_map = holds; associations = associations; terms = terms; ends = ends; many = many (λ e. cc) })
demand_explains told i h items associations terms DemandErrors.Memory stop taken holds ends many made = subst (λ z. Explains told i z) (sym made) tt

-- what is too much over what the code holds is so over what is held
pub too_many : (s t : Schema) (g h : List Triple) (xs ys : List Association) → s ≡ t → g ≡ h → xs ≡ ys → AreTooMany s g (map root_of xs) → AreTooMany t h (map root_of ys)
too_many s t g h xs ys schema graph same many =
    subst (λ zs. AreTooMany t h (map root_of zs)) same (subst (λ k. AreTooMany t k (map root_of xs)) graph (subst (λ v. AreTooMany v g (map root_of xs)) schema many))

pub demand_faults : (i : Inputs) (before after : ℕ) (blame : List ℕ) (act : Act) (e : DemandError) (stop : InputError) → stop ≡ demand_stop e → after ≡ before → FaultsAs i before after blame act stop
demand_faults i before after blame act DemandErrors.Pairs stop made stay = subst (λ z. FaultsAs i before after blame act z) (sym made) stay
demand_faults i before after blame act DemandErrors.Memory stop made stay = subst (λ z. FaultsAs i before after blame act z) (sym made) stay

-- a base that passed its check has a scheme
pub base_scheme : (text : List ℕ) → is_base text ≡ true → IsSome (scheme_of text)
unfolding is_base
base_scheme text h = (and_parts _ _ h).0

-- what is read is taken
pub are_taken : (told : Told) (i : Inputs) (h : Held) (format : Format) (first : List Term) (s : Schema) (f : List ℕ) (v : Scope) (bytes text : List ℕ) (triples : List TermTriple)
    (taken : Takes told i first s f v) → h.labels ≡ v → IsFile told i.data_file bytes → format ≡ format_of i.data_file → text ≡ bytes
    → IsData format i.data_base (h.names, triples) text → IsHolding (documents_of taken.sources) triples h → (digests : FileDigests) → digest_list digests ≡
    source_digests taken.sources → h.files.schema ∷ h.files.imports ≡ digest_list digests → h.files.graph.0 ≡ sha256 text → IsTaken told i h
are_taken told i h format first s f v bytes text triples taken labels file is same spelled holding digests listed schemas graph = record {
  sources = taken.sources;
  are_sources = taken.are_sources;
  labels = ap (λ z. Some z) labels ∙ taken.labels;
  triples = triples;
  holds_data = record { bytes = bytes; file = file; spelled = subst (λ bs. IsData (format_of i.data_file) i.data_base (h.names, triples) bs) same (subst (λ m. IsData m i.data_base (h.names, triples) text) is spelled) };
  holding = holding;
  digests = record { schemas = schemas ∙ listed; graph = graph ∙ ap sha256 same };
}

-- Where contents are told, a file of the inputs is taken, refused or absent, and not two of these.
use Rattle.std.proofs.Common.{◌≡◌, ◌∙◌, ap, sym, subst, refl, List, ℕ, [], inl, inr, map, Ok}
use Rattle.std.specs.Prelude.{Option, Some, ⊤}
use Rattle.shex_io.specs.Files.{Lacks, Told}
use Rattle.rdf_terms.specs.declared.terms.Term.{Term}
use Rattle.graph_index.specs.declared.read_error.ReadError.{ReadError}
use Rattle.shex_io.specs.Fetching.{IsTooLong}
use Rattle.schema_files.specs.Laws.{ReadIsNotLeft, RefusedIsOne, SourcesAreOne}
use Rattle.schema_files.specs.Named.{file_of}
use Rattle.schema_files.specs.Refusals.{IsRefused as IsRefusedFile}
use Rattle.schema_files.specs.Sources.{AreSources, Source as SchemaSource, documents_of, root_names}
use Rattle.schema_files.specs.declared.error.FilesRefusal.{FilesRefusal}
use Rattle.schema_files.specs.declared.error.FilesRefusal.TheVariants as FilesRefusals
use Rattle.schema_files.specs.declared.error.SchemaFile.{SchemaFile}
use Rattle.schema_files.specs.declared.error.SchemaFile.TheVariants.{Root}
use Rattle.term_tokens.specs.Scopes.{Scope}
use Rattle.graph_index.specs.declared.loading.TermTriple.{TermTriple}
use Rattle.data_reader.specs.Documents.{Context, IsData}
use Rattle.data_reader.specs.Endings.{DataAreOne}
use Rattle.data_reader.specs.Formats.{format_of}
use Rattle.shape_map.specs.declared.error.MapError.{MapError}
use Rattle.shape_map.specs.declared.items.Item.{Item}
use Rattle.shape_map.specs.declared.resolve.Association.{Association}
use Rattle.shape_map.specs.Maps.{IsMap, MapsAreOne}
use Rattle.shape_map.specs.Selection.{Outcome, refused, selected}
use Rattle.shape_map.proofs.Resolved.{resolves_one}
use Rattle.shex_inputs.specs.declared.error.Refusal.{Refusal}
use Rattle.shex_inputs.specs.declared.error.Refusal.TheVariants as Refusals
use Rattle.shex_inputs.specs.declared.error.Source.{Source}
use Rattle.shex_inputs.specs.declared.error.Source.TheVariants.{Schema as OfSchema, Data, Map}
use Rattle.shex_inputs.specs.Asked.{EndsAs, HoldsMap, IsAskedOf, Question, node_names, root_of}
use Rattle.shex_inputs.specs.Held.{Held, HoldsData, IsHolding, IsTaken, predicates_in}
use Rattle.shex_inputs.specs.Laws.{AskedIsNotLeft, HeldIsOne, InputsAreOne, LeftIsOne, QuestionIsOne, SchemaIsNotLeft, SchemasAreNotLeft, TakenIsLoaded, TakenIsNotLeft}
use Rattle.shex_inputs.specs.Named.{Inputs, asked_of, source_name, source_of}
use Rattle.shex_inputs.specs.Outcomes.{IsAbsent}
use Rattle.shex_inputs.specs.Refusals.{AreUnread, AsksForMany, HasNegation, IsNoMap, IsRefused, IsSchemaTaken, IsUnresolved, Reaches, StandForNone, Takes}
use Rattle.schema_files.proofs.Contents.{held_there, not_too_long, same_bytes}
use Rattle.shex_inputs.proofs.Demanded.{asked_moved, asked_one}
use Rattle.shex_inputs.proofs.Digested.{files_one}
use Rattle.shex_inputs.proofs.Holdings.{one_holding, stands_one as one_standing}
use Rattle.demand.specs.Demand.{AreTooMany}
use Rattle.demand.proofs.Reached.{not_many}
use Rattle.lists.specs.Additions.{AddsAll}
use Rattle.schema_load.proofs.Exact.{unrefused}
use Rattle.schema_load.specs.Laws.{OneSchema}
use Rattle.schema_load.specs.Refusals.{IsRefused as IsRefusedDocuments}
use Rattle.schema_load.specs.Stands.{Stands as StandsFor}
use Rattle.schema_load.specs.declared.error.LoadError.{LoadError}
use Rattle.schema_tree.specs.Cycles.{IsNegatedCycle}
use Rattle.schema_tree.specs.Laws.{CyclesAreLists, StrataAreStratified, StratifiedHasNoCycle}
use Rattle.schema_tree.specs.declared.schema.Schema.{Schema}
use Rattle.schema_tree.specs.declared.schema.ShapeId.{ShapeId}

-- the laws of the crates below
pub record AreLaws : Type 0 where
  pub sources : SourcesAreOne
  pub not_left : ReadIsNotLeft
  pub one_left : RefusedIsOne
  pub data_one : DataAreOne
  pub maps_one : MapsAreOne
  pub one : OneSchema
  pub loaded : TakenIsLoaded
  pub stratified : StrataAreStratified
  pub no_cycle : StratifiedHasNoCycle
  pub cycles : CyclesAreLists

-- ---- one map ends in one way

abbrev associations_in : Outcome → List Association
associations_in (selected xs new) = xs
associations_in (refused e) = []

abbrev table_in : Outcome → List Term
table_in (selected xs new) = new
table_in (refused e) = []

-- ---- one thing is held

module _ (contents : List ℕ → Option (List ℕ)) (i : Inputs) (laws : AreLaws) where
  abbrev told : Told
  told = Some contents

  one_schema : (ss others : List SchemaSource) → AreSources told (asked_of i) ss → AreSources told (asked_of i) others → ss ≡ others
  one_schema ss others h k = laws.sources contents (asked_of i) ss others h k

  one_scope : (v w : Scope) → Some v ≡ Some w → v ≡ w
  one_scope v w h = cc

  one_source : (v w : Context) (a b : List TermTriple) → HoldsData told i v a → HoldsData told i w b → Path (Context × List TermTriple) (v, a) (w, b)
  one_source v w a b h k =
      laws.data_one (format_of i.data_file) i.data_base h.bytes (v, a) (w, b) h.spelled
      (subst (λ bs. IsData (format_of i.data_file) i.data_base (w, b) bs) (same_bytes contents i.data_file k.bytes h.bytes k.file.held h.file.held) k.spelled)

  pub held_one : HeldIsOne contents i
  held_one h k x y =
      let same : x.sources ≡ y.sources = one_schema x.sources y.sources x.are_sources y.are_sources in
      let labels : h.labels ≡ k.labels = one_scope h.labels k.labels (x.labels ∙ ap root_names same ∙ sym y.labels) in
      let whole = one_source h.names k.names x.triples y.triples x.holds_data y.holds_data in
      let names : h.names ≡ k.names = ap (λ (p : Context × List TermTriple). p.0) whole in
      let triples : x.triples ≡ y.triples = ap (λ (p : Context × List TermTriple). p.1) whole in
      let docs : documents_of x.sources ≡ documents_of y.sources = ap documents_of same in
      let files : h.files ≡ k.files =
      files_one x.sources y.sources x.holds_data.bytes y.holds_data.bytes h.files k.files x.digests y.digests same (same_bytes contents i.data_file x.holds_data.bytes y.holds_data.bytes x.holds_data.file.held y.holds_data.file.held) in
      one_holding laws.one (documents_of y.sources) y.triples h k (subst (λ ts. IsHolding (documents_of y.sources) ts h) triples (subst (λ ds. IsHolding ds x.triples h) docs x.holding)) y.holding labels names files

  one_items : (v : Held) (a b : List Item) → HoldsMap told i v a → HoldsMap told i v b → a ≡ b
  one_items v a b h k =
      laws.maps_one (node_names v.names) v.labels h.bytes a b h.spelled
      (subst (λ bs. IsMap (node_names v.names) v.labels bs b) (same_bytes contents i.map_file k.bytes h.bytes k.file.held h.file.held) k.spelled)

  -- what is asked of what is held
  record Stands (h : Held) (items : List Item) (o : Outcome) : Type 0 where
    holds_map : HoldsMap told i h items
    ends : EndsAs h items o

  stands_one : (h k : Held) → IsTaken told i h → IsTaken told i k → (is js : List Item) (o p : Outcome) → Stands h is o → Stands k js p → o ≡ p
  stands_one h k x y is js o p s t =
      let s' : Stands k is o = subst (λ v. Stands v is o) (held_one h k x y) s in
      let items : is ≡ js = one_items k is js s'.holds_map t.holds_map in
      resolves_one k.schema k.graph (laws.loaded told i k y).once k.terms y.holding.distinct js o p (subst (λ v. EndsAs k v o) items s'.ends) t.ends

  asked_stands : (q : Question) (x : IsAskedOf told i q) → Stands q.held x.items (selected q.associations q.terms)
  asked_stands q x = record { holds_map = x.holds_map; ends = x.ends }

  pub question_one : QuestionIsOne contents i
  question_one p q x y =
      let held : p.held ≡ q.held = held_one p.held q.held x.taken y.taken in
      let same = stands_one p.held q.held x.taken y.taken x.items y.items (selected p.associations p.terms) (selected q.associations q.terms) (asked_stands p x) (asked_stands q y) in
      let tables : p.terms ≡ q.terms = ap table_in same in
      let associations : p.associations ≡ q.associations = ap associations_in same in
      let pairs : p.pairs ≡ q.pairs = asked_one q.held.schema q.terms q.held.graph (map root_of q.associations) p.pairs q.pairs (asked_moved p q held tables associations x.asked) y.asked in
      λ i. record { held = held i; terms = tables i; associations = associations i; pairs = pairs i }

  -- ---- what is taken is not refused

  abbrev IsPassed : Source → Type 0
  IsPassed (OfSchema file) = IsSchemaTaken told i
  IsPassed Data = (h : Held) × IsTaken told i h
  IsPassed Map = (q : Question) × IsAskedOf told i q

  -- where the documents of the schema are read, no file of it is refused or absent
  files_not_refused : (ss : List SchemaSource) → AreSources told (asked_of i) ss → (refusal : FilesRefusal) → IsRefusedFile told (asked_of i) refusal → ⊥
  files_not_refused ss are refusal u = (laws.not_left contents (asked_of i) ss are).0 refusal u

  files_not_absent : (ss : List SchemaSource) → AreSources told (asked_of i) ss → (file : SchemaFile) → IsAbsent told i (OfSchema file) → ⊥
  files_not_absent ss are file absent = (laws.not_left contents (asked_of i) ss are).1 file absent

  -- it is there
  passed_there : (source : Source) → IsPassed source → IsAbsent told i source → ⊥
  passed_there (OfSchema file) (first, s, f, v, x) absent = files_not_absent x.sources x.are_sources file absent
  passed_there Data (h, x) absent = held_there contents i.data_file x.holds_data.bytes x.holds_data.file.held absent.1
  passed_there Map (q, x) absent = held_there contents i.map_file x.holds_map.bytes x.holds_map.file.held absent.1

  -- it is not too long
  passed_short : (source : Source) → IsPassed source → Reaches told i source → IsTooLong told (source_name i source) → ⊥
  passed_short (OfSchema file) (first, s, f, v, x) there long = files_not_refused x.sources x.are_sources (FilesRefusals.Size file) (there, long)
  passed_short Data (h, x) there long = not_too_long contents i.data_file x.holds_data.bytes x.holds_data.file long
  passed_short Map (q, x) there long = not_too_long contents i.map_file x.holds_map.bytes x.holds_map.file long

  data_are_read : (h : Held) → IsTaken told i h → (e : ReadError) → AreUnread told i e → ⊥
  data_are_read h x e u =
      u.none h.names x.triples
      (subst (λ bs. IsData (format_of i.data_file) i.data_base (h.names, x.triples) bs) (same_bytes contents i.data_file x.holds_data.bytes u.bytes x.holds_data.file.held u.file.held) x.holds_data.spelled) h
      (subst (λ ss. IsHolding (documents_of ss) x.triples h) (one_schema x.sources u.taken.sources x.are_sources u.taken.are_sources) x.holding)

  schema_loads : (first : List Term) (s : Schema) (f : List ℕ) (v : Scope) → Takes told i first s f v → (e : LoadError) → StandForNone told i e → ⊥
  schema_loads first s f v x e u =
      let same : u.sources ≡ x.sources = one_schema u.sources x.sources u.are_sources x.are_sources in
      unrefused (documents_of x.sources) [] first s e x.is_schema.stands x.is_schema.predicates x.is_schema.few (subst (λ ss. IsRefusedDocuments (documents_of ss) [] e) same u.refused)

  schema_is_stratified : (first : List Term) (s : Schema) (f : List ℕ) (v : Scope) → Takes told i first s f v → (cycle : List ShapeId) → HasNegation told i cycle → ⊥
  schema_is_stratified first s f v x cycle u =
      let sources : u.sources ≡ x.sources = one_schema u.sources x.sources u.are_sources x.are_sources in
      let same : u.schema ≡ s =
      one_standing laws.one (documents_of x.sources) u.first first u.schema s (subst (λ ss. AddsAll [] (predicates_in (documents_of ss)) u.first) sources u.predicates) x.is_schema.predicates (subst (λ ss. StandsFor (documents_of ss) u.first u.schema) sources u.stands) x.is_schema.stands in
      laws.no_cycle s f (laws.stratified s f x.is_schema.strata) ((laws.cycles s).1 (cycle, subst (λ z. IsNegatedCycle z cycle) same u.is_cycle))

  asks_for_few : (q : Question) → IsAskedOf told i q → AsksForMany told i → ⊥
  asks_for_few q x u =
      let held : u.held ≡ q.held = held_one u.held q.held u.taken x.taken in
      let same = stands_one u.held q.held u.taken x.taken u.items x.items (selected u.associations u.terms) (selected q.associations q.terms)
      (record { holds_map = u.holds_map; ends = u.ends }) (asked_stands q x) in
      let associations : u.associations ≡ q.associations = ap associations_in same in
      let few : ¬ AreTooMany q.held.schema q.held.graph (map root_of q.associations) = not_many q.held.schema q.terms q.held.graph (map root_of q.associations) (Ok q.pairs) x.asked x.few in
      few
      (subst (λ v. AreTooMany v.schema v.graph (map root_of q.associations)) held (subst (λ xs. AreTooMany u.held.schema u.held.graph (map root_of xs)) associations u.many))

  map_is_read : (q : Question) → IsAskedOf told i q → (e : MapError) → IsNoMap told i e → ⊥
  map_is_read q x e u =
      let m : HoldsMap told i u.held x.items = subst (λ v. HoldsMap told i v x.items) (held_one q.held u.held x.taken u.taken) x.holds_map in
      u.none x.items (subst (λ bs. IsMap (node_names u.held.names) u.held.labels bs x.items) (same_bytes contents i.map_file m.bytes u.bytes m.file.held u.file.held) m.spelled)

  not_both : (xs : List Association) (new : List Term) (e : MapError) → selected xs new ≡ refused e → ⊥
  not_both xs new e h = cc

  map_is_resolved : (q : Question) → IsAskedOf told i q → (e : MapError) → IsUnresolved told i e → ⊥
  map_is_resolved q x e u =
      not_both q.associations q.terms e
      (stands_one q.held u.held x.taken u.taken x.items u.items (selected q.associations q.terms) (refused e) (asked_stands q x) (record { holds_map = u.holds_map; ends = u.ends }))

  passed_taken : (refusal : Refusal) → IsPassed (source_of refusal) → IsRefused told i refusal → ⊥
  passed_taken (Refusals.Size source) passed (there, long) = passed_short source passed there long
  passed_taken (Refusals.Schema file e) (first, s, f, v, x) u = files_not_refused x.sources x.are_sources (FilesRefusals.Document file e) u
  passed_taken (Refusals.Import file iri) (first, s, f, v, x) u = files_not_refused x.sources x.are_sources (FilesRefusals.Import file iri) u
  passed_taken (Refusals.Load e) (first, s, f, v, x) u = schema_loads first s f v x e u
  passed_taken (Refusals.NegatedCycle cycle) (first, s, f, v, x) u = schema_is_stratified first s f v x cycle u
  passed_taken (Refusals.Data e) (h, x) u = data_are_read h x e u
  passed_taken (Refusals.Map e) (q, x) (inl u) = map_is_read q x e u
  passed_taken (Refusals.Map e) (q, x) (inr u) = map_is_resolved q x e u
  passed_taken Refusals.Pairs (q, x) u = asks_for_few q x u

  -- ---- the files of the schema

  -- a file of the schema is refused, or its documents are read and refused together
  data OfFiles (source : Source) : Type 0 where
    of_file : (refusal : FilesRefusal) → IsRefusedFile told (asked_of i) refusal → source ≡ OfSchema (file_of refusal) → OfFiles source
    of_all : (ss : List SchemaSource) → AreSources told (asked_of i) ss → source ≡ OfSchema Root → OfFiles source

  files_refused : (refusal : Refusal) (file : SchemaFile) → source_of refusal ≡ OfSchema file → IsRefused told i refusal → OfFiles (source_of refusal)
  files_refused (Refusals.Size (OfSchema other)) file is u = of_file (FilesRefusals.Size other) u refl
  files_refused (Refusals.Size Data) file is u = absurd cc
  files_refused (Refusals.Size Map) file is u = absurd cc
  files_refused (Refusals.Schema other e) file is u = of_file (FilesRefusals.Document other e) u refl
  files_refused (Refusals.Import other iri) file is u = of_file (FilesRefusals.Import other iri) u refl
  files_refused (Refusals.Load e) file is u = of_all u.sources u.are_sources refl
  files_refused (Refusals.NegatedCycle cycle) file is u = of_all u.sources u.are_sources refl
  files_refused (Refusals.Data e) file is u = absurd cc
  files_refused (Refusals.Map e) file is u = absurd cc
  files_refused Refusals.Pairs file is u = absurd cc

  -- one of them alone is refused, and none is absent
  one_of_files : (a b : Source) → OfFiles a → OfFiles b → a ≡ b
  one_of_files a b (of_file r u is) (of_file q t at) = is ∙ ap (λ (f : SchemaFile). OfSchema f) ((laws.one_left contents (asked_of i) r u).0 q t) ∙ sym at
  one_of_files a b (of_file r u is) (of_all ss are at) = absurd (files_not_refused ss are r u)
  one_of_files a b (of_all ss are is) (of_file q t at) = absurd (files_not_refused ss are q t)
  one_of_files a b (of_all ss are is) (of_all others others_are at) = is ∙ sym at

  none_of_files : (a : Source) (file : SchemaFile) → OfFiles a → IsAbsent told i (OfSchema file) → ⊥
  none_of_files a file (of_file r u is) absent = (laws.one_left contents (asked_of i) r u).1 file absent
  none_of_files a file (of_all ss are is) absent = files_not_absent ss are file absent

  -- ---- one file is left

  -- the file is none of the schema
  abbrev IsBehindSchema : Source → Type 0
  IsBehindSchema (OfSchema file) = ⊥
  IsBehindSchema Data = ⊤
  IsBehindSchema Map = ⊤

  reached : (refusal : Refusal) → IsBehindSchema (source_of refusal) → IsRefused told i refusal → Reaches told i (source_of refusal)
  reached (Refusals.Size source) behind (there, long) = there
  reached (Refusals.Schema file e) behind u = absurd behind
  reached (Refusals.Import file iri) behind u = absurd behind
  reached (Refusals.Load e) behind u = absurd behind
  reached (Refusals.NegatedCycle cycle) behind u = absurd behind
  reached (Refusals.Data e) behind u = (u.first, u.schema, u.strata, u.labels, u.taken)
  reached (Refusals.Map e) behind (inl u) = (u.held, u.taken)
  reached (Refusals.Map e) behind (inr u) = (u.held, u.taken)
  reached Refusals.Pairs behind u = (u.held, u.taken)

  -- what is refused is there
  refused_there : (refusal : Refusal) → IsBehindSchema (source_of refusal) → IsRefused told i refusal → Lacks told (source_name i (source_of refusal)) → ⊥
  refused_there (Refusals.Size source) behind (there, long) lacks = held_there contents (source_name i source) long.bytes long.held lacks
  refused_there (Refusals.Schema file e) behind u lacks = behind
  refused_there (Refusals.Import file iri) behind u lacks = behind
  refused_there (Refusals.Load e) behind u lacks = behind
  refused_there (Refusals.NegatedCycle cycle) behind u lacks = behind
  refused_there (Refusals.Data e) behind u lacks = held_there contents i.data_file u.bytes u.file.held lacks
  refused_there (Refusals.Map e) behind (inl u) lacks = held_there contents i.map_file u.bytes u.file.held lacks
  refused_there (Refusals.Map e) behind (inr u) lacks = held_there contents i.map_file u.holds_map.bytes u.holds_map.file.held lacks
  refused_there Refusals.Pairs behind u lacks = held_there contents i.map_file u.holds_map.bytes u.holds_map.file.held lacks

  -- of two files one comes first, and the steps to the other pass it
  data OneFirst (a b : Source) : Type 0 where
    are_files : (file other : SchemaFile) → a ≡ OfSchema file → b ≡ OfSchema other → OneFirst a b
    is_one : IsBehindSchema a → a ≡ b → OneFirst a b
    comes_before : IsBehindSchema b → (Reaches told i b → IsPassed a) → OneFirst a b
    comes_behind : IsBehindSchema a → (Reaches told i a → IsPassed b) → OneFirst a b

  with_schema : ((h : Held) × IsTaken told i h) → IsSchemaTaken told i
  with_schema (h, x) = (x.holding.first, h.schema, h.strata, h.labels, record { sources = x.sources; are_sources = x.are_sources; labels = x.labels; is_schema = x.holding.is_schema })

  one_first : (a b : Source) → OneFirst a b
  one_first (OfSchema file) (OfSchema other) = are_files file other refl refl
  one_first (OfSchema file) Data = comes_before tt (λ r. r)
  one_first (OfSchema file) Map = comes_before tt with_schema
  one_first Data (OfSchema other) = comes_behind tt (λ r. r)
  one_first Data Data = is_one tt refl
  one_first Data Map = comes_before tt (λ r. r)
  one_first Map (OfSchema other) = comes_behind tt with_schema
  one_first Map Data = comes_behind tt (λ r. r)
  one_first Map Map = is_one tt refl

  pub left_one : LeftIsOne contents i
  left_one refusal h = (λ other k. refused_one other k (one_first (source_of refusal) (source_of other)), λ b absent. absent_none b absent (one_first (source_of refusal) b))
    where
      refused_one : (other : Refusal) → IsRefused told i other → OneFirst (source_of refusal) (source_of other) → source_of refusal ≡ source_of other
      refused_one other k (are_files file two is at) = one_of_files (source_of refusal) (source_of other) (files_refused refusal file is h) (files_refused other two at k)
      refused_one other k (is_one behind e) = e
      refused_one other k (comes_before behind pass) = absurd (passed_taken refusal (pass (reached other behind k)) h)
      refused_one other k (comes_behind behind pass) = absurd (passed_taken other (pass (reached refusal behind h)) k)

      absent_none : (b : Source) → IsAbsent told i b → OneFirst (source_of refusal) b → ⊥
      absent_none b absent (are_files file two is at) = none_of_files (source_of refusal) two (files_refused refusal file is h) (subst (IsAbsent told i) at absent)
      absent_none b absent (is_one behind e) = refused_there refusal behind h (subst (λ s. Lacks told (source_name i s)) (sym e) absent.1)
      absent_none b absent (comes_before behind pass) = passed_taken refusal (pass absent.0) h
      absent_none b absent (comes_behind behind pass) = passed_there b (pass (reached refusal behind h)) absent

  passed_not_left : (source : Source) → IsPassed source → ((refusal : Refusal) → source_of refusal ≡ source → ¬ IsRefused told i refusal) × (¬ IsAbsent told i source)
  passed_not_left source passed = (λ refusal is h. passed_taken refusal (subst (λ s. IsPassed s) (sym is) passed) h, λ absent. passed_there source passed absent)

  pub taken_not_left : TakenIsNotLeft contents i
  taken_not_left h (OfSchema file) x other = passed_not_left (OfSchema file) (with_schema (h, x))
  taken_not_left h Data x other = passed_not_left Data (h, x)
  taken_not_left h Map x other = absurd (other refl)

  pub schema_not_left : SchemaIsNotLeft contents i
  schema_not_left taken file = passed_not_left (OfSchema file) taken

  -- where a map asks something, all files are passed
  asked_passed : (q : Question) → IsAskedOf told i q → (source : Source) → IsPassed source
  asked_passed q x (OfSchema file) = with_schema (q.held, x.taken)
  asked_passed q x Data = (q.held, x.taken)
  asked_passed q x Map = (q, x)

  pub asked_not_left : AskedIsNotLeft contents i
  asked_not_left q x = (λ refusal h. passed_taken refusal (asked_passed q x (source_of refusal)) h, λ source absent. passed_there source (asked_passed q x source) absent)

pub inputs_one : AreLaws → InputsAreOne
inputs_one laws contents i = (held_one contents i laws, (question_one contents i laws, (taken_not_left contents i laws, (asked_not_left contents i laws, left_one contents i laws))))

pub schemas_not_left : AreLaws → SchemasAreNotLeft
schemas_not_left laws contents i = schema_not_left contents i laws

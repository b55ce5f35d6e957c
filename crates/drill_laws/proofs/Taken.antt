-- The schema and the data of a drill are taken.
use Rattle.std.proofs.Common.{◌≡◌, ◌∙◌, ℕ, ◌≤◌, List, [], ◌∷◌, ◌++◌, true, false, codes, length, refl, sym, arith, inr}
use Rattle.std.specs.Prelude.{Contains}
use Rattle.std.specs.Str.{bytes_eq}
use Rattle.std.proofs.lemmas.List.Elements.{All-contains}
use Rattle.std.proofs.lemmas.Slice.Eq.{bytes_eq-Decides}
use Rattle.sha2.specs.Sha256.{sha256}
use Rattle.command_words.specs.Requests.{default_base}
use Rattle.lists.specs.Additions.{AddsAll, more, none}
use Rattle.lists.proofs.Members.{in_one, not_in_none}
use Rattle.rdf_terms.specs.declared.terms.Term.{Term}
use Rattle.rdf_terms.specs.declared.terms.Term.TheVariants.{Iri}
use Rattle.rdf_terms.specs.declared.terms.Triple.{Triple}
use Rattle.graph_index.specs.Laws.{IsOfTable}
use Rattle.graph_index.specs.Loading.{Loads}
use Rattle.graph_index.proofs.Loaded.{loads_distinct}
use Rattle.lists.specs.Distinct.{AreDistinct}
use Rattle.lists.proofs.Additions.{all_distinct}
use Rattle.data_reader.specs.Documents.{context_in}
use Rattle.schema_documents.specs.Tree.{Document}
use Rattle.schema_files.specs.declared.error.SchemaFile.TheVariants.{Root}
use Rattle.schema_files.specs.Sources.{AreSources, HoldsSource, Source, root}
use Rattle.shex_io.specs.Fetching.{IsFile}
use Rattle.shex_inputs.specs.Held.{AreFilesOf, Held, HoldsData, IsHolding, IsSchemaOf, IsTaken, predicates_in}
use Rattle.shex_inputs.specs.Named.{asked_of}
use Rattle.shex_inputs.proofs.Counted.{of_table}
use Rattle.shex_drill.specs.Files.{data_name, drill_told, map_name, schema_name}
use Rattle.shex_drill.specs.Graph.{GraphIsDocument, graph_scope, graph_triples}
use Rattle.shex_drill.specs.Schema.{SchemaIsDocument, allowed_tags, item_label, schema_state}
use Rattle.shex_drill.specs.Terms.{home}
use Rattle.shex_drill.specs.Texts.{graph_text, map_text, schema_text}
use Rattle.drill_laws.specs.Inputs.{drill_inputs}
use Rattle.drill_laws.proofs.Loaded.{all_loaded, loaded_few}
use Rattle.drill_laws.proofs.Sizes.{graph_short, map_short, schema_short, triples_few}
use Rattle.drill_laws.proofs.Standing.{item_document, item_schema, item_stands, item_terms}
use Rattle.drill_laws.proofs.Strata.{is_stratum}

abbrev next_iri : List ℕ
next_iri = home ++ codes "next"

abbrev tag_iri : List ℕ
tag_iri = home ++ codes "tag"

-- the schema of a drill
abbrev pub drill_document : Document
drill_document = item_document item_label next_iri tag_iri allowed_tags

abbrev first_terms : List Term
first_terms = item_terms item_label next_iri tag_iri allowed_tags

-- ---- files

pub schema_file : (n : ℕ) → IsFile (drill_told n) schema_name schema_text
schema_file n = record { held = refl; within = schema_short }

pub data_file : (n : ℕ) → n ≤ 100000 → IsFile (drill_told n) data_name (graph_text n)
data_file n le = record { held = refl; within = graph_short n le }

pub map_file : (n : ℕ) → IsFile (drill_told n) map_name map_text
map_file n = record { held = refl; within = map_short }

-- ---- the schema

abbrev drill_source : Source
drill_source = record { file = Root; base = default_base; read = record { document = drill_document; names = (schema_state default_base).scope }; digest = record { 0 = sha256 schema_text } }

holds_source : SchemaIsDocument → (n : ℕ) → HoldsSource (drill_told n) (asked_of drill_inputs) drill_source
holds_source law n = record { bytes = schema_text; is_file = schema_file n; spelled = (schema_state default_base, law default_base, refl, refl); is_digest = refl }

are_sources : SchemaIsDocument → (n : ℕ) → AreSources (drill_told n) (asked_of drill_inputs) (drill_source ∷ [])
are_sources law n = record { are_read = root drill_source.read drill_source.digest (holds_source law n); all_read = refl }

differ : (xs ys : List ℕ) → bytes_eq xs ys ≡ false → Iri xs ≡ Iri ys → ⊥
differ xs ys apart e =
    let same : xs ≡ ys = cc in
    let both : true ≡ false = sym ((bytes_eq-Decides xs ys).1 same) ∙ apart in
    cc

two_added : (x y : Term) → (x ≡ y → ⊥) → AddsAll [] (x ∷ y ∷ []) (x ∷ y ∷ [])
two_added x y apart = more {mid = x ∷ []} (inr (not_in_none x, refl)) (more {mid = x ∷ y ∷ []} (inr ((λ c. apart (in_one x y c)), refl)) none)

predicates : AddsAll [] (predicates_in (drill_document ∷ [])) first_terms
predicates = two_added (Iri next_iri) (Iri tag_iri) (differ next_iri tag_iri refl)

none_twice : AreDistinct {X = Term} []
none_twice i j x h k = cc

first_distinct : AreDistinct first_terms
first_distinct = all_distinct [] first_terms (predicates_in (drill_document ∷ [])) none_twice predicates

is_schema : IsSchemaOf (drill_document ∷ []) first_terms (item_schema item_label allowed_tags) (0 ∷ [])
is_schema = record { predicates = predicates; few = (let l : length first_terms ≤ 4294967295 = omega arith in l); stands = item_stands item_label next_iri tag_iri allowed_tags; strata = is_stratum item_label allowed_tags }

-- ---- what is held

abbrev pub held_with : ℕ → List Term → List Triple → Held
held_with n terms graph = record {
  schema = item_schema item_label allowed_tags;
  strata = 0 ∷ [];
  labels = (schema_state default_base).scope;
  terms = terms;
  graph = graph;
  names = context_in (graph_scope default_base);
  files = record { schema = record { 0 = sha256 schema_text }; imports = []; graph = record { 0 = sha256 (graph_text n) } };
}

-- what is known of a drill
pub record IsDrill (n : ℕ) (terms : List Term) (graph : List Triple) : Type 0 where
  pub loads : Loads first_terms [] (graph_triples n) terms graph
  pub few_terms : length terms ≤ 600002
  pub few_triples : length graph ≤ 200000

is_drill : (n : ℕ) → n ≤ 100000 → (terms : List Term) (graph : List Triple) → Loads first_terms [] (graph_triples n) terms graph → IsDrill n terms graph
is_drill n le terms graph loads =
    let (many, some) = loaded_few first_terms terms [] graph (graph_triples n) loads in
    let two = triples_few n in
    record { loads = loads; few_terms = omega (arith, many, two, le); few_triples = omega (arith, some, two, le) }

pub some_drill : (n : ℕ) → n ≤ 100000 → (terms : List Term) × (graph : List Triple) × IsDrill n terms graph
some_drill n le = let (terms, graph, loads) = all_loaded first_terms [] (graph_triples n) in (terms, graph, is_drill n le terms graph loads)

holding : (n : ℕ) (terms : List Term) (graph : List Triple) → IsDrill n terms graph → IsHolding (drill_document ∷ []) (graph_triples n) (held_with n terms graph)
holding n terms graph d = record {
  first = first_terms;
  is_schema = is_schema;
  distinct = loads_distinct first_terms terms [] graph (graph_triples n) first_distinct d.loads;
  graph = d.loads;
  within = ((let few = d.few_terms in let l : length terms ≤ 4294967295 = omega (arith, few) in l), (let few = d.few_triples in let l : length graph ≤ 4000000 = omega (arith, few) in l));
}

holds_data : GraphIsDocument → (n : ℕ) → n ≤ 100000 → HoldsData (drill_told n) drill_inputs (context_in (graph_scope default_base)) (graph_triples n)
holds_data law n le = record { bytes = graph_text n; file = data_file n le; spelled = (graph_scope default_base, refl, law n le default_base) }

digests : (n : ℕ) (terms : List Term) (graph : List Triple) → AreFilesOf (drill_source ∷ []) (graph_text n) (held_with n terms graph).files
digests n terms graph = record { schemas = refl; graph = refl }

pub taken : SchemaIsDocument → GraphIsDocument → (n : ℕ) → n ≤ 100000 → (terms : List Term) (graph : List Triple) → IsDrill n terms graph →
    IsTaken (drill_told n) drill_inputs (held_with n terms graph)
unfolding holds_data
taken schema data_law n le terms graph d = record {
  sources = drill_source ∷ [];
  are_sources = are_sources schema n;
  labels = refl;
  triples = graph_triples n;
  holds_data = holds_data data_law n le;
  holding = holding n terms graph d;
  digests = digests n terms graph;
}

-- the numbers of each triple are below that of the terms
pub below : (n : ℕ) (terms : List Term) (graph : List Triple) → IsDrill n terms graph → (t : Triple) → Contains graph t → IsOfTable terms t
below n terms graph d t c = All-contains (IsOfTable terms) graph t (of_table first_terms terms graph (graph_triples n) d.loads) c

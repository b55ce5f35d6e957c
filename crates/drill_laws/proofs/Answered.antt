-- No text of a drill is refused, and each association is decided.
use Rattle.std.proofs.Common.{◌≡◌, ◌∙◌, ℕ, ◌<◌, ◌≤◌, List, [], ◌∷◌, Some, refl, sym, ap, subst, arith, length, map, inl, inr}
use Rattle.std.specs.Prelude.{Option}
use Rattle.command_words.specs.Requests.{default_budget}
use Rattle.rdf_terms.specs.declared.terms.Term.{Term}
use Rattle.rdf_terms.specs.declared.terms.Triple.{Triple}
use Rattle.demand.specs.Demand.{AreTooMany}
use Rattle.schema_files.specs.declared.error.SchemaFile.{SchemaFile}
use Rattle.schema_files.specs.declared.error.SchemaFile.TheVariants.{Root}
use Rattle.shex_io.specs.Fetching.{IsFile, IsTooLong}
use Rattle.schema_tree.specs.Laws.{PlainShapesAreNarrow, WidthIsOne}
use Rattle.schema_tree.specs.Needs.{IsDecided}
use Rattle.shape_map.specs.declared.error.MapError.{MapError}
use Rattle.shape_map.specs.declared.items.Item.{Item}
use Rattle.shape_map.specs.Maps.{IsMap, MapsAreOne}
use Rattle.shape_map.specs.Selection.{Outcome, Resolves, refused, selected}
use Rattle.shex_io.specs.Files.{Told}
use Rattle.shex_drill.specs.Files.{drill_contents, drill_told, map_name}
use Rattle.shex_drill.specs.Graph.{GraphIsDocument}
use Rattle.shex_drill.specs.Map.{MapIsOfItem, map_item}
use Rattle.shex_drill.specs.Schema.{SchemaIsDocument, allowed_tags, item_label}
use Rattle.shex_drill.specs.Texts.{map_text}
use Rattle.shex_inputs.specs.declared.error.Refusal.{Refusal}
use Rattle.shex_inputs.specs.declared.error.Refusal.TheVariants as Refusals
use Rattle.shex_inputs.specs.declared.error.Source.TheVariants as Sources
use Rattle.shex_inputs.specs.Asked.{EndsAs, HoldsMap, node_names, root_of}
use Rattle.shex_inputs.specs.Held.{Held, IsTaken}
use Rattle.shex_inputs.specs.Laws.{HeldIsOne, InputsAreOne, TakenIsNotLeft}
use Rattle.shex_inputs.specs.Named.{source_of}
use Rattle.shex_inputs.specs.Refusals.{AsksForMany, IsNoMap, IsRefused, IsUnresolved}
use Rattle.drill_laws.specs.Inputs.{drill_inputs}
use Rattle.drill_laws.specs.Laws.{DrillIsDecided, DrillIsTaken}
use Rattle.drill_laws.proofs.Reached.{not_many}
use Rattle.drill_laws.proofs.Selected.{association_below, resolves}
use Rattle.drill_laws.proofs.Sizes.{map_short}
use Rattle.drill_laws.proofs.Standing.{item_schema}
use Rattle.drill_laws.proofs.Strata.{decided}
use Rattle.drill_laws.proofs.Taken.{IsDrill, below, held_with, map_file, some_drill, taken}

-- the laws of the crates below
pub record AreLaws : Type 0 where
  pub inputs : InputsAreOne
  pub maps : MapsAreOne
  pub schema : SchemaIsDocument
  pub graph : GraphIsDocument
  pub one_item : MapIsOfItem

module _ (laws : AreLaws) (n : ℕ) (le : n ≤ 100000) (terms : List Term) (graph : List Triple) (d : IsDrill n terms graph) where
  abbrev told : Told
  told = drill_told n

  abbrev ours : Held
  ours = held_with n terms graph

  ours_taken : IsTaken told drill_inputs ours
  ours_taken = taken laws.schema laws.graph n le terms graph d

  held_one : HeldIsOne (drill_contents n) drill_inputs
  held_one = let (one, rest) = laws.inputs (drill_contents n) drill_inputs in one

  not_left : TakenIsNotLeft (drill_contents n) drill_inputs
  not_left = let (one, (question, (left, rest))) = laws.inputs (drill_contents n) drill_inputs in left

  pub held_is : (h : Held) → IsTaken told drill_inputs h → h ≡ ours
  held_is h x = held_one h ours x ours_taken

  -- ---- the map

  one_value : (xs ys : List ℕ) (o : Option (List ℕ)) → o ≡ Some xs → o ≡ Some ys → xs ≡ ys
  one_value xs ys o a b = let both : Some xs ≡ Some ys = sym a ∙ b in cc

  bytes_are : (bytes : List ℕ) → IsFile told map_name bytes → bytes ≡ map_text
  bytes_are bytes f = one_value bytes map_text (drill_contents n map_name) f.held (map_file n).held

  is_map : (h : Held) → IsTaken told drill_inputs h → IsMap (node_names h.names) h.labels map_text (map_item ∷ [])
  is_map h x = subst (λ k. IsMap (node_names k.names) k.labels map_text (map_item ∷ [])) (sym (held_is h x)) (laws.one_item (node_names ours.names) ours.labels refl refl)

  items_are : (h : Held) (items : List Item) → IsTaken told drill_inputs h → HoldsMap told drill_inputs h items → items ≡ map_item ∷ []
  items_are h items x m =
      laws.maps (node_names h.names) h.labels map_text items (map_item ∷ []) (subst (λ bs. IsMap (node_names h.names) h.labels bs items) (bytes_are m.bytes m.file) m.spelled) (is_map h x)

  ends_ours : (h : Held) (items : List Item) (o : Outcome) → IsTaken told drill_inputs h → HoldsMap told drill_inputs h items → EndsAs h items o →
      Resolves (item_schema item_label allowed_tags) graph terms (map_item ∷ []) o
  ends_ours h items o x m ends = subst (λ k. EndsAs k (map_item ∷ []) o) (held_is h x) (subst (λ is. EndsAs h is o) (items_are h items x m) ends)

  -- ---- no refusal

  map_fits : IsTooLong told map_name → ⊥
  map_fits long =
      let same : length long.bytes ≡ length map_text = ap length (one_value long.bytes map_text (drill_contents n map_name) long.held (map_file n).held) in
      let above : 67108864 < length long.bytes = long.above in
      omega (arith, same, above, map_short)

  is_read : (e : MapError) → IsNoMap told drill_inputs e → ⊥
  is_read e x = x.none (map_item ∷ []) (subst (λ bs. IsMap (node_names x.held.names) x.held.labels bs (map_item ∷ [])) (sym (bytes_are x.bytes x.file)) (is_map x.held x.taken))

  is_resolved : (e : MapError) → IsUnresolved told drill_inputs e → ⊥
  is_resolved e x = resolves allowed_tags graph terms d.few_terms (below n terms graph d) e (ends_ours x.held x.items (refused e) x.taken x.holds_map x.ends)

  asks_for_few : AsksForMany told drill_inputs → ⊥
  asks_for_few x =
      not_many allowed_tags graph terms d.few_terms (below n terms graph d) x.associations
      (association_below allowed_tags graph terms d.few_terms (below n terms graph d) x.associations x.terms (ends_ours x.held x.items (selected x.associations x.terms) x.taken x.holds_map x.ends))
      (subst (λ k. AreTooMany k.schema k.graph (map root_of x.associations)) (held_is x.held x.taken) x.many)

  no_schema : (refusal : Refusal) (file : SchemaFile) → source_of refusal ≡ Sources.Schema file → ¬ IsRefused told drill_inputs refusal
  no_schema refusal file e = (not_left ours (Sources.Schema file) ours_taken (λ same. cc)).0 refusal e

  no_data : (refusal : Refusal) → source_of refusal ≡ Sources.Data → ¬ IsRefused told drill_inputs refusal
  no_data refusal e = (not_left ours Sources.Data ours_taken (λ same. cc)).0 refusal e

  pub not_refused : (refusal : Refusal) → ¬ IsRefused told drill_inputs refusal
  not_refused (Refusals.Size (Sources.Schema file)) h = no_schema (Refusals.Size (Sources.Schema file)) file refl h
  not_refused (Refusals.Size Sources.Data) h = no_data (Refusals.Size Sources.Data) refl h
  not_refused (Refusals.Size Sources.Map) h = map_fits h.1
  not_refused (Refusals.Schema file e) h = no_schema (Refusals.Schema file e) file refl h
  not_refused (Refusals.Import file iri) h = no_schema (Refusals.Import file iri) file refl h
  not_refused (Refusals.Load e) h = no_schema (Refusals.Load e) Root refl h
  not_refused (Refusals.NegatedCycle cycle) h = no_schema (Refusals.NegatedCycle cycle) Root refl h
  not_refused (Refusals.Data e) h = no_data (Refusals.Data e) refl h
  not_refused (Refusals.Map e) (inl x) = is_read e x
  not_refused (Refusals.Map e) (inr x) = is_resolved e x
  not_refused Refusals.Pairs h = asks_for_few h

pub drill_taken : AreLaws → DrillIsTaken
drill_taken laws n low le refusal = let (terms, graph, d) = some_drill n le in not_refused laws n le terms graph d refusal

pub drill_decided : AreLaws → PlainShapesAreNarrow → WidthIsOne → DrillIsDecided
drill_decided laws narrow one n low le q asked a c =
    let (terms, graph, d) = some_drill n le in
    let same : item_schema item_label allowed_tags ≡ q.held.schema = sym (ap (λ (h : Held). h.schema) (held_is laws n le terms graph d q.held asked.taken)) in
    subst (λ s. IsDecided s q.terms q.held.graph default_budget a.node a.expr) same (decided item_label allowed_tags narrow one q.terms q.held.graph a.node a.expr)

-- What the map file asks of the schema and the graph.
use Rattle.std.specs.Prelude.{ℕ, List, ◌≤◌, length, map}
use Rattle.shex_io.specs.Files.{Told}
use Rattle.rdf_terms.specs.declared.terms.Term.{Term}
use Rattle.data_reader.specs.Documents.{Context}
use Rattle.demand.specs.Demand.{AreAsked}
use Rattle.demand.specs.Orders.{max_pairs}
use Rattle.demand.specs.declared.reach.Root.{Root}
use Rattle.schema_tree.specs.declared.schema.Pair.{Pair}
use Rattle.shex_io.specs.Fetching.{IsFile}
use Rattle.shape_map.specs.declared.items.Item.{Item}
use Rattle.shape_map.specs.declared.resolve.Association.{Association}
use Rattle.shape_map.specs.Maps.{IsMap}
use Rattle.term_tokens.specs.Scopes.{Scope}
use Rattle.shape_map.specs.Selection.{Outcome, Resolves, selected}
use Rattle.shex_inputs.specs.Held.{Held, IsTaken}
use Rattle.shex_inputs.specs.Named.{Inputs}

-- the nodes and the predicates of a map have the base and the prefixes at the end of the data
abbrev pub node_names : Context → Scope
node_names names = record { base = names.base; prefixes = names.prefixes }

-- the map file holds a map of these items, whose targets have the base and the prefixes at the end of the schema file (ShapeMap, section 3)
pub record HoldsMap (told : Told) (i : Inputs) (h : Held) (items : List Item) : Type 0 where
  pub bytes : List ℕ
  pub file : IsFile told i.map_file bytes
  pub spelled : IsMap (node_names h.names) h.labels bytes items

-- how the map is resolved over what is held (ShapeMap, section 4)
abbrev pub EndsAs : Held → List Item → Outcome → Type 0
EndsAs h items o = Resolves h.schema h.graph h.terms items o

-- an association asks for the pairs that its node with its expression reaches
abbrev pub root_of : Association → Root
root_of a = record { node = a.node; expr = a.expr }

-- the schema and the graph, the table that has taken up the map's nodes, the associations of the map, and the pairs for which they
-- ask
pub record Question : Type 0 where
  pub held : Held
  pub terms : List Term
  pub associations : List Association
  pub pairs : List Pair

-- the files hold these for the inputs: the pairs are those that the associations reach, in order
pub record IsAskedOf (told : Told) (i : Inputs) (q : Question) : Type 0 where
  pub taken : IsTaken told i q.held
  pub items : List Item
  pub holds_map : HoldsMap told i q.held items
  pub ends : EndsAs q.held items (selected q.associations q.terms)
  pub few : length q.pairs ≤ max_pairs
  pub asked : AreAsked q.held.schema q.terms q.held.graph (map root_of q.associations) q.pairs

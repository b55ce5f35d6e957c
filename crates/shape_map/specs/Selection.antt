-- The associations that a shape map selects (ShapeMap Structure and Language, section 4).
use Rattle.std.specs.Prelude.{◌≡◌, ◌↔◌, ◌≤◌, ◌<◌, ◌⊎◌, ℕ, List, [], ◌∷◌, ◌++◌, map, length, Option, Some, None, slice_get, Contains, ⊤}
use Rattle.std.specs.Cmp.Lexicographic.{slice_cmp}
use Rattle.std.specs.List.{flat_map}
use Rattle.std.specs.List.Sorted.{IsStrictlySortedBy}
use Rattle.std.specs.Ordering.{nat_cmp}
use Rattle.std.specs.declared.cmp.Ordering.{Ordering}
use Rattle.rdf_terms.specs.Order.{compare_at}
use Rattle.rdf_terms.specs.Tables.{max_terms}
use Rattle.rdf_terms.specs.Written.{term_text}
use Rattle.rdf_terms.specs.declared.terms.Term.{Term}
use Rattle.rdf_terms.specs.declared.terms.TermId.{TermId}
use Rattle.rdf_terms.specs.declared.terms.Triple.{Triple}
use Rattle.lists.specs.Additions.{AddsAll}
use Rattle.schema_tree.specs.Loaded.{IsTarget, HasTarget}
use Rattle.schema_tree.specs.declared.schema.ExprId.{ExprId}
use Rattle.schema_tree.specs.declared.schema.Schema.{Schema}
use Rattle.schema_tree.specs.declared.schema.Target.{Target}
use Rattle.schema_tree.specs.declared.schema.Target.TheVariants as target
use Rattle.shape_map.specs.declared.error.MapError.{MapError}
use Rattle.shape_map.specs.declared.error.MapError.TheVariants as error
use Rattle.shape_map.specs.declared.items.Focus.{Focus}
use Rattle.shape_map.specs.declared.items.Focus.TheVariants.{Subject, Object}
use Rattle.shape_map.specs.declared.items.Item.{Item}
use Rattle.shape_map.specs.declared.items.Selector.{Selector}
use Rattle.shape_map.specs.declared.items.Selector.TheVariants.{Node, Triples}
use Rattle.shape_map.specs.declared.items.TriplePattern.{TriplePattern}
use Rattle.shape_map.specs.declared.resolve.Association.{Association}

-- how many associations a map has at most
abbrev pub max_associations : ℕ
max_associations = 1000000

-- the end of a triple at the focus, and the other one
abbrev pub at_focus : Focus → Triple → TermId
at_focus Subject t = t.s
at_focus Object t = t.o

abbrev pub at_other : Focus → Triple → TermId
at_other Subject t = t.o
at_other Object t = t.s

-- a node may stand at an end of a pattern: it is the one that is written there, or any where `_` is
abbrev pub MayStandAt : List Term → Option Term → TermId → Type 0
MayStandAt terms None n = ⊤
MayStandAt terms (Some x) n = slice_get terms n.0 ≡ Some x

-- the node is at the focus of a triple that the pattern matches
pub record IsFocus (terms : List Term) (graph : List Triple) (x : TriplePattern) (n : TermId) : Type 0 where
  pub triple : Triple
  pub held : Contains graph triple
  pub focus : at_focus x.focus triple ≡ n
  pub predicate : slice_get terms triple.p.0 ≡ Some x.predicate
  pub other : MayStandAt terms x.other (at_other x.focus triple)

-- the nodes of a selector: the one that is written; or those at the focus, each once, in the order of their texts
abbrev pub AreNodes : List Term → List Triple → Selector → List TermId → Type 0
AreNodes terms graph (Node t) ns = (n : TermId) × (slice_get terms n.0 ≡ Some t) × (ns ≡ n ∷ [])
AreNodes terms graph (Triples x) ns = IsStrictlySortedBy (compare_at terms) ns × ((n : TermId) → Contains ns n ↔ IsFocus terms graph x n)

-- the node that is written in a selector
abbrev pub written : Selector → List Term
written (Node t) = t ∷ []
written (Triples x) = []

-- the nodes that are written in the selectors of a map
abbrev pub written_nodes : List Item → List Term
written_nodes items = flat_map (λ i. written i.selector) items

-- terms by the bytes of their texts, a proper prefix first
abbrev pub compare_terms : Term → Term → Ordering
compare_terms a b = slice_cmp nat_cmp (term_text a) (term_text b)

-- the terms, each once, in the order of their texts
pub record AreInOrder (terms ordered : List Term) : Type 0 where
  pub rising : IsStrictlySortedBy compare_terms ordered
  pub same : (t : Term) → Contains ordered t ↔ Contains terms t

-- the table takes up the nodes that are written in the map, in the order of their texts
pub record TakesNodes (old : List Term) (items : List Item) (terms : List Term) : Type 0 where
  pub nodes : List Term
  pub ordered : AreInOrder (written_nodes items) nodes
  pub taken : AddsAll old nodes terms

-- no table takes up the nodes of the map within its limit
abbrev pub AreAbove : List Term → List Item → Type 0
AreAbove old items = (terms : List Term) → TakesNodes old items terms → max_terms < length terms

-- what an item asks of a node
abbrev pub association : Item → ExprId → TermId → Association
association i e n = record { node = n; target = i.target; expr = e; want = i.want }

-- the associations of an item in the numbers of a table: its target is declared, and each node of its selector gives one
pub record Selects (s : Schema) (graph : List Triple) (terms : List Term) (i : Item) (xs : List Association) : Type 0 where
  pub expr : ExprId
  pub nodes : List TermId
  pub declared : IsTarget s i.target expr
  pub found : AreNodes terms graph i.selector nodes
  pub made : xs ≡ map (association i expr) nodes

-- the refusal of a target that is not declared
abbrev pub refusal_of : Target → MapError
refusal_of target.Start = error.NoStart
refusal_of (target.Label l) = error.Label l

abbrev pub IsUndeclared : Schema → Target → MapError → Type 0
IsUndeclared s t e = (¬ HasTarget s t) × (e ≡ refusal_of t)

-- an item behind so many associations is refused: its target is not declared; or it is, and there are too many
abbrev pub Refuses : Schema → List Triple → List Term → List Association → Item → MapError → Type 0
Refuses s graph terms so i error.NotUtf8 = ⊥
Refuses s graph terms so i (error.Syntax at) = ⊥
Refuses s graph terms so i (error.Prefix at) = ⊥
Refuses s graph terms so i (error.Label l) = IsUndeclared s i.target (error.Label l)
Refuses s graph terms so i error.NoStart = IsUndeclared s i.target error.NoStart
Refuses s graph terms so i error.Many = (xs : List Association) × Selects s graph terms i xs × (max_associations < length (so ++ xs))
Refuses s graph terms so i error.Memory = ⊥
Refuses s graph terms so i error.Full = ⊥

-- this holds, unless memory ran out
abbrev pub UnlessMemory : MapError → Type 0 → Type 0
UnlessMemory error.Memory P = ⊤
UnlessMemory error.NotUtf8 P = P
UnlessMemory (error.Syntax at) P = P
UnlessMemory (error.Prefix at) P = P
UnlessMemory (error.Label l) P = P
UnlessMemory error.NoStart P = P
UnlessMemory error.Many P = P
UnlessMemory error.Full P = P

-- how a map ends: with its associations and the table in whose numbers they are, or refused
pub data Outcome : Type 0 where
  selected : List Association → List Term → Outcome
  refused : MapError → Outcome

-- one item after the other, behind some associations, in the numbers of a table; the first that is refused ends the map
pub data Ends (s : Schema) (graph : List Triple) (terms : List Term) : List Association → List Item → Outcome → Type 0 where
  all : {so : List Association} → Ends s graph terms so [] (selected so terms)
  more : {so : List Association} {i : Item} {is : List Item} {o : Outcome} (xs : List Association) → Selects s graph terms i xs → length (so ++ xs) ≤ max_associations
      → Ends s graph terms (so ++ xs) is o → Ends s graph terms so (i ∷ is) o
  stops : {so : List Association} {i : Item} {is : List Item} {e : MapError} → Refuses s graph terms so i e → Ends s graph terms so (i ∷ is) (refused e)

-- the table takes up the nodes that are written in the map, within its limit, and in its numbers the items end so
pub record EndsAs (s : Schema) (graph : List Triple) (old : List Term) (items : List Item) (terms : List Term) (o : Outcome) : Type 0 where
  pub takes : TakesNodes old items terms
  pub few : length terms ≤ max_terms
  pub ends : Ends s graph terms [] items o

-- how a map is resolved from a table on (ShapeMap, section 4): it is refused as `Full` where the table cannot take up its
-- nodes, and else it ends as its items
abbrev pub Resolves : Schema → List Triple → List Term → List Item → Outcome → Type 0
Resolves s graph old items (selected xs terms) = EndsAs s graph old items terms (selected xs terms)
Resolves s graph old items (refused e) = ((terms : List Term) × EndsAs s graph old items terms (refused e)) ⊎ (AreAbove old items × (e ≡ error.Full))

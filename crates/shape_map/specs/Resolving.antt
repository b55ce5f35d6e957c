-- What the functions that find associations promise one another.
use Rattle.std.specs.Prelude.{◌≡◌, true, ◌≤◌, ◌<◌, ◌⊎◌, List, ◌++◌, length, Result, Ok, Err, Contains}
use Rattle.graph_index.specs.Contents.{Contents, IsSealedWith}
use Rattle.rdf_terms.specs.Graphs.{same_id}
use Rattle.lists.specs.Additions.{AddsAll}
use Rattle.rdf_terms.specs.Tables.{max_terms}
use Rattle.rdf_terms.specs.declared.terms.Term.{Term}
use Rattle.rdf_terms.specs.declared.terms.TermId.{TermId}
use Rattle.rdf_terms.specs.declared.terms.Triple.{Triple}
use Rattle.schema_tree.specs.Loaded.{IsTarget}
use Rattle.schema_tree.specs.declared.schema.ExprId.{ExprId}
use Rattle.schema_tree.specs.declared.schema.Schema.{Schema}
use Rattle.schema_tree.specs.declared.schema.Target.{Target}
use Rattle.shape_map.specs.declared.error.MapError.{MapError}
use Rattle.shape_map.specs.declared.error.MapError.TheVariants as error
use Rattle.shape_map.specs.declared.items.Item.{Item}
use Rattle.shape_map.specs.declared.items.TriplePattern.{TriplePattern}
use Rattle.shape_map.specs.declared.resolve.Association.{Association}
use Rattle.shape_map.specs.Selection.{max_associations, at_other, AreAbove, IsUndeclared, MayStandAt, Refuses, Selects, UnlessMemory}

-- some triples of the graph, among which are all of this predicate whose other end is the one that is asked for, and no other ends
pub record AreAmong (terms : List Term) (graph : List Triple) (x : TriplePattern) (predicate : TermId) (ts : List Triple) : Type 0 where
  pub only : (t : Triple) → Contains ts t → Contains graph t × MayStandAt terms x.other (at_other x.focus t)
  pub whole : (t : Triple) → Contains graph t → MayStandAt terms x.other (at_other x.focus t) → same_id t.p predicate ≡ true → Contains ts t

-- the expression of a target, or that it is not declared
abbrev pub Declares : Schema → Target → Result ExprId MapError → Type 0
Declares s t (Ok e) = IsTarget s t e
Declares s t (Err e) = UnlessMemory e (IsUndeclared s t e)

-- a table cannot take up the terms, or memory ran out
abbrev pub Fills : List Term → List Term → MapError → Type 0
Fills old xs e = ((e ≡ error.Full) × ((new : List Term) → AddsAll old xs new → max_terms < length new)) ⊎ (e ≡ error.Memory)

-- a table cannot take up the nodes of the map, or memory ran out
abbrev pub TakingStops : List Term → List Item → MapError → Type 0
TakingStops old items e = ((e ≡ error.Full) × AreAbove old items) ⊎ (e ≡ error.Memory)

-- the table holds the nodes
abbrev pub HoldsAll : List Term → List Term → Type 0
HoldsAll terms nodes = (t : Term) → Contains nodes t → Contains terms t

-- the graph is sealed with some table
abbrev pub IsSealedOnce : Contents → Type 0
IsSealedOnce g = (terms : List Term) × IsSealedWith terms g

-- an item is done, so that its associations go behind those so far; or it is refused
abbrev pub Steps : Schema → List Triple → List Term → List Association → Item → Result (Unit {0}) MapError → List Association → Type 0
Steps s graph terms so i (Ok x) now = (xs : List Association) × Selects s graph terms i xs × (now ≡ so ++ xs) × (length now ≤ max_associations)
Steps s graph terms so i (Err e) now = UnlessMemory e (Refuses s graph terms so i e)

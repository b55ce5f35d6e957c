-- Which selectors of a shape map find nothing in a graph (own).
use Rattle.std.specs.Prelude.{◌≡◌, ◌⊎◌, ℕ, List, [], ◌∷◌, Contains, Some, map, slice_get}
use Rattle.lists.specs.Additions.{AddsAll}
use Rattle.rdf_terms.specs.declared.terms.Term.{Term}
use Rattle.rdf_terms.specs.declared.terms.TermId.{TermId}
use Rattle.rdf_terms.specs.declared.terms.Triple.{Triple}
use Rattle.shape_map.specs.Selection.{IsFocus}
use Rattle.shape_map.specs.declared.items.Item.{Item}
use Rattle.shape_map.specs.declared.items.Selector.{Selector}
use Rattle.shape_map.specs.declared.items.Selector.TheVariants.{Node, Triples}
use Rattle.shape_map.specs.declared.items.TriplePattern.{TriplePattern}
use Rattle.idle_selectors.specs.Texts.{selector_line}

-- the node is the subject or the object of a triple
abbrev pub HasEnd : List Triple → TermId → Type 0
HasEnd graph n = (t : Triple) × Contains graph t × ((t.s ≡ n) ⊎ (t.o ≡ n))

-- the term is the subject or the object of a triple
abbrev pub IsInData : List Term → List Triple → Term → Type 0
IsInData terms graph x = (n : TermId) × (slice_get terms n.0 ≡ Some x) × HasEnd graph n

-- some node is at the focus of a triple that the pattern matches
abbrev pub HasMatch : List Term → List Triple → TriplePattern → Type 0
HasMatch terms graph x = (n : TermId) × IsFocus terms graph x n

-- a selector finds something: the node that is written is in the data, or the pattern matches a triple
abbrev pub Finds : List Term → List Triple → Selector → Type 0
Finds terms graph (Node x) = IsInData terms graph x
Finds terms graph (Triples x) = HasMatch terms graph x

-- the selector is idle
abbrev pub IsIdle : List Term → List Triple → Selector → Type 0
IsIdle terms graph x = ¬ Finds terms graph x

-- the idle ones among the selectors of items, in their order
pub data AreIdle (terms : List Term) (graph : List Triple) : List Item → List Selector → Type 0 where
  empty : AreIdle terms graph [] []
  idle : {i : Item} {is : List Item} {xs : List Selector} → IsIdle terms graph i.selector → AreIdle terms graph is xs → AreIdle terms graph (i ∷ is) (i.selector ∷ xs)
  busy : {i : Item} {is : List Item} {xs : List Selector} → Finds terms graph i.selector → AreIdle terms graph is xs → AreIdle terms graph (i ∷ is) xs

-- the lines for the idle selectors of a map, in its order and each once
pub record AreIdleLines (terms : List Term) (graph : List Triple) (items : List Item) (lines : List (List ℕ)) : Type 0 where
  pub selectors : List Selector
  pub are_idle : AreIdle terms graph items selectors
  pub lines_are : AddsAll [] (map selector_line selectors) lines

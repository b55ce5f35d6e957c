-- What a table of terms and a graph hold when triples of terms were put into them (RDF 1.1 Concepts, section 3).
use Rattle.std.specs.Prelude.{◌≡◌, ◌≤◌, List, [], ◌∷◌, length, slice_get, Some}
use Rattle.lists.specs.Additions.{Adds, AddsAll}
use Rattle.rdf_terms.specs.OneLine.{HasOneLine}
use Rattle.rdf_terms.specs.Tables.{max_terms}
use Rattle.rdf_terms.specs.declared.terms.Term.{Term}
use Rattle.rdf_terms.specs.declared.terms.Triple.{Triple}
use Rattle.graph_index.specs.Contents.{max_triples}
use Rattle.graph_index.specs.declared.loading.TermTriple.{TermTriple}

-- the terms of a triple, in the order in which they are written
abbrev pub terms_of : TermTriple → List Term
terms_of t = t.subject ∷ t.predicate ∷ t.object ∷ []

-- each term of the triple can stand on one line
pub record HaveOneLine (t : TermTriple) : Type 0 where
  pub subject : HasOneLine t.subject
  pub predicate : HasOneLine t.predicate
  pub object : HasOneLine t.object

-- the numbers are those of the triple's terms
pub record IsNumbered (terms : List Term) (t : TermTriple) (n : Triple) : Type 0 where
  pub subject : slice_get terms n.s.0 ≡ Some t.subject
  pub predicate : slice_get terms n.p.0 ≡ Some t.predicate
  pub object : slice_get terms n.o.0 ≡ Some t.object

-- One triple after the other: its terms go last in the table where they are new, and the triple of their numbers goes
-- last in the graph where it is new. The table and the graph become the second table and the second graph.
pub data Loads : List Term → List Triple → List TermTriple → List Term → List Triple → Type 0 where
  nothing : {terms : List Term} {graph : List Triple} → Loads terms graph [] terms graph
  triple : {terms mid new_terms : List Term} {graph grown new_graph : List Triple} {t : TermTriple} {ts : List TermTriple} (n : Triple)
      → AddsAll terms (terms_of t) mid → IsNumbered mid t n → Adds graph n grown → Loads mid grown ts new_terms new_graph
      → Loads terms graph (t ∷ ts) new_terms new_graph

-- within the limits of a table and of a graph
abbrev pub IsWithin : List Term → List Triple → Type 0
IsWithin terms graph = (length terms ≤ max_terms) × (length graph ≤ max_triples)

-- the triple finds no room: its terms in the table, or its numbers in the graph
abbrev pub FindsNoRoom : List Term → List Triple → TermTriple → Type 0
FindsNoRoom terms graph t = (new_terms : List Term) (new_graph : List Triple) → Loads terms graph (t ∷ []) new_terms new_graph → ¬ IsWithin new_terms new_graph

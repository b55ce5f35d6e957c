-- Laws of sealed graphs and of loading. Each is claimed by a function of `src/laws.rt`.
use Rattle.std.specs.Prelude.{List, [], ◌++◌, ◌≡◌, ◌≢◌, ◌↔◌, ◌⊎◌, ◌<◌, length, All, Contains, Some, slice_get}
use Rattle.std.specs.Cmp.Lexicographic.{slice_cmp}
use Rattle.std.specs.Ordering.{nat_cmp}
use Rattle.lists.specs.Distinct.{AreDistinct}
use Rattle.rdf_terms.specs.declared.terms.Term.{Term}
use Rattle.rdf_terms.specs.declared.terms.TermId.{TermId}
use Rattle.rdf_terms.specs.declared.terms.Triple.{Triple}
use Rattle.rdf_terms.specs.OneLine.{HasOneLine}
use Rattle.rdf_terms.specs.Order.{compare_at, text_at}
use Rattle.graph_index.specs.Contents.{Contents, IsSealedWith}
use Rattle.graph_index.specs.Loading.{HaveOneLine, Loads, IsNumbered}
use Rattle.graph_index.specs.declared.loading.TermTriple.{TermTriple}

-- the numbers of the triple are of the table
pub record IsOfTable (terms : List Term) (t : Triple) : Type 0 where
  pub subject : t.s.0 < length terms
  pub predicate : t.p.0 < length terms
  pub object : t.o.0 < length terms

-- a graph that is sealed with the table of its terms is sealed with each table that begins with it
abbrev pub SealingOutlivesGrowth : Type 0
SealingOutlivesGrowth = (terms more : List Term) (g : Contents) → All (IsOfTable terms) g.triples → IsSealedWith terms g → IsSealedWith (terms ++ more) g

-- where two texts differ, they alone decide
abbrev pub OrderIsByTexts : Type 0
OrderIsByTexts = (terms : List Term) (a b : TermId) → text_at terms a ≢ text_at terms b → compare_at terms a b ≡ slice_cmp nat_cmp (text_at terms a) (text_at terms b)

-- triples lead a table and a graph to one table and one graph
abbrev pub LoadingIsOne : Type 0
LoadingIsOne = (terms a b : List Term) (graph c d : List Triple) (ts : List TermTriple) → AreDistinct terms → Loads terms graph ts a c → Loads terms graph ts b d → (a ≡ b) × (c ≡ d)

-- what was there keeps its place
abbrev pub LoadingKeeps : Type 0
LoadingKeeps = (terms new_terms : List Term) (graph new_graph : List Triple) (ts : List TermTriple) → Loads terms graph ts new_terms new_graph
    → ((more : List Term) × (new_terms ≡ terms ++ more)) × ((more : List Triple) × (new_graph ≡ graph ++ more))

-- the graph holds what it held and the triples, and nothing else
abbrev pub LoadingHolds : Type 0
LoadingHolds = (terms new_terms : List Term) (graph new_graph : List Triple) (ts : List TermTriple) → AreDistinct terms → Loads terms graph ts new_terms new_graph
    → (n : Triple) → Contains new_graph n ↔ (Contains graph n ⊎ ((t : TermTriple) × Contains ts t × IsNumbered new_terms t n))

-- where each term of a table can stand on one line, each can when triples of such terms are loaded
abbrev pub LoadingBringsLines : Type 0
LoadingBringsLines = (terms : List Term) (graph : List Triple) (triples : List TermTriple) (new_terms : List Term) (new_graph : List Triple) → Loads terms graph triples new_terms new_graph
    → ((t : Term) → Contains terms t → HasOneLine t) → ((t : TermTriple) → Contains triples t → HaveOneLine t) → (t : Term) → Contains new_terms t → HasOneLine t

-- where triples of such terms are loaded into any table and a graph without triples, the subject and the object of each triple of the graph can stand on one line
abbrev pub LoadedEndsHaveLines : Type 0
LoadedEndsHaveLines = (first terms : List Term) (triples : List TermTriple) (graph : List Triple) → Loads first [] triples terms graph → ((t : TermTriple) → Contains triples t → HaveOneLine t)
    → (n : Triple) → Contains graph n → ((x : Term) → slice_get terms n.s.0 ≡ Some x → HasOneLine x) × ((x : Term) → slice_get terms n.o.0 ≡ Some x → HasOneLine x)

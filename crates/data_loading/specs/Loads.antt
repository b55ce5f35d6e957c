-- Triples that are loaded one after the other.
use Rattle.std.specs.Prelude.{◌≡◌, ◌++◌, List, ◌∷◌, Result, Ok, Err}
use Rattle.rdf_terms.specs.declared.terms.Term.{Term}
use Rattle.rdf_terms.specs.declared.terms.Triple.{Triple}
use Rattle.graph_index.specs.declared.loading.LoadError.{LoadError}
use Rattle.graph_index.specs.declared.loading.LoadError.TheVariants as load
use Rattle.graph_index.specs.declared.loading.TermTriple.{TermTriple}
use Rattle.graph_index.specs.Loading.{Loads, FindsNoRoom}

-- some triples fit, and behind them one finds no room
pub record Fills (terms : List Term) (graph : List Triple) (ts : List TermTriple) : Type 0 where
  pub before : List TermTriple
  pub last : TermTriple
  pub behind : List TermTriple
  pub parts : ts ≡ before ++ last ∷ behind
  pub mid_terms : List Term
  pub mid_graph : List Triple
  pub loaded : Loads terms graph before mid_terms mid_graph
  pub no_room : FindsNoRoom mid_terms mid_graph last

-- triples that are loaded; of want of memory nothing is said
abbrev pub LoadsAll : Result (Unit {0}) LoadError → List Term → List Triple → List TermTriple → List Term → List Triple → Type 0
LoadsAll (Ok x) terms graph ts new_terms new_graph = Loads terms graph ts new_terms new_graph
LoadsAll (Err load.Memory) terms graph ts new_terms new_graph = Unit {0}
LoadsAll (Err load.Full) terms graph ts new_terms new_graph = Fills terms graph ts

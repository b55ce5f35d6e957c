-- How the functions inside the crate end.
use Rattle.std.specs.Prelude.{◌≡◌, true, List, [], Result, Ok, Err}
use Rattle.rdf_cursor.specs.Ahead.{Ahead, prepend}
use Rattle.rdf_cursor.specs.Phrases.{Many}
use Rattle.rdf_cursor.specs.Readers.{loop}
use Rattle.rdf_terms.specs.declared.terms.Term.{Term}
use Rattle.rdf_terms.specs.declared.terms.Triple.{Triple}
use Rattle.rdf_lex.specs.Tokens.{Spelled}
use Rattle.graph_index.specs.declared.loading.TermTriple.{TermTriple}
use Rattle.graph_index.specs.Loading.{Loads}
use Rattle.data_loading.specs.Loads.{Fills}
use Rattle.rdf_cursor.specs.declared.stops.Fault as kind
use Rattle.data_loading.specs.declared.refusal.Refusal.{Refusal}
use Rattle.data_loading.specs.declared.refusal.Refusal.TheVariants.{Memory, Full, Fault}
use Rattle.turtle_reader.specs.Causes.{bare, Causes, IsAtLimit}
use Rattle.turtle_reader.specs.Documents.{inner_depth}
use Rattle.turtle_reader.specs.Grammar.{Behind, Document}
use Rattle.turtle_reader.specs.Reading.{statement, further, document}
use Rattle.turtle_reader.specs.States.{DocumentScope, begun}
use Rattle.rdf_cursor.specs.Symbols.{is_any}

-- one statement, with the scope, what lies ahead, the table and the graph before and behind it
abbrev pub Steps : Result (Unit {0}) Refusal → DocumentScope → Ahead Spelled → DocumentScope → Ahead Spelled → List Term → List Triple → List Term → List Triple → Type 0
Steps (Ok x) v ahead w rest terms graph new_terms new_graph = (u : DocumentScope) × (statement true inner_depth v ahead ≡ Ok (u, rest)) × (w ≡ begun u) ×
    Loads terms graph u.triples new_terms new_graph
Steps (Err Memory) v ahead w rest terms graph new_terms new_graph = Unit {0}
Steps (Err Full) v ahead w rest terms graph new_terms new_graph = (u : DocumentScope) × (statement true inner_depth v ahead ≡ Ok (u, rest)) × Fills terms graph u.triples
Steps (Err (Fault f)) v ahead w rest terms graph new_terms new_graph = statement true inner_depth v ahead ≡ Err (f, rest)

-- some statements so far
pub record Comes (v : DocumentScope) (ahead : Ahead Spelled) (terms : List Term) (graph : List Triple) (w : DocumentScope) (rest : Ahead Spelled)
    (new_terms : List Term) (new_graph : List Triple) : Type 0 where
  pub so_far : List TermTriple
  pub goes : loop is_any (further true inner_depth) (w, so_far) rest ≡ loop is_any (further true inner_depth) (v, []) ahead
  pub statements : Many (Behind true inner_depth) (v, []) (w, so_far) ahead rest
  pub loaded : Loads terms graph so_far new_terms new_graph

-- some statements so far, among whose triples one finds no room
pub record Overflows (v : DocumentScope) (ahead : Ahead Spelled) (terms : List Term) (graph : List Triple) : Type 0 where
  pub so_far : List TermTriple
  pub scope : DocumentScope
  pub rest : Ahead Spelled
  pub goes : loop is_any (further true inner_depth) (scope, so_far) rest ≡ loop is_any (further true inner_depth) (v, []) ahead
  pub statements : Many (Behind true inner_depth) (v, []) (scope, so_far) ahead rest
  pub fills : Fills terms graph so_far

-- some statements so far, and behind them a fault at the next token
pub record Stopped (v : DocumentScope) (ahead : Ahead Spelled) (f : kind.Fault) (rest : Ahead Spelled) : Type 0 where
  pub refused : document true inner_depth v ahead ≡ Err (f, rest)
  pub so_far : List TermTriple
  pub scope : DocumentScope
  pub mid : Ahead Spelled
  pub statements : Many (Behind true inner_depth) (v, []) (scope, so_far) ahead mid
  pub inside : List Spelled
  pub parts : mid ≡ prepend inside rest
  pub cause : Causes (bare scope) f rest
  pub limit : IsAtLimit scope f inside

-- all statements
abbrev pub Ends : Result (Unit {0}) Refusal → DocumentScope → Ahead Spelled → DocumentScope → Ahead Spelled → List Term → List Triple → List Term → List Triple → Type 0
Ends (Ok x) v ahead w rest terms graph new_terms new_graph = (ts : List TermTriple) × Document true inner_depth v (w, ts) ahead × Loads terms graph ts new_terms new_graph
Ends (Err Memory) v ahead w rest terms graph new_terms new_graph = Unit {0}
Ends (Err Full) v ahead w rest terms graph new_terms new_graph = Overflows v ahead terms graph
Ends (Err (Fault f)) v ahead w rest terms graph new_terms new_graph = Stopped v ahead f rest

-- How the functions inside the crate end.
use Rattle.std.specs.Prelude.{◌≡◌, true, ◌++◌, List, [], ◌∷◌, Result, Ok, Err}
use Rattle.rdf_cursor.specs.Ahead.{Ahead, finished}
use Rattle.rdf_cursor.specs.Readers.{loop}
use Rattle.rdf_terms.specs.declared.terms.Term.{Term}
use Rattle.rdf_terms.specs.declared.terms.Triple.{Triple}
use Rattle.rdf_lex.specs.Tokens.{Spelled}
use Rattle.rdf_cursor.specs.Symbols.{is_any}
use Rattle.graph_index.specs.declared.loading.TermTriple.{TermTriple}
use Rattle.graph_index.specs.Loading.{Loads, FindsNoRoom}
use Rattle.data_loading.specs.declared.refusal.Refusal.{Refusal}
use Rattle.data_loading.specs.declared.refusal.Refusal.TheVariants.{Memory, Full, Fault}
use Rattle.nt_reader.specs.Grammar.{Lines}
use Rattle.nt_reader.specs.Reading.{line, line_behind, document}

-- one line, with what lies ahead, the table and the graph before and behind it
abbrev pub Steps : Result (Unit {0}) Refusal → Ahead Spelled → Ahead Spelled → List Term → List Triple → List Term → List Triple → Type 0
Steps (Ok x) ahead rest terms graph new_terms new_graph = (xs : List TermTriple) × (line true ahead ≡ Ok (xs, rest)) × Loads terms graph xs new_terms new_graph
Steps (Err Memory) ahead rest terms graph new_terms new_graph = Unit {0}
Steps (Err Full) ahead rest terms graph new_terms new_graph = (x : TermTriple) × (line true ahead ≡ Ok (x ∷ [], rest)) × FindsNoRoom terms graph x
Steps (Err (Fault f)) ahead rest terms graph new_terms new_graph = line true ahead ≡ Err (f, rest)

-- some lines so far
pub record Comes (ahead : Ahead Spelled) (terms : List Term) (graph : List Triple) (rest : Ahead Spelled) (new_terms : List Term) (new_graph : List Triple) : Type 0 where
  pub so_far : List TermTriple
  pub goes : loop is_any (line_behind true) so_far rest ≡ loop is_any (line_behind true) [] ahead
  pub lines : Lines true so_far ahead rest
  pub loaded : Loads terms graph so_far new_terms new_graph

-- some lines so far, and behind them a triple that finds no room
pub record Fills (ahead : Ahead Spelled) (terms : List Term) (graph : List Triple) (rest : Ahead Spelled) : Type 0 where
  pub before : List TermTriple
  pub last : TermTriple
  pub goes : loop is_any (line_behind true) (before ++ last ∷ []) rest ≡ loop is_any (line_behind true) [] ahead
  pub lines : Lines true (before ++ last ∷ []) ahead rest
  pub mid_terms : List Term
  pub mid_graph : List Triple
  pub loaded : Loads terms graph before mid_terms mid_graph
  pub no_room : FindsNoRoom mid_terms mid_graph last

-- all lines
abbrev pub Ends : Result (Unit {0}) Refusal → Ahead Spelled → Ahead Spelled → List Term → List Triple → List Term → List Triple → Type 0
Ends (Ok x) ahead rest terms graph new_terms new_graph = (xs : List TermTriple) × Lines true xs ahead finished × Loads terms graph xs new_terms new_graph
Ends (Err Memory) ahead rest terms graph new_terms new_graph = Unit {0}
Ends (Err Full) ahead rest terms graph new_terms new_graph = Fills ahead terms graph rest
Ends (Err (Fault f)) ahead rest terms graph new_terms new_graph = document true ahead ≡ Err (f, rest)

-- What the bytes of a document spell, and what the answers of the reader say of them, of the table and of the graph.
use Rattle.std.specs.Prelude.{◌≡◌, true, false, ℕ, ◌≤◌, List, [], ◌∷◌, ◌++◌, ◌⊎◌, Contains, Result, Ok, Err}
use Rattle.std.specs.Str.{IsUtf8}
use Rattle.rdf_cursor.specs.Ahead.{Ahead, finished, prepend}
use Rattle.rdf_cursor.specs.Phrases.{Many}
use Rattle.rdf_terms.specs.OneLine.{IsOneLine}
use Rattle.rdf_terms.specs.declared.terms.Term.{Term}
use Rattle.rdf_terms.specs.declared.terms.Triple.{Triple}
use Rattle.graph_index.specs.declared.read_error.ReadError.{ReadError}
use Rattle.graph_index.specs.declared.read_error.ReadError.TheVariants as error
use Rattle.graph_index.specs.declared.loading.TermTriple.{TermTriple}
use Rattle.graph_index.specs.Loading.{HaveOneLine, Loads, FindsNoRoom}
use Rattle.rdf_lex.specs.declared.kinds.Mode.TheVariants.{Turtle}
use Rattle.rdf_lex.specs.declared.prefixes.Prefixes.{Prefixes}
use Rattle.rdf_lex.specs.Prefixes.{AreOneLine, base_of, iri_under}
use Rattle.rdf_lex.specs.Tokens.{Spelled, Between, Tokens}
use Rattle.rdf_cursor.specs.Places.{IsFaultPlace, StandsAt}
use Rattle.rdf_cursor.specs.declared.stops.Fault.{Fault}
use Rattle.rdf_cursor.specs.declared.stops.Fault.TheVariants as faults
use Rattle.turtle_reader.specs.Causes.{bare, Causes, IsAtLimit}
use Rattle.turtle_reader.specs.States.{DocumentScope, start}
use Rattle.turtle_reader.specs.Grammar.{Document, Behind}

-- how deep brackets nest in those of a statement's first term
abbrev pub inner_depth : ℕ
inner_depth = 63

-- the tokens are a document with this base: its scope at the end and its triples. Brackets nest up to 64 deep, and texts and nodes are within
-- the limits
abbrev pub Spells : List ℕ → DocumentScope × List TermTriple → List Spelled → Type 0
Spells base x ts = Document true inner_depth (start base) x (prepend ts finished)

-- the tokens are a document with this base and these triples, of any depth and length
abbrev pub SpellsAny : List ℕ → DocumentScope × List TermTriple → List Spelled → Type 0
SpellsAny base x ts = (d : ℕ) × (inner_depth ≤ d) × Document false d (start base) x (prepend ts finished)

-- the bytes are a document, within the limits
abbrev pub IsDocument : List ℕ → List ℕ → DocumentScope × List TermTriple → Type 0
IsDocument base source x = (ts : List Spelled) × IsUtf8 source × Tokens Turtle source ts × Spells base x ts

-- the bytes are a document of any lengths and depth
abbrev pub IsAnyDocument : List ℕ → List ℕ → DocumentScope × List TermTriple → Type 0
IsAnyDocument base source x = (ts : List Spelled) × IsUtf8 source × Tokens Turtle source ts × SpellsAny base x ts

-- the base and the prefixes are those of the scope
pub record AreLast (p : Prefixes) (v : DocumentScope) : Type 0 where
  pub base : base_of p ≡ v.base
  pub prefixes : iri_under p ≡ v.prefixes

-- the tokens of the text begin with statements whose triples begin with some, behind which one finds no room
pub record IsOverfull (base source : List ℕ) (terms : List Term) (graph : List Triple) : Type 0 where
  pub before : List TermTriple
  pub last : TermTriple
  pub behind : List TermTriple
  pub front : List Spelled
  pub to : ℕ
  pub rest : Ahead Spelled
  pub scope : DocumentScope
  pub passed : Between Turtle source 0 front to
  pub statements : Many (Behind true inner_depth) (start base, []) (scope, before ++ last ∷ behind) (prepend front rest) rest
  pub mid_terms : List Term
  pub mid_graph : List Triple
  pub loaded : Loads terms graph before mid_terms mid_graph
  pub no_room : FindsNoRoom mid_terms mid_graph last

-- from this place on no document within the limits goes on as the text does
abbrev pub IsLimitPlace : List ℕ → List ℕ → ℕ → Type 0
IsLimitPlace base source at = IsFaultPlace (Spells base) Turtle source at

-- behind some statements, in the scope in which they end, and behind tokens of a further one, what stands at this place has a fault
pub record IsCausedAt (base source : List ℕ) (f : Fault) (at : ℕ) : Type 0 where
  pub scope : DocumentScope
  pub so_far : List TermTriple
  pub front : List Spelled
  pub inside : List Spelled
  pub rest : Ahead Spelled
  pub from : ℕ
  pub passed : Between Turtle source 0 (front ++ inside) from
  pub statements : Many (Behind true inner_depth) (start base, []) (scope, so_far) (prepend front (prepend inside rest)) (prepend inside rest)
  pub stands : StandsAt Turtle source from rest at
  pub cause : Causes (bare scope) f rest
  pub limit : IsAtLimit scope f inside

-- what has to be there for each refusal
abbrev pub Explains : List ℕ → ReadError → List ℕ → List Term → List Triple → Type 0
Explains base error.NotUtf8 source terms graph = ¬ IsUtf8 source
Explains base (error.Syntax at) source terms graph = IsFaultPlace (SpellsAny base) Turtle source at
Explains base (error.Prefix at) source terms graph = IsFaultPlace (SpellsAny base) Turtle source at × IsCausedAt base source faults.Prefix at
Explains base (error.Long at) source terms graph = IsLimitPlace base source at × IsCausedAt base source faults.Long at
Explains base error.Deep source terms graph = (at : ℕ) × IsLimitPlace base source at × IsCausedAt base source faults.Deep at
Explains base error.Full source terms graph = IsOverfull base source terms graph ⊎ ((at : ℕ) × IsLimitPlace base source at × IsCausedAt base source faults.Full at)
Explains base error.Memory source terms graph = Unit {0}

-- unless memory ran out, the table and the graph became these, and the base and the prefixes are those of the scope
abbrev pub ReadsTo : Result Prefixes ReadError → DocumentScope → List Term → List Triple → List Term → List Triple → Type 0
ReadsTo (Ok p) v wanted_terms wanted_graph terms graph = AreLast p v × (terms ≡ wanted_terms) × (graph ≡ wanted_graph)
ReadsTo (Err error.Memory) v wanted_terms wanted_graph terms graph = Unit {0}
ReadsTo (Err error.NotUtf8) v wanted_terms wanted_graph terms graph = ⊥
ReadsTo (Err (error.Syntax at)) v wanted_terms wanted_graph terms graph = ⊥
ReadsTo (Err (error.Prefix at)) v wanted_terms wanted_graph terms graph = ⊥
ReadsTo (Err error.Deep) v wanted_terms wanted_graph terms graph = ⊥
ReadsTo (Err (error.Long at)) v wanted_terms wanted_graph terms graph = ⊥
ReadsTo (Err error.Full) v wanted_terms wanted_graph terms graph = ⊥

-- what was read: the document that the bytes are, its triples in the table and the graph, and its base and prefixes at the end
pub record IsRead (base source : List ℕ) (p : Prefixes) (terms : List Term) (graph : List Triple) (new_terms : List Term) (new_graph : List Triple) : Type 0 where
  pub scope : DocumentScope
  pub triples : List TermTriple
  pub document : IsDocument base source (scope, triples)
  pub loaded : Loads terms graph triples new_terms new_graph
  pub last : AreLast p scope

-- with one base the bytes are one document at most, of whatever lengths and depth: one list of triples, and one base and the same prefixes
-- at the end
abbrev pub DocumentsAreOne : Type 0
DocumentsAreOne = (base source : List ℕ) (x y : DocumentScope × List TermTriple) → IsAnyDocument base source x → IsAnyDocument base source y → x ≡ y

-- so within the limits
abbrev pub LimitedDocumentsAreOne : Type 0
LimitedDocumentsAreOne = (base source : List ℕ) (x y : DocumentScope × List TermTriple) → IsDocument base source x → IsDocument base source y → x ≡ y

-- what is a document within the limits is that document without them
abbrev pub LimitedDocumentsAreDocuments : Type 0
LimitedDocumentsAreDocuments = (base source : List ℕ) (x : DocumentScope × List TermTriple) → IsDocument base source x → IsAnyDocument base source x

-- under a base on one line each term of a document can stand on one line, and so are the base and the IRIs of the prefixes at its end
abbrev pub DocumentsHaveLines : Type 0
DocumentsHaveLines = (base source : List ℕ) (x : DocumentScope × List TermTriple) → IsOneLine base → IsDocument base source x
    → AreOneLine x.0.base x.0.prefixes × ((t : TermTriple) → Contains x.1 t → HaveOneLine t)

-- What the answers of the reader say of the bytes, of the table and of the graph.
use Rattle.std.specs.Prelude.{◌≡◌, true, false, ℕ, ◌<◌, List, ◌++◌, ◌∷◌, [], Contains, length, encode_utf8_all, Result, Ok, Err}
use Rattle.std.specs.List.{after_first}
use Rattle.std.specs.Str.{IsUtf8}
use Rattle.graph_index.specs.declared.read_error.ReadError.{ReadError}
use Rattle.graph_index.specs.declared.read_error.ReadError.TheVariants as error
use Rattle.rdf_cursor.specs.Places.{IsFaultPlace}
use Rattle.rdf_cursor.specs.Ahead.{Ahead, prepend}
use Rattle.rdf_terms.specs.declared.terms.Term.{Term}
use Rattle.rdf_terms.specs.declared.terms.Triple.{Triple}
use Rattle.rdf_lex.specs.declared.kinds.Mode.TheVariants.{NTriples}
use Rattle.rdf_lex.specs.Tokens.{Spelled, Between, IsFirst}
use Rattle.term_tokens.specs.Meanings.{IsText}
use Rattle.term_tokens.specs.Terms.{max_text, is_colon}
use Rattle.rdf_cursor.specs.Symbols.{is_symbol}
use Rattle.rdf_cursor.specs.declared.symbols.Symbol.TheVariants as symbol
use Rattle.graph_index.specs.declared.loading.TermTriple.{TermTriple}
use Rattle.graph_index.specs.Loading.{HaveOneLine, Loads, FindsNoRoom}
use Rattle.nt_reader.specs.Grammar.{Lines, Spells, IsDocument, IsAnyDocument}

-- the token stands for an IRI or a lexical form, or has a label, of too many bytes
pub data IsLong (t : Spelled) : Type 0 where
  by_text : (text : List ℕ) → IsText t text → max_text < length (encode_utf8_all text) → IsLong t
  by_label : is_symbol symbol.BlankLabel t ≡ true → max_text < length (after_first is_colon t.text) → IsLong t

-- such a token stands at the place, behind other tokens
pub record IsLongAt (source : List ℕ) (at : ℕ) : Type 0 where
  pub front : List Spelled
  pub from : ℕ
  pub t : Spelled
  pub passed : Between NTriples source 0 front from
  pub first : IsFirst NTriples source from t.kind t.text at
  pub long : IsLong t

-- the tokens of the text begin with lines of some triples, the last of which finds no room behind those before it
pub record IsOverfull (source : List ℕ) (terms : List Term) (graph : List Triple) : Type 0 where
  pub before : List TermTriple
  pub last : TermTriple
  pub front : List Spelled
  pub to : ℕ
  pub rest : Ahead Spelled
  pub passed : Between NTriples source 0 front to
  pub lines : Lines true (before ++ last ∷ []) (prepend front rest) rest
  pub mid_terms : List Term
  pub mid_graph : List Triple
  pub loaded : Loads terms graph before mid_terms mid_graph
  pub no_room : FindsNoRoom mid_terms mid_graph last

-- what has to be there for each refusal
abbrev pub Explains : ReadError → List ℕ → List Term → List Triple → Type 0
Explains error.NotUtf8 source terms graph = ¬ IsUtf8 source
Explains (error.Syntax at) source terms graph = IsFaultPlace (Spells false) NTriples source at
Explains (error.Long at) source terms graph = IsLongAt source at
Explains error.Full source terms graph = IsOverfull source terms graph
Explains error.Memory source terms graph = Unit {0}
Explains (error.Prefix at) source terms graph = ⊥
Explains error.Deep source terms graph = ⊥

-- unless memory ran out, the table and the graph became these
abbrev pub ReadsTo : Result (Unit {0}) ReadError → List Term → List Triple → List Term → List Triple → Type 0
ReadsTo (Ok x) wanted_terms wanted_graph terms graph = (terms ≡ wanted_terms) × (graph ≡ wanted_graph)
ReadsTo (Err error.Memory) wanted_terms wanted_graph terms graph = Unit {0}
ReadsTo (Err error.NotUtf8) wanted_terms wanted_graph terms graph = ⊥
ReadsTo (Err (error.Syntax at)) wanted_terms wanted_graph terms graph = ⊥
ReadsTo (Err (error.Long at)) wanted_terms wanted_graph terms graph = ⊥
ReadsTo (Err error.Full) wanted_terms wanted_graph terms graph = ⊥
ReadsTo (Err (error.Prefix at)) wanted_terms wanted_graph terms graph = ⊥
ReadsTo (Err error.Deep) wanted_terms wanted_graph terms graph = ⊥

-- the bytes are a document of one list of triples at most
abbrev pub DocumentsAreOne : Type 0
DocumentsAreOne = (source : List ℕ) (xs ys : List TermTriple) → IsAnyDocument source xs → IsAnyDocument source ys → xs ≡ ys

-- so within the limits
abbrev pub ShortDocumentsAreOne : Type 0
ShortDocumentsAreOne = (source : List ℕ) (xs ys : List TermTriple) → IsDocument source xs → IsDocument source ys → xs ≡ ys

-- each term of a document can stand on one line
abbrev pub DocumentsHaveLines : Type 0
DocumentsHaveLines = (source : List ℕ) (triples : List TermTriple) → IsAnyDocument source triples → (t : TermTriple) → Contains triples t → HaveOneLine t

-- so within the limits
abbrev pub ShortDocumentsHaveLines : Type 0
ShortDocumentsHaveLines = (source : List ℕ) (triples : List TermTriple) → IsDocument source triples → (t : TermTriple) → Contains triples t → HaveOneLine t

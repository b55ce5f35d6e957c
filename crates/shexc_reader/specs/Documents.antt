-- What the bytes of a document in ShExC spell, and what the answers of the reader say of them.
use Rattle.std.specs.Prelude.{◌≡◌, ℕ, true, false, List, map, None, option_map, Result, Ok, Err}
use Rattle.std.specs.Str.{IsUtf8}
use Rattle.rdf_cursor.specs.Ahead.{finished, prepend}
use Rattle.rdf_lex.specs.declared.kinds.Mode.TheVariants.{Schema}
use Rattle.rdf_lex.specs.Prefixes.{base_of, iri_under}
use Rattle.rdf_lex.specs.Tokens.{Spelled, Tokens}
use Rattle.schema_documents.specs.Tree.{expr_of, maybe_expr, decl_of, document_of}
use Rattle.schema_documents.specs.declared.error.SchemaError.{SchemaError}
use Rattle.schema_documents.specs.declared.error.SchemaError.TheVariants as errors
use Rattle.term_tokens.specs.Scopes.{scope_of}
use Rattle.shexc_reader.specs.declared.state.State.{State as Code}
use Rattle.shexc_reader.specs.declared.state.Parsed.{Parsed}
use Rattle.shexc_reader.specs.States.{State, begun, document_in}
use Rattle.shexc_reader.specs.Grammar.{ShExC}

-- how many brackets are open at one place at most (own)
abbrev pub max_depth : ℕ
max_depth = 64

-- what the code holds
abbrev pub state_of : Code → State
state_of s = record { scope = scope_of s.prefixes; imports = s.imports.items; start = maybe_expr (option_map expr_of s.start); decls = map decl_of s.decls.items }

-- before the first statement of a document with this base no prefix is declared
abbrev pub at_first : List ℕ → State
at_first base = begun (record { base = base; prefixes = λ prefix. None })

-- the tokens are a document with this base, within the limits: what is read of it in the end
abbrev pub Spells : List ℕ → State → List Spelled → Type 0
Spells base x ts = ShExC true max_depth (at_first base) x (prepend ts finished)

-- the tokens are a document with this base, of any depth and with patterns of any size
abbrev pub SpellsAny : List ℕ → State → List Spelled → Type 0
SpellsAny base x ts = (d : ℕ) × ShExC false d (at_first base) x (prepend ts finished)

-- the tokens are a document with this base, with brackets within their limit and patterns of any size
abbrev pub SpellsWithin : List ℕ → State → List Spelled → Type 0
SpellsWithin base x ts = ShExC false max_depth (at_first base) x (prepend ts finished)

-- the bytes are a document
abbrev pub IsDocument : List ℕ → List ℕ → State → Type 0
IsDocument base source x = (ts : List Spelled) × IsUtf8 source × Tokens Schema source ts × Spells base x ts

-- what was read is what is read in the end, with its last base and prefixes
pub record IsParsedOf (p : Parsed) (x : State) : Type 0 where
  pub document : document_of p.doc ≡ document_in x
  pub base : base_of p.prefixes ≡ x.scope.base
  pub prefixes : iri_under p.prefixes ≡ x.scope.prefixes

-- what was read is what the bytes spell
abbrev pub IsRead : List ℕ → List ℕ → Parsed → Type 0
IsRead base source p = (x : State) × IsDocument base source x × IsParsedOf p x

-- this is read, unless memory ran out
abbrev pub ReadsAs : Result Parsed SchemaError → State → Type 0
ReadsAs (Ok p) x = IsParsedOf p x
ReadsAs (Err e) x = e ≡ errors.Memory

-- whatever document the bytes are is read
abbrev pub ReadsAll : List ℕ → List ℕ → Result Parsed SchemaError → Type 0
ReadsAll base source result = (x : State) → IsDocument base source x → ReadsAs result x

-- the bytes are one document at most
abbrev pub DocumentsAreOne : Type 0
DocumentsAreOne = (base source : List ℕ) (x y : State) → IsDocument base source x → IsDocument base source y → x ≡ y

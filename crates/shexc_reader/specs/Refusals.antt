-- Why a text in ShExC is refused, and what has to stand there.
use Rattle.std.specs.Prelude.{count_by, ◌+◌, ◌≡◌, ◌⊎◌, ℕ, true, false, List, [], ◌∷◌, length, drop, Ok, codes, if◌then◌else◌}
use Rattle.std.specs.Str.{chars, IsUtf8}
use Rattle.rdf_cursor.specs.Ahead.{Ahead, token, prepend, next_is}
use Rattle.rdf_cursor.specs.Phrases.{Many}
use Rattle.rdf_cursor.specs.Places.{IsFaultPlace}
use Rattle.rdf_cursor.specs.Symbols.{is_symbol, is_among}
use Rattle.rdf_cursor.specs.declared.symbols.Symbol.{Symbol}
use Rattle.rdf_cursor.specs.declared.symbols.Symbol.TheVariants as symbol
use Rattle.rdf_lex.specs.declared.kinds.Mode.TheVariants.{Schema}
use Rattle.rdf_lex.specs.Tokens.{Spelled, Between, IsFirst, BeginsNone}
use Rattle.term_tokens.specs.Scopes.{Scope}
use Rattle.schema_documents.specs.declared.error.SchemaError.{SchemaError}
use Rattle.schema_documents.specs.declared.error.SchemaError.TheVariants as errors
use Rattle.shexc_constraints.specs.declared.faults.Fault.{Fault}
use Rattle.shexc_constraints.specs.declared.faults.Fault.TheVariants as fault
use Rattle.shexc_constraints.specs.declared.faults.Stop.{Stop}
use Rattle.shexc_constraints.specs.declared.faults.Stop.TheVariants as stop
use Rattle.shexc_constraints.specs.Causes.{brackets, closing_brackets, directives, AreNone, IsCause}
use Rattle.shexc_constraints.specs.Meanings.{iri_of, label_of}
use Rattle.xs_pattern.specs.declared.pattern_error.PatternError.{PatternError}
use Rattle.xs_pattern.specs.declared.pattern_error.PatternError.TheVariants as refusal
use Rattle.shexc_reader.specs.Documents.{max_depth, at_first, Spells, SpellsAny, SpellsWithin}
use Rattle.shexc_reader.specs.Grammar.{Statement}
use Rattle.shexc_reader.specs.States.{State}

-- the refusal of a token that no document has there: an action and words that are left out have refusals of their own (own)
unfoldable pub refusal_at : Ahead Spelled → ℕ → SchemaError
refusal_at rest at =
    if next_is (is_symbol symbol.Percent) rest then errors.Action else (if next_is (is_symbol symbol.Abstract) rest then errors.Form (chars (codes "ABSTRACT"))
    else (if next_is (is_symbol symbol.Extends) rest then errors.Form (chars (codes "EXTENDS")) else (if next_is (is_symbol symbol.Restricts) rest then errors.Form (chars (codes "RESTRICTS"))
    else errors.Syntax at)))

-- the refusal for a fault at a token, at its place
abbrev pub error_of : Fault → Ahead Spelled → ℕ → SchemaError
error_of fault.Syntax rest at = refusal_at rest at
error_of fault.External rest at = errors.External
error_of fault.Deep rest at = errors.Deep
error_of fault.Prefix rest at = errors.Prefix at
error_of fault.FloatFacet rest at = errors.FloatFacet
error_of fault.FacetNumber rest at = errors.FacetNumber
error_of (fault.Pattern e) rest at = errors.Pattern e

-- the answer for a stop
abbrev pub IsErrorOf : Stop → Ahead Spelled → ℕ → SchemaError → Type 0
IsErrorOf stop.Memory rest at e = e ≡ errors.Memory
IsErrorOf (stop.Fault f) rest at e = (e ≡ errors.Memory) ⊎ (e ≡ error_of f rest at)

-- A token stands at the place behind some tokens, of which the first are the statements that lead to a state; and of this state, the tokens
-- behind those statements and the token some thing holds.
pub record StandsAt (base source : List ℕ) (Thing : State → List Spelled → Spelled → Type 0) (at : ℕ) : Type 0 where
  pub front : List Spelled
  pub from : ℕ
  pub t : Spelled
  pub state : State
  pub inside : List Spelled
  pub behind : Ahead Spelled
  pub passed : Between Schema source 0 front from
  pub first : IsFirst Schema source from t.kind t.text at
  pub statements : Many (Statement true max_depth) (at_first base) state (prepend front (token t behind)) (prepend inside (token t behind))
  pub thing : Thing state inside t

-- from the place on no document goes on as the text does, of any depth and with patterns of any size, and there the thing stands
abbrev pub IsRefusedAt : List ℕ → List ℕ → (State → List Spelled → Spelled → Type 0) → ℕ → Type 0
IsRefusedAt base source Thing at = IsFaultPlace (SpellsAny base) Schema source at × StandsAt base source Thing at

abbrev pub IsRefused : List ℕ → List ℕ → (State → List Spelled → Spelled → Type 0) → Type 0
IsRefused base source Thing = (at : ℕ) × IsRefusedAt base source Thing at

-- from the place on no document within the limits goes on as the text does, and there the thing stands
abbrev pub IsBeyond : List ℕ → List ℕ → (State → List Spelled → Spelled → Type 0) → Type 0
IsBeyond base source Thing = (at : ℕ) × IsFaultPlace (Spells base) Schema source at × StandsAt base source Thing at

-- the symbols that have a refusal of their own wherever they stand
abbrev pub named : List Symbol
named = symbol.Percent ∷ symbol.Abstract ∷ symbol.Extends ∷ symbol.Restricts ∷ []

-- so many brackets are open behind the tokens: those that opened, less those that closed
abbrev pub AreOpen : ℕ → List Spelled → Type 0
AreOpen n ts = count_by (is_among brackets) ts ≡ n + count_by (is_among closing_brackets) ts

-- the tokens are the label of a declaration
abbrev pub IsLabelled : Scope → List Spelled → Type 0
IsLabelled v ts = (t : Spelled) × (ts ≡ t ∷ []) × (((i : List ℕ) × (iri_of v t ≡ Ok i)) ⊎ ((name : List ℕ) × (label_of t ≡ Ok name)))

-- What each fault has behind these tokens of its statement, where so many brackets may be open: EXTERNAL stands in the place of an expression, as
-- many brackets are open before one that is too deep as may be, and no token changes the scope before a name whose prefix is not declared.
abbrev pub HasCauseWithin : ℕ → Scope → Fault → List Spelled → Spelled → Type 0
HasCauseWithin d v fault.Syntax before t = is_among named t ≡ false
HasCauseWithin d v fault.External before t = (is_symbol symbol.External t ≡ true) × IsLabelled v before
HasCauseWithin d v fault.Deep before t = (is_among brackets t ≡ true) × AreOpen d before
HasCauseWithin d v fault.Prefix before t = IsCause v fault.Prefix before t × AreNone directives before
HasCauseWithin d v fault.FloatFacet before t = IsCause v fault.FloatFacet before t
HasCauseWithin d v fault.FacetNumber before t = IsCause v fault.FacetNumber before t
HasCauseWithin d v (fault.Pattern e) before t = IsCause v (fault.Pattern e) before t

abbrev pub HasCause : Fault → State → List Spelled → Spelled → Type 0
HasCause f s before t = HasCauseWithin max_depth s.scope f before t

-- no token stands at the place: the text ends there, or its characters form none
abbrev pub HasNoToken : List ℕ → ℕ → Type 0
HasNoToken source at = (at ≡ length source) ⊎ BeginsNone Schema (chars (drop at source))

-- no token stands there, or one without a refusal of its own; and EXTERNAL does not stand there in the place of an expression
abbrev pub IsUnnamedAt : List ℕ → List ℕ → ℕ → Type 0
IsUnnamedAt base source at = (HasNoToken source at ⊎ StandsAt base source (HasCause fault.Syntax) at) × (¬ StandsAt base source (HasCause fault.External) at)

-- a bracket opens too deep there: no document with brackets within their limit goes on so, whatever the size of its patterns
abbrev pub IsTooDeep : List ℕ → List ℕ → Type 0
IsTooDeep base source = (at : ℕ) × IsFaultPlace (SpellsWithin base) Schema source at × StandsAt base source (HasCause fault.Deep) at

-- the token is this symbol; it is a word that is left out
abbrev pub IsSymbol : Symbol → State → List Spelled → Spelled → Type 0
IsSymbol a s inside t = is_symbol a t ≡ true

abbrev pub IsLeftOut : List ℕ → State → List Spelled → Spelled → Type 0
IsLeftOut word s inside t =
    ((word ≡ chars (codes "ABSTRACT")) × (is_symbol symbol.Abstract t ≡ true)) ⊎ (((word ≡ chars (codes "EXTENDS")) × (is_symbol symbol.Extends t ≡ true))
    ⊎ ((word ≡ chars (codes "RESTRICTS")) × (is_symbol symbol.Restricts t ≡ true)))

-- a pattern is refused there: one that is too large is beyond a limit
abbrev pub IsPatternRefused : List ℕ → List ℕ → PatternError → Type 0
IsPatternRefused base source refusal.Large = IsBeyond base source (HasCause (fault.Pattern refusal.Large))
IsPatternRefused base source refusal.Flag = IsRefused base source (HasCause (fault.Pattern refusal.Flag))
IsPatternRefused base source refusal.Syntax = IsRefused base source (HasCause (fault.Pattern refusal.Syntax))
IsPatternRefused base source refusal.Memory = IsRefused base source (HasCause (fault.Pattern refusal.Memory))

-- what has to be there for each refusal
abbrev pub Explains : List ℕ → SchemaError → List ℕ → Type 0
Explains base errors.NotUtf8 source = ¬ IsUtf8 source
Explains base (errors.Syntax at) source = IsFaultPlace (SpellsAny base) Schema source at × IsUnnamedAt base source at
Explains base errors.Action source = IsRefused base source (IsSymbol symbol.Percent)
Explains base (errors.Form word) source = IsRefused base source (IsLeftOut word)
Explains base errors.External source = IsRefused base source (HasCause fault.External)
Explains base (errors.Prefix at) source = IsRefusedAt base source (HasCause fault.Prefix) at
Explains base errors.FloatFacet source = IsRefused base source (HasCause fault.FloatFacet)
Explains base errors.FacetNumber source = IsRefused base source (HasCause fault.FacetNumber)
Explains base (errors.Pattern e) source = IsPatternRefused base source e
Explains base errors.Deep source = IsTooDeep base source
Explains base errors.Memory source = Unit {0}
Explains base errors.Json source = ⊥
Explains base (errors.Key name) source = ⊥

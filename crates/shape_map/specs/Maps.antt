-- What the bytes of a shape map spell, and what the answers of the reader say of them.
use Rattle.std.specs.Prelude.{◌≡◌, ℕ, Bool, true, false, ◌||◌, if◌then◌else◌, List, [], ◌∷◌, None, Contains, Result, Ok, Err}
use Rattle.std.specs.Str.{IsUtf8}
use Rattle.rdf_cursor.specs.Ahead.{finished, prepend}
use Rattle.rdf_terms.specs.OneLine.{HasOneLine}
use Rattle.rdf_terms.specs.declared.terms.Term.{Term}
use Rattle.rdf_lex.specs.declared.kinds.Mode.TheVariants.{Map}
use Rattle.rdf_lex.specs.Prefixes.{AreOneLine}
use Rattle.rdf_lex.specs.Tokens.{Spelled, Between, IsFirst, Tokens}
use Rattle.rdf_cursor.specs.Places.{IsFaultPlace}
use Rattle.schema_tree.specs.Targets.{target_text}
use Rattle.shape_map.specs.declared.error.MapError.{MapError}
use Rattle.shape_map.specs.declared.error.MapError.TheVariants as error
use Rattle.shape_map.specs.declared.items.Item.{Item}
use Rattle.rdf_cursor.specs.declared.symbols.Symbol.TheVariants as symbol
use Rattle.shape_map.specs.Grammar.{ShapeMap}
use Rattle.term_tokens.specs.Scopes.{Scope}
use Rattle.term_tokens.specs.Terms.{prefix_of}
use Rattle.rdf_cursor.specs.Symbols.{is_symbol, is_among}
use Rattle.shape_map.specs.Meanings.{prefixed, target_marks}
use Rattle.shape_map.specs.Selection.{written}

-- the tokens are a map of these items: nodes have the base and the prefixes of the data, targets those of the schema
abbrev pub Spells : Scope → Scope → List Item → List Spelled → Type 0
Spells nodes labels xs ts = ShapeMap nodes labels xs (prepend ts finished)

-- the bytes are a map of these items
abbrev pub IsMap : Scope → Scope → List ℕ → List Item → Type 0
IsMap nodes labels source xs = (ts : List Spelled) × IsUtf8 source × Tokens Map source ts × Spells nodes labels xs ts

-- the last of some tokens is a mark behind which a target stands
abbrev pub ends_in_mark : List Spelled → Bool
ends_in_mark [] = false
ends_in_mark (t ∷ []) = is_among target_marks t
ends_in_mark (t ∷ u ∷ more) = ends_in_mark (u ∷ more)

-- the base and the prefixes for a name behind some tokens: those of targets where `@` stands in it or `@` or `!` before it, else those of nodes
abbrev pub scope_at : Scope → Scope → List Spelled → Spelled → Scope
scope_at nodes labels front t = if is_symbol symbol.AtName t || ends_in_mark front then labels else nodes

-- the token at the place is a name whose prefix is not declared
pub record IsUndeclaredAt (nodes labels : Scope) (source : List ℕ) (at : ℕ) : Type 0 where
  pub front : List Spelled
  pub from : ℕ
  pub t : Spelled
  pub passed : Between Map source 0 front from
  pub first : IsFirst Map source from t.kind t.text at
  pub named : is_among prefixed t ≡ true
  pub undeclared : (scope_at nodes labels front t).prefixes (prefix_of t) ≡ None

-- what has to be there for each refusal
abbrev pub Explains : Scope → Scope → MapError → List ℕ → Type 0
Explains nodes labels error.NotUtf8 source = ¬ IsUtf8 source
Explains nodes labels (error.Syntax at) source = IsFaultPlace (Spells nodes labels) Map source at
Explains nodes labels (error.Prefix at) source = IsFaultPlace (Spells nodes labels) Map source at × IsUndeclaredAt nodes labels source at
Explains nodes labels error.Memory source = Unit {0}
Explains nodes labels (error.Label l) source = ⊥
Explains nodes labels error.NoStart source = ⊥
Explains nodes labels error.Many source = ⊥
Explains nodes labels error.Full source = ⊥

-- these items are read, unless memory ran out
abbrev pub ReadsAs : Result (List Item) MapError → List Item → Type 0
ReadsAs (Ok m) xs = m ≡ xs
ReadsAs (Err error.Memory) xs = Unit {0}
ReadsAs (Err error.NotUtf8) xs = ⊥
ReadsAs (Err (error.Syntax at)) xs = ⊥
ReadsAs (Err (error.Prefix at)) xs = ⊥
ReadsAs (Err (error.Label l)) xs = ⊥
ReadsAs (Err error.NoStart) xs = ⊥
ReadsAs (Err error.Many) xs = ⊥
ReadsAs (Err error.Full) xs = ⊥

-- the bytes are a map of one list of items at most
abbrev pub MapsAreOne : Type 0
MapsAreOne = (nodes labels : Scope) (source : List ℕ) (xs ys : List Item) → IsMap nodes labels source xs → IsMap nodes labels source ys → xs ≡ ys

-- under bases and prefixes on one line each node that is written in a shape map can stand on one line, and no target has a line feed in its text
-- (ShapeMap Structure and Language, section 3.1; RDF 1.1 Concepts, section 3.3)
abbrev pub MapHasLines : Type 0
MapHasLines = (nodes labels : Scope) (bytes : List ℕ) (items : List Item) → AreOneLine nodes.base nodes.prefixes → AreOneLine labels.base labels.prefixes
    → IsMap nodes labels bytes items → (i : Item) → Contains items i → ((t : Term) → Contains (written i.selector) t → HasOneLine t) × ¬ Contains (target_text i.target) 10

-- What stands at a token that is at fault, and before it in its statement.
use Rattle.std.specs.Prelude.{◌≡◌, ◌⊎◌, ℕ, true, false, List, [], ◌∷◌, ◌++◌, Option, Some, None, Ok, Err}
use Rattle.std.specs.List.{AllByRecursion}
use Rattle.std.specs.Str.{chars}
use Rattle.rdf_cursor.specs.Symbols.{symbol_of, is_among}
use Rattle.rdf_cursor.specs.declared.symbols.Symbol.{Symbol}
use Rattle.rdf_cursor.specs.declared.symbols.Symbol.TheVariants as symbol
use Rattle.rdf_lex.specs.Tokens.{Spelled}
use Rattle.node_constraint.specs.Making.{HasFloatFacet, HasOtherNumber, IsFirstRefusal, patterns_in}
use Rattle.node_constraint.specs.declared.facet.Facet.{Facet}
use Rattle.term_tokens.specs.Scopes.{Scope}
use Rattle.term_tokens.specs.Terms.{prefix_of}
use Rattle.shexc_constraints.specs.declared.faults.Fault.{Fault}
use Rattle.shexc_constraints.specs.declared.faults.Fault.TheVariants as fault
use Rattle.shexc_constraints.specs.Facets.{counted_of, ranged_of}
use Rattle.shexc_constraints.specs.Meanings.{iri_of, facet_number_of}
use Rattle.shexc_constraints.specs.Patterns.{pattern_of}
use Rattle.shexc_constraints.specs.Symbols.{lengths, digit_counts, ranges, numbers, all_facets}

-- the brackets that open and whose depth is bounded, and those that close
abbrev pub brackets : List Symbol
brackets = symbol.OpenBrace ∷ symbol.OpenParenthesis ∷ []

abbrev pub closing_brackets : List Symbol
closing_brackets = symbol.CloseBrace ∷ symbol.CloseParenthesis ∷ []

-- names with a prefix
abbrev pub prefixed : List Symbol
prefixed = symbol.PnameNs ∷ symbol.PnameLn ∷ symbol.AtName ∷ []

-- the words that change the base and the prefixes in force
abbrev pub directives : List Symbol
directives = symbol.SparqlBase ∷ symbol.SparqlPrefix ∷ []

-- the words of facets that a whole number follows, and all symbols that facets are spelled with
abbrev pub counted_words : List Symbol
counted_words = lengths ++ digit_counts

abbrev pub facet_symbols : List Symbol
facet_symbols = all_facets ++ numbers

-- each of some tokens is one of these symbols; none is
abbrev pub AreAll : List Symbol → List Spelled → Type 0
AreAll symbols ts = AllByRecursion (λ t. is_among symbols t ≡ true) ts

abbrev pub AreNone : List Symbol → List Spelled → Type 0
AreNone symbols ts = AllByRecursion (λ t. is_among symbols t ≡ false) ts

-- the last of some tokens is this one, one of these words
abbrev pub EndsWith : List Symbol → List Spelled → Spelled → Type 0
EndsWith words before w = (front : List Spelled) × (before ≡ front ++ w ∷ []) × (is_among words w ≡ true)

-- the token is this facet: a pattern, or the number behind the facet's word
abbrev pub IsFacetAt : List Spelled → Spelled → Facet → Type 0
IsFacetAt before t f =
    ((fs : List Facet) × (pattern_of fs t ≡ Ok f))
    ⊎ ((w : Spelled) × ((EndsWith counted_words before w × (counted_of (symbol_of w.kind w.text) t ≡ Ok f)) ⊎ (EndsWith ranges before w × (ranged_of (symbol_of w.kind w.text) t ≡ Ok f))))

-- an IRI behind which facets alone stand is this datatype
pub record IsDatatypeOf (v : Scope) (before : List Spelled) (datatype : List ℕ) : Type 0 where
  pub front : List Spelled
  pub t : Spelled
  pub facets : List Spelled
  pub parts : before ≡ front ++ t ∷ facets
  pub are_facets : AreAll facet_symbols facets
  pub iri : List ℕ
  pub stands_for : iri_of v t ≡ Ok iri
  pub is : chars iri ≡ datatype

-- the datatype of the constraint, if one is given
abbrev pub IsDatatype : Scope → List Spelled → Option (List ℕ) → Type 0
IsDatatype v before None = Unit {0}
IsDatatype v before (Some datatype) = IsDatatypeOf v before datatype

-- What the token has to be for each fault behind these tokens of its statement, by the base and the prefixes in force. Neither EXTERNAL nor a
-- bracket whose depth is bounded stands in what is read here.
abbrev pub IsCause : Scope → Fault → List Spelled → Spelled → Type 0
IsCause v fault.Syntax before t = Unit {0}
IsCause v fault.External before t = ⊥
IsCause v fault.Deep before t = ⊥
IsCause v fault.Prefix before t = (is_among prefixed t ≡ true) × (v.prefixes (prefix_of t) ≡ None)
IsCause v fault.FloatFacet before t = (datatype : Option (List ℕ)) × (f : Facet) × IsDatatype v before datatype × IsFacetAt before t f × HasFloatFacet datatype (f ∷ [])
IsCause v fault.FacetNumber before t =
    ((w : Spelled) × EndsWith counted_words before w × (facet_number_of t ≡ Err fault.FacetNumber)) ⊎ ((f : Facet) × IsFacetAt before t f × HasOtherNumber (f ∷ []))
IsCause v (fault.Pattern e) before t = (f : Facet) × IsFacetAt before t f × IsFirstRefusal e (patterns_in (f ∷ []))

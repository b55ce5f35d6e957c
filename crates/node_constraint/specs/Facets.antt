-- Facets of node constraints (ShEx 2.1, section 5.4, XML Schema String Facet Constraints and Numeric Facet Constraints).
use Rattle.std.specs.Prelude.{ℕ, ◌≤◌, ◌≡◌, ◌⊎◌, List, length, Option, IsSomeAnd, encode_utf8_all}
use Rattle.std.specs.Str.{chars}
use Rattle.rdf_terms.specs.Written.{printed_name}
use Rattle.rdf_terms.specs.declared.terms.Term.{Term}
use Rattle.rdf_terms.specs.declared.terms.Term.TheVariants as Terms
use Rattle.xs_pattern.specs.Flagged.{SpellsUnder, flags_named}
use Rattle.xs_pattern.specs.Language.{IsFound}
use Rattle.xs_pattern.specs.Regex.{Regex}
use Rattle.xs_text.specs.Decimal.{IsBelow, HasSameValue, fraction_digit_count, total_digit_count}
use Rattle.node_constraint.specs.declared.facet.Facet.{Facet}
use Rattle.node_constraint.specs.declared.facet.Facet.TheVariants as Facets

-- the text that facets look at: an IRI, the printed name of a blank node without `_:`, or a lexical form
abbrev pub text_of : Term → List ℕ
text_of (Terms.Iri iri) = iri
text_of (Terms.Blank name) = chars (printed_name name)
text_of (Terms.Lit literal) = literal.lex

-- the pattern is found in the text: it is that of an expression which holds between two places
abbrev pub HasPattern : List ℕ → List ℕ → List ℕ → Type 0
HasPattern pattern flags text = (e : Regex) × SpellsUnder flags e pattern × IsFound (flags_named flags) text e

-- of the numbers of two decimal texts, the first is at most the second
abbrev pub IsAtMost : List ℕ → List ℕ → Type 0
IsAtMost a b = IsBelow a b ⊎ HasSameValue a b

-- The facet holds for the text, and for the decimal text, if there is one: without it no facet on numbers holds
abbrev pub SatFacet : Facet → List ℕ → Option (List ℕ) → Type 0
SatFacet (Facets.Length n) text decimal = length text ≡ n
SatFacet (Facets.MinLength n) text decimal = n ≤ length text
SatFacet (Facets.MaxLength n) text decimal = length text ≤ n
SatFacet (Facets.MinInclusive bound) text decimal = IsSomeAnd decimal (λ d. IsAtMost (encode_utf8_all bound) d)
SatFacet (Facets.MinExclusive bound) text decimal = IsSomeAnd decimal (λ d. IsBelow (encode_utf8_all bound) d)
SatFacet (Facets.MaxInclusive bound) text decimal = IsSomeAnd decimal (λ d. IsAtMost d (encode_utf8_all bound))
SatFacet (Facets.MaxExclusive bound) text decimal = IsSomeAnd decimal (λ d. IsBelow d (encode_utf8_all bound))
SatFacet (Facets.TotalDigits n) text decimal = IsSomeAnd decimal (λ d. total_digit_count d ≤ n)
SatFacet (Facets.FractionDigits n) text decimal = IsSomeAnd decimal (λ d. fraction_digit_count d ≤ n)
SatFacet (Facets.Pattern pattern flags) text decimal = HasPattern pattern flags text

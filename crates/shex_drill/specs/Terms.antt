-- The terms of a drill.
use Rattle.std.specs.Prelude.{◌≡◌, ℕ, List, [], ◌++◌, codes, Some, None}
use Rattle.std.specs.Fmt.{decimal}
use Rattle.rdf_terms.specs.Vocabulary.{xsd_integer}
use Rattle.rdf_terms.specs.declared.terms.Term.{Term}
use Rattle.rdf_terms.specs.declared.terms.Term.TheVariants.{Iri, Lit}
use Rattle.term_tokens.specs.Scopes.{Scope}

-- what the empty prefix stands for in all three texts
abbrev pub home : List ℕ
home = codes "http://d.example/"

-- it stands for that here
abbrev pub IsAtHome : Scope → Type 0
IsAtHome v = v.prefixes [] ≡ Some home

-- the IRI of a local name
abbrev pub named : List ℕ → Term
named local = Iri (home ++ local)

abbrev pub item_term : ℕ → Term
item_term i = named (codes "i" ++ decimal i)

-- a tag, as a whole number
abbrev pub tag_term : ℕ → Term
tag_term tag = Lit (record { lex = decimal tag; datatype = xsd_integer; lang = None })

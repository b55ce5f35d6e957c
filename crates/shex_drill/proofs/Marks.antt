-- Single tokens and what they stand for.
use Rattle.std.proofs.Common.{◌≡◌, ℕ, true, List, refl, ap}
use Rattle.std.specs.Str.{chars}
use Rattle.std.proofs.lemmas.Str.{chars-IsAscii}
use Rattle.rdf_cursor.specs.Ahead.{Ahead, token}
use Rattle.rdf_cursor.specs.Marks.{Mark}
use Rattle.rdf_cursor.specs.Symbols.{is_symbol}
use Rattle.rdf_cursor.specs.declared.symbols.Symbol.{Symbol}
use Rattle.rdf_lex.specs.Tokens.{Spelled}
use Rattle.rdf_terms.specs.declared.terms.Term.TheVariants.{Iri}
use Rattle.term_tokens.specs.Terms.{iri_term}
use Rattle.shex_drill.proofs.Lexing.{ascii, is_plain}

-- a token that is one symbol
pub mark_is : (a : Symbol) (t : Spelled) (rest : Ahead Spelled) → is_symbol a t ≡ true → Mark a (token t rest) rest
mark_is a t rest e = (t, (t, refl, rw e refl))

-- an IRI of ASCII as characters, and as a term
pub chars_are : (iri : List ℕ) → is_plain iri ≡ true → chars iri ≡ iri
chars_are iri e = chars-IsAscii iri (ascii iri e)

pub term_is : (iri : List ℕ) → is_plain iri ≡ true → iri_term iri ≡ Iri iri
term_is iri e = ap Iri (chars_are iri e)

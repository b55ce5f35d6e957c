-- Laws of tokens.
use Rattle.std.specs.Prelude.{◌≡◌, ℕ, ◌+◌, ◌<◌, ◌≤◌, length, true, if◌then◌else◌, List, [], ◌∷◌, ◌++◌, Option, Some, None, codes, encode_utf8_all}
use Rattle.std.specs.List.{list_all, flat_map}
use Rattle.std.specs.Str.{chars, all_scalars, IsUtf8, IsCharBoundary}
use Rattle.rdf_terms.specs.Literals.{LiteralParts}
use Rattle.rdf_terms.specs.Vocabulary.{xsd_string}
use Rattle.rdf_terms.specs.Texts.{same_text}
use Rattle.rdf_terms.specs.Written.{iri_text, escaped, literal_text, term_text}
use Rattle.rdf_terms.specs.declared.terms.Term.TheVariants.{Iri}
use Rattle.rdf_lex.specs.declared.kinds.Kind.{Kind}
use Rattle.rdf_lex.specs.declared.kinds.Kind.TheVariants as kinds
use Rattle.rdf_lex.specs.declared.kinds.Mode.{Mode}
use Rattle.rdf_lex.specs.declared.lexed.Lexed.{Lexed}
use Rattle.rdf_lex.specs.Characters.{has, iri_char}
use Rattle.rdf_lex.specs.Escapes.{IsMeaning}
use Rattle.rdf_lex.specs.Phrases.{Spells}
use Rattle.rdf_lex.specs.Scan.{next_of, seen}
use Rattle.rdf_lex.specs.Spelling.{Spelling, lang_tag}
use Rattle.rdf_lex.specs.Tokens.{IsFirst, Lexes, Spelled, Tokens}

-- no text is a token of two kinds
abbrev pub KindsAreApart : Type 0
KindsAreApart = (m : Mode) (j k : Kind) (text : List ℕ) → Spells (Spelling m j) text → Spells (Spelling m k) text → j ≡ k

-- what comes next from a place on is one thing, which a scan from there gives
abbrev pub NextIsOne : Type 0
NextIsOne = (m : Mode) (source : List ℕ) (at : ℕ) (r : Lexed) → IsUtf8 source → IsCharBoundary source at → Lexes m source at r → seen r ≡ next_of m source at

-- a text is one list of tokens at most
abbrev pub TokensAreOne : Type 0
TokensAreOne = (m : Mode) (source : List ℕ) (ts us : List Spelled) → IsUtf8 source → Tokens m source ts → Tokens m source us → ts ≡ us

-- an IRI of characters that an IRI may have
abbrev pub IsIri : List ℕ → Type 0
IsIri iri = (all_scalars iri ≡ true) × (list_all (has iri_char) iri ≡ true)

-- a tag of characters that a language tag may have
abbrev pub IsTag : Option (List ℕ) → Type 0
IsTag None = Unit {0}
IsTag (Some tag) = (all_scalars tag ≡ true) × Spells lang_tag (64 ∷ tag)

-- the token of an IRI
abbrev pub iri_token : List ℕ → Spelled
iri_token iri = record { kind = kinds.IriRef; text = iri_text iri }

-- the quoted lexical form of a literal
abbrev pub quoted_text : LiteralParts → List ℕ
quoted_text l = codes "\"" ++ (flat_map escaped l.lex ++ codes "\"")

-- the tokens behind it
abbrev pub suffix_tokens : LiteralParts → Option (List ℕ) → List Spelled
suffix_tokens l (Some tag) = record { kind = kinds.LangTag; text = codes "@" ++ encode_utf8_all tag } ∷ []
suffix_tokens l None = if same_text l.datatype xsd_string then [] else record { kind = kinds.Punct; text = codes "^^" } ∷ iri_token l.datatype ∷ []

-- the text of an IRI is one token, which stands for the IRI
abbrev pub IriTextsAreTokens : Type 0
IriTextsAreTokens = (m : Mode) (iri : List ℕ) → IsIri iri
    → Tokens m (term_text (Iri iri)) (iri_token iri ∷ []) × IsMeaning kinds.IriRef (chars (iri_text iri)) iri

-- the text of a literal is a string, which stands for the lexical form, and its tag, or `^^` and its datatype unless that is xsd:string
abbrev pub LiteralTextsAreTokens : Type 0
LiteralTextsAreTokens = (m : Mode) (l : LiteralParts) → all_scalars l.lex ≡ true → IsIri l.datatype → IsTag l.lang
    → Tokens m (literal_text l) (record { kind = kinds.Str; text = quoted_text l } ∷ suffix_tokens l l.lang) × IsMeaning kinds.Str (chars (quoted_text l)) l.lex

-- a token ends behind the place from which it was sought, and within the text
abbrev pub TokensGoOn : Type 0
TokensGoOn = (m : Mode) (source : List ℕ) (at : ℕ) (k : Kind) (text : List ℕ) (place : ℕ) → IsFirst m source at k text place
    → (at < place + length text) × (place + length text ≤ length source)

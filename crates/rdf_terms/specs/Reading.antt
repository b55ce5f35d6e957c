-- Terms from their texts.
use Rattle.std.specs.Prelude.{ℕ, List, [], ◌∷◌, ◌++◌, ◌≡◌, ◌≢◌, Option, Some, None, codes, encode_utf8_all}
use Rattle.std.specs.Borrow.{Bor}
use Rattle.std.specs.List.{flat_map}
use Rattle.rdf_terms.specs.Literals.{LiteralParts}
use Rattle.rdf_terms.specs.Values.{IsLiteralValue, IsUnicode}
use Rattle.rdf_terms.specs.Written.{escaped, suffix_text}
use Rattle.rdf_terms.specs.declared.reader.Piece.{Piece}
use Rattle.rdf_terms.specs.declared.reader.Piece.TheVariants.{Character, Quote, Wrong}

-- what is read of a text: that of which it is the text, and nothing where it is the text of nothing good
abbrev pub IsRead : {X : Type 0} → (X → List ℕ) → (X → Type 0) → List ℕ → Option X → Type 0
IsRead text_of IsGood source (Some x) = (source ≡ text_of x) × IsGood x
IsRead {X} text_of IsGood source None = (x : X) → IsGood x → ¬ (source ≡ text_of x)

-- the characters of the bytes
abbrev pub IsOwned : List ℕ → List ℕ → Type 0
IsOwned bytes text = (bytes ≡ encode_utf8_all text) × IsUnicode text

-- an IRI between angle brackets
abbrev pub IsBracketed : Option (Bor (List ℕ)) → List ℕ → Type 0
IsBracketed None text = (iri : List ℕ) → ¬ (text ≡ codes "<" ++ (iri ++ codes ">"))
IsBracketed (Some x) text = text ≡ codes "<" ++ (x.now ++ codes ">")

-- what a quoted string begins with, behind its opening quote: a character as it is written there, or the closing quote
abbrev pub IsPiece : List ℕ → Piece → List ℕ → Type 0
IsPiece text (Character c) rest = text ≡ escaped c ++ rest
IsPiece text Quote rest = text ≡ 34 ∷ rest
IsPiece text Wrong rest = ((c : ℕ) (more : List ℕ) → ¬ (text ≡ escaped c ++ more)) × ((more : List ℕ) → ¬ (text ≡ 34 ∷ more))

-- the character that a backslash and this one stand for, or none
abbrev pub IsEscape : ℕ → Piece → Type 0
IsEscape code (Character c) = escaped c ≡ 92 ∷ (code ∷ [])
IsEscape code Quote = ⊥
IsEscape code Wrong = (code ≢ 34) × ((code ≢ 92) × ((code ≢ 110) × (code ≢ 114)))

-- a lexical form as it is written behind its opening quote, and what follows the closing one
abbrev pub IsQuoted : List ℕ → Option (List ℕ × Bor (List ℕ)) → Type 0
IsQuoted text (Some x) = (text ≡ flat_map escaped x.0 ++ 34 ∷ x.1.now) × IsUnicode x.0
IsQuoted text None = (lex rest : List ℕ) → ¬ (text ≡ flat_map escaped lex ++ 34 ∷ rest)

-- a literal of this lexical form
abbrev pub IsLiteralOf : List ℕ → LiteralParts → Type 0
IsLiteralOf lex l = IsLiteralValue l × (l.lex ≡ lex)

-- what follows the closing quote of a literal
abbrev pub suffix_of : LiteralParts → List ℕ
suffix_of l = suffix_text l l.lang

-- The longest token at a place, and the tokens of a text.
use Rattle.std.specs.Prelude.{◌≡◌, ℕ, ◌+◌, ◌≤◌, ◌<◌, Bool, true, false, Option, Some, None, List, [], ◌∷◌, ◌++◌, length, take, drop, nat_eq, ◌||◌, ◌&&◌, if◌then◌else◌}
use Rattle.std.specs.Str.{chars, IsCharBoundary, NonePass}
use Rattle.rdf_lex.specs.declared.kinds.Kind.{Kind}
use Rattle.rdf_lex.specs.declared.kinds.Mode.{Mode}
use Rattle.rdf_lex.specs.declared.kinds.Mode.TheVariants.{NTriples, Turtle, Map, Schema}
use Rattle.rdf_lex.specs.declared.lexed.Lexed.{Lexed}
use Rattle.rdf_lex.specs.declared.lexed.Lexed.TheVariants as lexed
use Rattle.rdf_lex.specs.Phrases.{Spells}
use Rattle.rdf_lex.specs.Spelling.{Spelling}

-- white space (RDF 1.1 Turtle, section 6.5, WS): in N-Triples space and tab alone
abbrev pub is_white : Mode → ℕ → Bool
is_white NTriples c = nat_eq c 32 || nat_eq c 9
is_white Turtle c = nat_eq c 32 || (nat_eq c 9 || (nat_eq c 13 || nat_eq c 10))
is_white Map c = nat_eq c 32 || (nat_eq c 9 || (nat_eq c 13 || nat_eq c 10))
is_white Schema c = nat_eq c 32 || (nat_eq c 9 || (nat_eq c 13 || nat_eq c 10))

-- CR or LF, before which a comment ends (RDF 1.1 Turtle, section 6.2)
abbrev pub ends_line : ℕ → Bool
ends_line c = nat_eq c 13 || nat_eq c 10

-- a line ends here
abbrev pub IsLineEnd : List ℕ → Type 0
IsLineEnd [] = Unit {0}
IsLineEnd (c ∷ cs) = ends_line c ≡ true

-- comments from `/*` to the next `*/` are those of ShExC (ShEx 2.1, section 6)
abbrev pub has_blocks : Mode → Bool
has_blocks Schema = true
has_blocks NTriples = false
has_blocks Turtle = false
has_blocks Map = false

-- what stands behind the next `*/`, if there is one; the flag says that a `*` stands right before
abbrev pub behind_block : Bool → List ℕ → Option (List ℕ)
behind_block star [] = None
behind_block star (c ∷ cs) = if star && nat_eq c 47 then Some cs else behind_block (nat_eq c 42) cs

-- what stands behind a comment that begins here with `/*`, if one does and ends
abbrev pub behind_open : List ℕ → Option (List ℕ)
behind_open [] = None
behind_open (c ∷ []) = None
behind_open (c ∷ d ∷ cs) = if nat_eq c 47 && nat_eq d 42 then behind_block false cs else None

abbrev pub behind_comment : Mode → List ℕ → Option (List ℕ)
behind_comment m cs = if has_blocks m then behind_open cs else None

-- all white space and comments in front of the first characters lead to the second
pub data Blanks (m : Mode) : List ℕ → List ℕ → Type 0 where
  ends : Blanks m [] []
  stops : {c : ℕ} {cs : List ℕ} → is_white m c ≡ false → nat_eq c 35 ≡ false → behind_comment m (c ∷ cs) ≡ None → Blanks m (c ∷ cs) (c ∷ cs)
  white : {c : ℕ} {cs rest : List ℕ} → is_white m c ≡ true → Blanks m cs rest → Blanks m (c ∷ cs) rest
  comment : {cs rest : List ℕ} (note behind : List ℕ) → cs ≡ note ++ behind → NonePass ends_line note → IsLineEnd behind → Blanks m behind rest → Blanks m (35 ∷ cs) rest
  block : {cs rest : List ℕ} (behind : List ℕ) → behind_comment m cs ≡ Some behind → Blanks m behind rest → Blanks m cs rest

-- the characters begin with this token, and with none that is longer
pub record IsLongest (m : Mode) (cs : List ℕ) (k : Kind) (text : List ℕ) : Type 0 where
  pub rest : List ℕ
  pub parts : cs ≡ text ++ rest
  pub spelled : Spells (Spelling m k) text
  pub longest : (j : Kind) (piece behind : List ℕ) → cs ≡ piece ++ behind → Spells (Spelling m j) piece → length piece ≤ length text

-- no token begins the characters
abbrev pub BeginsNone : Mode → List ℕ → Type 0
BeginsNone m cs = (j : Kind) (piece behind : List ℕ) → cs ≡ piece ++ behind → ¬ Spells (Spelling m j) piece

-- from one place of a text on, the characters before the other are white space and comments
pub record IsSkipped (m : Mode) (source : List ℕ) (at place : ℕ) : Type 0 where
  pub onward : at ≤ place
  pub cut : IsCharBoundary source place
  pub blanks : Blanks m (chars (drop at source)) (chars (drop place source))

-- the first token from a place on: its bytes are the source's, and the text may be cut behind it
pub record IsFirst (m : Mode) (source : List ℕ) (at : ℕ) (k : Kind) (text : List ℕ) (place : ℕ) : Type 0 where
  pub skipped : IsSkipped m source at place
  pub longest : IsLongest m (chars (drop place source)) k (chars text)
  pub lent : text ≡ take (length text) (drop place source)
  pub cut : IsCharBoundary source (place + length text)

-- what comes next from a place on: the longest token behind white space and comments; the end, where
-- nothing else is left; or the place at which no token begins what is left
abbrev pub Lexes : Mode → List ℕ → ℕ → Lexed → Type 0
Lexes m source at (lexed.Token t) = IsFirst m source at t.kind t.text.now t.at
Lexes m source at lexed.End = IsSkipped m source at (length source)
Lexes m source at (lexed.Bad place) = IsSkipped m source at place × (place < length source) × BeginsNone m (chars (drop place source))

-- a token without its place
pub record Spelled : Type 0 where
  pub kind : Kind
  pub text : List ℕ

-- from one place of a text to another there are these tokens, and white space and comments between them
pub data Between (m : Mode) (source : List ℕ) : ℕ → List Spelled → ℕ → Type 0 where
  here : {at : ℕ} → Between m source at [] at
  onward : {at place to : ℕ} {k : Kind} {text : List ℕ} {ts : List Spelled} → IsFirst m source at k text place → Between m source (place + length text) ts to
      → Between m source at (record { kind = k; text = text } ∷ ts) to

-- the text is these tokens, to its end
abbrev pub Tokens : Mode → List ℕ → List Spelled → Type 0
Tokens m source ts = (at : ℕ) × Between m source 0 ts at × IsSkipped m source at (length source)

-- What a token's text stands for (RDF 1.1 Turtle, section 6.4).
use Rattle.std.specs.Prelude.{◌≡◌, ℕ, ◌+◌, ◌-◌, ◌*◌, slice_index, Bool, true, false, Option, Some, None, List, [], ◌∷◌, ◌++◌, length, nat_eq, nat_lt, nat_le, not, if◌then◌else◌, ◌&&◌, ◌||◌, ◌⊎◌, encode_utf8, encode_utf8_all, string_bytes, ◌<◌, Result, Ok, Err, String}
use Rattle.std.specs.declared.alloc.Global.{Global}
use Rattle.std.specs.List.{fold, list_all}
use Rattle.std.specs.Str.{chars, NonePass}
use Rattle.rdf_lex.specs.declared.kinds.Kind.{Kind}
use Rattle.rdf_lex.specs.declared.kinds.Kind.TheVariants as kinds
use Rattle.rdf_lex.specs.declared.kinds.Mode.{Mode}
use Rattle.rdf_lex.specs.declared.escapes.Inside.{Inside}
use Rattle.rdf_lex.specs.declared.escapes.Inside.TheVariants.{Iri, Text, Local}
use Rattle.rdf_lex.specs.declared.escapes.Reading.{Reading}
use Rattle.rdf_lex.specs.declared.escapes.Reading.TheVariants as reading
use Rattle.rdf_lex.specs.declared.escapes.Step.{Step}
use Rattle.rdf_lex.specs.declared.escapes.Step.TheVariants as step
use Rattle.rdf_lex.specs.declared.escapes.LexError.{LexError}
use Rattle.rdf_lex.specs.declared.escapes.LexError.TheVariants as error
use Rattle.rdf_lex.specs.declared.machine.Left.{Left}
use Rattle.rdf_lex.specs.declared.machine.Left.TheVariants as left
use Rattle.rdf_lex.specs.Machine.{fewer_of}
use Rattle.rdf_lex.specs.Characters.{Class, Among, has, hexadecimal, iri_char, local_escaped, text_escaped}
use Rattle.rdf_lex.specs.Phrases.{Spells}
use Rattle.rdf_lex.specs.Spelling.{Spelling, short_body, long_body}

-- the value of a hexadecimal digit
abbrev pub digit_of : ℕ → ℕ
digit_of c = if nat_le 48 c && nat_le c 57 then c - 48 else (if nat_le 65 c && nat_le c 70 then c - 55 else (if nat_le 97 c && nat_le c 102 then c - 87 else 0))

-- the number that digits go on to, and the number that they spell
abbrev pub goes_on : ℕ → ℕ → ℕ
goes_on n c = n * 16 + digit_of c

abbrev pub number_of : List ℕ → ℕ
number_of digits = fold goes_on 0 digits

-- `\u` has four digits, `\U` eight
abbrev pub IsNumeric : ℕ → List ℕ → Type 0
IsNumeric mark digits = ((mark ≡ 117) × (length digits ≡ 4)) ⊎ ((mark ≡ 85) × (length digits ≡ 8))

-- where numeric escapes stand: in IRIs and texts
abbrev pub numbers : Inside → Bool
numbers Iri = true
numbers Text = true
numbers Local = false

-- what may stand behind a backslash beside those
abbrev pub escapes : Inside → Class
escapes Iri = Among []
escapes Text = text_escaped
escapes Local = local_escaped

-- what an escaped character stands for: `t b n r f` in a text for TAB, BS, LF, CR and FF, all others for themselves
abbrev pub escaped : Inside → ℕ → ℕ
escaped Iri c = c
escaped Text c = if nat_eq c 116 then 9 else (if nat_eq c 98 then 8 else (if nat_eq c 110 then 10 else (if nat_eq c 114 then 13 else (if nat_eq c 102 then 12 else c))))
escaped Local c = c

-- written characters, and the numbers of the characters that they stand for
pub data StandsFor (w : Inside) : List ℕ → List ℕ → Type 0 where
  ends : StandsFor w [] []
  plain : {cs out : List ℕ} (c : ℕ) → nat_eq c 92 ≡ false → StandsFor w cs out → StandsFor w (c ∷ cs) (c ∷ out)
  named : {all cs out : List ℕ} (c : ℕ) → all ≡ 92 ∷ c ∷ cs → has (escapes w) c ≡ true → StandsFor w cs out → StandsFor w all (escaped w c ∷ out)
  numbered : {all cs out : List ℕ} (mark : ℕ) (digits : List ℕ) → all ≡ 92 ∷ mark ∷ (digits ++ cs) → numbers w ≡ true → IsNumeric mark digits → list_all (has hexadecimal) digits ≡ true
      → StandsFor w cs out → StandsFor w all (number_of digits ∷ out)

-- the number of a character: no surrogate, and none above 10FFFF
abbrev pub is_character : ℕ → Bool
is_character n = nat_lt n 0xD800 || (nat_lt 0xDFFF n && nat_lt n 0x110000)

-- the number of a character that may stand there: in an IRI, of one that an IRI may have
abbrev pub fits : Inside → ℕ → Bool
fits Iri n = is_character n && has iri_char n
fits Text n = is_character n
fits Local n = is_character n

-- the character is no backslash and, in an IRI, one that an IRI may have
abbrev pub stands_alone : Inside → ℕ → Bool
stands_alone Iri c = not (nat_eq c 92) && has iri_char c
stands_alone Text c = not (nat_eq c 92)
stands_alone Local c = not (nat_eq c 92)

-- how a kind's text is escaped
abbrev pub inside_of : Kind → Inside
inside_of kinds.IriRef = Iri
inside_of kinds.Str = Text
inside_of _ = Local

-- behind the first colon
abbrev pub IsBehindColon : List ℕ → List ℕ → Type 0
IsBehindColon text body = (front : List ℕ) × (text ≡ front ++ 58 ∷ body) × NonePass (λ c. nat_eq c 58) front

-- between quotation marks, one or three on each side
abbrev pub IsQuoted : ℕ → List ℕ → List ℕ → Type 0
IsQuoted q text body = ((text ≡ q ∷ (body ++ q ∷ [])) × Spells (short_body q) body)
    ⊎ ((text ≡ q ∷ q ∷ q ∷ (body ++ q ∷ q ∷ q ∷ [])) × Spells (long_body q) body)

-- the part of a token's text that stands for something: an IRI between `<` and `>`, a text between its
-- quotation marks, a local name behind its colon
abbrev pub Body : Kind → List ℕ → List ℕ → Type 0
Body kinds.IriRef text body = text ≡ 60 ∷ (body ++ 62 ∷ [])
Body kinds.Str text body = IsQuoted 34 text body ⊎ IsQuoted 39 text body
Body kinds.PnameNs text body = IsBehindColon text body
Body kinds.PnameLn text body = IsBehindColon text body
Body kinds.AtName text body = IsBehindColon text body
Body kinds.BlankLabel text body = ⊥
Body kinds.LangTag text body = ⊥
Body kinds.Integer text body = ⊥
Body kinds.Decimal text body = ⊥
Body kinds.Double text body = ⊥
Body kinds.Word text body = ⊥
Body kinds.Punct text body = ⊥
Body kinds.Line text body = ⊥
Body kinds.Pattern text body = ⊥

-- a token of the kind has such a part
abbrev pub holds_text : Kind → Bool
holds_text kinds.IriRef = true
holds_text kinds.Str = true
holds_text kinds.PnameNs = true
holds_text kinds.PnameLn = true
holds_text kinds.AtName = true
holds_text kinds.BlankLabel = false
holds_text kinds.LangTag = false
holds_text kinds.Integer = false
holds_text kinds.Decimal = false
holds_text kinds.Double = false
holds_text kinds.Word = false
holds_text kinds.Punct = false
holds_text kinds.Line = false
holds_text kinds.Pattern = false

-- the text of a token of this kind stands for characters of these numbers
abbrev pub Means : Kind → List ℕ → List ℕ → Type 0
Means k text out = (body : List ℕ) × Body k text body × StandsFor (inside_of k) body out

-- it is a token of the kind, in some mode
abbrev pub IsSpelled : Kind → List ℕ → Type 0
IsSpelled k text = (m : Mode) × Spells (Spelling m k) text

-- how a reader of escapes goes on: to a further character of an escape, or by a number that is named
abbrev pub count_of : Left → ℕ
count_of left.One = 1
count_of left.Two = 2
count_of left.Three = 3
count_of left.Four = 4
count_of left.Five = 5
count_of left.Six = 6
count_of left.Seven = 7
count_of left.Eight = 8

-- what the digits before are below
abbrev pub bound_of : Left → ℕ
bound_of left.One = 268435456
bound_of left.Two = 16777216
bound_of left.Three = 1048576
bound_of left.Four = 65536
bound_of left.Five = 4096
bound_of left.Six = 256
bound_of left.Seven = 16
bound_of left.Eight = 1

abbrev pub IsBelow : Reading → Type 0
IsBelow (reading.Digits l v) = v < bound_of l
IsBelow reading.Plain = Unit {0}
IsBelow reading.Behind = Unit {0}

abbrev pub StaysBelow : Step → Type 0
StaysBelow (step.On r) = IsBelow r
StaysBelow (step.Gives n) = Unit {0}

abbrev pub digit_step : Option Left → ℕ → Step
digit_step None n = step.Gives n
digit_step (Some l) n = step.On (reading.Digits l n)

abbrev pub step_after : Inside → Reading → ℕ → Step
step_after w reading.Plain c = if nat_eq c 92 then step.On reading.Behind else step.Gives c
step_after w reading.Behind c =
    if numbers w && nat_eq c 117 then step.On (reading.Digits left.Four 0) else (if numbers w && nat_eq c 85 then step.On (reading.Digits left.Eight 0) else step.Gives (escaped w c))
step_after w (reading.Digits l v) c = digit_step (fewer_of l) (goes_on v c)

-- one character read: what is read next, and the text so far
abbrev pub Gave : Inside → List ℕ → List ℕ → Step → Result Reading LexError → Type 0
Gave w old new (step.On t) (Ok r) = (r ≡ t) × (new ≡ old)
Gave w old new (step.Gives n) (Ok r) = (r ≡ reading.Plain) × (new ≡ old ++ encode_utf8 n) × (fits w n ≡ true)
Gave w old new (step.On t) (Err error.Escape) = ⊥
Gave w old new (step.Gives n) (Err error.Escape) = fits w n ≡ false
Gave w old new s (Err error.Memory) = Unit {0}

-- the answer for a part that stands for characters of these numbers
abbrev pub ReadsAs : Inside → List ℕ → Result (String Global) LexError → Type 0
ReadsAs w out (Ok t) = (string_bytes t ≡ encode_utf8_all out) × (list_all (fits w) out ≡ true)
ReadsAs w out (Err error.Escape) = list_all (fits w) out ≡ false
ReadsAs w out (Err error.Memory) = Unit {0}

-- the characters of a text are marks of so many bytes, a part, and as many bytes of marks
pub record IsEnclosed (text : List ℕ) (n : ℕ) (body : List ℕ) : Type 0 where
  pub front : List ℕ
  pub back : List ℕ
  pub parts : chars text ≡ front ++ (body ++ back)
  pub front_bytes : length (encode_utf8_all front) ≡ n
  pub back_bytes : length (encode_utf8_all back) ≡ n

-- the first two bytes are the same, and there are more
abbrev pub has_long_marks : List ℕ → Bool
has_long_marks text = nat_lt 2 (length text) && nat_eq (slice_index text 0) (slice_index text 1)

abbrev pub is_colon : ℕ → Bool
is_colon b = nat_eq b 58

-- the text of a token stands for characters of these numbers, and of no others
pub record IsMeaning (k : Kind) (text out : List ℕ) : Type 0 where
  pub means : Means k text out
  pub only : (other : List ℕ) → Means k text other → other ≡ out

-- the answer for a token's text: what it stands for, or that one of its escapes names no character that may stand there
abbrev pub Unescapes : Kind → List ℕ → Result (String Global) LexError → Type 0
Unescapes k text (Ok t) = IsMeaning k text (chars (string_bytes t)) × (list_all (fits (inside_of k)) (chars (string_bytes t)) ≡ true)
Unescapes k text (Err error.Escape) = (out : List ℕ) × IsMeaning k text out × (list_all (fits (inside_of k)) out ≡ false)
Unescapes k text (Err error.Memory) = Unit {0}

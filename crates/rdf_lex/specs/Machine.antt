-- The machine that reads tokens: for each state the classes that lead on, and the kind of a token that ends there.
use Rattle.std.specs.Prelude.{ℕ, List, [], ◌∷◌, Option, Some, None, if◌then◌else◌}
use Rattle.rdf_lex.specs.declared.kinds.Kind.{Kind}
use Rattle.rdf_lex.specs.declared.kinds.Kind.TheVariants as kinds
use Rattle.rdf_lex.specs.declared.kinds.Mode.{Mode}
use Rattle.rdf_lex.specs.declared.kinds.Mode.TheVariants.{NTriples, Turtle, Map, Schema}
use Rattle.rdf_lex.specs.declared.machine.Left.{Left}
use Rattle.rdf_lex.specs.declared.machine.Left.TheVariants as left
use Rattle.rdf_lex.specs.declared.machine.Quote.{Quote}
use Rattle.rdf_lex.specs.declared.machine.Quote.TheVariants as quotes
use Rattle.rdf_lex.specs.declared.machine.IriPart.{IriPart}
use Rattle.rdf_lex.specs.declared.machine.IriPart.TheVariants as iri
use Rattle.rdf_lex.specs.declared.machine.TextPart.{TextPart}
use Rattle.rdf_lex.specs.declared.machine.TextPart.TheVariants as text
use Rattle.rdf_lex.specs.declared.machine.NumberPart.{NumberPart}
use Rattle.rdf_lex.specs.declared.machine.NumberPart.TheVariants as number
use Rattle.rdf_lex.specs.declared.machine.Lead.{Lead}
use Rattle.rdf_lex.specs.declared.machine.Lead.TheVariants as lead
use Rattle.rdf_lex.specs.declared.machine.NamePart.{NamePart}
use Rattle.rdf_lex.specs.declared.machine.NamePart.TheVariants as name
use Rattle.rdf_lex.specs.declared.machine.TagPart.{TagPart}
use Rattle.rdf_lex.specs.declared.machine.TagPart.TheVariants as tag
use Rattle.rdf_lex.specs.declared.machine.LabelPart.{LabelPart}
use Rattle.rdf_lex.specs.declared.machine.LabelPart.TheVariants as label
use Rattle.rdf_lex.specs.declared.machine.MarkPart.{MarkPart}
use Rattle.rdf_lex.specs.declared.machine.MarkPart.TheVariants as mark
use Rattle.rdf_lex.specs.declared.machine.PatternPart.{PatternPart}
use Rattle.rdf_lex.specs.declared.machine.PatternPart.TheVariants as pattern
use Rattle.rdf_lex.specs.declared.machine.State.{State}
use Rattle.rdf_lex.specs.declared.machine.State.TheVariants.{Start, Iri, Text, Number, Name, Tag, Label, Mark, Line, Pattern}
use Rattle.rdf_lex.specs.Characters.{Class, Only, has, digit, letter, letter_or_digit, hexadecimal, name_base, name_char, local_start, local_char, label_start, local_escaped, text_escaped, iri_char, short_char, long_char, line_end, turtle_mark, brace, schema_mark, pattern_start, pattern_char, flag, any_char}

-- classes with what they lead to; the first that has the character counts
abbrev pub following : {T : Type 0} → List (Class × T) → ℕ → Option T
following [] c = None
following (row ∷ rows) c = if has row.0 c then Some row.1 else following rows c

abbrev pub Rows : Type 0
Rows = List (Class × State)

-- one digit fewer
abbrev pub fewer_of : Left → Option Left
fewer_of left.One = None
fewer_of left.Two = Some left.One
fewer_of left.Three = Some left.Two
fewer_of left.Four = Some left.Three
fewer_of left.Five = Some left.Four
fewer_of left.Six = Some left.Five
fewer_of left.Seven = Some left.Six
fewer_of left.Eight = Some left.Seven

-- the character that a text began with
abbrev pub mark_of : Quote → ℕ
mark_of quotes.Single = 39
mark_of quotes.Double = 34

abbrev pub iri_behind : Option Left → State
iri_behind None = Iri iri.Body
iri_behind (Some l) = Iri (iri.Digits l)

abbrev pub short_behind : Quote → Option Left → State
short_behind q None = Text q text.Short
short_behind q (Some l) = Text q (text.ShortDigits l)

abbrev pub long_behind : Quote → Option Left → State
long_behind q None = Text q text.Long
long_behind q (Some l) = Text q (text.LongDigits l)

abbrev pub iri_rows : IriPart → Rows
iri_rows iri.Body = (Only 62, Iri iri.End) ∷ (Only 92, Iri iri.Escape) ∷ (iri_char, Iri iri.Body) ∷ []
iri_rows iri.Escape = (Only 117, Iri (iri.Digits left.Four)) ∷ (Only 85, Iri (iri.Digits left.Eight)) ∷ []
iri_rows (iri.Digits l) = (hexadecimal, iri_behind (fewer_of l)) ∷ []
iri_rows iri.End = []

-- in a text on one line, on many lines, and behind a backslash
abbrev pub short_rows : Quote → State → Rows
short_rows q closed = (Only (mark_of q), closed) ∷ (Only 92, Text q text.ShortEscape) ∷ (short_char (mark_of q), Text q text.Short) ∷ []

abbrev pub long_rows : Quote → State → Rows
long_rows q closed = (Only (mark_of q), closed) ∷ (Only 92, Text q text.LongEscape) ∷ (long_char (mark_of q), Text q text.Long) ∷ []

abbrev pub escape_rows : State → State → State → Rows
escape_rows body four eight = (text_escaped, body) ∷ (Only 117, four) ∷ (Only 85, eight) ∷ []

abbrev pub text_rows : Quote → TextPart → Rows
text_rows q text.Opened = short_rows q (Text q text.Empty)
text_rows q text.Short = short_rows q (Text q text.End)
text_rows q text.ShortEscape = escape_rows (Text q text.Short) (Text q (text.ShortDigits left.Four)) (Text q (text.ShortDigits left.Eight))
text_rows q (text.ShortDigits l) = (hexadecimal, short_behind q (fewer_of l)) ∷ []
text_rows q text.Empty = (Only (mark_of q), Text q text.Long) ∷ []
text_rows q text.Long = long_rows q (Text q text.LongQuote)
text_rows q text.LongQuote = long_rows q (Text q text.LongQuotes)
text_rows q text.LongQuotes = long_rows q (Text q text.End)
text_rows q text.LongEscape = escape_rows (Text q text.Long) (Text q (text.LongDigits left.Four)) (Text q (text.LongDigits left.Eight))
text_rows q (text.LongDigits l) = (hexadecimal, long_behind q (fewer_of l)) ∷ []
text_rows q text.End = []

abbrev pub number_rows : NumberPart → Rows
number_rows number.Sign = (digit, Number number.Digits) ∷ (Only 46, Number number.SignPoint) ∷ []
number_rows number.Digits = (digit, Number number.Digits) ∷ (Only 46, Number number.DigitsPoint) ∷ (Only 101, Number number.Exponent) ∷ (Only 69, Number number.Exponent) ∷ []
number_rows number.DigitsPoint = (digit, Number number.Fraction) ∷ (Only 101, Number number.Exponent) ∷ (Only 69, Number number.Exponent) ∷ []
number_rows number.Point = (digit, Number number.Fraction) ∷ []
number_rows number.SignPoint = (digit, Number number.Fraction) ∷ []
number_rows number.Fraction = (digit, Number number.Fraction) ∷ (Only 101, Number number.Exponent) ∷ (Only 69, Number number.Exponent) ∷ []
number_rows number.Exponent = (digit, Number number.ExponentDigits) ∷ (Only 43, Number number.ExponentSign) ∷ (Only 45, Number number.ExponentSign) ∷ []
number_rows number.ExponentSign = (digit, Number number.ExponentDigits) ∷ []
number_rows number.ExponentDigits = (digit, Number number.ExponentDigits) ∷ []

-- in a prefix that does not end with a dot, in a local name, and in a prefixed name
abbrev pub prefix_rows : Lead → Rows
prefix_rows l = (name_char, Name l name.Prefix) ∷ (Only 46, Name l name.PrefixDot) ∷ (Only 58, Name l name.Colon) ∷ []

abbrev pub local_rows : Lead → Rows
local_rows l = (local_char, Name l name.Local) ∷ (Only 46, Name l name.LocalDot) ∷ (Only 37, Name l name.Percent) ∷ (Only 92, Name l name.LocalEscape) ∷ []

abbrev pub name_rows : Lead → NamePart → Rows
name_rows l name.Word = (letter, Name l name.Word) ∷ prefix_rows l
name_rows l name.Prefix = prefix_rows l
name_rows l name.PrefixDot = (name_char, Name l name.Prefix) ∷ (Only 46, Name l name.PrefixDot) ∷ []
name_rows l name.Colon = (local_start, Name l name.Local) ∷ (Only 37, Name l name.Percent) ∷ (Only 92, Name l name.LocalEscape) ∷ []
name_rows l name.Local = local_rows l
name_rows l name.LocalDot = local_rows l
name_rows l name.Percent = (hexadecimal, Name l name.PercentDigit) ∷ []
name_rows l name.PercentDigit = (hexadecimal, Name l name.Local) ∷ []
name_rows l name.LocalEscape = (local_escaped, Name l name.Local) ∷ []

abbrev pub tag_rows : TagPart → Rows
tag_rows tag.At = (letter, Tag tag.Tag) ∷ (name_base, Name lead.At name.Prefix) ∷ (Only 58, Name lead.At name.Colon) ∷ []
tag_rows tag.Tag = (letter, Tag tag.Tag) ∷ (Only 45, Tag tag.Dash) ∷ prefix_rows lead.At
tag_rows tag.Dash = (letter_or_digit, Tag tag.More) ∷ prefix_rows lead.At
tag_rows tag.More = (letter_or_digit, Tag tag.More) ∷ (Only 45, Tag tag.Dash) ∷ prefix_rows lead.At

abbrev pub label_rows : LabelPart → Rows
label_rows label.Underscore = (Only 58, Label label.Colon) ∷ []
label_rows label.Colon = (label_start, Label label.Label) ∷ (Only 58, Label label.Colons) ∷ []
label_rows label.Label = (name_char, Label label.Label) ∷ (Only 46, Label label.LabelDot) ∷ (Only 58, Label label.Colons) ∷ []
label_rows label.LabelDot = (name_char, Label label.Label) ∷ (Only 46, Label label.LabelDot) ∷ (Only 58, Label label.Colons) ∷ []
label_rows label.Colons = (local_char, Label label.Colons) ∷ (Only 46, Label label.ColonsDot) ∷ []
label_rows label.ColonsDot = (local_char, Label label.Colons) ∷ (Only 46, Label label.ColonsDot) ∷ []

abbrev pub mark_rows : MarkPart → Rows
mark_rows mark.Caret = (Only 94, Mark mark.Carets) ∷ []
mark_rows mark.Comma = []
mark_rows mark.Turtle = []
mark_rows mark.Brace = []
mark_rows mark.Exclamation = []
mark_rows mark.Schema = []
mark_rows mark.Slashes = []
mark_rows mark.Carets = []

-- behind a slash, in a pattern, behind a backslash in it, and behind the slash that ends it
abbrev pub pattern_rows : PatternPart → Rows
pattern_rows pattern.Slash = (Only 47, Mark mark.Slashes) ∷ (Only 92, Pattern pattern.Escape) ∷ (pattern_start, Pattern pattern.Body) ∷ []
pattern_rows pattern.Body = (Only 47, Pattern pattern.Flags) ∷ (Only 92, Pattern pattern.Escape) ∷ (pattern_char, Pattern pattern.Body) ∷ []
pattern_rows pattern.Escape = (any_char, Pattern pattern.Body) ∷ []
pattern_rows pattern.Flags = (flag, Pattern pattern.Flags) ∷ []

abbrev pub start_rows : Rows
start_rows = (Only 60, Iri iri.Body) ∷ (Only 34, Text quotes.Double text.Opened) ∷ (Only 39, Text quotes.Single text.Opened) ∷ (Only 64, Tag tag.At)
    ∷ (Only 43, Number number.Sign) ∷ (Only 45, Number number.Sign) ∷ (digit, Number number.Digits) ∷ (Only 46, Number number.Point)
    ∷ (letter, Name lead.Alone name.Word) ∷ (name_base, Name lead.Alone name.Prefix) ∷ (Only 58, Name lead.Alone name.Colon) ∷ (Only 95, Label label.Underscore)
    ∷ (Only 94, Mark mark.Caret) ∷ (Only 44, Mark mark.Comma) ∷ (turtle_mark, Mark mark.Turtle) ∷ (brace, Mark mark.Brace) ∷ (Only 33, Mark mark.Exclamation)
    ∷ (Only 47, Pattern pattern.Slash) ∷ (schema_mark, Mark mark.Schema) ∷ (line_end, Line) ∷ []

abbrev pub rows_of : State → Rows
rows_of Start = start_rows
rows_of (Iri part) = iri_rows part
rows_of (Text q part) = text_rows q part
rows_of (Number part) = number_rows part
rows_of (Name l part) = name_rows l part
rows_of (Tag part) = tag_rows part
rows_of (Label part) = label_rows part
rows_of (Mark part) = mark_rows part
rows_of Line = (line_end, Line) ∷ []
rows_of (Pattern part) = pattern_rows part

-- where a token is after one more character
abbrev pub step_of : State → ℕ → Option State
step_of s c = following (rows_of s) c

abbrev pub text_label : TextPart → Option Kind
text_label text.Empty = Some kinds.Str
text_label text.End = Some kinds.Str
text_label text.Opened = None
text_label text.Short = None
text_label text.ShortEscape = None
text_label (text.ShortDigits l) = None
text_label text.Long = None
text_label text.LongQuote = None
text_label text.LongQuotes = None
text_label text.LongEscape = None
text_label (text.LongDigits l) = None

-- a kind that only ShExC has
abbrev pub in_schemas : Mode → Kind → Option Kind
in_schemas Schema k = Some k
in_schemas NTriples k = None
in_schemas Turtle k = None
in_schemas Map k = None

-- a kind that shape maps and ShExC have
abbrev pub behind_at : Mode → Kind → Option Kind
behind_at Map k = Some k
behind_at Schema k = Some k
behind_at NTriples k = None
behind_at Turtle k = None

abbrev pub number_label : Mode → NumberPart → Option Kind
number_label m number.Sign = in_schemas m kinds.Punct
number_label m number.Digits = Some kinds.Integer
number_label m number.DigitsPoint = None
number_label m number.Point = Some kinds.Punct
number_label m number.SignPoint = None
number_label m number.Fraction = Some kinds.Decimal
number_label m number.Exponent = None
number_label m number.ExponentSign = None
number_label m number.ExponentDigits = Some kinds.Double

abbrev pub name_label : NamePart → Option Kind
name_label name.Word = Some kinds.Word
name_label name.Prefix = None
name_label name.PrefixDot = None
name_label name.Colon = Some kinds.PnameNs
name_label name.Local = Some kinds.PnameLn
name_label name.LocalDot = None
name_label name.Percent = None
name_label name.PercentDigit = None
name_label name.LocalEscape = None

-- a kind that only shape maps have
abbrev pub in_maps : Mode → Kind → Option Kind
in_maps Map k = Some k
in_maps NTriples k = None
in_maps Turtle k = None
in_maps Schema k = None

abbrev pub at_name_label : Mode → NamePart → Option Kind
at_name_label m name.Colon = behind_at m kinds.AtName
at_name_label m name.Local = behind_at m kinds.AtName
at_name_label m name.Word = None
at_name_label m name.Prefix = None
at_name_label m name.PrefixDot = None
at_name_label m name.LocalDot = None
at_name_label m name.Percent = None
at_name_label m name.PercentDigit = None
at_name_label m name.LocalEscape = None

abbrev pub tag_label : Mode → TagPart → Option Kind
tag_label m tag.At = behind_at m kinds.Punct
tag_label m tag.Tag = Some kinds.LangTag
tag_label m tag.Dash = None
tag_label m tag.More = Some kinds.LangTag

abbrev pub colons_label : Mode → Option Kind
colons_label NTriples = Some kinds.BlankLabel
colons_label Turtle = None
colons_label Map = Some kinds.BlankLabel
colons_label Schema = None

abbrev pub label_label : Mode → LabelPart → Option Kind
label_label m label.Underscore = in_maps m kinds.Punct
label_label m label.Colon = None
label_label m label.Label = Some kinds.BlankLabel
label_label m label.LabelDot = None
label_label m label.Colons = colons_label m
label_label m label.ColonsDot = None

abbrev pub mark_label : Mode → MarkPart → Option Kind
mark_label NTriples mark.Comma = None
mark_label Turtle mark.Comma = Some kinds.Punct
mark_label Map mark.Comma = Some kinds.Punct
mark_label Schema mark.Comma = Some kinds.Punct
mark_label NTriples mark.Turtle = None
mark_label Turtle mark.Turtle = Some kinds.Punct
mark_label Map mark.Turtle = None
mark_label Schema mark.Turtle = Some kinds.Punct
mark_label m mark.Brace = behind_at m kinds.Punct
mark_label m mark.Exclamation = in_maps m kinds.Punct
mark_label m mark.Schema = in_schemas m kinds.Punct
mark_label m mark.Slashes = in_schemas m kinds.Punct
mark_label m mark.Caret = in_schemas m kinds.Punct
mark_label m mark.Carets = Some kinds.Punct

abbrev pub iri_label : IriPart → Option Kind
iri_label iri.End = Some kinds.IriRef
iri_label iri.Body = None
iri_label iri.Escape = None
iri_label (iri.Digits l) = None

abbrev pub line_label : Mode → Option Kind
line_label NTriples = Some kinds.Line
line_label Turtle = None
line_label Map = None
line_label Schema = None

abbrev pub pattern_label : Mode → PatternPart → Option Kind
pattern_label m pattern.Flags = in_schemas m kinds.Pattern
pattern_label m pattern.Slash = None
pattern_label m pattern.Body = None
pattern_label m pattern.Escape = None

-- the kind of a token that ends here
abbrev pub label_of : Mode → State → Option Kind
label_of m Start = None
label_of m (Iri part) = iri_label part
label_of m (Text q part) = text_label part
label_of m (Number part) = number_label m part
label_of m (Name lead.Alone part) = name_label part
label_of m (Name lead.At part) = at_name_label m part
label_of m (Tag part) = tag_label m part
label_of m (Label part) = label_label m part
label_of m (Mark part) = mark_label m part
label_of m Line = line_label m
label_of m (Pattern part) = pattern_label m part

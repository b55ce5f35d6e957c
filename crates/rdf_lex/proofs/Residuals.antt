-- What is left to be spelled in each state of the machine.
use Rattle.std.proofs.Common.{◌≡◌, ℕ, Bool, true, false, cond, ◌&&◌, ◌||◌, List, [], ◌∷◌, Option, Some, None, refl, sym, ap, ◌∙◌, inl, inr}
use Rattle.std.specs.Prelude.{nat_eq, nat_le, if◌then◌else◌}
use Rattle.std.proofs.lemmas.Bool.{eqb-true, eq-eqb}
use Rattle.rdf_lex.specs.declared.kinds.Kind.{Kind}
use Rattle.rdf_lex.specs.declared.kinds.Kind.TheVariants as kinds
use Rattle.rdf_lex.specs.declared.kinds.Mode.{Mode}
use Rattle.rdf_lex.specs.declared.kinds.Mode.TheVariants.{NTriples, Turtle, Map, Schema}
use Rattle.rdf_lex.specs.declared.machine.Left.{Left}
use Rattle.rdf_lex.specs.declared.machine.Left.TheVariants as left
use Rattle.rdf_lex.specs.declared.machine.Quote.{Quote}
use Rattle.rdf_lex.specs.declared.machine.Quote.TheVariants as quotes
use Rattle.rdf_lex.specs.declared.machine.IriPart.{IriPart}
use Rattle.rdf_lex.specs.declared.machine.IriPart.TheVariants as iri
use Rattle.rdf_lex.specs.declared.machine.TextPart.{TextPart}
use Rattle.rdf_lex.specs.declared.machine.TextPart.TheVariants as text
use Rattle.rdf_lex.specs.declared.machine.NumberPart.{NumberPart}
use Rattle.rdf_lex.specs.declared.machine.NumberPart.TheVariants as number
use Rattle.rdf_lex.specs.declared.machine.Lead.{Lead}
use Rattle.rdf_lex.specs.declared.machine.Lead.TheVariants as lead
use Rattle.rdf_lex.specs.declared.machine.NamePart.{NamePart}
use Rattle.rdf_lex.specs.declared.machine.NamePart.TheVariants as name
use Rattle.rdf_lex.specs.declared.machine.TagPart.{TagPart}
use Rattle.rdf_lex.specs.declared.machine.TagPart.TheVariants as tag
use Rattle.rdf_lex.specs.declared.machine.LabelPart.{LabelPart}
use Rattle.rdf_lex.specs.declared.machine.LabelPart.TheVariants as label
use Rattle.rdf_lex.specs.declared.machine.MarkPart.{MarkPart}
use Rattle.rdf_lex.specs.declared.machine.MarkPart.TheVariants as mark
use Rattle.rdf_lex.specs.declared.machine.PatternPart.{PatternPart}
use Rattle.rdf_lex.specs.declared.machine.PatternPart.TheVariants as pattern
use Rattle.rdf_lex.specs.declared.machine.State.{State}
use Rattle.rdf_lex.specs.declared.machine.State.TheVariants.{Start, Iri, Text, Number, Name, Tag, Label, Mark, Line, Pattern}
use Rattle.rdf_lex.specs.Characters.{digit, letter, letter_or_digit, hexadecimal, name_base, name_char, local_start, local_char, label_start, local_escaped, text_escaped, iri_char, short_char, long_char, line_end, turtle_mark, brace, schema_mark, pattern_start, pattern_char, flag, any_char}
use Rattle.rdf_lex.specs.Machine.{Rows, rows_of, step_of, label_of, mark_of}
use Rattle.rdf_lex.specs.Phrases.{Phrase, nothing}
use Rattle.rdf_lex.specs.Spelling.{Spelling}
use Rattle.rdf_lex.proofs.Derivatives.{past, past_all, normal, ends, alike}
use Rattle.rdf_lex.proofs.Languages.{and_true, or_true}
use Rattle.rdf_lex.proofs.Plain.{plain, plain_class, both_or_none}
use Rattle.rdf_lex.proofs.Samples.{Bounds, bounds, sample, sample_in, samples, every}

-- the last digits of `\U` that are there, where so many are still to come
abbrev zeros : Left → List ℕ
zeros left.Eight = []
zeros left.Seven = 48 ∷ []
zeros left.Six = 48 ∷ 48 ∷ []
zeros left.Five = 48 ∷ 48 ∷ 48 ∷ []
zeros left.Four = 48 ∷ 48 ∷ 48 ∷ 48 ∷ []
zeros left.Three = 48 ∷ 48 ∷ 48 ∷ 48 ∷ 48 ∷ []
zeros left.Two = 48 ∷ 48 ∷ 48 ∷ 48 ∷ 48 ∷ 48 ∷ []
zeros left.One = 48 ∷ 48 ∷ 48 ∷ 48 ∷ 48 ∷ 48 ∷ 48 ∷ []

-- a text that leads to the state
abbrev iri_way : IriPart → List ℕ
iri_way iri.Body = []
iri_way iri.Escape = 92 ∷ []
iri_way (iri.Digits l) = 92 ∷ 85 ∷ zeros l
iri_way iri.End = 62 ∷ []

abbrev text_way : ℕ → TextPart → List ℕ
text_way q text.Opened = []
text_way q text.Short = 65 ∷ []
text_way q text.ShortEscape = 92 ∷ []
text_way q (text.ShortDigits l) = 92 ∷ 85 ∷ zeros l
text_way q text.Empty = q ∷ []
text_way q text.Long = q ∷ q ∷ []
text_way q text.LongQuote = q ∷ q ∷ q ∷ []
text_way q text.LongQuotes = q ∷ q ∷ q ∷ q ∷ []
text_way q text.LongEscape = q ∷ q ∷ 92 ∷ []
text_way q (text.LongDigits l) = q ∷ q ∷ 92 ∷ 85 ∷ zeros l
text_way q text.End = 65 ∷ q ∷ []

abbrev number_way : NumberPart → List ℕ
number_way number.Sign = 43 ∷ []
number_way number.Digits = 48 ∷ []
number_way number.DigitsPoint = 48 ∷ 46 ∷ []
number_way number.Point = 46 ∷ []
number_way number.SignPoint = 43 ∷ 46 ∷ []
number_way number.Fraction = 48 ∷ 46 ∷ 48 ∷ []
number_way number.Exponent = 48 ∷ 101 ∷ []
number_way number.ExponentSign = 48 ∷ 101 ∷ 43 ∷ []
number_way number.ExponentDigits = 48 ∷ 101 ∷ 48 ∷ []

abbrev name_way : NamePart → List ℕ
name_way name.Word = 65 ∷ []
name_way name.Prefix = 65 ∷ 48 ∷ []
name_way name.PrefixDot = 65 ∷ 46 ∷ []
name_way name.Colon = 58 ∷ []
name_way name.Local = 58 ∷ 65 ∷ []
name_way name.LocalDot = 58 ∷ 65 ∷ 46 ∷ []
name_way name.Percent = 58 ∷ 37 ∷ []
name_way name.PercentDigit = 58 ∷ 37 ∷ 48 ∷ []
name_way name.LocalEscape = 58 ∷ 92 ∷ []

abbrev at_name_way : NamePart → List ℕ
at_name_way name.Word = 65 ∷ 48 ∷ []
at_name_way name.Prefix = 65 ∷ 48 ∷ []
at_name_way name.PrefixDot = 65 ∷ 46 ∷ []
at_name_way name.Colon = 58 ∷ []
at_name_way name.Local = 58 ∷ 65 ∷ []
at_name_way name.LocalDot = 58 ∷ 65 ∷ 46 ∷ []
at_name_way name.Percent = 58 ∷ 37 ∷ []
at_name_way name.PercentDigit = 58 ∷ 37 ∷ 48 ∷ []
at_name_way name.LocalEscape = 58 ∷ 92 ∷ []

abbrev tag_way : TagPart → List ℕ
tag_way tag.At = []
tag_way tag.Tag = 65 ∷ []
tag_way tag.Dash = 65 ∷ 45 ∷ []
tag_way tag.More = 65 ∷ 45 ∷ 48 ∷ []

abbrev label_way : LabelPart → List ℕ
label_way label.Underscore = []
label_way label.Colon = 58 ∷ []
label_way label.Label = 58 ∷ 65 ∷ []
label_way label.LabelDot = 58 ∷ 65 ∷ 46 ∷ []
label_way label.Colons = 58 ∷ 58 ∷ []
label_way label.ColonsDot = 58 ∷ 58 ∷ 46 ∷ []

abbrev mark_way : MarkPart → List ℕ
mark_way mark.Comma = 44 ∷ []
mark_way mark.Turtle = 40 ∷ []
mark_way mark.Brace = 123 ∷ []
mark_way mark.Exclamation = 33 ∷ []
mark_way mark.Schema = 42 ∷ []
mark_way mark.Slashes = 47 ∷ 47 ∷ []
mark_way mark.Caret = 94 ∷ []
mark_way mark.Carets = 94 ∷ 94 ∷ []

abbrev pattern_way : PatternPart → List ℕ
pattern_way pattern.Slash = []
pattern_way pattern.Body = 65 ∷ []
pattern_way pattern.Escape = 92 ∷ []
pattern_way pattern.Flags = 65 ∷ 47 ∷ []

abbrev pub way : State → List ℕ
way Start = []
way (Iri part) = 60 ∷ iri_way part
way (Text q part) = mark_of q ∷ text_way (mark_of q) part
way (Number part) = number_way part
way (Name lead.Alone part) = name_way part
way (Name lead.At part) = 64 ∷ at_name_way part
way (Tag part) = 64 ∷ tag_way part
way (Label part) = 95 ∷ label_way part
way (Mark part) = mark_way part
way Line = 10 ∷ []
way (Pattern part) = 47 ∷ pattern_way part

-- what is left of a kind's phrase in a state
abbrev pub residual : Mode → State → Kind → Phrase
residual m s k = past_all (way s) (normal (Spelling m k))

abbrev pub residual_on : Mode → Option State → Kind → Phrase
residual_on m None k = nothing
residual_on m (Some s) k = residual m s k

abbrev pub every_kind : (Kind → Bool) → Bool
every_kind p = p kinds.IriRef && (p kinds.PnameNs && (p kinds.PnameLn && (p kinds.BlankLabel && (p kinds.LangTag && (p kinds.AtName && (p kinds.Str && (p kinds.Integer && (p kinds.Decimal && (p kinds.Double && (p kinds.Word && (p kinds.Punct && (p kinds.Line && p kinds.Pattern))))))))))))

pub every_kind_is : (p : Kind → Bool) → every_kind p ≡ true → (v : Kind) → p v ≡ true
every_kind_is p e kinds.IriRef =
    (and_true (p kinds.IriRef) (p kinds.PnameNs && (p kinds.PnameLn && (p kinds.BlankLabel && (p kinds.LangTag && (p kinds.AtName && (p kinds.Str && (p kinds.Integer && (p kinds.Decimal && (p kinds.Double && (p kinds.Word && (p kinds.Punct && (p kinds.Line && p kinds.Pattern)))))))))))) e).0
every_kind_is p e kinds.PnameNs = let e1 =
    (and_true (p kinds.IriRef) (p kinds.PnameNs && (p kinds.PnameLn && (p kinds.BlankLabel && (p kinds.LangTag && (p kinds.AtName && (p kinds.Str && (p kinds.Integer && (p kinds.Decimal && (p kinds.Double && (p kinds.Word && (p kinds.Punct && (p kinds.Line && p kinds.Pattern)))))))))))) e).1 in (and_true (p kinds.PnameNs) (p kinds.PnameLn && (p kinds.BlankLabel && (p kinds.LangTag && (p kinds.AtName && (p kinds.Str && (p kinds.Integer && (p kinds.Decimal && (p kinds.Double && (p kinds.Word && (p kinds.Punct && (p kinds.Line && p kinds.Pattern))))))))))) e1).0
every_kind_is p e kinds.PnameLn = let e1 =
    (and_true (p kinds.IriRef) (p kinds.PnameNs && (p kinds.PnameLn && (p kinds.BlankLabel && (p kinds.LangTag && (p kinds.AtName && (p kinds.Str && (p kinds.Integer && (p kinds.Decimal && (p kinds.Double && (p kinds.Word && (p kinds.Punct && (p kinds.Line && p kinds.Pattern)))))))))))) e).1 in let e2 = (and_true (p kinds.PnameNs) (p kinds.PnameLn && (p kinds.BlankLabel && (p kinds.LangTag && (p kinds.AtName && (p kinds.Str && (p kinds.Integer && (p kinds.Decimal && (p kinds.Double && (p kinds.Word && (p kinds.Punct && (p kinds.Line && p kinds.Pattern))))))))))) e1).1 in (and_true (p kinds.PnameLn) (p kinds.BlankLabel && (p kinds.LangTag && (p kinds.AtName && (p kinds.Str && (p kinds.Integer && (p kinds.Decimal && (p kinds.Double && (p kinds.Word && (p kinds.Punct && (p kinds.Line && p kinds.Pattern)))))))))) e2).0
every_kind_is p e kinds.BlankLabel = let e1 =
    (and_true (p kinds.IriRef) (p kinds.PnameNs && (p kinds.PnameLn && (p kinds.BlankLabel && (p kinds.LangTag && (p kinds.AtName && (p kinds.Str && (p kinds.Integer && (p kinds.Decimal && (p kinds.Double && (p kinds.Word && (p kinds.Punct && (p kinds.Line && p kinds.Pattern)))))))))))) e).1 in let e2 = (and_true (p kinds.PnameNs) (p kinds.PnameLn && (p kinds.BlankLabel && (p kinds.LangTag && (p kinds.AtName && (p kinds.Str && (p kinds.Integer && (p kinds.Decimal && (p kinds.Double && (p kinds.Word && (p kinds.Punct && (p kinds.Line && p kinds.Pattern))))))))))) e1).1 in let e3 = (and_true (p kinds.PnameLn) (p kinds.BlankLabel && (p kinds.LangTag && (p kinds.AtName && (p kinds.Str && (p kinds.Integer && (p kinds.Decimal && (p kinds.Double && (p kinds.Word && (p kinds.Punct && (p kinds.Line && p kinds.Pattern)))))))))) e2).1 in (and_true (p kinds.BlankLabel) (p kinds.LangTag && (p kinds.AtName && (p kinds.Str && (p kinds.Integer && (p kinds.Decimal && (p kinds.Double && (p kinds.Word && (p kinds.Punct && (p kinds.Line && p kinds.Pattern))))))))) e3).0
every_kind_is p e kinds.LangTag = let e1 =
    (and_true (p kinds.IriRef) (p kinds.PnameNs && (p kinds.PnameLn && (p kinds.BlankLabel && (p kinds.LangTag && (p kinds.AtName && (p kinds.Str && (p kinds.Integer && (p kinds.Decimal && (p kinds.Double && (p kinds.Word && (p kinds.Punct && (p kinds.Line && p kinds.Pattern)))))))))))) e).1 in let e2 = (and_true (p kinds.PnameNs) (p kinds.PnameLn && (p kinds.BlankLabel && (p kinds.LangTag && (p kinds.AtName && (p kinds.Str && (p kinds.Integer && (p kinds.Decimal && (p kinds.Double && (p kinds.Word && (p kinds.Punct && (p kinds.Line && p kinds.Pattern))))))))))) e1).1 in let e3 = (and_true (p kinds.PnameLn) (p kinds.BlankLabel && (p kinds.LangTag && (p kinds.AtName && (p kinds.Str && (p kinds.Integer && (p kinds.Decimal && (p kinds.Double && (p kinds.Word && (p kinds.Punct && (p kinds.Line && p kinds.Pattern)))))))))) e2).1 in let e4 = (and_true (p kinds.BlankLabel) (p kinds.LangTag && (p kinds.AtName && (p kinds.Str && (p kinds.Integer && (p kinds.Decimal && (p kinds.Double && (p kinds.Word && (p kinds.Punct && (p kinds.Line && p kinds.Pattern))))))))) e3).1 in (and_true (p kinds.LangTag) (p kinds.AtName && (p kinds.Str && (p kinds.Integer && (p kinds.Decimal && (p kinds.Double && (p kinds.Word && (p kinds.Punct && (p kinds.Line && p kinds.Pattern)))))))) e4).0
every_kind_is p e kinds.AtName = let e1 =
    (and_true (p kinds.IriRef) (p kinds.PnameNs && (p kinds.PnameLn && (p kinds.BlankLabel && (p kinds.LangTag && (p kinds.AtName && (p kinds.Str && (p kinds.Integer && (p kinds.Decimal && (p kinds.Double && (p kinds.Word && (p kinds.Punct && (p kinds.Line && p kinds.Pattern)))))))))))) e).1 in let e2 = (and_true (p kinds.PnameNs) (p kinds.PnameLn && (p kinds.BlankLabel && (p kinds.LangTag && (p kinds.AtName && (p kinds.Str && (p kinds.Integer && (p kinds.Decimal && (p kinds.Double && (p kinds.Word && (p kinds.Punct && (p kinds.Line && p kinds.Pattern))))))))))) e1).1 in let e3 = (and_true (p kinds.PnameLn) (p kinds.BlankLabel && (p kinds.LangTag && (p kinds.AtName && (p kinds.Str && (p kinds.Integer && (p kinds.Decimal && (p kinds.Double && (p kinds.Word && (p kinds.Punct && (p kinds.Line && p kinds.Pattern)))))))))) e2).1 in let e4 = (and_true (p kinds.BlankLabel) (p kinds.LangTag && (p kinds.AtName && (p kinds.Str && (p kinds.Integer && (p kinds.Decimal && (p kinds.Double && (p kinds.Word && (p kinds.Punct && (p kinds.Line && p kinds.Pattern))))))))) e3).1 in let e5 = (and_true (p kinds.LangTag) (p kinds.AtName && (p kinds.Str && (p kinds.Integer && (p kinds.Decimal && (p kinds.Double && (p kinds.Word && (p kinds.Punct && (p kinds.Line && p kinds.Pattern)))))))) e4).1 in (and_true (p kinds.AtName) (p kinds.Str && (p kinds.Integer && (p kinds.Decimal && (p kinds.Double && (p kinds.Word && (p kinds.Punct && (p kinds.Line && p kinds.Pattern))))))) e5).0
every_kind_is p e kinds.Str = let e1 =
    (and_true (p kinds.IriRef) (p kinds.PnameNs && (p kinds.PnameLn && (p kinds.BlankLabel && (p kinds.LangTag && (p kinds.AtName && (p kinds.Str && (p kinds.Integer && (p kinds.Decimal && (p kinds.Double && (p kinds.Word && (p kinds.Punct && (p kinds.Line && p kinds.Pattern)))))))))))) e).1 in let e2 = (and_true (p kinds.PnameNs) (p kinds.PnameLn && (p kinds.BlankLabel && (p kinds.LangTag && (p kinds.AtName && (p kinds.Str && (p kinds.Integer && (p kinds.Decimal && (p kinds.Double && (p kinds.Word && (p kinds.Punct && (p kinds.Line && p kinds.Pattern))))))))))) e1).1 in let e3 = (and_true (p kinds.PnameLn) (p kinds.BlankLabel && (p kinds.LangTag && (p kinds.AtName && (p kinds.Str && (p kinds.Integer && (p kinds.Decimal && (p kinds.Double && (p kinds.Word && (p kinds.Punct && (p kinds.Line && p kinds.Pattern)))))))))) e2).1 in let e4 = (and_true (p kinds.BlankLabel) (p kinds.LangTag && (p kinds.AtName && (p kinds.Str && (p kinds.Integer && (p kinds.Decimal && (p kinds.Double && (p kinds.Word && (p kinds.Punct && (p kinds.Line && p kinds.Pattern))))))))) e3).1 in let e5 = (and_true (p kinds.LangTag) (p kinds.AtName && (p kinds.Str && (p kinds.Integer && (p kinds.Decimal && (p kinds.Double && (p kinds.Word && (p kinds.Punct && (p kinds.Line && p kinds.Pattern)))))))) e4).1 in let e6 = (and_true (p kinds.AtName) (p kinds.Str && (p kinds.Integer && (p kinds.Decimal && (p kinds.Double && (p kinds.Word && (p kinds.Punct && (p kinds.Line && p kinds.Pattern))))))) e5).1 in (and_true (p kinds.Str) (p kinds.Integer && (p kinds.Decimal && (p kinds.Double && (p kinds.Word && (p kinds.Punct && (p kinds.Line && p kinds.Pattern)))))) e6).0
every_kind_is p e kinds.Integer = let e1 =
    (and_true (p kinds.IriRef) (p kinds.PnameNs && (p kinds.PnameLn && (p kinds.BlankLabel && (p kinds.LangTag && (p kinds.AtName && (p kinds.Str && (p kinds.Integer && (p kinds.Decimal && (p kinds.Double && (p kinds.Word && (p kinds.Punct && (p kinds.Line && p kinds.Pattern)))))))))))) e).1 in let e2 = (and_true (p kinds.PnameNs) (p kinds.PnameLn && (p kinds.BlankLabel && (p kinds.LangTag && (p kinds.AtName && (p kinds.Str && (p kinds.Integer && (p kinds.Decimal && (p kinds.Double && (p kinds.Word && (p kinds.Punct && (p kinds.Line && p kinds.Pattern))))))))))) e1).1 in let e3 = (and_true (p kinds.PnameLn) (p kinds.BlankLabel && (p kinds.LangTag && (p kinds.AtName && (p kinds.Str && (p kinds.Integer && (p kinds.Decimal && (p kinds.Double && (p kinds.Word && (p kinds.Punct && (p kinds.Line && p kinds.Pattern)))))))))) e2).1 in let e4 = (and_true (p kinds.BlankLabel) (p kinds.LangTag && (p kinds.AtName && (p kinds.Str && (p kinds.Integer && (p kinds.Decimal && (p kinds.Double && (p kinds.Word && (p kinds.Punct && (p kinds.Line && p kinds.Pattern))))))))) e3).1 in let e5 = (and_true (p kinds.LangTag) (p kinds.AtName && (p kinds.Str && (p kinds.Integer && (p kinds.Decimal && (p kinds.Double && (p kinds.Word && (p kinds.Punct && (p kinds.Line && p kinds.Pattern)))))))) e4).1 in let e6 = (and_true (p kinds.AtName) (p kinds.Str && (p kinds.Integer && (p kinds.Decimal && (p kinds.Double && (p kinds.Word && (p kinds.Punct && (p kinds.Line && p kinds.Pattern))))))) e5).1 in let e7 = (and_true (p kinds.Str) (p kinds.Integer && (p kinds.Decimal && (p kinds.Double && (p kinds.Word && (p kinds.Punct && (p kinds.Line && p kinds.Pattern)))))) e6).1 in (and_true (p kinds.Integer) (p kinds.Decimal && (p kinds.Double && (p kinds.Word && (p kinds.Punct && (p kinds.Line && p kinds.Pattern))))) e7).0
every_kind_is p e kinds.Decimal = let e1 =
    (and_true (p kinds.IriRef) (p kinds.PnameNs && (p kinds.PnameLn && (p kinds.BlankLabel && (p kinds.LangTag && (p kinds.AtName && (p kinds.Str && (p kinds.Integer && (p kinds.Decimal && (p kinds.Double && (p kinds.Word && (p kinds.Punct && (p kinds.Line && p kinds.Pattern)))))))))))) e).1 in let e2 = (and_true (p kinds.PnameNs) (p kinds.PnameLn && (p kinds.BlankLabel && (p kinds.LangTag && (p kinds.AtName && (p kinds.Str && (p kinds.Integer && (p kinds.Decimal && (p kinds.Double && (p kinds.Word && (p kinds.Punct && (p kinds.Line && p kinds.Pattern))))))))))) e1).1 in let e3 = (and_true (p kinds.PnameLn) (p kinds.BlankLabel && (p kinds.LangTag && (p kinds.AtName && (p kinds.Str && (p kinds.Integer && (p kinds.Decimal && (p kinds.Double && (p kinds.Word && (p kinds.Punct && (p kinds.Line && p kinds.Pattern)))))))))) e2).1 in let e4 = (and_true (p kinds.BlankLabel) (p kinds.LangTag && (p kinds.AtName && (p kinds.Str && (p kinds.Integer && (p kinds.Decimal && (p kinds.Double && (p kinds.Word && (p kinds.Punct && (p kinds.Line && p kinds.Pattern))))))))) e3).1 in let e5 = (and_true (p kinds.LangTag) (p kinds.AtName && (p kinds.Str && (p kinds.Integer && (p kinds.Decimal && (p kinds.Double && (p kinds.Word && (p kinds.Punct && (p kinds.Line && p kinds.Pattern)))))))) e4).1 in let e6 = (and_true (p kinds.AtName) (p kinds.Str && (p kinds.Integer && (p kinds.Decimal && (p kinds.Double && (p kinds.Word && (p kinds.Punct && (p kinds.Line && p kinds.Pattern))))))) e5).1 in let e7 = (and_true (p kinds.Str) (p kinds.Integer && (p kinds.Decimal && (p kinds.Double && (p kinds.Word && (p kinds.Punct && (p kinds.Line && p kinds.Pattern)))))) e6).1 in let e8 = (and_true (p kinds.Integer) (p kinds.Decimal && (p kinds.Double && (p kinds.Word && (p kinds.Punct && (p kinds.Line && p kinds.Pattern))))) e7).1 in (and_true (p kinds.Decimal) (p kinds.Double && (p kinds.Word && (p kinds.Punct && (p kinds.Line && p kinds.Pattern)))) e8).0
every_kind_is p e kinds.Double = let e1 =
    (and_true (p kinds.IriRef) (p kinds.PnameNs && (p kinds.PnameLn && (p kinds.BlankLabel && (p kinds.LangTag && (p kinds.AtName && (p kinds.Str && (p kinds.Integer && (p kinds.Decimal && (p kinds.Double && (p kinds.Word && (p kinds.Punct && (p kinds.Line && p kinds.Pattern)))))))))))) e).1 in let e2 = (and_true (p kinds.PnameNs) (p kinds.PnameLn && (p kinds.BlankLabel && (p kinds.LangTag && (p kinds.AtName && (p kinds.Str && (p kinds.Integer && (p kinds.Decimal && (p kinds.Double && (p kinds.Word && (p kinds.Punct && (p kinds.Line && p kinds.Pattern))))))))))) e1).1 in let e3 = (and_true (p kinds.PnameLn) (p kinds.BlankLabel && (p kinds.LangTag && (p kinds.AtName && (p kinds.Str && (p kinds.Integer && (p kinds.Decimal && (p kinds.Double && (p kinds.Word && (p kinds.Punct && (p kinds.Line && p kinds.Pattern)))))))))) e2).1 in let e4 = (and_true (p kinds.BlankLabel) (p kinds.LangTag && (p kinds.AtName && (p kinds.Str && (p kinds.Integer && (p kinds.Decimal && (p kinds.Double && (p kinds.Word && (p kinds.Punct && (p kinds.Line && p kinds.Pattern))))))))) e3).1 in let e5 = (and_true (p kinds.LangTag) (p kinds.AtName && (p kinds.Str && (p kinds.Integer && (p kinds.Decimal && (p kinds.Double && (p kinds.Word && (p kinds.Punct && (p kinds.Line && p kinds.Pattern)))))))) e4).1 in let e6 = (and_true (p kinds.AtName) (p kinds.Str && (p kinds.Integer && (p kinds.Decimal && (p kinds.Double && (p kinds.Word && (p kinds.Punct && (p kinds.Line && p kinds.Pattern))))))) e5).1 in let e7 = (and_true (p kinds.Str) (p kinds.Integer && (p kinds.Decimal && (p kinds.Double && (p kinds.Word && (p kinds.Punct && (p kinds.Line && p kinds.Pattern)))))) e6).1 in let e8 = (and_true (p kinds.Integer) (p kinds.Decimal && (p kinds.Double && (p kinds.Word && (p kinds.Punct && (p kinds.Line && p kinds.Pattern))))) e7).1 in let e9 = (and_true (p kinds.Decimal) (p kinds.Double && (p kinds.Word && (p kinds.Punct && (p kinds.Line && p kinds.Pattern)))) e8).1 in (and_true (p kinds.Double) (p kinds.Word && (p kinds.Punct && (p kinds.Line && p kinds.Pattern))) e9).0
every_kind_is p e kinds.Word = let e1 =
    (and_true (p kinds.IriRef) (p kinds.PnameNs && (p kinds.PnameLn && (p kinds.BlankLabel && (p kinds.LangTag && (p kinds.AtName && (p kinds.Str && (p kinds.Integer && (p kinds.Decimal && (p kinds.Double && (p kinds.Word && (p kinds.Punct && (p kinds.Line && p kinds.Pattern)))))))))))) e).1 in let e2 = (and_true (p kinds.PnameNs) (p kinds.PnameLn && (p kinds.BlankLabel && (p kinds.LangTag && (p kinds.AtName && (p kinds.Str && (p kinds.Integer && (p kinds.Decimal && (p kinds.Double && (p kinds.Word && (p kinds.Punct && (p kinds.Line && p kinds.Pattern))))))))))) e1).1 in let e3 = (and_true (p kinds.PnameLn) (p kinds.BlankLabel && (p kinds.LangTag && (p kinds.AtName && (p kinds.Str && (p kinds.Integer && (p kinds.Decimal && (p kinds.Double && (p kinds.Word && (p kinds.Punct && (p kinds.Line && p kinds.Pattern)))))))))) e2).1 in let e4 = (and_true (p kinds.BlankLabel) (p kinds.LangTag && (p kinds.AtName && (p kinds.Str && (p kinds.Integer && (p kinds.Decimal && (p kinds.Double && (p kinds.Word && (p kinds.Punct && (p kinds.Line && p kinds.Pattern))))))))) e3).1 in let e5 = (and_true (p kinds.LangTag) (p kinds.AtName && (p kinds.Str && (p kinds.Integer && (p kinds.Decimal && (p kinds.Double && (p kinds.Word && (p kinds.Punct && (p kinds.Line && p kinds.Pattern)))))))) e4).1 in let e6 = (and_true (p kinds.AtName) (p kinds.Str && (p kinds.Integer && (p kinds.Decimal && (p kinds.Double && (p kinds.Word && (p kinds.Punct && (p kinds.Line && p kinds.Pattern))))))) e5).1 in let e7 = (and_true (p kinds.Str) (p kinds.Integer && (p kinds.Decimal && (p kinds.Double && (p kinds.Word && (p kinds.Punct && (p kinds.Line && p kinds.Pattern)))))) e6).1 in let e8 = (and_true (p kinds.Integer) (p kinds.Decimal && (p kinds.Double && (p kinds.Word && (p kinds.Punct && (p kinds.Line && p kinds.Pattern))))) e7).1 in let e9 = (and_true (p kinds.Decimal) (p kinds.Double && (p kinds.Word && (p kinds.Punct && (p kinds.Line && p kinds.Pattern)))) e8).1 in let e10 = (and_true (p kinds.Double) (p kinds.Word && (p kinds.Punct && (p kinds.Line && p kinds.Pattern))) e9).1 in (and_true (p kinds.Word) (p kinds.Punct && (p kinds.Line && p kinds.Pattern)) e10).0
every_kind_is p e kinds.Punct = let e1 =
    (and_true (p kinds.IriRef) (p kinds.PnameNs && (p kinds.PnameLn && (p kinds.BlankLabel && (p kinds.LangTag && (p kinds.AtName && (p kinds.Str && (p kinds.Integer && (p kinds.Decimal && (p kinds.Double && (p kinds.Word && (p kinds.Punct && (p kinds.Line && p kinds.Pattern)))))))))))) e).1 in let e2 = (and_true (p kinds.PnameNs) (p kinds.PnameLn && (p kinds.BlankLabel && (p kinds.LangTag && (p kinds.AtName && (p kinds.Str && (p kinds.Integer && (p kinds.Decimal && (p kinds.Double && (p kinds.Word && (p kinds.Punct && (p kinds.Line && p kinds.Pattern))))))))))) e1).1 in let e3 = (and_true (p kinds.PnameLn) (p kinds.BlankLabel && (p kinds.LangTag && (p kinds.AtName && (p kinds.Str && (p kinds.Integer && (p kinds.Decimal && (p kinds.Double && (p kinds.Word && (p kinds.Punct && (p kinds.Line && p kinds.Pattern)))))))))) e2).1 in let e4 = (and_true (p kinds.BlankLabel) (p kinds.LangTag && (p kinds.AtName && (p kinds.Str && (p kinds.Integer && (p kinds.Decimal && (p kinds.Double && (p kinds.Word && (p kinds.Punct && (p kinds.Line && p kinds.Pattern))))))))) e3).1 in let e5 = (and_true (p kinds.LangTag) (p kinds.AtName && (p kinds.Str && (p kinds.Integer && (p kinds.Decimal && (p kinds.Double && (p kinds.Word && (p kinds.Punct && (p kinds.Line && p kinds.Pattern)))))))) e4).1 in let e6 = (and_true (p kinds.AtName) (p kinds.Str && (p kinds.Integer && (p kinds.Decimal && (p kinds.Double && (p kinds.Word && (p kinds.Punct && (p kinds.Line && p kinds.Pattern))))))) e5).1 in let e7 = (and_true (p kinds.Str) (p kinds.Integer && (p kinds.Decimal && (p kinds.Double && (p kinds.Word && (p kinds.Punct && (p kinds.Line && p kinds.Pattern)))))) e6).1 in let e8 = (and_true (p kinds.Integer) (p kinds.Decimal && (p kinds.Double && (p kinds.Word && (p kinds.Punct && (p kinds.Line && p kinds.Pattern))))) e7).1 in let e9 = (and_true (p kinds.Decimal) (p kinds.Double && (p kinds.Word && (p kinds.Punct && (p kinds.Line && p kinds.Pattern)))) e8).1 in let e10 = (and_true (p kinds.Double) (p kinds.Word && (p kinds.Punct && (p kinds.Line && p kinds.Pattern))) e9).1 in let e11 = (and_true (p kinds.Word) (p kinds.Punct && (p kinds.Line && p kinds.Pattern)) e10).1 in (and_true (p kinds.Punct) (p kinds.Line && p kinds.Pattern) e11).0
every_kind_is p e kinds.Line = let e1 =
    (and_true (p kinds.IriRef) (p kinds.PnameNs && (p kinds.PnameLn && (p kinds.BlankLabel && (p kinds.LangTag && (p kinds.AtName && (p kinds.Str && (p kinds.Integer && (p kinds.Decimal && (p kinds.Double && (p kinds.Word && (p kinds.Punct && (p kinds.Line && p kinds.Pattern)))))))))))) e).1 in let e2 = (and_true (p kinds.PnameNs) (p kinds.PnameLn && (p kinds.BlankLabel && (p kinds.LangTag && (p kinds.AtName && (p kinds.Str && (p kinds.Integer && (p kinds.Decimal && (p kinds.Double && (p kinds.Word && (p kinds.Punct && (p kinds.Line && p kinds.Pattern))))))))))) e1).1 in let e3 = (and_true (p kinds.PnameLn) (p kinds.BlankLabel && (p kinds.LangTag && (p kinds.AtName && (p kinds.Str && (p kinds.Integer && (p kinds.Decimal && (p kinds.Double && (p kinds.Word && (p kinds.Punct && (p kinds.Line && p kinds.Pattern)))))))))) e2).1 in let e4 = (and_true (p kinds.BlankLabel) (p kinds.LangTag && (p kinds.AtName && (p kinds.Str && (p kinds.Integer && (p kinds.Decimal && (p kinds.Double && (p kinds.Word && (p kinds.Punct && (p kinds.Line && p kinds.Pattern))))))))) e3).1 in let e5 = (and_true (p kinds.LangTag) (p kinds.AtName && (p kinds.Str && (p kinds.Integer && (p kinds.Decimal && (p kinds.Double && (p kinds.Word && (p kinds.Punct && (p kinds.Line && p kinds.Pattern)))))))) e4).1 in let e6 = (and_true (p kinds.AtName) (p kinds.Str && (p kinds.Integer && (p kinds.Decimal && (p kinds.Double && (p kinds.Word && (p kinds.Punct && (p kinds.Line && p kinds.Pattern))))))) e5).1 in let e7 = (and_true (p kinds.Str) (p kinds.Integer && (p kinds.Decimal && (p kinds.Double && (p kinds.Word && (p kinds.Punct && (p kinds.Line && p kinds.Pattern)))))) e6).1 in let e8 = (and_true (p kinds.Integer) (p kinds.Decimal && (p kinds.Double && (p kinds.Word && (p kinds.Punct && (p kinds.Line && p kinds.Pattern))))) e7).1 in let e9 = (and_true (p kinds.Decimal) (p kinds.Double && (p kinds.Word && (p kinds.Punct && (p kinds.Line && p kinds.Pattern)))) e8).1 in let e10 = (and_true (p kinds.Double) (p kinds.Word && (p kinds.Punct && (p kinds.Line && p kinds.Pattern))) e9).1 in let e11 = (and_true (p kinds.Word) (p kinds.Punct && (p kinds.Line && p kinds.Pattern)) e10).1 in let e12 = (and_true (p kinds.Punct) (p kinds.Line && p kinds.Pattern) e11).1 in (and_true (p kinds.Line) (p kinds.Pattern) e12).0
every_kind_is p e kinds.Pattern = let e1 =
    (and_true (p kinds.IriRef) (p kinds.PnameNs && (p kinds.PnameLn && (p kinds.BlankLabel && (p kinds.LangTag && (p kinds.AtName && (p kinds.Str && (p kinds.Integer && (p kinds.Decimal && (p kinds.Double && (p kinds.Word && (p kinds.Punct && (p kinds.Line && p kinds.Pattern)))))))))))) e).1 in let e2 = (and_true (p kinds.PnameNs) (p kinds.PnameLn && (p kinds.BlankLabel && (p kinds.LangTag && (p kinds.AtName && (p kinds.Str && (p kinds.Integer && (p kinds.Decimal && (p kinds.Double && (p kinds.Word && (p kinds.Punct && (p kinds.Line && p kinds.Pattern))))))))))) e1).1 in let e3 = (and_true (p kinds.PnameLn) (p kinds.BlankLabel && (p kinds.LangTag && (p kinds.AtName && (p kinds.Str && (p kinds.Integer && (p kinds.Decimal && (p kinds.Double && (p kinds.Word && (p kinds.Punct && (p kinds.Line && p kinds.Pattern)))))))))) e2).1 in let e4 = (and_true (p kinds.BlankLabel) (p kinds.LangTag && (p kinds.AtName && (p kinds.Str && (p kinds.Integer && (p kinds.Decimal && (p kinds.Double && (p kinds.Word && (p kinds.Punct && (p kinds.Line && p kinds.Pattern))))))))) e3).1 in let e5 = (and_true (p kinds.LangTag) (p kinds.AtName && (p kinds.Str && (p kinds.Integer && (p kinds.Decimal && (p kinds.Double && (p kinds.Word && (p kinds.Punct && (p kinds.Line && p kinds.Pattern)))))))) e4).1 in let e6 = (and_true (p kinds.AtName) (p kinds.Str && (p kinds.Integer && (p kinds.Decimal && (p kinds.Double && (p kinds.Word && (p kinds.Punct && (p kinds.Line && p kinds.Pattern))))))) e5).1 in let e7 = (and_true (p kinds.Str) (p kinds.Integer && (p kinds.Decimal && (p kinds.Double && (p kinds.Word && (p kinds.Punct && (p kinds.Line && p kinds.Pattern)))))) e6).1 in let e8 = (and_true (p kinds.Integer) (p kinds.Decimal && (p kinds.Double && (p kinds.Word && (p kinds.Punct && (p kinds.Line && p kinds.Pattern))))) e7).1 in let e9 = (and_true (p kinds.Decimal) (p kinds.Double && (p kinds.Word && (p kinds.Punct && (p kinds.Line && p kinds.Pattern)))) e8).1 in let e10 = (and_true (p kinds.Double) (p kinds.Word && (p kinds.Punct && (p kinds.Line && p kinds.Pattern))) e9).1 in let e11 = (and_true (p kinds.Word) (p kinds.Punct && (p kinds.Line && p kinds.Pattern)) e10).1 in let e12 = (and_true (p kinds.Punct) (p kinds.Line && p kinds.Pattern) e11).1 in let e13 = (and_true (p kinds.Line) (p kinds.Pattern) e12).1 in e13

abbrev pub every_mode : (Mode → Bool) → Bool
every_mode p = p NTriples && (p Turtle && (p Map && p Schema))

pub every_mode_is : (p : Mode → Bool) → every_mode p ≡ true → (v : Mode) → p v ≡ true
every_mode_is p e NTriples = (and_true (p NTriples) (p Turtle && (p Map && p Schema)) e).0
every_mode_is p e Turtle = let e1 = (and_true (p NTriples) (p Turtle && (p Map && p Schema)) e).1 in (and_true (p Turtle) (p Map && p Schema) e1).0
every_mode_is p e Map = let e1 = (and_true (p NTriples) (p Turtle && (p Map && p Schema)) e).1 in let e2 = (and_true (p Turtle) (p Map && p Schema) e1).1 in (and_true (p Map) (p Schema) e2).0
every_mode_is p e Schema = let e1 = (and_true (p NTriples) (p Turtle && (p Map && p Schema)) e).1 in let e2 = (and_true (p Turtle) (p Map && p Schema) e1).1 in
    let e3 = (and_true (p Map) (p Schema) e2).1 in e3

abbrev pub every_left : (Left → Bool) → Bool
every_left p = p left.One && (p left.Two && (p left.Three && (p left.Four && (p left.Five && (p left.Six && (p left.Seven && p left.Eight))))))

pub every_left_is : (p : Left → Bool) → every_left p ≡ true → (v : Left) → p v ≡ true
every_left_is p e left.One = (and_true (p left.One) (p left.Two && (p left.Three && (p left.Four && (p left.Five && (p left.Six && (p left.Seven && p left.Eight)))))) e).0
every_left_is p e left.Two = let e1 =
    (and_true (p left.One) (p left.Two && (p left.Three && (p left.Four && (p left.Five && (p left.Six && (p left.Seven && p left.Eight)))))) e).1 in
    (and_true (p left.Two) (p left.Three && (p left.Four && (p left.Five && (p left.Six && (p left.Seven && p left.Eight))))) e1).0
every_left_is p e left.Three = let e1 =
    (and_true (p left.One) (p left.Two && (p left.Three && (p left.Four && (p left.Five && (p left.Six && (p left.Seven && p left.Eight)))))) e).1 in let e2 =
    (and_true (p left.Two) (p left.Three && (p left.Four && (p left.Five && (p left.Six && (p left.Seven && p left.Eight))))) e1).1 in
    (and_true (p left.Three) (p left.Four && (p left.Five && (p left.Six && (p left.Seven && p left.Eight)))) e2).0
every_left_is p e left.Four = let e1 =
    (and_true (p left.One) (p left.Two && (p left.Three && (p left.Four && (p left.Five && (p left.Six && (p left.Seven && p left.Eight)))))) e).1 in let e2 =
    (and_true (p left.Two) (p left.Three && (p left.Four && (p left.Five && (p left.Six && (p left.Seven && p left.Eight))))) e1).1 in let e3 =
    (and_true (p left.Three) (p left.Four && (p left.Five && (p left.Six && (p left.Seven && p left.Eight)))) e2).1 in
    (and_true (p left.Four) (p left.Five && (p left.Six && (p left.Seven && p left.Eight))) e3).0
every_left_is p e left.Five = let e1 =
    (and_true (p left.One) (p left.Two && (p left.Three && (p left.Four && (p left.Five && (p left.Six && (p left.Seven && p left.Eight)))))) e).1 in let e2 =
    (and_true (p left.Two) (p left.Three && (p left.Four && (p left.Five && (p left.Six && (p left.Seven && p left.Eight))))) e1).1 in let e3 =
    (and_true (p left.Three) (p left.Four && (p left.Five && (p left.Six && (p left.Seven && p left.Eight)))) e2).1 in let e4 =
    (and_true (p left.Four) (p left.Five && (p left.Six && (p left.Seven && p left.Eight))) e3).1 in (and_true (p left.Five) (p left.Six && (p left.Seven && p left.Eight)) e4).0
every_left_is p e left.Six = let e1 =
    (and_true (p left.One) (p left.Two && (p left.Three && (p left.Four && (p left.Five && (p left.Six && (p left.Seven && p left.Eight)))))) e).1 in let e2 =
    (and_true (p left.Two) (p left.Three && (p left.Four && (p left.Five && (p left.Six && (p left.Seven && p left.Eight))))) e1).1 in let e3 =
    (and_true (p left.Three) (p left.Four && (p left.Five && (p left.Six && (p left.Seven && p left.Eight)))) e2).1 in let e4 =
    (and_true (p left.Four) (p left.Five && (p left.Six && (p left.Seven && p left.Eight))) e3).1 in let e5 =
    (and_true (p left.Five) (p left.Six && (p left.Seven && p left.Eight)) e4).1 in (and_true (p left.Six) (p left.Seven && p left.Eight) e5).0
every_left_is p e left.Seven = let e1 =
    (and_true (p left.One) (p left.Two && (p left.Three && (p left.Four && (p left.Five && (p left.Six && (p left.Seven && p left.Eight)))))) e).1 in let e2 =
    (and_true (p left.Two) (p left.Three && (p left.Four && (p left.Five && (p left.Six && (p left.Seven && p left.Eight))))) e1).1 in let e3 =
    (and_true (p left.Three) (p left.Four && (p left.Five && (p left.Six && (p left.Seven && p left.Eight)))) e2).1 in let e4 =
    (and_true (p left.Four) (p left.Five && (p left.Six && (p left.Seven && p left.Eight))) e3).1 in let e5 =
    (and_true (p left.Five) (p left.Six && (p left.Seven && p left.Eight)) e4).1 in let e6 = (and_true (p left.Six) (p left.Seven && p left.Eight) e5).1 in
    (and_true (p left.Seven) (p left.Eight) e6).0
every_left_is p e left.Eight = let e1 =
    (and_true (p left.One) (p left.Two && (p left.Three && (p left.Four && (p left.Five && (p left.Six && (p left.Seven && p left.Eight)))))) e).1 in let e2 =
    (and_true (p left.Two) (p left.Three && (p left.Four && (p left.Five && (p left.Six && (p left.Seven && p left.Eight))))) e1).1 in let e3 =
    (and_true (p left.Three) (p left.Four && (p left.Five && (p left.Six && (p left.Seven && p left.Eight)))) e2).1 in let e4 =
    (and_true (p left.Four) (p left.Five && (p left.Six && (p left.Seven && p left.Eight))) e3).1 in let e5 =
    (and_true (p left.Five) (p left.Six && (p left.Seven && p left.Eight)) e4).1 in let e6 = (and_true (p left.Six) (p left.Seven && p left.Eight) e5).1 in
    let e7 = (and_true (p left.Seven) (p left.Eight) e6).1 in e7

abbrev pub every_quote : (Quote → Bool) → Bool
every_quote p = p quotes.Single && p quotes.Double

pub every_quote_is : (p : Quote → Bool) → every_quote p ≡ true → (v : Quote) → p v ≡ true
every_quote_is p e quotes.Single = (and_true (p quotes.Single) (p quotes.Double) e).0
every_quote_is p e quotes.Double = let e1 = (and_true (p quotes.Single) (p quotes.Double) e).1 in e1

abbrev pub every_lead : (Lead → Bool) → Bool
every_lead p = p lead.Alone && p lead.At

pub every_lead_is : (p : Lead → Bool) → every_lead p ≡ true → (v : Lead) → p v ≡ true
every_lead_is p e lead.Alone = (and_true (p lead.Alone) (p lead.At) e).0
every_lead_is p e lead.At = let e1 = (and_true (p lead.Alone) (p lead.At) e).1 in e1

abbrev pub every_iri : (IriPart → Bool) → Bool
every_iri p = p iri.Body && (p iri.Escape && (every_left (λ x. p (iri.Digits x)) && p iri.End))

pub every_iri_is : (p : IriPart → Bool) → every_iri p ≡ true → (v : IriPart) → p v ≡ true
every_iri_is p e iri.Body = (and_true (p iri.Body) (p iri.Escape && (every_left (λ x. p (iri.Digits x)) && p iri.End)) e).0
every_iri_is p e iri.Escape = let e1 = (and_true (p iri.Body) (p iri.Escape && (every_left (λ x. p (iri.Digits x)) && p iri.End)) e).1 in
    (and_true (p iri.Escape) (every_left (λ x. p (iri.Digits x)) && p iri.End) e1).0
every_iri_is p e (iri.Digits x) = let e1 = (and_true (p iri.Body) (p iri.Escape && (every_left (λ x. p (iri.Digits x)) && p iri.End)) e).1 in let e2 =
    (and_true (p iri.Escape) (every_left (λ x. p (iri.Digits x)) && p iri.End) e1).1 in every_left_is (λ x. p (iri.Digits x)) (and_true (every_left (λ x. p (iri.Digits x))) (p iri.End) e2).0 x
every_iri_is p e iri.End = let e1 = (and_true (p iri.Body) (p iri.Escape && (every_left (λ x. p (iri.Digits x)) && p iri.End)) e).1 in let e2 =
    (and_true (p iri.Escape) (every_left (λ x. p (iri.Digits x)) && p iri.End) e1).1 in let e3 = (and_true (every_left (λ x. p (iri.Digits x))) (p iri.End) e2).1 in e3

abbrev pub every_text : (TextPart → Bool) → Bool
every_text p = p text.Opened && (p text.Short && (p text.ShortEscape && (every_left (λ x. p (text.ShortDigits x)) && (p text.Empty && (p text.Long && (p text.LongQuote && (p text.LongQuotes && (p text.LongEscape && (every_left (λ x. p (text.LongDigits x)) && p text.End)))))))))

pub every_text_is : (p : TextPart → Bool) → every_text p ≡ true → (v : TextPart) → p v ≡ true
every_text_is p e text.Opened =
    (and_true (p text.Opened) (p text.Short && (p text.ShortEscape && (every_left (λ x. p (text.ShortDigits x)) && (p text.Empty && (p text.Long && (p text.LongQuote && (p text.LongQuotes && (p text.LongEscape && (every_left (λ x. p (text.LongDigits x)) && p text.End))))))))) e).0
every_text_is p e text.Short = let e1 =
    (and_true (p text.Opened) (p text.Short && (p text.ShortEscape && (every_left (λ x. p (text.ShortDigits x)) && (p text.Empty && (p text.Long && (p text.LongQuote && (p text.LongQuotes && (p text.LongEscape && (every_left (λ x. p (text.LongDigits x)) && p text.End))))))))) e).1 in (and_true (p text.Short) (p text.ShortEscape && (every_left (λ x. p (text.ShortDigits x)) && (p text.Empty && (p text.Long && (p text.LongQuote && (p text.LongQuotes && (p text.LongEscape && (every_left (λ x. p (text.LongDigits x)) && p text.End)))))))) e1).0
every_text_is p e text.ShortEscape = let e1 =
    (and_true (p text.Opened) (p text.Short && (p text.ShortEscape && (every_left (λ x. p (text.ShortDigits x)) && (p text.Empty && (p text.Long && (p text.LongQuote && (p text.LongQuotes && (p text.LongEscape && (every_left (λ x. p (text.LongDigits x)) && p text.End))))))))) e).1 in let e2 = (and_true (p text.Short) (p text.ShortEscape && (every_left (λ x. p (text.ShortDigits x)) && (p text.Empty && (p text.Long && (p text.LongQuote && (p text.LongQuotes && (p text.LongEscape && (every_left (λ x. p (text.LongDigits x)) && p text.End)))))))) e1).1 in (and_true (p text.ShortEscape) (every_left (λ x. p (text.ShortDigits x)) && (p text.Empty && (p text.Long && (p text.LongQuote && (p text.LongQuotes && (p text.LongEscape && (every_left (λ x. p (text.LongDigits x)) && p text.End))))))) e2).0
every_text_is p e (text.ShortDigits x) = let e1 =
    (and_true (p text.Opened) (p text.Short && (p text.ShortEscape && (every_left (λ x. p (text.ShortDigits x)) && (p text.Empty && (p text.Long && (p text.LongQuote && (p text.LongQuotes && (p text.LongEscape && (every_left (λ x. p (text.LongDigits x)) && p text.End))))))))) e).1 in let e2 = (and_true (p text.Short) (p text.ShortEscape && (every_left (λ x. p (text.ShortDigits x)) && (p text.Empty && (p text.Long && (p text.LongQuote && (p text.LongQuotes && (p text.LongEscape && (every_left (λ x. p (text.LongDigits x)) && p text.End)))))))) e1).1 in let e3 = (and_true (p text.ShortEscape) (every_left (λ x. p (text.ShortDigits x)) && (p text.Empty && (p text.Long && (p text.LongQuote && (p text.LongQuotes && (p text.LongEscape && (every_left (λ x. p (text.LongDigits x)) && p text.End))))))) e2).1 in every_left_is (λ x. p (text.ShortDigits x)) (and_true (every_left (λ x. p (text.ShortDigits x))) (p text.Empty && (p text.Long && (p text.LongQuote && (p text.LongQuotes && (p text.LongEscape && (every_left (λ x. p (text.LongDigits x)) && p text.End)))))) e3).0 x
every_text_is p e text.Empty = let e1 =
    (and_true (p text.Opened) (p text.Short && (p text.ShortEscape && (every_left (λ x. p (text.ShortDigits x)) && (p text.Empty && (p text.Long && (p text.LongQuote && (p text.LongQuotes && (p text.LongEscape && (every_left (λ x. p (text.LongDigits x)) && p text.End))))))))) e).1 in let e2 = (and_true (p text.Short) (p text.ShortEscape && (every_left (λ x. p (text.ShortDigits x)) && (p text.Empty && (p text.Long && (p text.LongQuote && (p text.LongQuotes && (p text.LongEscape && (every_left (λ x. p (text.LongDigits x)) && p text.End)))))))) e1).1 in let e3 = (and_true (p text.ShortEscape) (every_left (λ x. p (text.ShortDigits x)) && (p text.Empty && (p text.Long && (p text.LongQuote && (p text.LongQuotes && (p text.LongEscape && (every_left (λ x. p (text.LongDigits x)) && p text.End))))))) e2).1 in let e4 = (and_true (every_left (λ x. p (text.ShortDigits x))) (p text.Empty && (p text.Long && (p text.LongQuote && (p text.LongQuotes && (p text.LongEscape && (every_left (λ x. p (text.LongDigits x)) && p text.End)))))) e3).1 in (and_true (p text.Empty) (p text.Long && (p text.LongQuote && (p text.LongQuotes && (p text.LongEscape && (every_left (λ x. p (text.LongDigits x)) && p text.End))))) e4).0
every_text_is p e text.Long = let e1 =
    (and_true (p text.Opened) (p text.Short && (p text.ShortEscape && (every_left (λ x. p (text.ShortDigits x)) && (p text.Empty && (p text.Long && (p text.LongQuote && (p text.LongQuotes && (p text.LongEscape && (every_left (λ x. p (text.LongDigits x)) && p text.End))))))))) e).1 in let e2 = (and_true (p text.Short) (p text.ShortEscape && (every_left (λ x. p (text.ShortDigits x)) && (p text.Empty && (p text.Long && (p text.LongQuote && (p text.LongQuotes && (p text.LongEscape && (every_left (λ x. p (text.LongDigits x)) && p text.End)))))))) e1).1 in let e3 = (and_true (p text.ShortEscape) (every_left (λ x. p (text.ShortDigits x)) && (p text.Empty && (p text.Long && (p text.LongQuote && (p text.LongQuotes && (p text.LongEscape && (every_left (λ x. p (text.LongDigits x)) && p text.End))))))) e2).1 in let e4 = (and_true (every_left (λ x. p (text.ShortDigits x))) (p text.Empty && (p text.Long && (p text.LongQuote && (p text.LongQuotes && (p text.LongEscape && (every_left (λ x. p (text.LongDigits x)) && p text.End)))))) e3).1 in let e5 = (and_true (p text.Empty) (p text.Long && (p text.LongQuote && (p text.LongQuotes && (p text.LongEscape && (every_left (λ x. p (text.LongDigits x)) && p text.End))))) e4).1 in (and_true (p text.Long) (p text.LongQuote && (p text.LongQuotes && (p text.LongEscape && (every_left (λ x. p (text.LongDigits x)) && p text.End)))) e5).0
every_text_is p e text.LongQuote = let e1 =
    (and_true (p text.Opened) (p text.Short && (p text.ShortEscape && (every_left (λ x. p (text.ShortDigits x)) && (p text.Empty && (p text.Long && (p text.LongQuote && (p text.LongQuotes && (p text.LongEscape && (every_left (λ x. p (text.LongDigits x)) && p text.End))))))))) e).1 in let e2 = (and_true (p text.Short) (p text.ShortEscape && (every_left (λ x. p (text.ShortDigits x)) && (p text.Empty && (p text.Long && (p text.LongQuote && (p text.LongQuotes && (p text.LongEscape && (every_left (λ x. p (text.LongDigits x)) && p text.End)))))))) e1).1 in let e3 = (and_true (p text.ShortEscape) (every_left (λ x. p (text.ShortDigits x)) && (p text.Empty && (p text.Long && (p text.LongQuote && (p text.LongQuotes && (p text.LongEscape && (every_left (λ x. p (text.LongDigits x)) && p text.End))))))) e2).1 in let e4 = (and_true (every_left (λ x. p (text.ShortDigits x))) (p text.Empty && (p text.Long && (p text.LongQuote && (p text.LongQuotes && (p text.LongEscape && (every_left (λ x. p (text.LongDigits x)) && p text.End)))))) e3).1 in let e5 = (and_true (p text.Empty) (p text.Long && (p text.LongQuote && (p text.LongQuotes && (p text.LongEscape && (every_left (λ x. p (text.LongDigits x)) && p text.End))))) e4).1 in let e6 = (and_true (p text.Long) (p text.LongQuote && (p text.LongQuotes && (p text.LongEscape && (every_left (λ x. p (text.LongDigits x)) && p text.End)))) e5).1 in (and_true (p text.LongQuote) (p text.LongQuotes && (p text.LongEscape && (every_left (λ x. p (text.LongDigits x)) && p text.End))) e6).0
every_text_is p e text.LongQuotes = let e1 =
    (and_true (p text.Opened) (p text.Short && (p text.ShortEscape && (every_left (λ x. p (text.ShortDigits x)) && (p text.Empty && (p text.Long && (p text.LongQuote && (p text.LongQuotes && (p text.LongEscape && (every_left (λ x. p (text.LongDigits x)) && p text.End))))))))) e).1 in let e2 = (and_true (p text.Short) (p text.ShortEscape && (every_left (λ x. p (text.ShortDigits x)) && (p text.Empty && (p text.Long && (p text.LongQuote && (p text.LongQuotes && (p text.LongEscape && (every_left (λ x. p (text.LongDigits x)) && p text.End)))))))) e1).1 in let e3 = (and_true (p text.ShortEscape) (every_left (λ x. p (text.ShortDigits x)) && (p text.Empty && (p text.Long && (p text.LongQuote && (p text.LongQuotes && (p text.LongEscape && (every_left (λ x. p (text.LongDigits x)) && p text.End))))))) e2).1 in let e4 = (and_true (every_left (λ x. p (text.ShortDigits x))) (p text.Empty && (p text.Long && (p text.LongQuote && (p text.LongQuotes && (p text.LongEscape && (every_left (λ x. p (text.LongDigits x)) && p text.End)))))) e3).1 in let e5 = (and_true (p text.Empty) (p text.Long && (p text.LongQuote && (p text.LongQuotes && (p text.LongEscape && (every_left (λ x. p (text.LongDigits x)) && p text.End))))) e4).1 in let e6 = (and_true (p text.Long) (p text.LongQuote && (p text.LongQuotes && (p text.LongEscape && (every_left (λ x. p (text.LongDigits x)) && p text.End)))) e5).1 in let e7 = (and_true (p text.LongQuote) (p text.LongQuotes && (p text.LongEscape && (every_left (λ x. p (text.LongDigits x)) && p text.End))) e6).1 in (and_true (p text.LongQuotes) (p text.LongEscape && (every_left (λ x. p (text.LongDigits x)) && p text.End)) e7).0
every_text_is p e text.LongEscape = let e1 =
    (and_true (p text.Opened) (p text.Short && (p text.ShortEscape && (every_left (λ x. p (text.ShortDigits x)) && (p text.Empty && (p text.Long && (p text.LongQuote && (p text.LongQuotes && (p text.LongEscape && (every_left (λ x. p (text.LongDigits x)) && p text.End))))))))) e).1 in let e2 = (and_true (p text.Short) (p text.ShortEscape && (every_left (λ x. p (text.ShortDigits x)) && (p text.Empty && (p text.Long && (p text.LongQuote && (p text.LongQuotes && (p text.LongEscape && (every_left (λ x. p (text.LongDigits x)) && p text.End)))))))) e1).1 in let e3 = (and_true (p text.ShortEscape) (every_left (λ x. p (text.ShortDigits x)) && (p text.Empty && (p text.Long && (p text.LongQuote && (p text.LongQuotes && (p text.LongEscape && (every_left (λ x. p (text.LongDigits x)) && p text.End))))))) e2).1 in let e4 = (and_true (every_left (λ x. p (text.ShortDigits x))) (p text.Empty && (p text.Long && (p text.LongQuote && (p text.LongQuotes && (p text.LongEscape && (every_left (λ x. p (text.LongDigits x)) && p text.End)))))) e3).1 in let e5 = (and_true (p text.Empty) (p text.Long && (p text.LongQuote && (p text.LongQuotes && (p text.LongEscape && (every_left (λ x. p (text.LongDigits x)) && p text.End))))) e4).1 in let e6 = (and_true (p text.Long) (p text.LongQuote && (p text.LongQuotes && (p text.LongEscape && (every_left (λ x. p (text.LongDigits x)) && p text.End)))) e5).1 in let e7 = (and_true (p text.LongQuote) (p text.LongQuotes && (p text.LongEscape && (every_left (λ x. p (text.LongDigits x)) && p text.End))) e6).1 in let e8 = (and_true (p text.LongQuotes) (p text.LongEscape && (every_left (λ x. p (text.LongDigits x)) && p text.End)) e7).1 in (and_true (p text.LongEscape) (every_left (λ x. p (text.LongDigits x)) && p text.End) e8).0
every_text_is p e (text.LongDigits x) = let e1 =
    (and_true (p text.Opened) (p text.Short && (p text.ShortEscape && (every_left (λ x. p (text.ShortDigits x)) && (p text.Empty && (p text.Long && (p text.LongQuote && (p text.LongQuotes && (p text.LongEscape && (every_left (λ x. p (text.LongDigits x)) && p text.End))))))))) e).1 in let e2 = (and_true (p text.Short) (p text.ShortEscape && (every_left (λ x. p (text.ShortDigits x)) && (p text.Empty && (p text.Long && (p text.LongQuote && (p text.LongQuotes && (p text.LongEscape && (every_left (λ x. p (text.LongDigits x)) && p text.End)))))))) e1).1 in let e3 = (and_true (p text.ShortEscape) (every_left (λ x. p (text.ShortDigits x)) && (p text.Empty && (p text.Long && (p text.LongQuote && (p text.LongQuotes && (p text.LongEscape && (every_left (λ x. p (text.LongDigits x)) && p text.End))))))) e2).1 in let e4 = (and_true (every_left (λ x. p (text.ShortDigits x))) (p text.Empty && (p text.Long && (p text.LongQuote && (p text.LongQuotes && (p text.LongEscape && (every_left (λ x. p (text.LongDigits x)) && p text.End)))))) e3).1 in let e5 = (and_true (p text.Empty) (p text.Long && (p text.LongQuote && (p text.LongQuotes && (p text.LongEscape && (every_left (λ x. p (text.LongDigits x)) && p text.End))))) e4).1 in let e6 = (and_true (p text.Long) (p text.LongQuote && (p text.LongQuotes && (p text.LongEscape && (every_left (λ x. p (text.LongDigits x)) && p text.End)))) e5).1 in let e7 = (and_true (p text.LongQuote) (p text.LongQuotes && (p text.LongEscape && (every_left (λ x. p (text.LongDigits x)) && p text.End))) e6).1 in let e8 = (and_true (p text.LongQuotes) (p text.LongEscape && (every_left (λ x. p (text.LongDigits x)) && p text.End)) e7).1 in let e9 = (and_true (p text.LongEscape) (every_left (λ x. p (text.LongDigits x)) && p text.End) e8).1 in every_left_is (λ x. p (text.LongDigits x)) (and_true (every_left (λ x. p (text.LongDigits x))) (p text.End) e9).0 x
every_text_is p e text.End = let e1 =
    (and_true (p text.Opened) (p text.Short && (p text.ShortEscape && (every_left (λ x. p (text.ShortDigits x)) && (p text.Empty && (p text.Long && (p text.LongQuote && (p text.LongQuotes && (p text.LongEscape && (every_left (λ x. p (text.LongDigits x)) && p text.End))))))))) e).1 in let e2 = (and_true (p text.Short) (p text.ShortEscape && (every_left (λ x. p (text.ShortDigits x)) && (p text.Empty && (p text.Long && (p text.LongQuote && (p text.LongQuotes && (p text.LongEscape && (every_left (λ x. p (text.LongDigits x)) && p text.End)))))))) e1).1 in let e3 = (and_true (p text.ShortEscape) (every_left (λ x. p (text.ShortDigits x)) && (p text.Empty && (p text.Long && (p text.LongQuote && (p text.LongQuotes && (p text.LongEscape && (every_left (λ x. p (text.LongDigits x)) && p text.End))))))) e2).1 in let e4 = (and_true (every_left (λ x. p (text.ShortDigits x))) (p text.Empty && (p text.Long && (p text.LongQuote && (p text.LongQuotes && (p text.LongEscape && (every_left (λ x. p (text.LongDigits x)) && p text.End)))))) e3).1 in let e5 = (and_true (p text.Empty) (p text.Long && (p text.LongQuote && (p text.LongQuotes && (p text.LongEscape && (every_left (λ x. p (text.LongDigits x)) && p text.End))))) e4).1 in let e6 = (and_true (p text.Long) (p text.LongQuote && (p text.LongQuotes && (p text.LongEscape && (every_left (λ x. p (text.LongDigits x)) && p text.End)))) e5).1 in let e7 = (and_true (p text.LongQuote) (p text.LongQuotes && (p text.LongEscape && (every_left (λ x. p (text.LongDigits x)) && p text.End))) e6).1 in let e8 = (and_true (p text.LongQuotes) (p text.LongEscape && (every_left (λ x. p (text.LongDigits x)) && p text.End)) e7).1 in let e9 = (and_true (p text.LongEscape) (every_left (λ x. p (text.LongDigits x)) && p text.End) e8).1 in let e10 = (and_true (every_left (λ x. p (text.LongDigits x))) (p text.End) e9).1 in e10

abbrev pub every_number : (NumberPart → Bool) → Bool
every_number p = p number.Sign && (p number.Digits && (p number.DigitsPoint && (p number.Point && (p number.SignPoint && (p number.Fraction && (p number.Exponent && (p number.ExponentSign && p number.ExponentDigits)))))))

pub every_number_is : (p : NumberPart → Bool) → every_number p ≡ true → (v : NumberPart) → p v ≡ true
every_number_is p e number.Sign =
    (and_true (p number.Sign) (p number.Digits && (p number.DigitsPoint && (p number.Point && (p number.SignPoint && (p number.Fraction && (p number.Exponent && (p number.ExponentSign && p number.ExponentDigits))))))) e).0
every_number_is p e number.Digits = let e1 =
    (and_true (p number.Sign) (p number.Digits && (p number.DigitsPoint && (p number.Point && (p number.SignPoint && (p number.Fraction && (p number.Exponent && (p number.ExponentSign && p number.ExponentDigits))))))) e).1 in (and_true (p number.Digits) (p number.DigitsPoint && (p number.Point && (p number.SignPoint && (p number.Fraction && (p number.Exponent && (p number.ExponentSign && p number.ExponentDigits)))))) e1).0
every_number_is p e number.DigitsPoint = let e1 =
    (and_true (p number.Sign) (p number.Digits && (p number.DigitsPoint && (p number.Point && (p number.SignPoint && (p number.Fraction && (p number.Exponent && (p number.ExponentSign && p number.ExponentDigits))))))) e).1 in let e2 = (and_true (p number.Digits) (p number.DigitsPoint && (p number.Point && (p number.SignPoint && (p number.Fraction && (p number.Exponent && (p number.ExponentSign && p number.ExponentDigits)))))) e1).1 in (and_true (p number.DigitsPoint) (p number.Point && (p number.SignPoint && (p number.Fraction && (p number.Exponent && (p number.ExponentSign && p number.ExponentDigits))))) e2).0
every_number_is p e number.Point = let e1 =
    (and_true (p number.Sign) (p number.Digits && (p number.DigitsPoint && (p number.Point && (p number.SignPoint && (p number.Fraction && (p number.Exponent && (p number.ExponentSign && p number.ExponentDigits))))))) e).1 in let e2 = (and_true (p number.Digits) (p number.DigitsPoint && (p number.Point && (p number.SignPoint && (p number.Fraction && (p number.Exponent && (p number.ExponentSign && p number.ExponentDigits)))))) e1).1 in let e3 = (and_true (p number.DigitsPoint) (p number.Point && (p number.SignPoint && (p number.Fraction && (p number.Exponent && (p number.ExponentSign && p number.ExponentDigits))))) e2).1 in (and_true (p number.Point) (p number.SignPoint && (p number.Fraction && (p number.Exponent && (p number.ExponentSign && p number.ExponentDigits)))) e3).0
every_number_is p e number.SignPoint = let e1 =
    (and_true (p number.Sign) (p number.Digits && (p number.DigitsPoint && (p number.Point && (p number.SignPoint && (p number.Fraction && (p number.Exponent && (p number.ExponentSign && p number.ExponentDigits))))))) e).1 in let e2 = (and_true (p number.Digits) (p number.DigitsPoint && (p number.Point && (p number.SignPoint && (p number.Fraction && (p number.Exponent && (p number.ExponentSign && p number.ExponentDigits)))))) e1).1 in let e3 = (and_true (p number.DigitsPoint) (p number.Point && (p number.SignPoint && (p number.Fraction && (p number.Exponent && (p number.ExponentSign && p number.ExponentDigits))))) e2).1 in let e4 = (and_true (p number.Point) (p number.SignPoint && (p number.Fraction && (p number.Exponent && (p number.ExponentSign && p number.ExponentDigits)))) e3).1 in (and_true (p number.SignPoint) (p number.Fraction && (p number.Exponent && (p number.ExponentSign && p number.ExponentDigits))) e4).0
every_number_is p e number.Fraction = let e1 =
    (and_true (p number.Sign) (p number.Digits && (p number.DigitsPoint && (p number.Point && (p number.SignPoint && (p number.Fraction && (p number.Exponent && (p number.ExponentSign && p number.ExponentDigits))))))) e).1 in let e2 = (and_true (p number.Digits) (p number.DigitsPoint && (p number.Point && (p number.SignPoint && (p number.Fraction && (p number.Exponent && (p number.ExponentSign && p number.ExponentDigits)))))) e1).1 in let e3 = (and_true (p number.DigitsPoint) (p number.Point && (p number.SignPoint && (p number.Fraction && (p number.Exponent && (p number.ExponentSign && p number.ExponentDigits))))) e2).1 in let e4 = (and_true (p number.Point) (p number.SignPoint && (p number.Fraction && (p number.Exponent && (p number.ExponentSign && p number.ExponentDigits)))) e3).1 in let e5 = (and_true (p number.SignPoint) (p number.Fraction && (p number.Exponent && (p number.ExponentSign && p number.ExponentDigits))) e4).1 in (and_true (p number.Fraction) (p number.Exponent && (p number.ExponentSign && p number.ExponentDigits)) e5).0
every_number_is p e number.Exponent = let e1 =
    (and_true (p number.Sign) (p number.Digits && (p number.DigitsPoint && (p number.Point && (p number.SignPoint && (p number.Fraction && (p number.Exponent && (p number.ExponentSign && p number.ExponentDigits))))))) e).1 in let e2 = (and_true (p number.Digits) (p number.DigitsPoint && (p number.Point && (p number.SignPoint && (p number.Fraction && (p number.Exponent && (p number.ExponentSign && p number.ExponentDigits)))))) e1).1 in let e3 = (and_true (p number.DigitsPoint) (p number.Point && (p number.SignPoint && (p number.Fraction && (p number.Exponent && (p number.ExponentSign && p number.ExponentDigits))))) e2).1 in let e4 = (and_true (p number.Point) (p number.SignPoint && (p number.Fraction && (p number.Exponent && (p number.ExponentSign && p number.ExponentDigits)))) e3).1 in let e5 = (and_true (p number.SignPoint) (p number.Fraction && (p number.Exponent && (p number.ExponentSign && p number.ExponentDigits))) e4).1 in let e6 = (and_true (p number.Fraction) (p number.Exponent && (p number.ExponentSign && p number.ExponentDigits)) e5).1 in (and_true (p number.Exponent) (p number.ExponentSign && p number.ExponentDigits) e6).0
every_number_is p e number.ExponentSign = let e1 =
    (and_true (p number.Sign) (p number.Digits && (p number.DigitsPoint && (p number.Point && (p number.SignPoint && (p number.Fraction && (p number.Exponent && (p number.ExponentSign && p number.ExponentDigits))))))) e).1 in let e2 = (and_true (p number.Digits) (p number.DigitsPoint && (p number.Point && (p number.SignPoint && (p number.Fraction && (p number.Exponent && (p number.ExponentSign && p number.ExponentDigits)))))) e1).1 in let e3 = (and_true (p number.DigitsPoint) (p number.Point && (p number.SignPoint && (p number.Fraction && (p number.Exponent && (p number.ExponentSign && p number.ExponentDigits))))) e2).1 in let e4 = (and_true (p number.Point) (p number.SignPoint && (p number.Fraction && (p number.Exponent && (p number.ExponentSign && p number.ExponentDigits)))) e3).1 in let e5 = (and_true (p number.SignPoint) (p number.Fraction && (p number.Exponent && (p number.ExponentSign && p number.ExponentDigits))) e4).1 in let e6 = (and_true (p number.Fraction) (p number.Exponent && (p number.ExponentSign && p number.ExponentDigits)) e5).1 in let e7 = (and_true (p number.Exponent) (p number.ExponentSign && p number.ExponentDigits) e6).1 in (and_true (p number.ExponentSign) (p number.ExponentDigits) e7).0
every_number_is p e number.ExponentDigits = let e1 =
    (and_true (p number.Sign) (p number.Digits && (p number.DigitsPoint && (p number.Point && (p number.SignPoint && (p number.Fraction && (p number.Exponent && (p number.ExponentSign && p number.ExponentDigits))))))) e).1 in let e2 = (and_true (p number.Digits) (p number.DigitsPoint && (p number.Point && (p number.SignPoint && (p number.Fraction && (p number.Exponent && (p number.ExponentSign && p number.ExponentDigits)))))) e1).1 in let e3 = (and_true (p number.DigitsPoint) (p number.Point && (p number.SignPoint && (p number.Fraction && (p number.Exponent && (p number.ExponentSign && p number.ExponentDigits))))) e2).1 in let e4 = (and_true (p number.Point) (p number.SignPoint && (p number.Fraction && (p number.Exponent && (p number.ExponentSign && p number.ExponentDigits)))) e3).1 in let e5 = (and_true (p number.SignPoint) (p number.Fraction && (p number.Exponent && (p number.ExponentSign && p number.ExponentDigits))) e4).1 in let e6 = (and_true (p number.Fraction) (p number.Exponent && (p number.ExponentSign && p number.ExponentDigits)) e5).1 in let e7 = (and_true (p number.Exponent) (p number.ExponentSign && p number.ExponentDigits) e6).1 in let e8 = (and_true (p number.ExponentSign) (p number.ExponentDigits) e7).1 in e8

abbrev pub every_name : (NamePart → Bool) → Bool
every_name p = p name.Word && (p name.Prefix && (p name.PrefixDot && (p name.Colon && (p name.Local && (p name.LocalDot && (p name.Percent && (p name.PercentDigit && p name.LocalEscape)))))))

pub every_name_is : (p : NamePart → Bool) → every_name p ≡ true → (v : NamePart) → p v ≡ true
every_name_is p e name.Word =
    (and_true (p name.Word) (p name.Prefix && (p name.PrefixDot && (p name.Colon && (p name.Local && (p name.LocalDot && (p name.Percent && (p name.PercentDigit && p name.LocalEscape))))))) e).0
every_name_is p e name.Prefix = let e1 =
    (and_true (p name.Word) (p name.Prefix && (p name.PrefixDot && (p name.Colon && (p name.Local && (p name.LocalDot && (p name.Percent && (p name.PercentDigit && p name.LocalEscape))))))) e).1 in
    (and_true (p name.Prefix) (p name.PrefixDot && (p name.Colon && (p name.Local && (p name.LocalDot && (p name.Percent && (p name.PercentDigit && p name.LocalEscape)))))) e1).0
every_name_is p e name.PrefixDot = let e1 =
    (and_true (p name.Word) (p name.Prefix && (p name.PrefixDot && (p name.Colon && (p name.Local && (p name.LocalDot && (p name.Percent && (p name.PercentDigit && p name.LocalEscape))))))) e).1 in
    let e2 = (and_true (p name.Prefix) (p name.PrefixDot && (p name.Colon && (p name.Local && (p name.LocalDot && (p name.Percent && (p name.PercentDigit && p name.LocalEscape)))))) e1).1 in
    (and_true (p name.PrefixDot) (p name.Colon && (p name.Local && (p name.LocalDot && (p name.Percent && (p name.PercentDigit && p name.LocalEscape))))) e2).0
every_name_is p e name.Colon = let e1 =
    (and_true (p name.Word) (p name.Prefix && (p name.PrefixDot && (p name.Colon && (p name.Local && (p name.LocalDot && (p name.Percent && (p name.PercentDigit && p name.LocalEscape))))))) e).1 in
    let e2 = (and_true (p name.Prefix) (p name.PrefixDot && (p name.Colon && (p name.Local && (p name.LocalDot && (p name.Percent && (p name.PercentDigit && p name.LocalEscape)))))) e1).1 in let e3 =
    (and_true (p name.PrefixDot) (p name.Colon && (p name.Local && (p name.LocalDot && (p name.Percent && (p name.PercentDigit && p name.LocalEscape))))) e2).1 in
    (and_true (p name.Colon) (p name.Local && (p name.LocalDot && (p name.Percent && (p name.PercentDigit && p name.LocalEscape)))) e3).0
every_name_is p e name.Local = let e1 =
    (and_true (p name.Word) (p name.Prefix && (p name.PrefixDot && (p name.Colon && (p name.Local && (p name.LocalDot && (p name.Percent && (p name.PercentDigit && p name.LocalEscape))))))) e).1 in
    let e2 = (and_true (p name.Prefix) (p name.PrefixDot && (p name.Colon && (p name.Local && (p name.LocalDot && (p name.Percent && (p name.PercentDigit && p name.LocalEscape)))))) e1).1 in let e3 =
    (and_true (p name.PrefixDot) (p name.Colon && (p name.Local && (p name.LocalDot && (p name.Percent && (p name.PercentDigit && p name.LocalEscape))))) e2).1 in let e4 =
    (and_true (p name.Colon) (p name.Local && (p name.LocalDot && (p name.Percent && (p name.PercentDigit && p name.LocalEscape)))) e3).1 in
    (and_true (p name.Local) (p name.LocalDot && (p name.Percent && (p name.PercentDigit && p name.LocalEscape))) e4).0
every_name_is p e name.LocalDot = let e1 =
    (and_true (p name.Word) (p name.Prefix && (p name.PrefixDot && (p name.Colon && (p name.Local && (p name.LocalDot && (p name.Percent && (p name.PercentDigit && p name.LocalEscape))))))) e).1 in
    let e2 = (and_true (p name.Prefix) (p name.PrefixDot && (p name.Colon && (p name.Local && (p name.LocalDot && (p name.Percent && (p name.PercentDigit && p name.LocalEscape)))))) e1).1 in let e3 =
    (and_true (p name.PrefixDot) (p name.Colon && (p name.Local && (p name.LocalDot && (p name.Percent && (p name.PercentDigit && p name.LocalEscape))))) e2).1 in let e4 =
    (and_true (p name.Colon) (p name.Local && (p name.LocalDot && (p name.Percent && (p name.PercentDigit && p name.LocalEscape)))) e3).1 in let e5 =
    (and_true (p name.Local) (p name.LocalDot && (p name.Percent && (p name.PercentDigit && p name.LocalEscape))) e4).1 in
    (and_true (p name.LocalDot) (p name.Percent && (p name.PercentDigit && p name.LocalEscape)) e5).0
every_name_is p e name.Percent = let e1 =
    (and_true (p name.Word) (p name.Prefix && (p name.PrefixDot && (p name.Colon && (p name.Local && (p name.LocalDot && (p name.Percent && (p name.PercentDigit && p name.LocalEscape))))))) e).1 in
    let e2 = (and_true (p name.Prefix) (p name.PrefixDot && (p name.Colon && (p name.Local && (p name.LocalDot && (p name.Percent && (p name.PercentDigit && p name.LocalEscape)))))) e1).1 in let e3 =
    (and_true (p name.PrefixDot) (p name.Colon && (p name.Local && (p name.LocalDot && (p name.Percent && (p name.PercentDigit && p name.LocalEscape))))) e2).1 in let e4 =
    (and_true (p name.Colon) (p name.Local && (p name.LocalDot && (p name.Percent && (p name.PercentDigit && p name.LocalEscape)))) e3).1 in let e5 =
    (and_true (p name.Local) (p name.LocalDot && (p name.Percent && (p name.PercentDigit && p name.LocalEscape))) e4).1 in let e6 =
    (and_true (p name.LocalDot) (p name.Percent && (p name.PercentDigit && p name.LocalEscape)) e5).1 in (and_true (p name.Percent) (p name.PercentDigit && p name.LocalEscape) e6).0
every_name_is p e name.PercentDigit = let e1 =
    (and_true (p name.Word) (p name.Prefix && (p name.PrefixDot && (p name.Colon && (p name.Local && (p name.LocalDot && (p name.Percent && (p name.PercentDigit && p name.LocalEscape))))))) e).1 in
    let e2 = (and_true (p name.Prefix) (p name.PrefixDot && (p name.Colon && (p name.Local && (p name.LocalDot && (p name.Percent && (p name.PercentDigit && p name.LocalEscape)))))) e1).1 in let e3 =
    (and_true (p name.PrefixDot) (p name.Colon && (p name.Local && (p name.LocalDot && (p name.Percent && (p name.PercentDigit && p name.LocalEscape))))) e2).1 in let e4 =
    (and_true (p name.Colon) (p name.Local && (p name.LocalDot && (p name.Percent && (p name.PercentDigit && p name.LocalEscape)))) e3).1 in let e5 =
    (and_true (p name.Local) (p name.LocalDot && (p name.Percent && (p name.PercentDigit && p name.LocalEscape))) e4).1 in let e6 =
    (and_true (p name.LocalDot) (p name.Percent && (p name.PercentDigit && p name.LocalEscape)) e5).1 in let e7 =
    (and_true (p name.Percent) (p name.PercentDigit && p name.LocalEscape) e6).1 in (and_true (p name.PercentDigit) (p name.LocalEscape) e7).0
every_name_is p e name.LocalEscape = let e1 =
    (and_true (p name.Word) (p name.Prefix && (p name.PrefixDot && (p name.Colon && (p name.Local && (p name.LocalDot && (p name.Percent && (p name.PercentDigit && p name.LocalEscape))))))) e).1 in
    let e2 = (and_true (p name.Prefix) (p name.PrefixDot && (p name.Colon && (p name.Local && (p name.LocalDot && (p name.Percent && (p name.PercentDigit && p name.LocalEscape)))))) e1).1 in let e3 =
    (and_true (p name.PrefixDot) (p name.Colon && (p name.Local && (p name.LocalDot && (p name.Percent && (p name.PercentDigit && p name.LocalEscape))))) e2).1 in let e4 =
    (and_true (p name.Colon) (p name.Local && (p name.LocalDot && (p name.Percent && (p name.PercentDigit && p name.LocalEscape)))) e3).1 in let e5 =
    (and_true (p name.Local) (p name.LocalDot && (p name.Percent && (p name.PercentDigit && p name.LocalEscape))) e4).1 in let e6 =
    (and_true (p name.LocalDot) (p name.Percent && (p name.PercentDigit && p name.LocalEscape)) e5).1 in let e7 =
    (and_true (p name.Percent) (p name.PercentDigit && p name.LocalEscape) e6).1 in let e8 = (and_true (p name.PercentDigit) (p name.LocalEscape) e7).1 in e8

abbrev pub every_tag : (TagPart → Bool) → Bool
every_tag p = p tag.At && (p tag.Tag && (p tag.Dash && p tag.More))

pub every_tag_is : (p : TagPart → Bool) → every_tag p ≡ true → (v : TagPart) → p v ≡ true
every_tag_is p e tag.At = (and_true (p tag.At) (p tag.Tag && (p tag.Dash && p tag.More)) e).0
every_tag_is p e tag.Tag = let e1 = (and_true (p tag.At) (p tag.Tag && (p tag.Dash && p tag.More)) e).1 in (and_true (p tag.Tag) (p tag.Dash && p tag.More) e1).0
every_tag_is p e tag.Dash = let e1 = (and_true (p tag.At) (p tag.Tag && (p tag.Dash && p tag.More)) e).1 in let e2 =
    (and_true (p tag.Tag) (p tag.Dash && p tag.More) e1).1 in (and_true (p tag.Dash) (p tag.More) e2).0
every_tag_is p e tag.More = let e1 = (and_true (p tag.At) (p tag.Tag && (p tag.Dash && p tag.More)) e).1 in let e2 =
    (and_true (p tag.Tag) (p tag.Dash && p tag.More) e1).1 in let e3 = (and_true (p tag.Dash) (p tag.More) e2).1 in e3

abbrev pub every_label : (LabelPart → Bool) → Bool
every_label p = p label.Underscore && (p label.Colon && (p label.Label && (p label.LabelDot && (p label.Colons && p label.ColonsDot))))

pub every_label_is : (p : LabelPart → Bool) → every_label p ≡ true → (v : LabelPart) → p v ≡ true
every_label_is p e label.Underscore = (and_true (p label.Underscore) (p label.Colon && (p label.Label && (p label.LabelDot && (p label.Colons && p label.ColonsDot)))) e).0
every_label_is p e label.Colon = let e1 =
    (and_true (p label.Underscore) (p label.Colon && (p label.Label && (p label.LabelDot && (p label.Colons && p label.ColonsDot)))) e).1 in
    (and_true (p label.Colon) (p label.Label && (p label.LabelDot && (p label.Colons && p label.ColonsDot))) e1).0
every_label_is p e label.Label = let e1 =
    (and_true (p label.Underscore) (p label.Colon && (p label.Label && (p label.LabelDot && (p label.Colons && p label.ColonsDot)))) e).1 in let e2 =
    (and_true (p label.Colon) (p label.Label && (p label.LabelDot && (p label.Colons && p label.ColonsDot))) e1).1 in
    (and_true (p label.Label) (p label.LabelDot && (p label.Colons && p label.ColonsDot)) e2).0
every_label_is p e label.LabelDot = let e1 =
    (and_true (p label.Underscore) (p label.Colon && (p label.Label && (p label.LabelDot && (p label.Colons && p label.ColonsDot)))) e).1 in let e2 =
    (and_true (p label.Colon) (p label.Label && (p label.LabelDot && (p label.Colons && p label.ColonsDot))) e1).1 in let e3 =
    (and_true (p label.Label) (p label.LabelDot && (p label.Colons && p label.ColonsDot)) e2).1 in (and_true (p label.LabelDot) (p label.Colons && p label.ColonsDot) e3).0
every_label_is p e label.Colons = let e1 =
    (and_true (p label.Underscore) (p label.Colon && (p label.Label && (p label.LabelDot && (p label.Colons && p label.ColonsDot)))) e).1 in let e2 =
    (and_true (p label.Colon) (p label.Label && (p label.LabelDot && (p label.Colons && p label.ColonsDot))) e1).1 in let e3 =
    (and_true (p label.Label) (p label.LabelDot && (p label.Colons && p label.ColonsDot)) e2).1 in let e4 =
    (and_true (p label.LabelDot) (p label.Colons && p label.ColonsDot) e3).1 in (and_true (p label.Colons) (p label.ColonsDot) e4).0
every_label_is p e label.ColonsDot = let e1 =
    (and_true (p label.Underscore) (p label.Colon && (p label.Label && (p label.LabelDot && (p label.Colons && p label.ColonsDot)))) e).1 in let e2 =
    (and_true (p label.Colon) (p label.Label && (p label.LabelDot && (p label.Colons && p label.ColonsDot))) e1).1 in let e3 =
    (and_true (p label.Label) (p label.LabelDot && (p label.Colons && p label.ColonsDot)) e2).1 in let e4 =
    (and_true (p label.LabelDot) (p label.Colons && p label.ColonsDot) e3).1 in let e5 = (and_true (p label.Colons) (p label.ColonsDot) e4).1 in e5

abbrev pub every_mark : (MarkPart → Bool) → Bool
every_mark p = p mark.Comma && (p mark.Turtle && (p mark.Brace && (p mark.Exclamation && (p mark.Schema && (p mark.Caret && (p mark.Carets && p mark.Slashes))))))

pub every_mark_is : (p : MarkPart → Bool) → every_mark p ≡ true → (v : MarkPart) → p v ≡ true
every_mark_is p e mark.Comma = (and_true (p mark.Comma) (p mark.Turtle && (p mark.Brace && (p mark.Exclamation && (p mark.Schema && (p mark.Caret && (p mark.Carets && p mark.Slashes)))))) e).0
every_mark_is p e mark.Turtle = let e1 =
    (and_true (p mark.Comma) (p mark.Turtle && (p mark.Brace && (p mark.Exclamation && (p mark.Schema && (p mark.Caret && (p mark.Carets && p mark.Slashes)))))) e).1 in
    (and_true (p mark.Turtle) (p mark.Brace && (p mark.Exclamation && (p mark.Schema && (p mark.Caret && (p mark.Carets && p mark.Slashes))))) e1).0
every_mark_is p e mark.Brace = let e1 =
    (and_true (p mark.Comma) (p mark.Turtle && (p mark.Brace && (p mark.Exclamation && (p mark.Schema && (p mark.Caret && (p mark.Carets && p mark.Slashes)))))) e).1 in let e2 =
    (and_true (p mark.Turtle) (p mark.Brace && (p mark.Exclamation && (p mark.Schema && (p mark.Caret && (p mark.Carets && p mark.Slashes))))) e1).1 in
    (and_true (p mark.Brace) (p mark.Exclamation && (p mark.Schema && (p mark.Caret && (p mark.Carets && p mark.Slashes)))) e2).0
every_mark_is p e mark.Exclamation = let e1 =
    (and_true (p mark.Comma) (p mark.Turtle && (p mark.Brace && (p mark.Exclamation && (p mark.Schema && (p mark.Caret && (p mark.Carets && p mark.Slashes)))))) e).1 in let e2 =
    (and_true (p mark.Turtle) (p mark.Brace && (p mark.Exclamation && (p mark.Schema && (p mark.Caret && (p mark.Carets && p mark.Slashes))))) e1).1 in let e3 =
    (and_true (p mark.Brace) (p mark.Exclamation && (p mark.Schema && (p mark.Caret && (p mark.Carets && p mark.Slashes)))) e2).1 in
    (and_true (p mark.Exclamation) (p mark.Schema && (p mark.Caret && (p mark.Carets && p mark.Slashes))) e3).0
every_mark_is p e mark.Schema = let e1 =
    (and_true (p mark.Comma) (p mark.Turtle && (p mark.Brace && (p mark.Exclamation && (p mark.Schema && (p mark.Caret && (p mark.Carets && p mark.Slashes)))))) e).1 in let e2 =
    (and_true (p mark.Turtle) (p mark.Brace && (p mark.Exclamation && (p mark.Schema && (p mark.Caret && (p mark.Carets && p mark.Slashes))))) e1).1 in let e3 =
    (and_true (p mark.Brace) (p mark.Exclamation && (p mark.Schema && (p mark.Caret && (p mark.Carets && p mark.Slashes)))) e2).1 in let e4 =
    (and_true (p mark.Exclamation) (p mark.Schema && (p mark.Caret && (p mark.Carets && p mark.Slashes))) e3).1 in (and_true (p mark.Schema) (p mark.Caret && (p mark.Carets && p mark.Slashes)) e4).0
every_mark_is p e mark.Caret = let e1 =
    (and_true (p mark.Comma) (p mark.Turtle && (p mark.Brace && (p mark.Exclamation && (p mark.Schema && (p mark.Caret && (p mark.Carets && p mark.Slashes)))))) e).1 in let e2 =
    (and_true (p mark.Turtle) (p mark.Brace && (p mark.Exclamation && (p mark.Schema && (p mark.Caret && (p mark.Carets && p mark.Slashes))))) e1).1 in let e3 =
    (and_true (p mark.Brace) (p mark.Exclamation && (p mark.Schema && (p mark.Caret && (p mark.Carets && p mark.Slashes)))) e2).1 in let e4 =
    (and_true (p mark.Exclamation) (p mark.Schema && (p mark.Caret && (p mark.Carets && p mark.Slashes))) e3).1 in let e5 =
    (and_true (p mark.Schema) (p mark.Caret && (p mark.Carets && p mark.Slashes)) e4).1 in (and_true (p mark.Caret) (p mark.Carets && p mark.Slashes) e5).0
every_mark_is p e mark.Carets = let e1 =
    (and_true (p mark.Comma) (p mark.Turtle && (p mark.Brace && (p mark.Exclamation && (p mark.Schema && (p mark.Caret && (p mark.Carets && p mark.Slashes)))))) e).1 in let e2 =
    (and_true (p mark.Turtle) (p mark.Brace && (p mark.Exclamation && (p mark.Schema && (p mark.Caret && (p mark.Carets && p mark.Slashes))))) e1).1 in let e3 =
    (and_true (p mark.Brace) (p mark.Exclamation && (p mark.Schema && (p mark.Caret && (p mark.Carets && p mark.Slashes)))) e2).1 in let e4 =
    (and_true (p mark.Exclamation) (p mark.Schema && (p mark.Caret && (p mark.Carets && p mark.Slashes))) e3).1 in let e5 =
    (and_true (p mark.Schema) (p mark.Caret && (p mark.Carets && p mark.Slashes)) e4).1 in let e6 =
    (and_true (p mark.Caret) (p mark.Carets && p mark.Slashes) e5).1 in (and_true (p mark.Carets) (p mark.Slashes) e6).0
every_mark_is p e mark.Slashes = let e1 =
    (and_true (p mark.Comma) (p mark.Turtle && (p mark.Brace && (p mark.Exclamation && (p mark.Schema && (p mark.Caret && (p mark.Carets && p mark.Slashes)))))) e).1 in let e2 =
    (and_true (p mark.Turtle) (p mark.Brace && (p mark.Exclamation && (p mark.Schema && (p mark.Caret && (p mark.Carets && p mark.Slashes))))) e1).1 in let e3 =
    (and_true (p mark.Brace) (p mark.Exclamation && (p mark.Schema && (p mark.Caret && (p mark.Carets && p mark.Slashes)))) e2).1 in let e4 =
    (and_true (p mark.Exclamation) (p mark.Schema && (p mark.Caret && (p mark.Carets && p mark.Slashes))) e3).1 in let e5 =
    (and_true (p mark.Schema) (p mark.Caret && (p mark.Carets && p mark.Slashes)) e4).1 in let e6 =
    (and_true (p mark.Caret) (p mark.Carets && p mark.Slashes) e5).1 in let e7 = (and_true (p mark.Carets) (p mark.Slashes) e6).1 in e7

abbrev pub every_pattern : (PatternPart → Bool) → Bool
every_pattern p = p pattern.Slash && (p pattern.Body && (p pattern.Escape && p pattern.Flags))

pub every_pattern_is : (p : PatternPart → Bool) → every_pattern p ≡ true → (v : PatternPart) → p v ≡ true
every_pattern_is p e pattern.Slash = (and_true (p pattern.Slash) (p pattern.Body && (p pattern.Escape && p pattern.Flags)) e).0
every_pattern_is p e pattern.Body = let e1 = (and_true (p pattern.Slash) (p pattern.Body && (p pattern.Escape && p pattern.Flags)) e).1 in
    (and_true (p pattern.Body) (p pattern.Escape && p pattern.Flags) e1).0
every_pattern_is p e pattern.Escape = let e1 = (and_true (p pattern.Slash) (p pattern.Body && (p pattern.Escape && p pattern.Flags)) e).1 in let e2 =
    (and_true (p pattern.Body) (p pattern.Escape && p pattern.Flags) e1).1 in (and_true (p pattern.Escape) (p pattern.Flags) e2).0
every_pattern_is p e pattern.Flags = let e1 = (and_true (p pattern.Slash) (p pattern.Body && (p pattern.Escape && p pattern.Flags)) e).1 in let e2 =
    (and_true (p pattern.Body) (p pattern.Escape && p pattern.Flags) e1).1 in let e3 = (and_true (p pattern.Escape) (p pattern.Flags) e2).1 in e3

abbrev pub every_state : (State → Bool) → Bool
every_state p = p Start && (every_iri (λ x. p (Iri x)) && (every_quote (λ q. every_text (λ x. p (Text q x))) && (every_number (λ x. p (Number x)) && (every_lead (λ q. every_name (λ x. p (Name q x))) && (every_tag (λ x. p (Tag x)) && (every_label (λ x. p (Label x)) && (every_mark (λ x. p (Mark x)) && (p Line && every_pattern (λ x. p (Pattern x))))))))))

pub every_state_is : (p : State → Bool) → every_state p ≡ true → (v : State) → p v ≡ true
every_state_is p e Start =
    (and_true (p Start) (every_iri (λ x. p (Iri x)) && (every_quote (λ q. every_text (λ x. p (Text q x))) && (every_number (λ x. p (Number x)) && (every_lead (λ q. every_name (λ x. p (Name q x))) && (every_tag (λ x. p (Tag x)) && (every_label (λ x. p (Label x)) && (every_mark (λ x. p (Mark x)) && (p Line && every_pattern (λ x. p (Pattern x)))))))))) e).0
every_state_is p e (Iri x) = let e1 =
    (and_true (p Start) (every_iri (λ x. p (Iri x)) && (every_quote (λ q. every_text (λ x. p (Text q x))) && (every_number (λ x. p (Number x)) && (every_lead (λ q. every_name (λ x. p (Name q x))) && (every_tag (λ x. p (Tag x)) && (every_label (λ x. p (Label x)) && (every_mark (λ x. p (Mark x)) && (p Line && every_pattern (λ x. p (Pattern x)))))))))) e).1 in every_iri_is (λ x. p (Iri x)) ((and_true (every_iri (λ x. p (Iri x))) (every_quote (λ q. every_text (λ x. p (Text q x))) && (every_number (λ x. p (Number x)) && (every_lead (λ q. every_name (λ x. p (Name q x))) && (every_tag (λ x. p (Tag x)) && (every_label (λ x. p (Label x)) && (every_mark (λ x. p (Mark x)) && (p Line && every_pattern (λ x. p (Pattern x))))))))) e1).0) x
every_state_is p e (Text q x) = let e1 =
    (and_true (p Start) (every_iri (λ x. p (Iri x)) && (every_quote (λ q. every_text (λ x. p (Text q x))) && (every_number (λ x. p (Number x)) && (every_lead (λ q. every_name (λ x. p (Name q x))) && (every_tag (λ x. p (Tag x)) && (every_label (λ x. p (Label x)) && (every_mark (λ x. p (Mark x)) && (p Line && every_pattern (λ x. p (Pattern x)))))))))) e).1 in let e2 = (and_true (every_iri (λ x. p (Iri x))) (every_quote (λ q. every_text (λ x. p (Text q x))) && (every_number (λ x. p (Number x)) && (every_lead (λ q. every_name (λ x. p (Name q x))) && (every_tag (λ x. p (Tag x)) && (every_label (λ x. p (Label x)) && (every_mark (λ x. p (Mark x)) && (p Line && every_pattern (λ x. p (Pattern x))))))))) e1).1 in every_text_is (λ x. p (Text q x)) (every_quote_is (λ q. every_text (λ x. p (Text q x))) ((and_true (every_quote (λ q. every_text (λ x. p (Text q x)))) (every_number (λ x. p (Number x)) && (every_lead (λ q. every_name (λ x. p (Name q x))) && (every_tag (λ x. p (Tag x)) && (every_label (λ x. p (Label x)) && (every_mark (λ x. p (Mark x)) && (p Line && every_pattern (λ x. p (Pattern x)))))))) e2).0) q) x
every_state_is p e (Number x) = let e1 =
    (and_true (p Start) (every_iri (λ x. p (Iri x)) && (every_quote (λ q. every_text (λ x. p (Text q x))) && (every_number (λ x. p (Number x)) && (every_lead (λ q. every_name (λ x. p (Name q x))) && (every_tag (λ x. p (Tag x)) && (every_label (λ x. p (Label x)) && (every_mark (λ x. p (Mark x)) && (p Line && every_pattern (λ x. p (Pattern x)))))))))) e).1 in let e2 = (and_true (every_iri (λ x. p (Iri x))) (every_quote (λ q. every_text (λ x. p (Text q x))) && (every_number (λ x. p (Number x)) && (every_lead (λ q. every_name (λ x. p (Name q x))) && (every_tag (λ x. p (Tag x)) && (every_label (λ x. p (Label x)) && (every_mark (λ x. p (Mark x)) && (p Line && every_pattern (λ x. p (Pattern x))))))))) e1).1 in let e3 = (and_true (every_quote (λ q. every_text (λ x. p (Text q x)))) (every_number (λ x. p (Number x)) && (every_lead (λ q. every_name (λ x. p (Name q x))) && (every_tag (λ x. p (Tag x)) && (every_label (λ x. p (Label x)) && (every_mark (λ x. p (Mark x)) && (p Line && every_pattern (λ x. p (Pattern x)))))))) e2).1 in every_number_is (λ x. p (Number x)) ((and_true (every_number (λ x. p (Number x))) (every_lead (λ q. every_name (λ x. p (Name q x))) && (every_tag (λ x. p (Tag x)) && (every_label (λ x. p (Label x)) && (every_mark (λ x. p (Mark x)) && (p Line && every_pattern (λ x. p (Pattern x))))))) e3).0) x
every_state_is p e (Name q x) = let e1 =
    (and_true (p Start) (every_iri (λ x. p (Iri x)) && (every_quote (λ q. every_text (λ x. p (Text q x))) && (every_number (λ x. p (Number x)) && (every_lead (λ q. every_name (λ x. p (Name q x))) && (every_tag (λ x. p (Tag x)) && (every_label (λ x. p (Label x)) && (every_mark (λ x. p (Mark x)) && (p Line && every_pattern (λ x. p (Pattern x)))))))))) e).1 in let e2 = (and_true (every_iri (λ x. p (Iri x))) (every_quote (λ q. every_text (λ x. p (Text q x))) && (every_number (λ x. p (Number x)) && (every_lead (λ q. every_name (λ x. p (Name q x))) && (every_tag (λ x. p (Tag x)) && (every_label (λ x. p (Label x)) && (every_mark (λ x. p (Mark x)) && (p Line && every_pattern (λ x. p (Pattern x))))))))) e1).1 in let e3 = (and_true (every_quote (λ q. every_text (λ x. p (Text q x)))) (every_number (λ x. p (Number x)) && (every_lead (λ q. every_name (λ x. p (Name q x))) && (every_tag (λ x. p (Tag x)) && (every_label (λ x. p (Label x)) && (every_mark (λ x. p (Mark x)) && (p Line && every_pattern (λ x. p (Pattern x)))))))) e2).1 in let e4 = (and_true (every_number (λ x. p (Number x))) (every_lead (λ q. every_name (λ x. p (Name q x))) && (every_tag (λ x. p (Tag x)) && (every_label (λ x. p (Label x)) && (every_mark (λ x. p (Mark x)) && (p Line && every_pattern (λ x. p (Pattern x))))))) e3).1 in every_name_is (λ x. p (Name q x)) (every_lead_is (λ q. every_name (λ x. p (Name q x))) ((and_true (every_lead (λ q. every_name (λ x. p (Name q x)))) (every_tag (λ x. p (Tag x)) && (every_label (λ x. p (Label x)) && (every_mark (λ x. p (Mark x)) && (p Line && every_pattern (λ x. p (Pattern x)))))) e4).0) q) x
every_state_is p e (Tag x) = let e1 =
    (and_true (p Start) (every_iri (λ x. p (Iri x)) && (every_quote (λ q. every_text (λ x. p (Text q x))) && (every_number (λ x. p (Number x)) && (every_lead (λ q. every_name (λ x. p (Name q x))) && (every_tag (λ x. p (Tag x)) && (every_label (λ x. p (Label x)) && (every_mark (λ x. p (Mark x)) && (p Line && every_pattern (λ x. p (Pattern x)))))))))) e).1 in let e2 = (and_true (every_iri (λ x. p (Iri x))) (every_quote (λ q. every_text (λ x. p (Text q x))) && (every_number (λ x. p (Number x)) && (every_lead (λ q. every_name (λ x. p (Name q x))) && (every_tag (λ x. p (Tag x)) && (every_label (λ x. p (Label x)) && (every_mark (λ x. p (Mark x)) && (p Line && every_pattern (λ x. p (Pattern x))))))))) e1).1 in let e3 = (and_true (every_quote (λ q. every_text (λ x. p (Text q x)))) (every_number (λ x. p (Number x)) && (every_lead (λ q. every_name (λ x. p (Name q x))) && (every_tag (λ x. p (Tag x)) && (every_label (λ x. p (Label x)) && (every_mark (λ x. p (Mark x)) && (p Line && every_pattern (λ x. p (Pattern x)))))))) e2).1 in let e4 = (and_true (every_number (λ x. p (Number x))) (every_lead (λ q. every_name (λ x. p (Name q x))) && (every_tag (λ x. p (Tag x)) && (every_label (λ x. p (Label x)) && (every_mark (λ x. p (Mark x)) && (p Line && every_pattern (λ x. p (Pattern x))))))) e3).1 in let e5 = (and_true (every_lead (λ q. every_name (λ x. p (Name q x)))) (every_tag (λ x. p (Tag x)) && (every_label (λ x. p (Label x)) && (every_mark (λ x. p (Mark x)) && (p Line && every_pattern (λ x. p (Pattern x)))))) e4).1 in every_tag_is (λ x. p (Tag x)) ((and_true (every_tag (λ x. p (Tag x))) (every_label (λ x. p (Label x)) && (every_mark (λ x. p (Mark x)) && (p Line && every_pattern (λ x. p (Pattern x))))) e5).0) x
every_state_is p e (Label x) = let e1 =
    (and_true (p Start) (every_iri (λ x. p (Iri x)) && (every_quote (λ q. every_text (λ x. p (Text q x))) && (every_number (λ x. p (Number x)) && (every_lead (λ q. every_name (λ x. p (Name q x))) && (every_tag (λ x. p (Tag x)) && (every_label (λ x. p (Label x)) && (every_mark (λ x. p (Mark x)) && (p Line && every_pattern (λ x. p (Pattern x)))))))))) e).1 in let e2 = (and_true (every_iri (λ x. p (Iri x))) (every_quote (λ q. every_text (λ x. p (Text q x))) && (every_number (λ x. p (Number x)) && (every_lead (λ q. every_name (λ x. p (Name q x))) && (every_tag (λ x. p (Tag x)) && (every_label (λ x. p (Label x)) && (every_mark (λ x. p (Mark x)) && (p Line && every_pattern (λ x. p (Pattern x))))))))) e1).1 in let e3 = (and_true (every_quote (λ q. every_text (λ x. p (Text q x)))) (every_number (λ x. p (Number x)) && (every_lead (λ q. every_name (λ x. p (Name q x))) && (every_tag (λ x. p (Tag x)) && (every_label (λ x. p (Label x)) && (every_mark (λ x. p (Mark x)) && (p Line && every_pattern (λ x. p (Pattern x)))))))) e2).1 in let e4 = (and_true (every_number (λ x. p (Number x))) (every_lead (λ q. every_name (λ x. p (Name q x))) && (every_tag (λ x. p (Tag x)) && (every_label (λ x. p (Label x)) && (every_mark (λ x. p (Mark x)) && (p Line && every_pattern (λ x. p (Pattern x))))))) e3).1 in let e5 = (and_true (every_lead (λ q. every_name (λ x. p (Name q x)))) (every_tag (λ x. p (Tag x)) && (every_label (λ x. p (Label x)) && (every_mark (λ x. p (Mark x)) && (p Line && every_pattern (λ x. p (Pattern x)))))) e4).1 in let e6 = (and_true (every_tag (λ x. p (Tag x))) (every_label (λ x. p (Label x)) && (every_mark (λ x. p (Mark x)) && (p Line && every_pattern (λ x. p (Pattern x))))) e5).1 in every_label_is (λ x. p (Label x)) ((and_true (every_label (λ x. p (Label x))) (every_mark (λ x. p (Mark x)) && (p Line && every_pattern (λ x. p (Pattern x)))) e6).0) x
every_state_is p e (Mark x) = let e1 =
    (and_true (p Start) (every_iri (λ x. p (Iri x)) && (every_quote (λ q. every_text (λ x. p (Text q x))) && (every_number (λ x. p (Number x)) && (every_lead (λ q. every_name (λ x. p (Name q x))) && (every_tag (λ x. p (Tag x)) && (every_label (λ x. p (Label x)) && (every_mark (λ x. p (Mark x)) && (p Line && every_pattern (λ x. p (Pattern x)))))))))) e).1 in let e2 = (and_true (every_iri (λ x. p (Iri x))) (every_quote (λ q. every_text (λ x. p (Text q x))) && (every_number (λ x. p (Number x)) && (every_lead (λ q. every_name (λ x. p (Name q x))) && (every_tag (λ x. p (Tag x)) && (every_label (λ x. p (Label x)) && (every_mark (λ x. p (Mark x)) && (p Line && every_pattern (λ x. p (Pattern x))))))))) e1).1 in let e3 = (and_true (every_quote (λ q. every_text (λ x. p (Text q x)))) (every_number (λ x. p (Number x)) && (every_lead (λ q. every_name (λ x. p (Name q x))) && (every_tag (λ x. p (Tag x)) && (every_label (λ x. p (Label x)) && (every_mark (λ x. p (Mark x)) && (p Line && every_pattern (λ x. p (Pattern x)))))))) e2).1 in let e4 = (and_true (every_number (λ x. p (Number x))) (every_lead (λ q. every_name (λ x. p (Name q x))) && (every_tag (λ x. p (Tag x)) && (every_label (λ x. p (Label x)) && (every_mark (λ x. p (Mark x)) && (p Line && every_pattern (λ x. p (Pattern x))))))) e3).1 in let e5 = (and_true (every_lead (λ q. every_name (λ x. p (Name q x)))) (every_tag (λ x. p (Tag x)) && (every_label (λ x. p (Label x)) && (every_mark (λ x. p (Mark x)) && (p Line && every_pattern (λ x. p (Pattern x)))))) e4).1 in let e6 = (and_true (every_tag (λ x. p (Tag x))) (every_label (λ x. p (Label x)) && (every_mark (λ x. p (Mark x)) && (p Line && every_pattern (λ x. p (Pattern x))))) e5).1 in let e7 = (and_true (every_label (λ x. p (Label x))) (every_mark (λ x. p (Mark x)) && (p Line && every_pattern (λ x. p (Pattern x)))) e6).1 in every_mark_is (λ x. p (Mark x)) ((and_true (every_mark (λ x. p (Mark x))) (p Line && every_pattern (λ x. p (Pattern x))) e7).0) x
every_state_is p e Line = let e1 =
    (and_true (p Start) (every_iri (λ x. p (Iri x)) && (every_quote (λ q. every_text (λ x. p (Text q x))) && (every_number (λ x. p (Number x)) && (every_lead (λ q. every_name (λ x. p (Name q x))) && (every_tag (λ x. p (Tag x)) && (every_label (λ x. p (Label x)) && (every_mark (λ x. p (Mark x)) && (p Line && every_pattern (λ x. p (Pattern x)))))))))) e).1 in let e2 = (and_true (every_iri (λ x. p (Iri x))) (every_quote (λ q. every_text (λ x. p (Text q x))) && (every_number (λ x. p (Number x)) && (every_lead (λ q. every_name (λ x. p (Name q x))) && (every_tag (λ x. p (Tag x)) && (every_label (λ x. p (Label x)) && (every_mark (λ x. p (Mark x)) && (p Line && every_pattern (λ x. p (Pattern x))))))))) e1).1 in let e3 = (and_true (every_quote (λ q. every_text (λ x. p (Text q x)))) (every_number (λ x. p (Number x)) && (every_lead (λ q. every_name (λ x. p (Name q x))) && (every_tag (λ x. p (Tag x)) && (every_label (λ x. p (Label x)) && (every_mark (λ x. p (Mark x)) && (p Line && every_pattern (λ x. p (Pattern x)))))))) e2).1 in let e4 = (and_true (every_number (λ x. p (Number x))) (every_lead (λ q. every_name (λ x. p (Name q x))) && (every_tag (λ x. p (Tag x)) && (every_label (λ x. p (Label x)) && (every_mark (λ x. p (Mark x)) && (p Line && every_pattern (λ x. p (Pattern x))))))) e3).1 in let e5 = (and_true (every_lead (λ q. every_name (λ x. p (Name q x)))) (every_tag (λ x. p (Tag x)) && (every_label (λ x. p (Label x)) && (every_mark (λ x. p (Mark x)) && (p Line && every_pattern (λ x. p (Pattern x)))))) e4).1 in let e6 = (and_true (every_tag (λ x. p (Tag x))) (every_label (λ x. p (Label x)) && (every_mark (λ x. p (Mark x)) && (p Line && every_pattern (λ x. p (Pattern x))))) e5).1 in let e7 = (and_true (every_label (λ x. p (Label x))) (every_mark (λ x. p (Mark x)) && (p Line && every_pattern (λ x. p (Pattern x)))) e6).1 in let e8 = (and_true (every_mark (λ x. p (Mark x))) (p Line && every_pattern (λ x. p (Pattern x))) e7).1 in (and_true (p Line) (every_pattern (λ x. p (Pattern x))) e8).0
every_state_is p e (Pattern x) = let e1 =
    (and_true (p Start) (every_iri (λ x. p (Iri x)) && (every_quote (λ q. every_text (λ x. p (Text q x))) && (every_number (λ x. p (Number x)) && (every_lead (λ q. every_name (λ x. p (Name q x))) && (every_tag (λ x. p (Tag x)) && (every_label (λ x. p (Label x)) && (every_mark (λ x. p (Mark x)) && (p Line && every_pattern (λ x. p (Pattern x)))))))))) e).1 in let e2 = (and_true (every_iri (λ x. p (Iri x))) (every_quote (λ q. every_text (λ x. p (Text q x))) && (every_number (λ x. p (Number x)) && (every_lead (λ q. every_name (λ x. p (Name q x))) && (every_tag (λ x. p (Tag x)) && (every_label (λ x. p (Label x)) && (every_mark (λ x. p (Mark x)) && (p Line && every_pattern (λ x. p (Pattern x))))))))) e1).1 in let e3 = (and_true (every_quote (λ q. every_text (λ x. p (Text q x)))) (every_number (λ x. p (Number x)) && (every_lead (λ q. every_name (λ x. p (Name q x))) && (every_tag (λ x. p (Tag x)) && (every_label (λ x. p (Label x)) && (every_mark (λ x. p (Mark x)) && (p Line && every_pattern (λ x. p (Pattern x)))))))) e2).1 in let e4 = (and_true (every_number (λ x. p (Number x))) (every_lead (λ q. every_name (λ x. p (Name q x))) && (every_tag (λ x. p (Tag x)) && (every_label (λ x. p (Label x)) && (every_mark (λ x. p (Mark x)) && (p Line && every_pattern (λ x. p (Pattern x))))))) e3).1 in let e5 = (and_true (every_lead (λ q. every_name (λ x. p (Name q x)))) (every_tag (λ x. p (Tag x)) && (every_label (λ x. p (Label x)) && (every_mark (λ x. p (Mark x)) && (p Line && every_pattern (λ x. p (Pattern x)))))) e4).1 in let e6 = (and_true (every_tag (λ x. p (Tag x))) (every_label (λ x. p (Label x)) && (every_mark (λ x. p (Mark x)) && (p Line && every_pattern (λ x. p (Pattern x))))) e5).1 in let e7 = (and_true (every_label (λ x. p (Label x))) (every_mark (λ x. p (Mark x)) && (p Line && every_pattern (λ x. p (Pattern x)))) e6).1 in let e8 = (and_true (every_mark (λ x. p (Mark x))) (p Line && every_pattern (λ x. p (Pattern x))) e7).1 in let e9 = (and_true (p Line) (every_pattern (λ x. p (Pattern x))) e8).1 in every_pattern_is (λ x. p (Pattern x)) (e9) x

-- kinds by their numbers
abbrev pub number_of : Kind → ℕ
number_of kinds.IriRef = 0
number_of kinds.PnameNs = 1
number_of kinds.PnameLn = 2
number_of kinds.BlankLabel = 3
number_of kinds.LangTag = 4
number_of kinds.AtName = 5
number_of kinds.Str = 6
number_of kinds.Integer = 7
number_of kinds.Decimal = 8
number_of kinds.Double = 9
number_of kinds.Word = 10
number_of kinds.Punct = 11
number_of kinds.Line = 12
number_of kinds.Pattern = 13

abbrev kind_of : ℕ → Kind
kind_of n = if nat_eq n 0 then kinds.IriRef else if nat_eq n 1 then kinds.PnameNs else if nat_eq n 2 then kinds.PnameLn else if nat_eq n 3 then kinds.BlankLabel else if nat_eq n 4 then kinds.LangTag else if nat_eq n 5 then kinds.AtName else if nat_eq n 6 then kinds.Str else if nat_eq n 7 then kinds.Integer else if nat_eq n 8 then kinds.Decimal else if nat_eq n 9 then kinds.Double else if nat_eq n 10 then kinds.Word else if nat_eq n 11 then kinds.Punct else if nat_eq n 12 then kinds.Line else kinds.Pattern

kind_back : (k : Kind) → kind_of (number_of k) ≡ k
kind_back kinds.IriRef = refl
kind_back kinds.PnameNs = refl
kind_back kinds.PnameLn = refl
kind_back kinds.BlankLabel = refl
kind_back kinds.LangTag = refl
kind_back kinds.AtName = refl
kind_back kinds.Str = refl
kind_back kinds.Integer = refl
kind_back kinds.Decimal = refl
kind_back kinds.Double = refl
kind_back kinds.Word = refl
kind_back kinds.Punct = refl
kind_back kinds.Line = refl
kind_back kinds.Pattern = refl

abbrev pub is_kind : Kind → Option Kind → Bool
is_kind k None = false
is_kind k (Some j) = nat_eq (number_of k) (number_of j)

pub is_kind_some : (k : Kind) (o : Option Kind) → is_kind k o ≡ true → o ≡ Some k
is_kind_some k None e = absurd cc
is_kind_some k (Some j) e = ap Some (sym (kind_back j) ∙ ap kind_of (sym (eqb-true (number_of k) (number_of j) e)) ∙ kind_back k)

pub some_is_kind : (k : Kind) (o : Option Kind) → o ≡ Some k → is_kind k o ≡ true
some_is_kind k o e = rw e (eq-eqb (number_of k) (number_of k) refl)

-- what is left behind a sample is what is left in the state that it leads to
abbrev pub agrees : Mode → State → ℕ → Bool
agrees m s c = every_kind (λ k. alike (past c (residual m s k)) (residual_on m (step_of s c) k))

-- a token may end in a state where its label says so
abbrev pub labelled : Mode → State → Bool
labelled m s = every_kind (λ k. both_or_none (ends (residual m s k)) (is_kind k (label_of m s)))

abbrev pub plain_rows : Rows → Bool
plain_rows [] = true
plain_rows (row ∷ rows) = plain_class row.0 && plain_rows rows

abbrev pub steady : Mode → State → Bool
steady m s = every (agrees m s) samples && labelled m s

steady_ntriples : every_state (steady NTriples) ≡ true
unfolding digit letter letter_or_digit hexadecimal name_base name_char local_start local_char label_start local_escaped text_escaped iri_char short_char long_char line_end turtle_mark brace schema_mark pattern_start pattern_char flag any_char
steady_ntriples = refl

plain_ntriples : every_kind (λ k. plain (Spelling NTriples k)) ≡ true
unfolding digit letter letter_or_digit hexadecimal name_base name_char local_start local_char label_start local_escaped text_escaped iri_char short_char long_char line_end turtle_mark brace schema_mark pattern_start pattern_char flag any_char
plain_ntriples = refl

steady_turtle : every_state (steady Turtle) ≡ true
unfolding digit letter letter_or_digit hexadecimal name_base name_char local_start local_char label_start local_escaped text_escaped iri_char short_char long_char line_end turtle_mark brace schema_mark pattern_start pattern_char flag any_char
steady_turtle = refl

plain_turtle : every_kind (λ k. plain (Spelling Turtle k)) ≡ true
unfolding digit letter letter_or_digit hexadecimal name_base name_char local_start local_char label_start local_escaped text_escaped iri_char short_char long_char line_end turtle_mark brace schema_mark pattern_start pattern_char flag any_char
plain_turtle = refl

steady_map : every_state (steady Map) ≡ true
unfolding digit letter letter_or_digit hexadecimal name_base name_char local_start local_char label_start local_escaped text_escaped iri_char short_char long_char line_end turtle_mark brace schema_mark pattern_start pattern_char flag any_char
steady_map = refl

plain_map : every_kind (λ k. plain (Spelling Map k)) ≡ true
unfolding digit letter letter_or_digit hexadecimal name_base name_char local_start local_char label_start local_escaped text_escaped iri_char short_char long_char line_end turtle_mark brace schema_mark pattern_start pattern_char flag any_char
plain_map = refl

steady_schema : every_state (steady Schema) ≡ true
unfolding digit letter letter_or_digit hexadecimal name_base name_char local_start local_char label_start local_escaped text_escaped iri_char short_char long_char line_end turtle_mark brace schema_mark pattern_start pattern_char flag any_char
steady_schema = refl

plain_schema : every_kind (λ k. plain (Spelling Schema k)) ≡ true
unfolding digit letter letter_or_digit hexadecimal name_base name_char local_start local_char label_start local_escaped text_escaped iri_char short_char long_char line_end turtle_mark brace schema_mark pattern_start pattern_char flag any_char
plain_schema = refl

plain_states : every_state (λ s. plain_rows (rows_of s)) ≡ true
unfolding digit letter letter_or_digit hexadecimal name_base name_char local_start local_char label_start local_escaped text_escaped iri_char short_char long_char line_end turtle_mark brace schema_mark pattern_start pattern_char flag any_char
plain_states = refl

pub rows_plain : (s : State) → plain_rows (rows_of s) ≡ true
rows_plain s = every_state_is (λ s. plain_rows (rows_of s)) plain_states s

pub is_steady : (m : Mode) (s : State) → steady m s ≡ true
is_steady NTriples s = every_state_is (steady NTriples) steady_ntriples s
is_steady Turtle s = every_state_is (steady Turtle) steady_turtle s
is_steady Map s = every_state_is (steady Map) steady_map s
is_steady Schema s = every_state_is (steady Schema) steady_schema s

pub spelling_plain : (m : Mode) (k : Kind) → plain (Spelling m k) ≡ true
spelling_plain NTriples k = every_kind_is (λ k. plain (Spelling NTriples k)) plain_ntriples k
spelling_plain Turtle k = every_kind_is (λ k. plain (Spelling Turtle k)) plain_turtle k
spelling_plain Map k = every_kind_is (λ k. plain (Spelling Map k)) plain_map k
spelling_plain Schema k = every_kind_is (λ k. plain (Spelling Schema k)) plain_schema k

-- a sample is one of the samples
abbrev is_in : ℕ → List ℕ → Bool
is_in c [] = false
is_in c (d ∷ ds) = nat_eq c d || is_in c ds

every_in : (p : ℕ → Bool) (c : ℕ) (ds : List ℕ) → is_in c ds ≡ true → every p ds ≡ true → p c ≡ true
every_in p c [] e f = absurd cc
every_in p c (d ∷ ds) e f =
    let (g, h) = and_true (p d) (every p ds) f in
    elim (or_true (nat_eq c d) (is_in c ds) e) [ inl i ↦ ap p (eqb-true c d i) ∙ g | inr i ↦ every_in p c ds i h ]

abbrev every_bound : Bounds → Bool
every_bound [] = true
every_bound (b ∷ bs) = is_in b.1 samples && every_bound bs

by_test : (b : Bool) (k l : ℕ) → is_in k samples ≡ true → is_in l samples ≡ true → is_in (cond b k l) samples ≡ true
by_test true k l e f = e
by_test false k l e f = f

sample_is_in : (c : ℕ) (bs : Bounds) → every_bound bs ≡ true → is_in (sample_in bs c) samples ≡ true
sample_is_in c [] e = refl
sample_is_in c (b ∷ bs) e = let (f, g) = and_true (is_in b.1 samples) (every_bound bs) e in by_test (nat_le c b.0) b.1 (sample_in bs c) f (sample_is_in c bs g)

pub at_sample : (p : ℕ → Bool) (c : ℕ) → every p samples ≡ true → p (sample c) ≡ true
at_sample p c e = every_in p (sample c) samples (sample_is_in c bounds refl) e

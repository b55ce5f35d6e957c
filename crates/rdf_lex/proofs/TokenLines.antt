-- Tokens on one line, and what their texts mean.
use Rattle.std.proofs.Common.{◌≡◌, ℕ, ◌+◌, ◌-◌, Bool, true, false, List, [], ◌∷◌, length, take, drop, refl, sym, ap, subst, ◌∙◌, arith, true≢false}
use Rattle.std.specs.List.{list_all}
use Rattle.std.specs.Str.{chars, IsUtf8, all_scalars}
use Rattle.std.proofs.lemmas.Str.{IsUtf8-between}
use Rattle.std.proofs.lemmas.Bool.Decides.{nat_tests}
use Rattle.std.proofs.Math.Utf8.{scalar}
use Rattle.rdf_terms.proofs.OneLine.{Plain, both, plain_right, plain_passing, plain_bytes, Clean}
use Rattle.rdf_lex.specs.declared.escapes.Inside.{Inside}
use Rattle.rdf_lex.specs.declared.escapes.Inside.TheVariants.{Iri, Text, Local}
use Rattle.rdf_lex.specs.declared.kinds.Kind.{Kind}
use Rattle.rdf_lex.specs.declared.kinds.Mode.{Mode}
use Rattle.rdf_lex.specs.declared.kinds.Mode.TheVariants.{NTriples, Turtle, Map, Schema}
use Rattle.rdf_lex.specs.Characters.{has, digit, letter, letter_or_digit, hexadecimal, name_base, name_char, local_start, local_char, label_start, local_escaped, iri_char, turtle_mark, brace, schema_mark}
use Rattle.rdf_lex.specs.Escapes.{StandsFor, ends, plain, named, numbered, Means, fits, inside_of, is_character}
use Rattle.rdf_lex.specs.Phrases.{Spells}
use Rattle.rdf_lex.specs.Spelling.{Spelling}
use Rattle.rdf_lex.specs.Tokens.{IsFirst}
use Rattle.rdf_lex.specs.declared.kinds.Kind.TheVariants as kinds
use Rattle.rdf_lex.proofs.Standing.{lacks, none_spelled}

-- a token of this kind stands on one line
abbrev pub on_one_line : Kind → Bool
on_one_line kinds.Str = false
on_one_line kinds.Line = false
on_one_line kinds.Pattern = false
on_one_line _ = true

-- a test of kinds that neither a text, the end of a line nor a pattern passes
pub line_by : (test : Kind → Bool) (k : Kind) → test kinds.Str ≡ false → test kinds.Line ≡ false → test kinds.Pattern ≡ false → test k ≡ true → on_one_line k ≡ true
line_by test kinds.Str f g h e = sym f ∙ e
line_by test kinds.Line f g h e = sym g ∙ e
line_by test kinds.Pattern f g h e = sym h ∙ e
line_by test kinds.IriRef f g h e = refl
line_by test kinds.PnameNs f g h e = refl
line_by test kinds.PnameLn f g h e = refl
line_by test kinds.BlankLabel f g h e = refl
line_by test kinds.LangTag f g h e = refl
line_by test kinds.AtName f g h e = refl
line_by test kinds.Integer f g h e = refl
line_by test kinds.Decimal f g h e = refl
line_by test kinds.Double f g h e = refl
line_by test kinds.Word f g h e = refl
line_by test kinds.Punct f g h e = refl

-- no token of such a kind is spelled with a line feed
no_feed_in : (m : Mode) (k : Kind) → on_one_line k ≡ true → lacks 10 (Spelling m k) ≡ true
unfolding digit letter letter_or_digit hexadecimal name_base name_char local_start local_char label_start local_escaped iri_char turtle_mark brace schema_mark
no_feed_in m kinds.IriRef e = refl
no_feed_in m kinds.PnameNs e = refl
no_feed_in m kinds.PnameLn e = refl
no_feed_in NTriples kinds.BlankLabel e = refl
no_feed_in Turtle kinds.BlankLabel e = refl
no_feed_in Map kinds.BlankLabel e = refl
no_feed_in Schema kinds.BlankLabel e = refl
no_feed_in m kinds.LangTag e = refl
no_feed_in NTriples kinds.AtName e = refl
no_feed_in Turtle kinds.AtName e = refl
no_feed_in Map kinds.AtName e = refl
no_feed_in Schema kinds.AtName e = refl
no_feed_in m kinds.Str e = absurd (true≢false (sym e))
no_feed_in m kinds.Integer e = refl
no_feed_in m kinds.Decimal e = refl
no_feed_in m kinds.Double e = refl
no_feed_in m kinds.Word e = refl
no_feed_in NTriples kinds.Punct e = refl
no_feed_in Turtle kinds.Punct e = refl
no_feed_in Map kinds.Punct e = refl
no_feed_in Schema kinds.Punct e = refl
no_feed_in m kinds.Line e = absurd (true≢false (sym e))
no_feed_in m kinds.Pattern e = absurd (true≢false (sym e))

pub plain_token : (m : Mode) (k : Kind) (cs : List ℕ) → on_one_line k ≡ true → Spells (Spelling m k) cs → Plain cs
plain_token m k cs e h = none_spelled 10 (Spelling m k) cs (no_feed_in m k e) h

-- what is written with escapes of one character stands for characters that are written
plain_local : {cs out : List ℕ} → StandsFor Local cs out → Plain cs → Plain out
plain_local ends h = tt
plain_local (plain c e s) (f, h) = (f, plain_local s h)
plain_local (named c e f s) h = let k = subst Plain e h in (k.1.0, plain_local s k.1.1)
plain_local (numbered mark digits e n a b s) h = absurd (true≢false (sym n))

-- an escape names no line feed in an IRI
pub by_kind : (k : Kind) (cs text : List ℕ) → on_one_line k ≡ true → Plain cs → Means k cs text → list_all (fits (inside_of k)) text ≡ true → Plain text
unfolding iri_char
by_kind kinds.IriRef cs text e h m f = plain_passing (fits Iri) text refl f
by_kind kinds.PnameNs cs text e h (body, (front, is, n), s) f = plain_local s (plain_right front (58 ∷ body) (subst Plain is h)).1
by_kind kinds.PnameLn cs text e h (body, (front, is, n), s) f = plain_local s (plain_right front (58 ∷ body) (subst Plain is h)).1
by_kind kinds.AtName cs text e h (body, (front, is, n), s) f = plain_local s (plain_right front (58 ∷ body) (subst Plain is h)).1
by_kind kinds.Str cs text e h m f = absurd (true≢false (sym e))
by_kind kinds.BlankLabel cs text e h m f = absurd m.1
by_kind kinds.LangTag cs text e h m f = absurd m.1
by_kind kinds.Integer cs text e h m f = absurd m.1
by_kind kinds.Decimal cs text e h m f = absurd m.1
by_kind kinds.Double cs text e h m f = absurd m.1
by_kind kinds.Word cs text e h m f = absurd m.1
by_kind kinds.Punct cs text e h m f = absurd m.1
by_kind kinds.Line cs text e h m f = absurd m.1
by_kind kinds.Pattern cs text e h m f = absurd m.1

-- and each is a character
scalar_is : (n : ℕ) → is_character n ≡ true → scalar n ≡ true
scalar_is n e = grind (arith, nat_tests)

fit_scalar : (w : Inside) (n : ℕ) → fits w n ≡ true → scalar n ≡ true
fit_scalar Iri n e = scalar_is n (both (is_character n) (has iri_char n) e).0
fit_scalar Text n e = scalar_is n e
fit_scalar Local n e = scalar_is n e

pub fit_scalars : (w : Inside) (text : List ℕ) → list_all (fits w) text ≡ true → all_scalars text ≡ true
fit_scalars w [] e = refl
fit_scalars w (n ∷ ns) e = let p = both (fits w n) (list_all (fits w) ns) e in rw (fit_scalar w n p.0, fit_scalars w ns p.1) refl

pub first_fine : (m : Mode) (source : List ℕ) (at place : ℕ) (k : Kind) (text : List ℕ) → IsUtf8 source → IsFirst m source at k text place → on_one_line k ≡ true → Clean text
first_fine m source at place k text u h e =
    let n : place + length text - place ≡ length text = omega arith in
    let part = IsUtf8-between source place (place + length text) u (omega arith) h.skipped.cut h.cut in
    let w : IsUtf8 text = subst IsUtf8 (ap (λ (i : ℕ). take i (drop place source)) n ∙ sym h.lent) part in
    (w, plain_bytes text w (plain_token m k (chars text) e h.longest.spelled))

-- The text of an IRI or of a literal is tokens that stand for it.
use Rattle.std.proofs.Common.{◌≡◌, ℕ, ◌+◌, ◌<◌, Bool, true, false, List, [], ◌∷◌, ◌++◌, length, take, drop, length-drop, encode_utf8, encode_utf8_all, Option, Some, None, refl, sym, ap, subst, ◌∙◌, arith, ◌⊎◌, inl, inr, append_assoc}
use Rattle.std.specs.Prelude.{nat_eq, if◌then◌else◌, codes}
use Rattle.std.specs.List.{list_all, flat_map}
use Rattle.std.specs.Str.{chars, IsUtf8, IsCharBoundary, all_scalars}
use Rattle.std.proofs.lemmas.Bool.{eqb-true}
use Rattle.std.proofs.lemmas.Bool.Decides.{nat_tests}
use Rattle.std.proofs.lemmas.List.{append-nil, nil_from_length}
use Rattle.std.proofs.lemmas.Str.{chars-encodes, encodes-append, IsCharBoundary-start, IsCharBoundary-end, chars-nil}
use Rattle.rdf_terms.specs.Literals.{LiteralParts}
use Rattle.rdf_terms.specs.Vocabulary.{xsd_string}
use Rattle.rdf_terms.specs.Texts.{same_text}
use Rattle.rdf_terms.specs.Written.{iri_text, literal_text, term_text, suffix_text}
use Rattle.rdf_terms.specs.Written as words
use Rattle.rdf_terms.specs.declared.terms.Term.TheVariants.{Iri}
use Rattle.rdf_lex.specs.declared.escapes.Inside.TheVariants as inside
use Rattle.rdf_lex.specs.declared.kinds.Kind.{Kind}
use Rattle.rdf_lex.specs.declared.kinds.Kind.TheVariants as kinds
use Rattle.rdf_lex.specs.declared.kinds.Mode.{Mode}
use Rattle.rdf_lex.specs.declared.kinds.Mode.TheVariants.{NTriples, Turtle, Map, Schema}
use Rattle.rdf_lex.specs.Characters.{has, iri_char, short_char, text_escaped}
use Rattle.rdf_lex.specs.Escapes.{StandsFor, ends, plain, named, inside_of, IsEnclosed, Body, has_long_marks, Means, IsMeaning}
use Rattle.rdf_lex.specs.Escapes as escapes
use Rattle.rdf_lex.specs.Laws.{IsIri, IsTag, iri_token, quoted_text, suffix_tokens}
use Rattle.rdf_lex.specs.Phrases.{Spells, none, more, ◌∣◌, one}
use Rattle.rdf_lex.specs.Spelling.{Spelling, iri_body, short_body, numeric_escape, text_escape, lang_tag}
use Rattle.rdf_lex.specs.Tokens.{is_white, IsSkipped, IsFirst, Spelled, Between, here, onward, Tokens, Blanks}
use Rattle.rdf_lex.specs.Tokens as tokens
use Rattle.rdf_lex.proofs.Enclosing.{is_part, quoted_in, iri_enclosed, quote_byte}
use Rattle.rdf_lex.proofs.Languages.{and_true}
use Rattle.rdf_lex.proofs.Meant.{stands_for_one}
use Rattle.rdf_lex.proofs.Placing.{IsOver, over_nil, str_over_at, str_over_caret, carets_spelled, carets_over, stands_here}
use Rattle.rdf_lex.proofs.Standing.{no_slash}
use Rattle.rdf_lex.proofs.Theorem.{size}

-- a part is one
same_part : (bs : List ℕ) (n : ℕ) (a b : List ℕ) → IsUtf8 bs → IsEnclosed bs n a → IsEnclosed bs n b → a ≡ b
same_part bs n a b u p q =
    let f = is_part bs n a u p in
    let g = is_part bs n b u q in
    let v = f.whole in
    let w = g.whole in
    let s : size a ≡ size b = omega arith in
    sym f.part ∙ ap (λ (i : ℕ). chars (take i (drop n bs))) s ∙ g.part

differ : (x : Bool) → x ≡ true → x ≡ false → ⊥
differ x e f = cc

same_quoted : (bs a b : List ℕ) → IsUtf8 bs → Body kinds.Str (chars bs) a → Body kinds.Str (chars bs) b → a ≡ b
same_quoted bs a b u p q = by (quoted_in bs a u p) (quoted_in bs b u q)
  where
    by : ((has_long_marks bs ≡ false) × IsEnclosed bs 1 a) ⊎ ((has_long_marks bs ≡ true) × IsEnclosed bs 3 a)
        → ((has_long_marks bs ≡ false) × IsEnclosed bs 1 b) ⊎ ((has_long_marks bs ≡ true) × IsEnclosed bs 3 b) → a ≡ b
    by (inl (e, f)) (inl (g, h)) = same_part bs 1 a b u f h
    by (inl (e, f)) (inr (g, h)) = absurd (differ (has_long_marks bs) g e)
    by (inr (e, f)) (inl (g, h)) = absurd (differ (has_long_marks bs) e g)
    by (inr (e, f)) (inr (g, h)) = same_part bs 3 a b u f h

-- IRIs
no_backslash : has iri_char 92 ≡ false
unfolding iri_char
no_backslash = refl

iri_plain : (cs : List ℕ) → list_all (has iri_char) cs ≡ true → StandsFor inside.Iri cs cs
iri_plain [] e = ends
iri_plain (c ∷ cs) e = let p = and_true (has iri_char c) (list_all (has iri_char) cs) e in plain c (no_slash iri_char c (nat_eq c 92) refl no_backslash p.0) (iri_plain cs p.1)

iri_spelled_body : (cs : List ℕ) → list_all (has iri_char) cs ≡ true → Spells iri_body cs
iri_spelled_body [] e = none refl
iri_spelled_body (c ∷ cs) e = let p = and_true (has iri_char c) (list_all (has iri_char) cs) e in more (c ∷ []) cs refl (inl (c, p.0, refl)) (iri_spelled_body cs p.1)

iri_spelled : (m : Mode) (iri : List ℕ) → list_all (has iri_char) iri ≡ true → Spells (Spelling m kinds.IriRef) (60 ∷ (iri ++ 62 ∷ []))
iri_spelled m iri e = (60 ∷ [], iri ++ 62 ∷ [], refl, (60, refl, refl), (iri, 62 ∷ [], refl, iri_spelled_body iri e, (62, refl, refl)))

one_byte : (c : ℕ) → c < 128 → encode_utf8_all (c ∷ []) ≡ c ∷ []
one_byte c low = quote_byte c [] low

iri_bytes : (iri : List ℕ) → iri_text iri ≡ encode_utf8_all (60 ∷ (iri ++ 62 ∷ []))
iri_bytes iri = sym (quote_byte 60 (iri ++ 62 ∷ []) (omega arith) ∙ ap (λ (v : List ℕ). 60 ∷ v) (encodes-append iri (62 ∷ [])
    ∙ ap (λ (v : List ℕ). encode_utf8_all iri ++ v) (one_byte 62 (omega arith))))

-- scalars
scalars_on : (xs ys : List ℕ) → all_scalars xs ≡ true → all_scalars ys ≡ true → all_scalars (xs ++ ys) ≡ true
scalars_on [] ys e f = f
scalars_on (x ∷ xs) ys e f = let p = and_true _ (all_scalars xs) e in rw (p.0, scalars_on xs ys p.1 f) refl

iri_scalars : (iri : List ℕ) → all_scalars iri ≡ true → all_scalars (60 ∷ (iri ++ 62 ∷ [])) ≡ true
iri_scalars iri e = scalars_on (60 ∷ []) (iri ++ 62 ∷ []) refl (scalars_on iri (62 ∷ []) e refl)

utf8_of : (cs : List ℕ) → all_scalars cs ≡ true → IsUtf8 (encode_utf8_all cs)
utf8_of cs e = (cs, (e, refl))

iri_meaning : (iri : List ℕ) → IsIri iri → IsMeaning kinds.IriRef (chars (iri_text iri)) iri
iri_meaning iri (s, e) =
    let bs = iri_text iri in
    let u = subst IsUtf8 (sym (iri_bytes iri)) (utf8_of (60 ∷ (iri ++ 62 ∷ [])) (iri_scalars iri s)) in
    let c : chars bs ≡ 60 ∷ (iri ++ 62 ∷ []) = ap chars (iri_bytes iri) ∙ chars-encodes (60 ∷ (iri ++ 62 ∷ [])) (iri_scalars iri s) in
    record {
      means = (iri, c, iri_plain iri e);
      only = λ other (body, b, h). (let same : body ≡ iri = same_part bs 1 body iri u (iri_enclosed bs body b) (iri_enclosed bs iri c) in
          stands_for_one inside.Iri iri other iri (subst (λ (v : List ℕ). StandsFor inside.Iri v other) same h) (iri_plain iri e));
    }

-- a character of a quoted string, as it is written
record OneWritten (c : ℕ) : Type 0 where
  chars_of : List ℕ
  bytes : words.escaped c ≡ encode_utf8_all chars_of
  spelled : Spells (one (short_char 34) ∣ text_escape ∣ numeric_escape) chars_of
  stands : (cs out : List ℕ) → StandsFor inside.Text cs out → StandsFor inside.Text (chars_of ++ cs) (c ∷ out)
  scalars : all_scalars (c ∷ []) ≡ true → all_scalars chars_of ≡ true

behind_slash : (c e : ℕ) → e < 128 → has text_escaped e ≡ true → escapes.escaped inside.Text e ≡ c → words.escaped c ≡ 92 ∷ e ∷ [] → all_scalars (92 ∷ e ∷ []) ≡ true → OneWritten c
behind_slash c e low h v b s = record {
  chars_of = 92 ∷ e ∷ [];
  bytes = b ∙ sym (quote_byte 92 (e ∷ []) (omega arith) ∙ ap (λ (v : List ℕ). 92 ∷ v) (one_byte e low));
  spelled = inr (inl (92 ∷ [], e ∷ [], refl, (92, refl, refl), (e, h, refl)));
  stands = λ cs out k. subst (λ (x : ℕ). StandsFor inside.Text (92 ∷ e ∷ cs) (x ∷ out)) v (named e refl h k);
  scalars = λ _. s;
}

short_ok : (c : ℕ) → nat_eq c 34 ≡ false → nat_eq c 92 ≡ false → nat_eq c 10 ≡ false → nat_eq c 13 ≡ false → has (short_char 34) c ≡ true
unfolding short_char
short_ok c e f g h = grind (arith, nat_tests)

as_it_is : (c : ℕ) → nat_eq c 34 ≡ false → nat_eq c 92 ≡ false → nat_eq c 10 ≡ false → nat_eq c 13 ≡ false → OneWritten c
as_it_is c e f g h = record {
  chars_of = c ∷ [];
  bytes = rw (e, f, g, h) (sym (append-nil (encode_utf8 c)));
  spelled = inl (c, short_ok c e f g h, refl);
  stands = λ cs out k. plain c f k;
  scalars = λ s. s;
}

written_by : (c : ℕ) (p q r s : Bool) → nat_eq c 34 ≡ p → nat_eq c 92 ≡ q → nat_eq c 10 ≡ r → nat_eq c 13 ≡ s → OneWritten c
unfolding text_escaped
written_by c true q r s e f g h = behind_slash c 34 (omega arith) refl (sym (eqb-true c 34 e)) (rw e refl) refl
written_by c false true r s e f g h = behind_slash c 92 (omega arith) refl (sym (eqb-true c 92 f)) (rw (e, f) refl) refl
written_by c false false true s e f g h = behind_slash c 110 (omega arith) refl (sym (eqb-true c 10 g)) (rw (e, f, g) refl) refl
written_by c false false false true e f g h = behind_slash c 114 (omega arith) refl (sym (eqb-true c 13 h)) (rw (e, f, g, h) refl) refl
written_by c false false false false e f g h = as_it_is c e f g h

one_written : (c : ℕ) → OneWritten c
one_written c = written_by c (nat_eq c 34) (nat_eq c 92) (nat_eq c 10) (nat_eq c 13) refl refl refl refl

-- a lexical form
record LexWritten (lex : List ℕ) : Type 0 where
  chars_of : List ℕ
  bytes : flat_map words.escaped lex ≡ encode_utf8_all chars_of
  spelled : Spells (short_body 34) chars_of
  stands : StandsFor inside.Text chars_of lex
  scalars : all_scalars lex ≡ true → all_scalars chars_of ≡ true

lex_written : (lex : List ℕ) → LexWritten lex
lex_written [] = record { chars_of = []; bytes = refl; spelled = none refl; stands = ends; scalars = λ _. refl }
lex_written (c ∷ cs) =
    let a = one_written c in
    let b = lex_written cs in
    record {
      chars_of = a.chars_of ++ b.chars_of;
      bytes = ap (λ (v : List ℕ). v ++ flat_map words.escaped cs) a.bytes ∙ ap (λ (v : List ℕ). encode_utf8_all a.chars_of ++ v) b.bytes ∙ sym (encodes-append a.chars_of b.chars_of);
      spelled = more a.chars_of b.chars_of refl a.spelled b.spelled;
      stands = a.stands b.chars_of cs b.stands;
      scalars = λ e. (let p = and_true _ (all_scalars cs) e in scalars_on a.chars_of b.chars_of (a.scalars (rw p.0 refl)) (b.scalars p.1));
    }

-- quoted
quoted_bytes : (l : LiteralParts) (w : LexWritten l.lex) → quoted_text l ≡ encode_utf8_all (34 ∷ (w.chars_of ++ 34 ∷ []))
quoted_bytes l w =
    ap (λ (v : List ℕ). 34 ∷ (v ++ 34 ∷ [])) w.bytes
    ∙ sym (quote_byte 34 (w.chars_of ++ 34 ∷ []) (omega arith) ∙ ap (λ (v : List ℕ). 34 ∷ v) (encodes-append w.chars_of (34 ∷ [])
    ∙ ap (λ (v : List ℕ). encode_utf8_all w.chars_of ++ v) (one_byte 34 (omega arith))))

quoted_scalars : (lex : List ℕ) (w : LexWritten lex) → all_scalars lex ≡ true → all_scalars (34 ∷ (w.chars_of ++ 34 ∷ [])) ≡ true
quoted_scalars lex w e = scalars_on (34 ∷ []) (w.chars_of ++ 34 ∷ []) refl (scalars_on w.chars_of (34 ∷ []) (w.scalars e) refl)

quoted_spelled : (m : Mode) (lex : List ℕ) (w : LexWritten lex) → Spells (Spelling m kinds.Str) (34 ∷ (w.chars_of ++ 34 ∷ []))
quoted_spelled m lex w = inl (34 ∷ [], w.chars_of ++ 34 ∷ [], refl, (34, refl, refl), (w.chars_of, 34 ∷ [], refl, w.spelled, (34, refl, refl)))

lex_meaning : (l : LiteralParts) → all_scalars l.lex ≡ true → IsMeaning kinds.Str (chars (quoted_text l)) l.lex
lex_meaning l s =
    let w = lex_written l.lex in
    let all = 34 ∷ (w.chars_of ++ 34 ∷ []) in
    let bs = quoted_text l in
    let scalar = quoted_scalars l.lex w s in
    let u = subst IsUtf8 (sym (quoted_bytes l w)) (utf8_of all scalar) in
    let c : chars bs ≡ all = ap chars (quoted_bytes l w) ∙ chars-encodes all scalar in
    record {
      means = (w.chars_of, inl (inl (c, w.spelled)), w.stands);
      only = λ other (body, b, h). (let same : body ≡ w.chars_of = same_quoted bs body w.chars_of u b (inl (inl (c, w.spelled))) in
          stands_for_one inside.Text w.chars_of other l.lex (subst (λ (v : List ℕ). StandsFor inside.Text v other) same h) w.stands);
    }

-- the tokens of a text
not_white : (m : Mode) → (is_white m 34 ≡ false) × (is_white m 64 ≡ false) × (is_white m 94 ≡ false) × (is_white m 60 ≡ false)
not_white NTriples = (refl, refl, refl, refl)
not_white Turtle = (refl, refl, refl, refl)
not_white Map = (refl, refl, refl, refl)
not_white Schema = (refl, refl, refl, refl)

at_end : (m : Mode) (source : List ℕ) (place : ℕ) → IsCharBoundary source place → chars (drop place source) ≡ [] → IsSkipped m source place (length source)
at_end m source place b e =
    let d = length-drop (length source) source in
    let none : chars (drop (length source) source) ≡ [] = ap chars (nil_from_length (drop (length source) source) (omega arith)) ∙ chars-nil in
    record {
      onward = b.0;
      cut = IsCharBoundary-end source;
      blanks = subst (λ (v : List ℕ). Blanks m v (chars (drop (length source) source))) (sym e) (subst (λ (v : List ℕ). Blanks m [] v) (sym none) tokens.ends);
    }

-- a source by its characters
record IsSource (source cs : List ℕ) : Type 0 where
  utf8 : IsUtf8 source
  begins : IsCharBoundary source 0
  are : chars source ≡ cs

source_of : (source cs : List ℕ) → source ≡ encode_utf8_all cs → all_scalars cs ≡ true → IsSource source cs
source_of source cs e s =
    let u = subst IsUtf8 (sym e) (utf8_of cs s) in
    record { utf8 = u; begins = IsCharBoundary-start source u; are = ap chars e ∙ chars-encodes cs s }

token_as : (m : Mode) (source : List ℕ) (place to : ℕ) (k : Kind) (text bytes : List ℕ) (ts : List Spelled) → bytes ≡ text → Between m source place (record { kind = k; text = text } ∷ ts) to
    → Between m source place (record { kind = k; text = bytes } ∷ ts) to
token_as m source place to k text bytes ts e b = subst (λ (v : List ℕ). Between m source place (record { kind = k; text = v } ∷ ts) to) (sym e) b

-- an IRI from a place on, to the end
iri_to_end : (m : Mode) (source : List ℕ) (place : ℕ) (iri : List ℕ) → IsUtf8 source → IsCharBoundary source place →
    chars (drop place source) ≡ 60 ∷ (iri ++ 62 ∷ []) → list_all (has iri_char) iri ≡ true
    → (to : ℕ) × Between m source place (iri_token iri ∷ []) to × IsSkipped m source to (length source)
iri_to_end m source place iri u b e p =
    let s = stands_here m source place kinds.IriRef 60 (iri ++ 62 ∷ []) [] u b (e ∙ sym (append-nil (60 ∷ (iri ++ 62 ∷ []))))
    (not_white m).3 refl refl (iri_spelled m iri p) (over_nil m (60 ∷ (iri ++ 62 ∷ []))) in
    let to = place + length (encode_utf8_all (60 ∷ (iri ++ 62 ∷ []))) in
    (to, token_as m source place to kinds.IriRef (encode_utf8_all (60 ∷ (iri ++ 62 ∷ []))) (iri_text iri) [] (iri_bytes iri) (onward s.first here), at_end m source to s.cut s.behind)

pub iri_tokens : (m : Mode) (iri : List ℕ) → IsIri iri → Tokens m (term_text (Iri iri)) (iri_token iri ∷ []) × IsMeaning kinds.IriRef (chars (iri_text iri)) iri
iri_tokens m iri (s, e) =
    let src = source_of (iri_text iri) (60 ∷ (iri ++ 62 ∷ [])) (iri_bytes iri) (iri_scalars iri s) in
    (iri_to_end m (iri_text iri) 0 iri src.utf8 src.begins src.are e, iri_meaning iri (s, e))

-- literals
literal_bytes : (l : LiteralParts) (w : LexWritten l.lex) (suffix : List ℕ) → suffix_text l l.lang ≡ encode_utf8_all suffix →
    literal_text l ≡ encode_utf8_all ((34 ∷ (w.chars_of ++ 34 ∷ [])) ++ suffix)
literal_bytes l w suffix e =
    ap (λ (v : List ℕ). 34 ∷ v) (sym (append_assoc (flat_map words.escaped l.lex) (34 ∷ []) (suffix_text l l.lang)))
    ∙ ap (λ (v : List ℕ). v ++ suffix_text l l.lang) (quoted_bytes l w)
    ∙ ap (λ (v : List ℕ). encode_utf8_all (34 ∷ (w.chars_of ++ 34 ∷ [])) ++ v) e
    ∙ sym (encodes-append (34 ∷ (w.chars_of ++ 34 ∷ [])) suffix)

literal_source : (l : LiteralParts) (w : LexWritten l.lex) (suffix : List ℕ) → all_scalars l.lex ≡ true → all_scalars suffix ≡ true → suffix_text l l.lang ≡ encode_utf8_all suffix
    → IsSource (literal_text l) ((34 ∷ (w.chars_of ++ 34 ∷ [])) ++ suffix)
literal_source l w suffix s t e =
    source_of (literal_text l) ((34 ∷ (w.chars_of ++ 34 ∷ [])) ++ suffix) (literal_bytes l w suffix e) (scalars_on (34 ∷ (w.chars_of ++ 34 ∷ [])) suffix (quoted_scalars l.lex w s) t)

-- the string, then what follows it
after_string : (m : Mode) (l : LiteralParts) (w : LexWritten l.lex) (suffix : List ℕ) (ts : List Spelled) →
    IsSource (literal_text l) ((34 ∷ (w.chars_of ++ 34 ∷ [])) ++ suffix) → IsOver m (34 ∷ (w.chars_of ++ 34 ∷ [])) suffix
    → ((place : ℕ) → IsCharBoundary (literal_text l) place → chars (drop place (literal_text l)) ≡ suffix → (to : ℕ) × Between m (literal_text l) place ts to ×
    IsSkipped m (literal_text l) to (length (literal_text l)))
    → Tokens m (literal_text l) (record { kind = kinds.Str; text = quoted_text l } ∷ ts)
after_string m l w suffix ts src over rest =
    let all = 34 ∷ (w.chars_of ++ 34 ∷ []) in
    let s = stands_here m (literal_text l) 0 kinds.Str 34 (w.chars_of ++ 34 ∷ []) suffix src.utf8 src.begins src.are (not_white m).0 refl refl (quoted_spelled m l.lex w) over in
    let (to, b, e) = rest (0 + length (encode_utf8_all all)) s.cut s.behind in
    (to, token_as m (literal_text l) 0 to kinds.Str (encode_utf8_all all) (quoted_text l) ts (quoted_bytes l w) (onward s.first b), e)

tag_to_end : (m : Mode) (source : List ℕ) (place : ℕ) (tag : List ℕ) → IsUtf8 source → IsCharBoundary source place → chars (drop place source) ≡ 64 ∷ tag → Spells lang_tag (64 ∷ tag)
    → (to : ℕ) × Between m source place (record { kind = kinds.LangTag; text = codes "@" ++ encode_utf8_all tag } ∷ []) to × IsSkipped m source to (length source)
tag_to_end m source place tag u b e h =
    let s = stands_here m source place kinds.LangTag 64 tag [] u b (e ∙ sym (append-nil (64 ∷ tag))) (not_white m).1 refl refl h (over_nil m (64 ∷ tag)) in
    let to = place + length (encode_utf8_all (64 ∷ tag)) in
    (to, token_as m source place to kinds.LangTag (encode_utf8_all (64 ∷ tag)) (codes "@" ++ encode_utf8_all tag) [] (sym (quote_byte 64 tag (omega arith))) (onward s.first here), at_end m source to s.cut s.behind)

carets_bytes : (cs : List ℕ) → encode_utf8_all (94 ∷ 94 ∷ cs) ≡ 94 ∷ 94 ∷ encode_utf8_all cs
carets_bytes cs = quote_byte 94 (94 ∷ cs) (omega arith) ∙ ap (λ (v : List ℕ). 94 ∷ v) (quote_byte 94 cs (omega arith))

datatype_to_end : (m : Mode) (source : List ℕ) (place : ℕ) (iri : List ℕ) → IsUtf8 source → IsCharBoundary source place →
    chars (drop place source) ≡ 94 ∷ 94 ∷ 60 ∷ (iri ++ 62 ∷ []) → list_all (has iri_char) iri ≡ true
    → (to : ℕ) × Between m source place (record { kind = kinds.Punct; text = codes "^^" } ∷ iri_token iri ∷ []) to × IsSkipped m source to (length source)
datatype_to_end m source place iri u b e p =
    let s = stands_here m source place kinds.Punct 94 (94 ∷ []) (60 ∷ (iri ++ 62 ∷ [])) u b e (not_white m).2 refl refl (carets_spelled m) (carets_over m (iri ++ 62 ∷ [])) in
    let (to, c, d) = iri_to_end m source (place + length (encode_utf8_all (94 ∷ 94 ∷ []))) iri u s.cut s.behind p in
    (to, token_as m source place to kinds.Punct (encode_utf8_all (94 ∷ 94 ∷ [])) (codes "^^") (iri_token iri ∷ []) (sym (carets_bytes [])) (onward s.first c), d)

tagged_tokens : (m : Mode) (l : LiteralParts) (tag : List ℕ) → l.lang ≡ Some tag → all_scalars l.lex ≡ true → IsTag (Some tag) →
    Tokens m (literal_text l) (record { kind = kinds.Str; text = quoted_text l } ∷ suffix_tokens l (Some tag))
tagged_tokens m l tag e s (t, h) =
    let w = lex_written l.lex in
    let src = literal_source l w (64 ∷ tag) s (scalars_on (64 ∷ []) tag refl t) (ap (suffix_text l) e ∙ sym (quote_byte 64 tag (omega arith))) in
    after_string m l w (64 ∷ tag) (suffix_tokens l (Some tag)) src (str_over_at m (34 ∷ (w.chars_of ++ 34 ∷ [])) tag (quoted_spelled m l.lex w))
    (λ place b c. tag_to_end m (literal_text l) place tag src.utf8 b c h)

suffix_on : LiteralParts → Bool → List ℕ
suffix_on l true = []
suffix_on l false = 94 ∷ 94 ∷ 60 ∷ (l.datatype ++ 62 ∷ [])

typed_tokens : (m : Mode) (l : LiteralParts) (b : Bool) → same_text l.datatype xsd_string ≡ b → l.lang ≡ None → all_scalars l.lex ≡ true → IsIri l.datatype
    → Tokens m (literal_text l) (record { kind = kinds.Str; text = quoted_text l } ∷ (if b then [] else record { kind = kinds.Punct; text = codes "^^" } ∷ iri_token l.datatype ∷ []))
typed_tokens m l true f e s i =
    let w = lex_written l.lex in
    let src = literal_source l w [] s refl (ap (suffix_text l) e ∙ rw f refl) in
    after_string m l w [] [] src (over_nil m (34 ∷ (w.chars_of ++ 34 ∷ []))) (λ place b c. (place, here, at_end m (literal_text l) place b c))
typed_tokens m l false f e s (t, h) =
    let w = lex_written l.lex in
    let suffix = 94 ∷ 94 ∷ 60 ∷ (l.datatype ++ 62 ∷ []) in
    let bytes : suffix_text l None ≡ encode_utf8_all suffix = rw f (ap (λ (v : List ℕ). 94 ∷ 94 ∷ v) (iri_bytes l.datatype) ∙ sym (carets_bytes (60 ∷ (l.datatype ++ 62 ∷ [])))) in
    let src = literal_source l w suffix s (scalars_on (94 ∷ 94 ∷ []) (60 ∷ (l.datatype ++ 62 ∷ [])) refl (iri_scalars l.datatype t)) (ap (suffix_text l) e ∙ bytes) in
    after_string m l w suffix (record { kind = kinds.Punct; text = codes "^^" } ∷ iri_token l.datatype ∷ []) src
    (str_over_caret m (34 ∷ (w.chars_of ++ 34 ∷ [])) (94 ∷ 60 ∷ (l.datatype ++ 62 ∷ [])) (quoted_spelled m l.lex w))
    (λ place b c. datatype_to_end m (literal_text l) place l.datatype src.utf8 b c h)

by_tag : (m : Mode) (l : LiteralParts) (o : Option (List ℕ)) → l.lang ≡ o → all_scalars l.lex ≡ true → IsIri l.datatype → IsTag o →
    Tokens m (literal_text l) (record { kind = kinds.Str; text = quoted_text l } ∷ suffix_tokens l o)
by_tag m l (Some tag) e s i t = tagged_tokens m l tag e s t
by_tag m l None e s i t = typed_tokens m l (same_text l.datatype xsd_string) refl e s i

pub literal_tokens : (m : Mode) (l : LiteralParts) → all_scalars l.lex ≡ true → IsIri l.datatype → IsTag l.lang
    → Tokens m (literal_text l) (record { kind = kinds.Str; text = quoted_text l } ∷ suffix_tokens l l.lang) × IsMeaning kinds.Str (chars (quoted_text l)) l.lex
literal_tokens m l s i t = (by_tag m l l.lang refl s i t, lex_meaning l s)

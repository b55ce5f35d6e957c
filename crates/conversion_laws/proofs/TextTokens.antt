-- The texts that tokens of UTF-8 stand for are Unicode scalar values, where the base and the prefixes are UTF-8. Each phrase leads from such tokens to such tokens.
use Rattle.std.proofs.Common.{◌≡◌, ◌≢◌, inl, inr, ℕ, ◌+◌, ◌-◌, Bool, true, false, true≢false, cond, List, ◌++◌, length, map, take, drop, nat_eq, Option, Some, None, IsSome, Result, Ok, Err, encode_utf8_all, refl, sym, ap, subst, ◌∙◌, arith}
use Rattle.std.proofs.lemmas.Str.{IsUtf8-append, IsUtf8-between, IsUtf8-from_ascii, scalars-chars}
use Rattle.std.specs.Char.{to_ascii_lowercase}
use Rattle.std.specs.List.{after_first}
use Rattle.std.specs.Str.{IsUtf8, chars}
use Rattle.iri_resolve.specs.Resolution.{resolved_text}
use Rattle.rdf_terms.specs.Literals.{LiteralParts}
use Rattle.rdf_terms.specs.Texts.{same_text}
use Rattle.rdf_terms.specs.Vocabulary.{rdf_lang_string, rdf_type, xsd_string, xsd_integer, xsd_decimal, xsd_double, xsd_boolean}
use Rattle.rdf_terms.specs.declared.terms.Term.{Term}
use Rattle.rdf_terms.specs.declared.terms.Term.TheVariants as terms
use Rattle.rdf_terms.proofs.Characters.{ascii_codes, lowered}
use Rattle.rdf_terms.proofs.TermLines.{differs}
use Rattle.rdf_cursor.specs.Ahead.{Ahead, finished, broken, token, prepend}
use Rattle.rdf_cursor.specs.Phrases.{Phrase, Is, Many, none, more}
use Rattle.rdf_cursor.specs.Symbols.{is_among, is_symbol, same_symbol, symbol_of}
use Rattle.rdf_cursor.specs.declared.stops.Fault as any
use Rattle.rdf_cursor.specs.declared.stops.Fault.TheVariants as plain
use Rattle.rdf_cursor.specs.declared.symbols.Symbol.{Symbol}
use Rattle.rdf_cursor.specs.declared.symbols.Symbol.TheVariants as symbol
use Rattle.rdf_lex.specs.declared.kinds.Kind.{Kind}
use Rattle.rdf_lex.specs.declared.kinds.Mode.{Mode}
use Rattle.rdf_lex.specs.Escapes.{inside_of}
use Rattle.rdf_lex.specs.Tokens.{Between, IsFirst, Spelled, Tokens, here, onward}
use Rattle.rdf_lex.proofs.TokenLines.{fit_scalars}
use Rattle.schema_documents.specs.Labels.{IsTextLabel}
use Rattle.schema_documents.specs.declared.label.Label.{Label}
use Rattle.term_tokens.specs.Meanings.{text_of}
use Rattle.term_tokens.specs.Scopes.{Scope}
use Rattle.term_tokens.specs.Terms as tokens
use Rattle.term_tokens.specs.Vocabulary.{shorthand_datatype}
use Rattle.term_tokens.proofs.Meanings.{text_of_is}
use Rattle.term_tokens.proofs.NameLines.{chosen, err_is_not_ok, limited_is, ok_same}
use Rattle.term_tokens.proofs.Texts.{shorthand_other}
use Rattle.shexc_constraints.specs.Grammar as low
use Rattle.shexc_constraints.specs.Meanings.{at_name_of, iri_of, iri_ref_of, label_of, shorthand_of, string_of, tag_of, tagged_of, typed_of}
use Rattle.shexc_constraints.specs.Symbols.{Mark, of_symbol}
use Rattle.shexc_constraints.specs.declared.faults.Fault.{Fault}
use Rattle.shexc_constraints.specs.declared.faults.Fault.TheVariants as fault
use Rattle.shexc_reader.proofs.Schemes.{raised_ok}
use Rattle.shexj_writer.specs.Held.{IsHeldLiteral, IsHeldTerm, IsText}
use Rattle.shexj_writer.proofs.Parts.{lowered_held}
use Rattle.conversion_laws.proofs.ResolvedTexts.{behind_utf8, resolved_utf8}

-- ---- tokens that lie ahead

abbrev pub IsTextToken : Spelled → Type 0
IsTextToken t = IsUtf8 t.text

abbrev pub AreTextTokens : Ahead Spelled → Type 0
AreTextTokens finished = Unit {0}
AreTextTokens broken = Unit {0}
AreTextTokens (token t ts) = IsTextToken t × AreTextTokens ts

first_utf8 : (m : Mode) (source : List ℕ) (at place : ℕ) (k : Kind) (text : List ℕ) → IsUtf8 source → IsFirst m source at k text place → IsUtf8 text
first_utf8 m source at place k text u h =
    let n : place + length text - place ≡ length text = omega arith in
    let part = IsUtf8-between source place (place + length text) u (omega arith) h.skipped.cut h.cut in
    subst IsUtf8 (ap (λ (i : ℕ). take i (drop place source)) n ∙ sym h.lent) part

between_texts : (m : Mode) (source : List ℕ) {at to : ℕ} {ts : List Spelled} → IsUtf8 source → Between m source at ts to → AreTextTokens (prepend ts finished)
between_texts m source u here = tt
between_texts m source u (onward {at} {place} {to} {k} {text} {ts} first others) = (first_utf8 m source at place k text u first, between_texts m source u others)

pub tokens_texts : (m : Mode) (source : List ℕ) (ts : List Spelled) → IsUtf8 source → Tokens m source ts → AreTextTokens (prepend ts finished)
tokens_texts m source ts u h = between_texts m source u h.1

taken : (ts r : Ahead Spelled) (t : Spelled) → ts ≡ token t r → AreTextTokens ts → IsTextToken t × AreTextTokens r
taken ts r t e h = subst AreTextTokens e h

-- behind one token
pub is_behind : {A : Type 0} (class : Spelled → Result A Fault) (x : A) (ts r : Ahead Spelled) → Is class x ts r → AreTextTokens ts → AreTextTokens r
is_behind class x ts r (t, e, k) u = (taken ts r t e u).1

pub mark_behind : (a : Symbol) (ts r : Ahead Spelled) → Mark a ts r → AreTextTokens ts → AreTextTokens r
mark_behind a ts r (t, h) u = is_behind (of_symbol a) t ts r h u

-- a phrase any number of times
pub many_texts : {S : Type 0} (One : S → S → Phrase Spelled) (Good : S → Type 0) → ((a b : S) (ts r : Ahead Spelled) → One a b ts r → Good a → AreTextTokens ts → Good b × AreTextTokens r)
    → (s y : S) (ts r : Ahead Spelled) → Many One s y ts r → Good s → AreTextTokens ts → Good y × AreTextTokens r
many_texts One Good each s y ts r none h u = (h, u)
many_texts One Good each s y ts r (more {x = x} {mid = m} p rest) h u = let i = each s x ts m p h u in many_texts One Good each x y m r rest i.0 i.1

-- ---- what single tokens stand for

-- the base and the IRI of each prefix are UTF-8
pub record AreTextNames (v : Scope) : Type 0 where
  pub base : IsUtf8 v.base
  pub prefixes : (prefix iri : List ℕ) → v.prefixes prefix ≡ Some iri → IsUtf8 iri

meaning_utf8 : (t : Spelled) (text : List ℕ) → text_of t ≡ Some text → IsUtf8 (encode_utf8_all text)
meaning_utf8 t text f = (text, (fit_scalars (inside_of t.kind) text (text_of_is t text f).fitting, refl))

-- the label of a blank node
pub blank_text : (t : Spelled) (name : List ℕ) → IsTextToken t → label_of t ≡ Ok name → IsText name
unfolding label_of tokens.label_of
blank_text t name h e =
    let label = after_first tokens.is_colon t.text in
    let c = chosen (is_symbol symbol.BlankLabel t) plain.Syntax (tokens.limited false label (chars label)) name (raised_ok (tokens.label_of false t) name e) in
    subst IsText (limited_is false label (chars label) name c.1) (scalars-chars label (behind_utf8 58 t.text (omega arith) h))

-- the text of a string
lexical_text : (t : Spelled) (o : Option (List ℕ)) (lex : List ℕ) → text_of t ≡ o → tokens.lexical false o ≡ Ok lex → IsText lex
lexical_text t None lex f e = absurd (err_is_not_ok plain.Syntax lex e)
lexical_text t (Some text) lex f e = subst IsText (limited_is false (encode_utf8_all text) text lex e) (fit_scalars (inside_of t.kind) text (text_of_is t text f).fitting)

string_text : (t : Spelled) (lex : List ℕ) → string_of t ≡ Ok lex → IsText lex
unfolding string_of tokens.string_of
string_text t lex e = lexical_text t (text_of t) lex refl (chosen (is_symbol symbol.Str t) plain.Syntax (tokens.lexical false (text_of t)) lex (raised_ok (tokens.string_of false t) lex e)).1

-- a tag behind its `@`
abbrev tag_in : Spelled → List ℕ
tag_in t = chars (after_first tokens.is_at t.text)

low_tag : (t : Spelled) → IsTextToken t → IsText (map to_ascii_lowercase (tag_in t))
low_tag t h = lowered_held (tag_in t) (scalars-chars (after_first tokens.is_at t.text) (behind_utf8 64 t.text (omega arith) h))

pub tag_text : (t : Spelled) (text : List ℕ) → IsTextToken t → tag_of t ≡ Ok text → IsText text
unfolding tag_of
tag_text t text h e =
    let c = chosen (is_among tokens.tags t) fault.Syntax (Ok (map to_ascii_lowercase (tag_in t))) text e in
    subst IsText (ok_same (map to_ascii_lowercase (tag_in t)) text c.1) (low_tag t h)

-- ---- literals

no_tag : (o : Option (List ℕ)) → o ≡ None → IsSome o → ⊥
no_tag None e some = true≢false (sym some)
no_tag (Some tag) e some = cc

untagged : (lex datatype : List ℕ) → IsText lex → IsText datatype → datatype ≢ rdf_lang_string → IsHeldTerm (tokens.typed lex datatype)
untagged lex datatype h k other = record {
  lex = h;
  datatype = k;
  lang = tt;
  parts = record { tagged = ((λ some. absurd (no_tag None refl some)), (λ is. absurd (other is))); lowered = tt };
}

tagged_held : (lex : List ℕ) (t : Spelled) (x : Term) → IsText lex → IsTextToken t → tagged_of lex t ≡ Ok x → IsHeldTerm x
unfolding tagged_of tokens.tagged_of
tagged_held lex t x h u e =
    let tag = map to_ascii_lowercase (tag_in t) in
    let literal : LiteralParts = record { lex = lex; datatype = rdf_lang_string; lang = Some tag } in
    let c = chosen (is_among tokens.tags t) plain.Syntax (Ok (terms.Lit literal)) x (raised_ok (tokens.tagged_of lex t) x e) in
    let own : IsHeldLiteral literal = record {
      lex = h;
      datatype = refl;
      lang = low_tag t u;
      parts = record { tagged = ((λ some. refl), (λ is. refl)); lowered = lowered (tag_in t) };
    } in
    subst IsHeldTerm (ok_same (terms.Lit literal) x c.1) own

typed_by_held : (lex : List ℕ) (r : Result (List ℕ) any.Fault) (x : Term) → IsText lex → ((iri : List ℕ) → r ≡ Ok iri → IsUtf8 iri) → tokens.typed_by lex r ≡ Ok x → IsHeldTerm x
typed_by_held lex (Err f) x h k e = absurd (err_is_not_ok f x e)
typed_by_held lex (Ok iri) x h k e = by (same_text (chars iri) rdf_lang_string) refl e
  where
    by : (b : Bool) → same_text (chars iri) rdf_lang_string ≡ b → cond b (Err plain.Syntax) (Ok (tokens.typed lex (chars iri))) ≡ Ok x → IsHeldTerm x
    by true f g = absurd (err_is_not_ok plain.Syntax x g)
    by false f g = subst IsHeldTerm (ok_same (tokens.typed lex (chars iri)) x g) (untagged lex (chars iri) h (scalars-chars iri (k iri refl)) (differs (chars iri) f))

short_text : (a b c : Bool) → IsText (cond a xsd_integer (cond b xsd_decimal (cond c xsd_double xsd_boolean)))
short_text true b c = refl
short_text false true c = refl
short_text false false true = refl
short_text false false false = refl

shorthand_held : (t : Spelled) (x : Term) → IsTextToken t → shorthand_of t ≡ Ok x → IsHeldTerm x
unfolding shorthand_of tokens.shorthand_of
shorthand_held t x u e =
    let s = symbol_of t.kind t.text in
    let literal = tokens.typed (chars t.text) (shorthand_datatype s) in
    let c = chosen (is_among tokens.shorthands t) plain.Syntax (tokens.limited false t.text literal) x (raised_ok (tokens.shorthand_of false t) x e) in
    let datatype : IsText (shorthand_datatype s) = short_text (same_symbol s symbol.Integer) (same_symbol s symbol.Decimal) (same_symbol s symbol.Double) in
    subst IsHeldTerm (limited_is false t.text literal x c.1) (untagged (chars t.text) (shorthand_datatype s) (scalars-chars t.text u) datatype (λ is. shorthand_other s is))

not_lang : xsd_string ≢ rdf_lang_string
not_lang e = true≢false (sym (ap (λ (x : List ℕ). nat_eq (length x) 53) e))

type_text : IsText (chars rdf_type)
type_text = scalars-chars rdf_type (IsUtf8-from_ascii rdf_type (ascii_codes rdf_type refl))

module _ (v : Scope) (p : AreTextNames v) where
  resolved_held : (t : Spelled) (iri : List ℕ) (o : Option (List ℕ)) → text_of t ≡ o → tokens.resolved false v o ≡ Ok iri → IsUtf8 iri
  resolved_held t iri None f e = absurd (err_is_not_ok plain.Syntax iri e)
  resolved_held t iri (Some text) f e =
      let whole = resolved_text v.base (encode_utf8_all text) in
      subst IsUtf8 (limited_is false whole whole iri e) (resolved_utf8 v.base (encode_utf8_all text) p.base (meaning_utf8 t text f))

  joined_held : (t : Spelled) (iri : List ℕ) (o q : Option (List ℕ)) → text_of t ≡ o → v.prefixes (tokens.prefix_of t) ≡ q → tokens.joined false o q ≡ Ok iri → IsUtf8 iri
  joined_held t iri None q f k e = absurd (err_is_not_ok plain.Syntax iri e)
  joined_held t iri (Some local) None f k e = absurd (err_is_not_ok plain.Prefix iri e)
  joined_held t iri (Some local) (Some front) f k e =
      let whole = front ++ encode_utf8_all local in
      subst IsUtf8 (limited_is false whole whole iri e) (IsUtf8-append front (encode_utf8_all local) (p.prefixes (tokens.prefix_of t) front k) (meaning_utf8 t local f))

  name_held : (t : Spelled) (iri : List ℕ) → tokens.name_in false v t ≡ Ok iri → IsUtf8 iri
  name_held t iri e = joined_held t iri (text_of t) (v.prefixes (tokens.prefix_of t)) refl refl e

  reference_held : (t : Spelled) (iri : List ℕ) → tokens.iri_ref_of false v t ≡ Ok iri → IsUtf8 iri
  unfolding tokens.iri_ref_of
  reference_held t iri e = resolved_held t iri (text_of t) refl (chosen (is_symbol symbol.IriRef t) plain.Syntax (tokens.resolved false v (text_of t)) iri e).1

  token_held : (t : Spelled) (iri : List ℕ) → tokens.iri_of false v t ≡ Ok iri → IsUtf8 iri
  unfolding tokens.iri_of
  token_held t iri e = by (is_among tokens.names t) e
    where
      by : (b : Bool) → cond b (tokens.name_in false v t) (tokens.iri_ref_of false v t) ≡ Ok iri → IsUtf8 iri
      by true f = name_held t iri f
      by false f = reference_held t iri f

  -- what is taken for a base or a prefix
  pub iri_ref_utf8 : (t : Spelled) (iri : List ℕ) → iri_ref_of v t ≡ Ok iri → IsUtf8 iri
  unfolding iri_ref_of
  iri_ref_utf8 t iri e = reference_held t iri (raised_ok (tokens.iri_ref_of false v t) iri e)

  pub iri_text : (t : Spelled) (iri : List ℕ) → iri_of v t ≡ Ok iri → IsText (chars iri)
  unfolding iri_of
  iri_text t iri e = scalars-chars iri (token_held t iri (raised_ok (tokens.iri_of false v t) iri e))

  pub at_name_text : (t : Spelled) (iri : List ℕ) → at_name_of v t ≡ Ok iri → IsText (chars iri)
  unfolding at_name_of tokens.at_name_of
  at_name_text t iri e = scalars-chars iri (name_held t iri (chosen (is_symbol symbol.AtName t) plain.Syntax (tokens.name_in false v t) iri (raised_ok (tokens.at_name_of false v t) iri e)).1)

  typed_held : (lex : List ℕ) (t : Spelled) (x : Term) → IsText lex → typed_of v lex t ≡ Ok x → IsHeldTerm x
  unfolding typed_of tokens.typed_of
  typed_held lex t x h e = typed_by_held lex (tokens.iri_of false v t) x h (λ iri f. token_held t iri f) (raised_ok (tokens.typed_of false v lex t) x e)

  -- ---- phrases

  pub iri_held : (i : List ℕ) (ts r : Ahead Spelled) → low.Iri v i ts r → AreTextTokens ts → IsText (chars i) × AreTextTokens r
  iri_held i ts r (t, e, k) u = (iri_text t i k, (taken ts r t e u).1)

  pub predicate_held : (i : List ℕ) (ts r : Ahead Spelled) → low.Predicate v i ts r → AreTextTokens ts → IsText (chars i) × AreTextTokens r
  predicate_held i ts r (inl (is, h)) u = (subst (λ (x : List ℕ). IsText (chars x)) is type_text, mark_behind symbol.A ts r h u)
  predicate_held i ts r (inr h) u = iri_held i ts r h u

  pub label_held : (l : Label) (ts r : Ahead Spelled) → low.AnyLabel v l ts r → AreTextTokens ts → IsTextLabel l × AreTextTokens r
  label_held l ts r (inl (i, is, h)) u = let k = iri_held i ts r h u in (subst IsTextLabel is k.0, k.1)
  label_held l ts r (inr (name, is, (t, e, k))) u = let w = taken ts r t e u in (subst IsTextLabel is (blank_text t name w.0 k), w.1)

  suffix_held : (lex : List ℕ) (x : Term) (ts r : Ahead Spelled) → IsText lex → low.Suffix v lex x ts r → AreTextTokens ts → IsHeldTerm x × AreTextTokens r
  suffix_held lex x ts r h (inl (t, e, k)) u = let w = taken ts r t e u in (tagged_held lex t x h w.0 k, w.1)
  suffix_held lex x ts r h (inr (inl (n, c, (t, e, k)))) u = (typed_held lex t x h k, (taken n r t e (mark_behind symbol.Carets ts n c u)).1)
  suffix_held lex x ts r h (inr (inr (is, apart, n))) u = (subst IsHeldTerm is (untagged lex xsd_string h refl not_lang), subst AreTextTokens n u)

  pub literal_held : (x : Term) (ts r : Ahead Spelled) → low.Literal v x ts r → AreTextTokens ts → IsHeldTerm x × AreTextTokens r
  literal_held x ts r (inl (lex, (m, (t, e, k), s))) u = suffix_held lex x m r (string_text t lex k) s (taken ts m t e u).1
  literal_held x ts r (inr (t, e, k)) u = let w = taken ts r t e u in (shorthand_held t x w.0 k, w.1)

  pub object_held : (x : Term) (ts r : Ahead Spelled) → low.Object v x ts r → AreTextTokens ts → IsHeldTerm x × AreTextTokens r
  object_held x ts r (inl (i, is, h)) u = let k = iri_held i ts r h u in (subst IsHeldTerm is k.0, k.1)
  object_held x ts r (inr h) u = literal_held x ts r h u

  annotation_behind : (a b : Unit {0}) (ts r : Ahead Spelled) → low.Annotation v ts r → Unit {0} → AreTextTokens ts → Unit {0} × AreTextTokens r
  annotation_behind a b ts r (q, x, (m, c, (n, h, k))) g u = (tt, (object_held x n r k (predicate_held q m n h (mark_behind symbol.Slashes ts m c u)).1).1)

  pub annotations_behind : (ts r : Ahead Spelled) → low.Each (low.Annotation v) ts r → AreTextTokens ts → AreTextTokens r
  annotations_behind ts r h u = (many_texts _ (λ (s : Unit {0}). Unit {0}) annotation_behind tt tt ts r h tt u).1

  pub notes_behind : (whole : Bool) (ts r : Ahead Spelled) → low.Notes v whole ts r → AreTextTokens ts → AreTextTokens r
  notes_behind true ts r h u = annotations_behind ts r h u
  notes_behind false ts r h u = subst AreTextTokens h u

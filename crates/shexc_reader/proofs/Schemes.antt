-- Each import has a scheme where the base has one: by the form of each statement.
use Rattle.std.proofs.Common.{◌≡◌, inl, inr, ℕ, ◌<◌, Bool, true, false, cond, List, [], ◌∷◌, ◌++◌, codes, is_some, Option, Some, None, IsSome, IfSome, IsTrue, Result, Ok, Err, encode_utf8_all, refl, sym, ap, subst, ◌∙◌, arith}
use Rattle.std.specs.List.{All, list_all}
use Rattle.std.specs.Char.{is_ascii_alphabetic}
use Rattle.std.specs.Option.{option_or}
use Rattle.std.specs.Str.{chars, bytes_eq, IsAscii}
use Rattle.std.proofs.lemmas.Bool.{false≢true}
use Rattle.std.proofs.lemmas.Bool.Decides.{nat_tests}
use Rattle.std.proofs.lemmas.List.{append_assoc}
use Rattle.std.proofs.lemmas.List.Elements.{All-nil, All-push, All-weaker}
use Rattle.std.proofs.lemmas.List.Sums.{AllPass-from_list_all}
use Rattle.std.proofs.lemmas.Option.{same_Some}
use Rattle.std.proofs.lemmas.Str.{encodes-append, encodes-IsAscii, IsAscii-append}
use Rattle.std.proofs.lemmas.Str.Ascii.{IsAscii-nil, IsAscii-cons, IsAscii-from_all}
use Rattle.iri_resolve.specs.Text.{question, hash, before}
use Rattle.iri_resolve.specs.Reference.{components_of, front_scheme, is_scheme, is_scheme_byte, scheme_of}
use Rattle.iri_resolve.specs.Resolution.{resolved_text, with_mark_after, with_mark_before}
use Rattle.iri_resolve.proofs.Decomposed.{decomposition, front_begins}
use Rattle.iri_resolve.proofs.Schemes.{scheme-resolved_text}
use Rattle.iri_resolve.proofs.Unique.{both, front_scheme-front}
use Rattle.rdf_terms.proofs.Characters.{front_chars, ascii_codes}
use Rattle.rdf_cursor.specs.Ahead.{Ahead, finished}
use Rattle.rdf_cursor.specs.Symbols.{is_symbol, is_among}
use Rattle.rdf_cursor.specs.declared.stops.Fault as any
use Rattle.rdf_cursor.specs.declared.stops.Fault.TheVariants as plain
use Rattle.rdf_cursor.specs.declared.symbols.Symbol.TheVariants as symbol
use Rattle.rdf_lex.specs.Tokens.{Spelled}
use Rattle.term_tokens.specs.Meanings.{text_of}
use Rattle.term_tokens.specs.Scopes.{Scope}
use Rattle.term_tokens.specs.Terms as tokens
use Rattle.term_tokens.proofs.NameLines.{err_is_not_ok, ok_same, chosen, limited_is}
use Rattle.shexc_constraints.specs.Meanings.{iri_of, iri_ref_of}
use Rattle.shexc_constraints.specs.Stops.{fault_by, raised}
use Rattle.shexc_reader.specs.Documents.{max_depth, at_first}
use Rattle.shexc_reader.specs.Grammar as g
use Rattle.shexc_reader.specs.Laws.{HasScheme, ImportsHaveSchemes}
use Rattle.shexc_reader.specs.States.{State, declared}
use Rattle.shexc_reader.proofs.Ordered.{many_keep}

-- a text that begins with a scheme and `:`
pub record IsLed (text : List ℕ) : Type 0 where
  pub name : List ℕ
  pub rest : List ℕ
  pub named : is_scheme name ≡ true
  pub whole : text ≡ name ++ codes ":" ++ rest

pub led : (text : List ℕ) → IsSome (scheme_of text) → IsLed text
led text some = by (scheme_of text) refl some (decomposition text).scheme
  where
    by : (o : Option (List ℕ)) → scheme_of text ≡ o → IsSome o → IfSome o (λ name. IsTrue (is_scheme name)) → IsLed text
    by None e h s = absurd (false≢true h)
    by (Some name) e h s =
        let c = components_of text in
        let a : List ℕ = with_mark_before (codes "//") c.authority in
        let q : List ℕ = with_mark_before (codes "?") c.query in
        let f : List ℕ = with_mark_before (codes "#") c.fragment in
        record {
          name = name;
          rest = a ++ c.path ++ q ++ f;
          named = s;
          whole = (decomposition text).whole
              ∙ ap (λ (o : Option (List ℕ)). with_mark_after (codes ":") o ++ a ++ c.path ++ q ++ f) e
              ∙ ap (λ (t : List ℕ). t ++ q ++ f) (append_assoc (name ++ codes ":") a c.path)
              ∙ ap (λ (t : List ℕ). t ++ f) (append_assoc (name ++ codes ":") (a ++ c.path) q)
              ∙ append_assoc (name ++ codes ":") (a ++ c.path ++ q) f;
        }

has_scheme : (name rest : List ℕ) → is_scheme name ≡ true → IsSome (scheme_of (name ++ codes ":" ++ rest))
has_scheme name rest e = ap is_some (ap front_scheme (front_begins name rest e) ∙ front_scheme-front name (before question (before hash rest)) e)

-- with more behind it a text has its scheme
longer : (text more : List ℕ) → IsSome (scheme_of text) → IsSome (scheme_of (text ++ more))
longer text more h =
    let l = led text h in
    let e : text ++ more ≡ l.name ++ codes ":" ++ (l.rest ++ more) = ap (λ (t : List ℕ). t ++ more) l.whole ∙ append_assoc (l.name ++ codes ":") l.rest more in
    subst (λ (t : List ℕ). IsSome (scheme_of t)) (sym e) (has_scheme l.name (l.rest ++ more) l.named)

-- a scheme is ASCII, so the bytes of the characters of a text have it
letter_low : (b : ℕ) → is_ascii_alphabetic b ≡ true → b < 128
letter_low b e = grind (arith, nat_tests)

byte_low : (b : ℕ) → is_scheme_byte b ≡ true → b < 128
byte_low b e = grind (arith, nat_tests)

pub scheme_low : (name : List ℕ) → is_scheme name ≡ true → IsAscii name
scheme_low [] e = IsAscii-nil
scheme_low (b ∷ bs) e =
    let w = both (is_ascii_alphabetic b) (list_all is_scheme_byte bs) e in
    IsAscii-cons b bs (letter_low b w.0)
    (IsAscii-from_all bs (All-weaker (λ (x : ℕ). is_scheme_byte x ≡ true) (λ (x : ℕ). x < 128) byte_low bs (AllPass-from_list_all is_scheme_byte bs w.1)))

written : (text : List ℕ) → IsSome (scheme_of text) → HasScheme (chars text)
written text h =
    let l = led text h in
    let front = l.name ++ codes ":" in
    let low : IsAscii front = IsAscii-append l.name (codes ":") (scheme_low l.name l.named) (ascii_codes (codes ":") refl) in
    let e : encode_utf8_all (chars text) ≡ front ++ encode_utf8_all (chars l.rest) =
    ap (λ (t : List ℕ). encode_utf8_all (chars t)) l.whole ∙ ap encode_utf8_all (front_chars front l.rest low)
    ∙ encodes-append front (chars l.rest) ∙ ap (λ (t : List ℕ). t ++ encode_utf8_all (chars l.rest)) (encodes-IsAscii front low) in
    subst (λ (t : List ℕ). IsSome (scheme_of t)) (sym e) (has_scheme l.name (encode_utf8_all (chars l.rest)) l.named)

-- the base and the IRI of each prefix have schemes
record AreAbsolute (v : Scope) : Type 0 where
  base : IsSome (scheme_of v.base)
  prefixes : (prefix iri : List ℕ) → v.prefixes prefix ≡ Some iri → IsSome (scheme_of iri)

-- one of two is there where the second is
either_some : (a b : Option (List ℕ)) → IsSome b → IsSome (option_or a b)
either_some None b h = h
either_some (Some name) b h = refl

resolved_scheme : (base reference : List ℕ) → IsSome (scheme_of base) → IsSome (scheme_of (resolved_text base reference))
resolved_scheme base reference h =
    let some = either_some (scheme_of reference) (scheme_of base) h in
    subst IsSome (sym (scheme-resolved_text base reference some)) some

pub raised_ok : {X : Type 0} (r : Result X any.Fault) (x : X) → raised r ≡ Ok x → r ≡ Ok x
raised_ok (Ok y) x e = ap Ok (ok_same y x e)
raised_ok (Err f) x e = absurd (err_is_not_ok (fault_by f) x e)

module _ (v : Scope) (h : AreAbsolute v) where
  resolved_absolute : (iri : List ℕ) (o : Option (List ℕ)) → tokens.resolved false v o ≡ Ok iri → IsSome (scheme_of iri)
  resolved_absolute iri None e = absurd (err_is_not_ok plain.Syntax iri e)
  resolved_absolute iri (Some text) e =
      let whole = resolved_text v.base (encode_utf8_all text) in
      subst (λ (t : List ℕ). IsSome (scheme_of t)) (limited_is false whole whole iri e) (resolved_scheme v.base (encode_utf8_all text) h.base)

  joined_absolute : (t : Spelled) (iri : List ℕ) (o p : Option (List ℕ)) → v.prefixes (tokens.prefix_of t) ≡ p → tokens.joined false o p ≡ Ok iri → IsSome (scheme_of iri)
  joined_absolute t iri None p f e = absurd (err_is_not_ok plain.Syntax iri e)
  joined_absolute t iri (Some local) None f e = absurd (err_is_not_ok plain.Prefix iri e)
  joined_absolute t iri (Some local) (Some front) f e =
      let whole = front ++ encode_utf8_all local in
      subst (λ (t : List ℕ). IsSome (scheme_of t)) (limited_is false whole whole iri e) (longer front (encode_utf8_all local) (h.prefixes (tokens.prefix_of t) front f))

  reference_absolute : (t : Spelled) (iri : List ℕ) → tokens.iri_ref_of false v t ≡ Ok iri → IsSome (scheme_of iri)
  unfolding tokens.iri_ref_of
  reference_absolute t iri e = resolved_absolute iri (text_of t) (chosen (is_symbol symbol.IriRef t) plain.Syntax (tokens.resolved false v (text_of t)) iri e).1

  iri_absolute : (t : Spelled) (iri : List ℕ) → iri_of v t ≡ Ok iri → IsSome (scheme_of iri)
  unfolding iri_of tokens.iri_of
  iri_absolute t iri e = by (is_among tokens.names t) (raised_ok (tokens.iri_of false v t) iri e)
    where
      by : (b : Bool) → cond b (tokens.name_in false v t) (tokens.iri_ref_of false v t) ≡ Ok iri → IsSome (scheme_of iri)
      by true f = joined_absolute t iri (text_of t) (v.prefixes (tokens.prefix_of t)) refl f
      by false f = reference_absolute t iri f

  iri_ref_absolute : (t : Spelled) (iri : List ℕ) → iri_ref_of v t ≡ Ok iri → IsSome (scheme_of iri)
  unfolding iri_ref_of
  iri_ref_absolute t iri e = reference_absolute t iri (raised_ok (tokens.iri_ref_of false v t) iri e)

-- statements keep it of what is in force, and of the imports
record IsFine (a : State) : Type 0 where
  scope : AreAbsolute a.scope
  imports : All HasScheme a.imports

declared_by : (b : Bool) (iri got : List ℕ) (old : Option (List ℕ)) → IsSome (scheme_of iri) → (old ≡ Some got → IsSome (scheme_of got)) → cond b (Some iri) old ≡ Some got → IsSome (scheme_of got)
declared_by true iri got old h k e = subst (λ (t : List ℕ). IsSome (scheme_of t)) (same_Some iri got e) h
declared_by false iri got old h k e = k e

declared_fine : (prefix iri : List ℕ) (a : State) → IsSome (scheme_of iri) → IsFine a → IsFine (declared prefix iri a)
declared_fine prefix iri a h p = record {
  scope = record {
    base = p.scope.base;
    prefixes = λ other got e. declared_by (bytes_eq other prefix) iri got (a.scope.prefixes other) h (p.scope.prefixes other got) e;
  };
  imports = p.imports;
}

statement_fine : (bounded : Bool) (d : ℕ) (a b : State) (ts r : Ahead Spelled) → g.Statement bounded d a b ts r → IsFine a → IsFine b
statement_fine bounded d a b ts r (inl (i, is, (m, w, (t, e, h)))) p =
    subst IsFine is (record { scope = record { base = iri_ref_absolute a.scope p.scope t i h; prefixes = p.scope.prefixes }; imports = p.imports })
statement_fine bounded d a b ts r (inr (inl (t, i, is, (m, w, (k, q, (u, e, h)))))) p =
    subst IsFine is (declared_fine (tokens.prefix_of t) i a (iri_ref_absolute a.scope p.scope u i h) p)
statement_fine bounded d a b ts r (inr (inr (inl (i, is, (m, w, (t, e, h)))))) p =
    subst IsFine is (record { scope = p.scope; imports = All-push HasScheme a.imports (chars i) p.imports (written i (iri_absolute a.scope p.scope t i h)) })
statement_fine bounded d a b ts r (inr (inr (inr (inl (e, fresh, is, h))))) p = subst IsFine is (record { scope = p.scope; imports = p.imports })
statement_fine bounded d a b ts r (inr (inr (inr (inr (l, e, is, h))))) p = subst IsFine is (record { scope = p.scope; imports = p.imports })

pub no_prefix : (iri : List ℕ) → Path (Option (List ℕ)) None (Some iri) → ⊥
no_prefix iri e = cc

pub imports_schemed : ImportsHaveSchemes
imports_schemed base source x some (ts, utf8, tokens, h) =
    (many_keep IsFine (g.Statement true max_depth) (λ s y m k o p. statement_fine true max_depth s y m k o p) (at_first base) x _ finished h
    (record { scope = record { base = some; prefixes = λ prefix iri e. absurd (no_prefix iri e) }; imports = All-nil HasScheme })).imports

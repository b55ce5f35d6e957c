-- Literals, and IRIs or blank nodes, of any grammar: with what they begin, and that they are read just where they are spelled.
use Rattle.std.proofs.Common.{◌≡◌, ℕ, Bool, true, false, cond, List, [], ◌∷◌, Result, Ok, Err, refl, inl, inr, ◌||◌}
use Rattle.std.specs.Str.{chars}
use Rattle.rdf_terms.specs.declared.terms.Term.{Term}
use Rattle.rdf_lex.specs.Tokens.{Spelled}
use Rattle.rdf_cursor.specs.Ahead.{Ahead, next_is}
use Rattle.rdf_cursor.specs.Phrases.{Is}
use Rattle.rdf_cursor.specs.Properties.{IsLocal, Consumes}
use Rattle.rdf_cursor.specs.Readers.{Reader, give}
use Rattle.rdf_cursor.specs.Symbols.{symbol_of, same_symbol, is_symbol, is_among, of_symbol}
use Rattle.rdf_cursor.specs.declared.stops.Fault.{Fault}
use Rattle.rdf_cursor.specs.declared.stops.Fault.TheVariants.{Syntax}
use Rattle.rdf_cursor.specs.declared.symbols.Symbol.{Symbol}
use Rattle.rdf_cursor.specs.declared.symbols.Symbol.TheVariants as symbol
use Rattle.rdf_cursor.proofs.Completeness.{one_read}
use Rattle.rdf_cursor.proofs.Consuming.{consumes_one, consumes_bind}
use Rattle.rdf_cursor.proofs.Locality.{local_give, local_one, local_bind, local_either}
use Rattle.rdf_cursor.proofs.Soundness.{Meets, meets_give, meets_one, meets_bind, meets_either}
use Rattle.term_tokens.specs.Literals.{Literal, Resource, literal_by, resource_by}
use Rattle.term_tokens.specs.Meanings.{text_of}
use Rattle.term_tokens.specs.Scopes.{Scope}
use Rattle.term_tokens.specs.Terms.{iri_term, resolved, name_in, iri_ref_of, iri_of, absolute, absolute_of, is_quoted_once, lexical, string_of, short_string_of, tagged_of, shorthand_of, blank_of, tags, shorthands}
use Rattle.term_tokens.proofs.Nexts.{Next, outside, no_next, begins, first, guarded, guarded_one}

-- with which token a class begins
pub string_begins : (k : Bool) (x : List ℕ) (ts r : Ahead Spelled) → Is (string_of k) x ts r → Next (symbol.Str ∷ []) ts
unfolding string_of
string_begins k x ts r h = guarded_one symbol.Str (string_of k) (λ t. lexical k (text_of t)) (λ t. refl) x ts r h

tested : {A : Type 0} (b : Bool) (c : Result A Fault) (x : A) → cond b c (Err Syntax) ≡ Ok x → c ≡ Ok x
tested true c x e = e
tested false c x e = absurd cc

pub short_string_begins : (k : Bool) (x : List ℕ) (ts r : Ahead Spelled) → Is (short_string_of k) x ts r → Next (symbol.Str ∷ []) ts
unfolding short_string_of
short_string_begins k x ts r (t, e, h) = string_begins k x ts r (t, e, tested (is_quoted_once (chars t.text)) (string_of k t) x h)

pub absolute_begins : (k : Bool) (x : List ℕ) (ts r : Ahead Spelled) → Is (absolute_of k) x ts r → Next (symbol.IriRef ∷ []) ts
unfolding absolute_of
absolute_begins k x ts r h = guarded_one symbol.IriRef (absolute_of k) (λ t. absolute k (text_of t)) (λ t. refl) x ts r h

pub tagged_begins : (lex : List ℕ) (x : Term) (ts r : Ahead Spelled) → Is (tagged_of lex) x ts r → Next tags ts
unfolding tagged_of
tagged_begins lex x ts r h = guarded tags (tagged_of lex) _ (λ t. refl) x ts r h

pub shorthand_begins : (k : Bool) (x : Term) (ts r : Ahead Spelled) → Is (shorthand_of k) x ts r → Next shorthands ts
unfolding shorthand_of
shorthand_begins k x ts r h = guarded shorthands (shorthand_of k) _ (λ t. refl) x ts r h

pub blank_begins : (k : Bool) (x : Term) (ts r : Ahead Spelled) → Is (blank_of k) x ts r → Next (symbol.BlankLabel ∷ []) ts
unfolding blank_of
blank_begins k x ts r h = guarded_one symbol.BlankLabel (blank_of k) _ (λ t. refl) x ts r h

-- with which tokens an IRI begins
abbrev pub iris : List Symbol
iris = symbol.PnameNs ∷ symbol.PnameLn ∷ symbol.IriRef ∷ []

iri_bits : {A : Type 0} (a b c : Bool) (x y : Result A Fault) (z : A) → cond (a || (b || false)) x (cond c y (Err Syntax)) ≡ Ok z → (a || (b || (c || false))) ≡ true
iri_bits true b c x y z e = refl
iri_bits false true c x y z e = refl
iri_bits false false true x y z e = refl
iri_bits false false false x y z e = absurd cc

iri_class : (k : Bool) (v : Scope) (x : List ℕ) (t : Spelled) → iri_of k v t ≡ Ok x → is_among iris t ≡ true
unfolding iri_of iri_ref_of is_among is_symbol
iri_class k v x t e =
    let s = symbol_of t.kind t.text in
    iri_bits (same_symbol s symbol.PnameNs) (same_symbol s symbol.PnameLn) (same_symbol s symbol.IriRef) (name_in k v t) (resolved k v (text_of t)) x e

pub iri_begins : (k : Bool) (v : Scope) (x : List ℕ) (ts r : Ahead Spelled) → Is (iri_of k v) x ts r → Next iris ts
iri_begins k v x ts r h = rw h.1 (iri_class k v x h.0 h.2)

-- literals
module _ (marks : List Symbol) (string : Spelled → Result (List ℕ) Fault) (tagged datatyped : List ℕ → Spelled → Result Term Fault) where
  pub local_literal : IsLocal (literal_by marks string tagged datatyped)
  local_literal = local_bind _ _ (local_one _ _) (λ lex. local_either _ _ _ (local_one _ _) (local_either _ _ _ (local_bind _ _ (local_one _ _) (λ _. local_one _ _)) (local_give _)))

  pub consumes_literal : Consumes (literal_by marks string tagged datatyped)
  consumes_literal = consumes_bind _ _ (consumes_one _ _) (λ lex. local_either _ _ _ (local_one _ _) (local_either _ _ _ (local_bind _ _ (local_one _ _) (λ _. local_one _ _)) (local_give _)))

  pub literal_meets : (ts : Ahead Spelled) → Meets (literal_by marks string tagged datatyped) (λ x r. Literal string tagged datatyped x ts r) ts
  literal_meets ts = meets_bind (meets_one (λ lex m s. meets_either (meets_one (λ x r h. (lex, (m, s, inr (inl h)))))
      (meets_either (meets_bind (meets_one (λ w n c. meets_one (λ x r h. (lex, (m, s, inr (inr (n, (w, c), h)))))))) (meets_give (lex, (m, s, inl (refl, refl)))))))

  -- behind it stands no language tag and no `^^`
  pub literal_read : outside (symbol.Carets ∷ []) marks ≡ true → ((lex : List ℕ) (x : Term) (ts r : Ahead Spelled) → Is (tagged lex) x ts r → Next marks ts) → (x : Term) (ts r : Ahead Spelled)
      → Literal string tagged datatyped x ts r → next_is (is_among marks) r ≡ false → next_is (is_symbol symbol.Carets) r ≡ false → literal_by marks string tagged datatyped ts ≡ Ok (x, r)
  literal_read apart starts x ts r (lex, (m, s, inl (e, n))) f g = rw (one_read Syntax string lex ts m s, n, f, g, e) refl
  literal_read apart starts x ts r (lex, (m, s, inr (inl h))) f g = rw (one_read Syntax string lex ts m s, starts lex x m r h, one_read Syntax (tagged lex) x m r h) refl
  literal_read apart starts x ts r (lex, (m, s, inr (inr (n, (w, c), h)))) f g =
      rw (
        one_read Syntax string lex ts m s,
        no_next (symbol.Carets ∷ []) marks m apart (first symbol.Carets w m n c),
        begins symbol.Carets w m n c,
        one_read Syntax (of_symbol symbol.Carets) w m n c,
        one_read Syntax (datatyped lex) x n r h,
      ) refl

-- IRIs or blank nodes
module _ (iri : Reader Spelled Fault (List ℕ)) (class : Spelled → Result (List ℕ) Fault) (blank : Spelled → Result Term Fault) where
  pub local_resource : IsLocal iri → IsLocal (resource_by iri blank)
  local_resource l = local_either _ _ _ (local_one _ _) (local_bind _ _ l (λ i. local_give _))

  pub resource_meets : (ts : Ahead Spelled) → Meets iri (λ i r. Is class i ts r) ts → Meets (resource_by iri blank) (λ x r. Resource class blank x ts r) ts
  resource_meets ts each = meets_either (meets_one (λ x r h. inr h)) (meets_bind {p = iri} {f = λ i. give (iri_term i)} (record { holds = λ y e. meets_give (inl (y.0, refl, each.holds y e)) }))

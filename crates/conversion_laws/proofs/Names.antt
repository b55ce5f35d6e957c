-- The IRIs, labels and terms that tokens stand for have a form in ShExJ, where the base and the prefixes have schemes.
use Rattle.std.proofs.Common.{◌≡◌, inl, inr, ℕ, Bool, true, false, cond, List, ◌++◌, Option, Some, None, IsSome, Result, Ok, Err, encode_utf8_all, refl, sym, subst}
use Rattle.std.specs.Option.{option_or}
use Rattle.std.specs.Str.{chars}
use Rattle.iri_resolve.specs.Reference.{scheme_of}
use Rattle.iri_resolve.specs.Resolution.{resolved_text}
use Rattle.iri_resolve.proofs.Schemes.{scheme-resolved_text}
use Rattle.rdf_terms.specs.Texts.{same_text}
use Rattle.rdf_terms.specs.Vocabulary.{rdf_lang_string, xsd_integer, xsd_decimal, xsd_double, xsd_boolean}
use Rattle.rdf_terms.specs.declared.terms.Term.{Term}
use Rattle.rdf_cursor.specs.Ahead.{Ahead}
use Rattle.rdf_cursor.specs.Symbols.{symbol_of, same_symbol, is_symbol, is_among}
use Rattle.rdf_cursor.specs.declared.stops.Fault as any
use Rattle.rdf_cursor.specs.declared.stops.Fault.TheVariants as plain
use Rattle.rdf_cursor.specs.declared.symbols.Symbol.TheVariants as symbol
use Rattle.rdf_lex.specs.Tokens.{Spelled}
use Rattle.schema_documents.specs.declared.label.Label.{Label}
use Rattle.term_tokens.specs.Meanings.{text_of}
use Rattle.term_tokens.specs.Scopes.{Scope}
use Rattle.term_tokens.specs.Terms as tokens
use Rattle.term_tokens.specs.Vocabulary.{shorthand_datatype}
use Rattle.term_tokens.proofs.NameLines.{err_is_not_ok, ok_same, chosen, limited_is}
use Rattle.shexc_constraints.specs.Grammar as low
use Rattle.shexc_constraints.specs.Meanings.{iri_of, iri_ref_of, at_name_of, typed_of, tagged_of, shorthand_of}
use Rattle.shexc_reader.proofs.Schemes.{raised_ok}
use Rattle.shexj_writer.specs.Expressible.{IsExpressibleTerm, IsLabel}
use Rattle.conversion_laws.proofs.Absolute.{led_on, label_led, IsWritten, datatype_led, string_written, integer_written, decimal_written, double_written, boolean_written, without_type}
use Rattle.shexc_reader.proofs.Schemes.{IsLed, led}

-- the base and the IRI of each prefix have schemes
pub record AreAbsolute (v : Scope) : Type 0 where
  pub base : IsSome (scheme_of v.base)
  pub prefixes : (prefix iri : List ℕ) → v.prefixes prefix ≡ Some iri → IsSome (scheme_of iri)

either_some : (a b : Option (List ℕ)) → IsSome b → IsSome (option_or a b)
either_some None b h = h
either_some (Some name) b h = refl

resolved_scheme : (base reference : List ℕ) → IsSome (scheme_of base) → IsSome (scheme_of (resolved_text base reference))
resolved_scheme base reference h =
    let some = either_some (scheme_of reference) (scheme_of base) h in
    subst IsSome (sym (scheme-resolved_text base reference some)) some

-- a literal with a datatype whose IRI begins with a scheme
typed_by_form : (lex : List ℕ) (r : Result (List ℕ) any.Fault) (x : Term) → ((iri : List ℕ) → r ≡ Ok iri → IsLed iri) → tokens.typed_by lex r ≡ Ok x → IsExpressibleTerm x
typed_by_form lex (Err f) x h e = absurd (err_is_not_ok f x e)
typed_by_form lex (Ok iri) x h e = by (same_text (chars iri) rdf_lang_string) e
  where
    by : (b : Bool) → cond b (Err plain.Syntax) (Ok (tokens.typed lex (chars iri))) ≡ Ok x → IsExpressibleTerm x
    by true f = absurd (err_is_not_ok plain.Syntax x f)
    by false f = subst IsExpressibleTerm (ok_same (tokens.typed lex (chars iri)) x f) (datatype_led iri (h iri refl))

-- a tag
pub tagged_form : (lex : List ℕ) (t : Spelled) (x : Term) → tagged_of lex t ≡ Ok x → IsExpressibleTerm x
unfolding tagged_of tokens.tagged_of
tagged_form lex t x e =
    let c = chosen (is_among tokens.tags t) plain.Syntax _ x (raised_ok (tokens.tagged_of lex t) x e) in
    subst IsExpressibleTerm (ok_same _ x c.1) without_type

-- a short form
short_written : (a b c : Bool) → IsWritten (cond a xsd_integer (cond b xsd_decimal (cond c xsd_double xsd_boolean)))
short_written true b c = integer_written
short_written false true c = decimal_written
short_written false false true = double_written
short_written false false false = boolean_written

pub shorthand_form : (t : Spelled) (x : Term) → shorthand_of t ≡ Ok x → IsExpressibleTerm x
unfolding shorthand_of tokens.shorthand_of
shorthand_form t x e =
    let s = symbol_of t.kind t.text in
    let literal = tokens.typed (chars t.text) (shorthand_datatype s) in
    let c = chosen (is_among tokens.shorthands t) plain.Syntax (tokens.limited false t.text literal) x (raised_ok (tokens.shorthand_of false t) x e) in
    subst IsExpressibleTerm (limited_is false t.text literal x c.1) (short_written (same_symbol s symbol.Integer) (same_symbol s symbol.Decimal) (same_symbol s symbol.Double))

module _ (v : Scope) (h : AreAbsolute v) where
  resolved_some : (iri : List ℕ) (o : Option (List ℕ)) → tokens.resolved false v o ≡ Ok iri → IsSome (scheme_of iri)
  resolved_some iri None e = absurd (err_is_not_ok plain.Syntax iri e)
  resolved_some iri (Some text) e =
      let whole = resolved_text v.base (encode_utf8_all text) in
      subst (λ (t : List ℕ). IsSome (scheme_of t)) (limited_is false whole whole iri e) (resolved_scheme v.base (encode_utf8_all text) h.base)

  joined_led : (t : Spelled) (iri : List ℕ) (o p : Option (List ℕ)) → v.prefixes (tokens.prefix_of t) ≡ p → tokens.joined false o p ≡ Ok iri → IsLed iri
  joined_led t iri None p f e = absurd (err_is_not_ok plain.Syntax iri e)
  joined_led t iri (Some local) None f e = absurd (err_is_not_ok plain.Prefix iri e)
  joined_led t iri (Some local) (Some front) f e =
      let whole = front ++ encode_utf8_all local in
      subst IsLed (limited_is false whole whole iri e) (led_on front (encode_utf8_all local) (led front (h.prefixes (tokens.prefix_of t) front f)))

  reference_some : (t : Spelled) (iri : List ℕ) → tokens.iri_ref_of false v t ≡ Ok iri → IsSome (scheme_of iri)
  unfolding tokens.iri_ref_of
  reference_some t iri e = resolved_some iri (text_of t) (chosen (is_symbol symbol.IriRef t) plain.Syntax (tokens.resolved false v (text_of t)) iri e).1

  -- what is taken for a base or a prefix has a scheme
  pub iri_ref_some : (t : Spelled) (iri : List ℕ) → iri_ref_of v t ≡ Ok iri → IsSome (scheme_of iri)
  unfolding iri_ref_of
  iri_ref_some t iri e = reference_some t iri (raised_ok (tokens.iri_ref_of false v t) iri e)

  token_led : (t : Spelled) (iri : List ℕ) → tokens.iri_of false v t ≡ Ok iri → IsLed iri
  unfolding tokens.iri_of
  token_led t iri e = by (is_among tokens.names t) e
    where
      by : (b : Bool) → cond b (tokens.name_in false v t) (tokens.iri_ref_of false v t) ≡ Ok iri → IsLed iri
      by true f = joined_led t iri (text_of t) (v.prefixes (tokens.prefix_of t)) refl f
      by false f = led iri (reference_some t iri f)

  pub iri_led : (t : Spelled) (iri : List ℕ) → iri_of v t ≡ Ok iri → IsLed iri
  unfolding iri_of
  iri_led t iri e = token_led t iri (raised_ok (tokens.iri_of false v t) iri e)

  pub at_name_led : (t : Spelled) (iri : List ℕ) → at_name_of v t ≡ Ok iri → IsLed iri
  unfolding at_name_of tokens.at_name_of
  at_name_led t iri e =
      let c = chosen (is_symbol symbol.AtName t) plain.Syntax (tokens.name_in false v t) iri (raised_ok (tokens.at_name_of false v t) iri e) in
      joined_led t iri (text_of t) (v.prefixes (tokens.prefix_of t)) refl c.1

  pub typed_form : (lex : List ℕ) (t : Spelled) (x : Term) → typed_of v lex t ≡ Ok x → IsExpressibleTerm x
  unfolding typed_of tokens.typed_of
  typed_form lex t x e = typed_by_form lex (tokens.iri_of false v t) x (λ iri f. token_led t iri f) (raised_ok (tokens.typed_of false v lex t) x e)

  -- labels and references
  pub label_form : (l : Label) (ts r : Ahead Spelled) → low.AnyLabel v l ts r → IsLabel l
  label_form l ts r (inl (i, is, (t, e, k))) = subst IsLabel is (label_led i (iri_led t i k))
  label_form l ts r (inr (name, is, k)) = subst IsLabel is tt

  -- literals
  pub literal_form : (x : Term) (ts r : Ahead Spelled) → low.Literal v x ts r → IsExpressibleTerm x
  literal_form x ts r (inl (lex, (m, s, inl (t, e, k)))) = tagged_form lex t x k
  literal_form x ts r (inl (lex, (m, s, inr (inl (n, c, (t, e, k)))))) = typed_form lex t x k
  literal_form x ts r (inl (lex, (m, s, inr (inr (is, apart, n))))) = subst IsExpressibleTerm is string_written
  literal_form x ts r (inr (t, e, k)) = shorthand_form t x k

  pub object_form : (x : Term) (ts r : Ahead Spelled) → low.Object v x ts r → IsExpressibleTerm x
  object_form x ts r (inl (i, is, k)) = subst IsExpressibleTerm is tt
  object_form x ts r (inr k) = literal_form x ts r k

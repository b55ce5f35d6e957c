-- The names and the terms that single tokens stand for are on one line, where the base and the prefixes are.
use Rattle.std.proofs.Common.{◌≡◌, Bool, true, false, cond, Result, Ok, Err, refl, ℕ, ◌≤◌, ◌&&◌, nat_eq, nat_le, nat_lt, length, List, ◌++◌, map, drop, codes, encode_utf8_all, Option, Some, None, is_some, subst, arith}
use Rattle.std.specs.Char.{to_ascii_lowercase}
use Rattle.std.specs.List.{after_first, starts_with}
use Rattle.std.specs.Str.{chars, bytes_eq}
use Rattle.std.specs.Fmt.{decimal}
use Rattle.std.proofs.lemmas.Bool.Decides.{nat_tests}
use Rattle.iri_resolve.specs.Reference.{scheme_of}
use Rattle.iri_resolve.specs.Resolution.{resolved_text}
use Rattle.iri_resolve.proofs.ResolvedLines.{clean_behind_first, clean_resolved}
use Rattle.rdf_terms.specs.Vocabulary.{rdf_lang_string, rdf_type, xsd_integer, xsd_decimal, xsd_double, xsd_boolean}
use Rattle.rdf_terms.specs.Names.{written_label}
use Rattle.rdf_terms.specs.Texts.{same_text}
use Rattle.rdf_terms.specs.declared.terms.Name.TheVariants.{Label, Fresh}
use Rattle.rdf_terms.specs.declared.terms.Term.{Term}
use Rattle.rdf_terms.specs.declared.terms.Term.TheVariants.{Blank, Lit}
use Rattle.rdf_terms.proofs.OneLine.{Plain, both, plain_drop, plain_chars, Clean, clean_append, clean_line}
use Rattle.rdf_terms.proofs.TermLines.{PlainName, PlainSuffix, PlainTerm, plain_written, differs, untagged, untagged_known, tagged_lowered}
use Rattle.rdf_lex.specs.Tokens.{Spelled}
use Rattle.rdf_lex.proofs.TokenLines.{on_one_line, line_by}
use Rattle.rdf_lex.specs.Prefixes.{AreOneLine}
use Rattle.rdf_cursor.specs.declared.stops.Fault.{Fault}
use Rattle.rdf_cursor.specs.declared.stops.Fault.TheVariants.{Syntax, Prefix, Long}
use Rattle.rdf_cursor.specs.Symbols.{symbol_of, same_symbol, is_symbol, is_among, has}
use Rattle.rdf_cursor.specs.declared.symbols.Symbol.TheVariants as symbol
use Rattle.term_tokens.specs.Meanings.{text_of, name_of, is_anonymous, anonymous_number}
use Rattle.term_tokens.specs.Scopes.{Scope}
use Rattle.term_tokens.specs.Terms.{max_text, limited, resolved, joined, absolute, absolute_of, absolute_typed_of, blank_of, prefix_of, name_in, iri_ref_of, iri_of, at_name_of, typed, typed_by, typed_of, tagged_of, shorthand_of, names, tags, shorthands}
use Rattle.term_tokens.specs.Vocabulary.{shorthand_datatype}
use Rattle.term_tokens.proofs.Meanings.{text_of_is}
use Rattle.term_tokens.proofs.TokenLines.{IsFine, clean_meaning}

pub err_is_not_ok : {X F : Type 0} (f : F) (x : X) → Path (Result X F) (Err f) (Ok x) → ⊥
err_is_not_ok f x e = cc

pub ok_same : {X F : Type 0} (x y : X) → Path (Result X F) (Ok x) (Ok y) → x ≡ y
ok_same x y e = cc

pub chosen : {X F : Type 0} (b : Bool) (f : F) (r : Result X F) (y : X) → cond b r (Err f) ≡ Ok y → (b ≡ true) × (r ≡ Ok y)
chosen true f r y e = (refl, e)
chosen false f r y e = absurd (err_is_not_ok f y e)

-- the base and the prefixes have no line feed
pub record PlainNames (v : Scope) : Type 0 where
  pub base : Clean v.base
  pub prefixes : (prefix iri : List ℕ) → v.prefixes prefix ≡ Some iri → Clean iri

-- what is within the limits
limited_by : {X : Type 0} (b : Bool) (x y : X) → cond b (Err Long) (Ok x) ≡ Ok y → x ≡ y
limited_by true x y e = absurd (err_is_not_ok Long y e)
limited_by false x y e = ok_same x y e

pub limited_is : {X : Type 0} (k : Bool) (bytes : List ℕ) (x y : X) → limited k bytes x ≡ Ok y → x ≡ y
limited_is k bytes x y e = limited_by (k && nat_lt max_text (length bytes)) x y e

-- an IRI
resolved_clean : (k : Bool) (v : Scope) (t : Spelled) (iri : List ℕ) (o : Option (List ℕ)) → PlainNames v → on_one_line t.kind ≡ true → text_of t ≡ o → resolved k v o ≡ Ok iri → Clean iri
resolved_clean k v t iri None h l f e = absurd (err_is_not_ok Syntax iri e)
resolved_clean k v t iri (Some text) h l f e =
    let whole = resolved_text v.base (encode_utf8_all text) in
    subst Clean (limited_is k whole whole iri e) (clean_resolved v.base (encode_utf8_all text) h.base (clean_meaning t text l (text_of_is t text f)))

joined_clean : (k : Bool) (v : Scope) (t : Spelled) (iri : List ℕ) (o p : Option (List ℕ)) → PlainNames v → on_one_line t.kind ≡ true → text_of t ≡ o →
    v.prefixes (prefix_of t) ≡ p → joined k o p ≡ Ok iri → Clean iri
joined_clean k v t iri None p h l f g e = absurd (err_is_not_ok Syntax iri e)
joined_clean k v t iri (Some local) None h l f g e = absurd (err_is_not_ok Prefix iri e)
joined_clean k v t iri (Some local) (Some front) h l f g e =
    let whole = front ++ encode_utf8_all local in
    subst Clean (limited_is k whole whole iri e) (clean_append front (encode_utf8_all local) (h.prefixes (prefix_of t) front g) (clean_meaning t local l (text_of_is t local f)))

name_clean : (k : Bool) (v : Scope) (t : Spelled) (iri : List ℕ) → PlainNames v → on_one_line t.kind ≡ true → name_in k v t ≡ Ok iri → Clean iri
name_clean k v t iri h l e = joined_clean k v t iri (text_of t) (v.prefixes (prefix_of t)) h l refl refl e

pub iri_ref_clean : (k : Bool) (v : Scope) (t : Spelled) (iri : List ℕ) → PlainNames v → iri_ref_of k v t ≡ Ok iri → Clean iri
unfolding iri_ref_of is_symbol
iri_ref_clean k v t iri h e =
    let c = chosen (same_symbol (symbol_of t.kind t.text) symbol.IriRef) Syntax (resolved k v (text_of t)) iri e in
    resolved_clean k v t iri (text_of t) h (line_by (λ k. same_symbol (symbol_of k t.text) symbol.IriRef) t.kind refl refl refl c.0) refl c.1

pub iri_clean : (k : Bool) (v : Scope) (t : Spelled) (iri : List ℕ) → PlainNames v → iri_of k v t ≡ Ok iri → Clean iri
unfolding iri_of is_among
iri_clean k v t iri h e = by (has (symbol_of t.kind t.text) names) refl e
  where
    by : (b : Bool) → has (symbol_of t.kind t.text) names ≡ b → cond b (name_in k v t) (iri_ref_of k v t) ≡ Ok iri → Clean iri
    by true f e = name_clean k v t iri h (line_by (λ k. has (symbol_of k t.text) names) t.kind refl refl refl f) e
    by false f e = iri_ref_clean k v t iri h e

-- an IRI that is not resolved
absolute_clean_by : (k : Bool) (t : Spelled) (iri : List ℕ) (o : Option (List ℕ)) → on_one_line t.kind ≡ true → text_of t ≡ o → absolute k o ≡ Ok iri → Clean iri
absolute_clean_by k t iri None l f e = absurd (err_is_not_ok Syntax iri e)
absolute_clean_by k t iri (Some text) l f e =
    let whole = encode_utf8_all text in
    let c = chosen (is_some (scheme_of whole)) Syntax (limited k whole whole) iri e in
    subst Clean (limited_is k whole whole iri c.1) (clean_meaning t text l (text_of_is t text f))

pub absolute_clean : (k : Bool) (t : Spelled) (iri : List ℕ) → absolute_of k t ≡ Ok iri → Clean iri
unfolding absolute_of is_symbol
absolute_clean k t iri e =
    let c = chosen (same_symbol (symbol_of t.kind t.text) symbol.IriRef) Syntax (absolute k (text_of t)) iri e in
    absolute_clean_by k t iri (text_of t) (line_by (λ k. same_symbol (symbol_of k t.text) symbol.IriRef) t.kind refl refl refl c.0) refl c.1

pub at_name_clean : (k : Bool) (v : Scope) (t : Spelled) (iri : List ℕ) → PlainNames v → at_name_of k v t ≡ Ok iri → Clean iri
unfolding at_name_of is_symbol
at_name_clean k v t iri h e =
    let c = chosen (same_symbol (symbol_of t.kind t.text) symbol.AtName) Syntax (name_in k v t) iri e in
    name_clean k v t iri h (line_by (λ k. same_symbol (symbol_of k t.text) symbol.AtName) t.kind refl refl refl c.0) c.1

-- a blank node by its printed name
written_plain : (text : List ℕ) → Plain text → Plain (written_label text)
written_plain text h = by (starts_with nat_eq text (codes "anon_anon"))
  where
    by : (b : Bool) → Plain (cond b (drop 5 text) text)
    by true = plain_drop 5 text h
    by false = h

from_one : (n : ℕ) → nat_le 1 n ≡ true → 1 ≤ n
from_one n e = grind (arith, nat_tests)

up_to_last : (n : ℕ) → nat_le n 4294967295 ≡ true → n ≤ 4294967295
up_to_last n e = grind (arith, nat_tests)

pub named_plain : (text : List ℕ) → Plain text → PlainName (name_of text)
unfolding name_of
named_plain text h = by (is_anonymous text) refl
  where
    by : (b : Bool) → is_anonymous text ≡ b → PlainName (cond b (Fresh (anonymous_number text)) (Label (written_label text)))
    by true e =
        let n = anonymous_number text in
        let c = both (nat_le 1 n) (nat_le n 4294967295) (both (bytes_eq text (codes "anon" ++ decimal n)) (nat_le 1 n && nat_le n 4294967295) e).1 in
        (from_one n c.0, up_to_last n c.1)
    by false e = written_plain text h

-- a blank node by its label
pub blank_plain : (k : Bool) (t : Spelled) (x : Term) → IsFine t → blank_of k t ≡ Ok x → PlainTerm x
unfolding blank_of is_symbol
blank_plain k t x h e =
    let label = after_first (λ b. nat_eq b 58) t.text in
    let c = chosen (same_symbol (symbol_of t.kind t.text) symbol.BlankLabel) Syntax (limited k label (Blank (Label (chars label)))) x e in
    let d = clean_behind_first 58 t.text (omega arith) (h (line_by (λ k. same_symbol (symbol_of k t.text) symbol.BlankLabel) t.kind refl refl refl c.0)) in
    subst PlainTerm (limited_is k label (Blank (Label (chars label))) x c.1) (plain_chars label d.0 d.1)

-- literals
typed_plain_by : (lex : List ℕ) (r : Result (List ℕ) Fault) (x : Term) → ((iri : List ℕ) → r ≡ Ok iri → Clean iri) → typed_by lex r ≡ Ok x → PlainTerm x
typed_plain_by lex (Err f) x h e = absurd (err_is_not_ok f x e)
typed_plain_by lex (Ok iri) x h e = by (same_text (chars iri) rdf_lang_string) refl e
  where
    by : (b : Bool) → same_text (chars iri) rdf_lang_string ≡ b → cond b (Err Syntax) (Ok (typed lex (chars iri))) ≡ Ok x → PlainTerm x
    by true f e = absurd (err_is_not_ok Syntax x e)
    by false f e = let c = h iri refl in subst PlainTerm (ok_same (typed lex (chars iri)) x e) (untagged (chars iri) (differs (chars iri) f) (plain_chars iri c.0 c.1))

pub typed_plain : (k : Bool) (v : Scope) (lex : List ℕ) (t : Spelled) (x : Term) → PlainNames v → typed_of k v lex t ≡ Ok x → PlainTerm x
unfolding typed_of
typed_plain k v lex t x h e = typed_plain_by lex (iri_of k v t) x (λ iri f. iri_clean k v t iri h f) e

pub absolute_typed_plain : (k : Bool) (lex : List ℕ) (t : Spelled) (x : Term) → absolute_typed_of k lex t ≡ Ok x → PlainTerm x
unfolding absolute_typed_of
absolute_typed_plain k lex t x e = typed_plain_by lex (absolute_of k t) x (λ iri f. absolute_clean k t iri f) e

pub tagged_plain : (lex : List ℕ) (t : Spelled) (x : Term) → IsFine t → tagged_of lex t ≡ Ok x → PlainTerm x
unfolding tagged_of is_among
tagged_plain lex t x h e =
    let tag = after_first (λ b. nat_eq b 64) t.text in
    let literal = Lit (record { lex = lex; datatype = rdf_lang_string; lang = Some (map to_ascii_lowercase (chars tag)) }) in
    let c = chosen (has (symbol_of t.kind t.text) tags) Syntax (Ok literal) x e in
    let d = clean_behind_first 64 t.text (omega arith) (h (line_by (λ k. has (symbol_of k t.text) tags) t.kind refl refl refl c.0)) in
    subst PlainTerm (ok_same literal x c.1) (tagged_lowered (chars tag) (plain_chars tag d.0 d.1))

datatype_plain : (a b c : Bool) → PlainSuffix (cond a xsd_integer (cond b xsd_decimal (cond c xsd_double xsd_boolean))) None
datatype_plain true b c = untagged_known xsd_integer refl refl
datatype_plain false true c = untagged_known xsd_decimal refl refl
datatype_plain false false true = untagged_known xsd_double refl refl
datatype_plain false false false = untagged_known xsd_boolean refl refl

pub shorthand_plain : (k : Bool) (t : Spelled) (x : Term) → shorthand_of k t ≡ Ok x → PlainTerm x
unfolding shorthand_of is_among
shorthand_plain k t x e =
    let s = symbol_of t.kind t.text in
    let literal = typed (chars t.text) (shorthand_datatype s) in
    let c = chosen (has s shorthands) Syntax (limited k t.text literal) x e in
    subst PlainTerm (limited_is k t.text literal x c.1) (datatype_plain (same_symbol s symbol.Integer) (same_symbol s symbol.Decimal) (same_symbol s symbol.Double))

pub plain_type : Plain (chars rdf_type)
unfolding chars
plain_type = plain_written rdf_type refl

pub names_plain : (v : Scope) → AreOneLine v.base v.prefixes → PlainNames v
names_plain v h = record { base = clean_line v.base h.base; prefixes = λ prefix iri e. clean_line iri (h.prefixes prefix iri e) }

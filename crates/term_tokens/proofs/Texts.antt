-- What single tokens stand for, as the code finds it.
use Rattle.std.proofs.Common.{◌≡◌, ℕ, Bool, true, false, cond, List, ◌++◌, length, Option, Some, None, IsSome, IsNone, is_some, Result, Ok, Err, IfOk, Bor, refl, sym, ap, subst, ◌∙◌, string_bytes, encode_utf8_all, true≢false, nat_eq}
use Rattle.std.specs.Prelude.{String}
use Rattle.std.specs.declared.alloc.Global.{Global}
use Rattle.std.specs.List.{starts_with}
use Rattle.std.specs.Option.{option_or, option_copied}
use Rattle.std.specs.Str.{chars, IsUtf8}
use Rattle.std.proofs.lemmas.Str.{encodes-chars, IsUtf8-string_bytes}
use Rattle.iri_resolve.specs.Reference.{scheme_of}
use Rattle.iri_resolve.specs.Resolution.{resolved_text}
use Rattle.rdf_terms.specs.Literals.{LiteralParts}
use Rattle.rdf_terms.specs.Vocabulary.{rdf_lang_string, xsd_integer, xsd_decimal, xsd_double, xsd_boolean}
use Rattle.rdf_terms.specs.Sameness.{text_decides}
use Rattle.rdf_terms.specs.Texts.{same_text}
use Rattle.rdf_terms.proofs.Characters.{is_ascii, starts_encodes}
use Rattle.rdf_terms.specs.declared.terms.Term.TheVariants.{Lit}
use Rattle.rdf_lex.specs.Tokens.{Spelled}
use Rattle.term_tokens.specs.Meanings.{text_of}
use Rattle.rdf_cursor.specs.declared.stops.Fault.TheVariants.{Syntax}
use Rattle.rdf_cursor.specs.declared.stops.Stop.{Stop}
use Rattle.rdf_cursor.specs.declared.symbols.Symbol.{Symbol}
use Rattle.rdf_cursor.specs.declared.symbols.Symbol.TheVariants as symbol
use Rattle.rdf_cursor.specs.Stops.{Answers}
use Rattle.term_tokens.specs.Terms.{limited, joined, absolute_of, string_of, typed, typed_by}
use Rattle.rdf_cursor.specs.Symbols.{is_symbol, same_symbol}
use Rattle.term_tokens.specs.Vocabulary.{shorthand_datatype}

-- an IRI reference
pub against : (k : Bool) → (res : Result (String Global) Stop) (base b reference iri : List ℕ) → IsUtf8 reference → b ≡ base → iri ≡ resolved_text b reference
    → Answers string_bytes res (limited k iri iri)
    → Answers string_bytes res (limited k (resolved_text base (encode_utf8_all (chars reference))) (resolved_text base (encode_utf8_all (chars reference))))
against k res base b reference iri u same is h =
    let e : iri ≡ resolved_text base (encode_utf8_all (chars reference)) = is ∙ ap (λ (x : List ℕ). resolved_text x reference) same ∙ ap (resolved_text base) (sym (encodes-chars reference u)) in
    subst (λ (x : List ℕ). Answers string_bytes res (limited k x x)) e h

some_or : {X : Type 0} (a b : Option X) → IsSome b → IsSome (option_or a b)
some_or None b h = h
some_or (Some x) b h = refl

pub scheme_kept : (res : Result (String Global) Stop) (iri reference b base : List ℕ) → b ≡ base → scheme_of iri ≡ option_or (scheme_of reference) (scheme_of b) → IsSome (scheme_of base)
    → IfOk res (λ t. string_bytes t ≡ iri) → IfOk res (λ t. IsSome (scheme_of (string_bytes t)))
scheme_kept (Ok t) iri reference b base e is some same =
    subst IsSome (sym (ap scheme_of same ∙ is)) (some_or (scheme_of reference) (scheme_of b) (subst (λ (x : List ℕ). IsSome (scheme_of x)) (sym e) some))
scheme_kept (Err f) iri reference b base e is some same = tt

-- a prefixed name
pub behind_joined : (k : Bool) → (res : Result (String Global) Stop) (local iri whole : List ℕ) (o : Option (List ℕ)) → IsUtf8 local → Some iri ≡ o → whole ≡ iri ++ local
    → Answers string_bytes res (limited k whole whole) → Answers string_bytes res (joined k (Some (chars local)) o)
behind_joined k res local iri whole o u is e h =
    let f : whole ≡ iri ++ encode_utf8_all (chars local) = e ∙ ap (λ (x : List ℕ). iri ++ x) (sym (encodes-chars local u)) in
    subst (λ (x : Option (List ℕ)). Answers string_bytes res (joined k (Some (chars local)) x)) is
    (subst (λ (x : List ℕ). Answers string_bytes res (limited k x x)) f h)

-- a string
pub string_answers : (k : Bool) → (res : Result (List ℕ) Stop) (t : Spelled) (s : String Global) → is_symbol symbol.Str t ≡ true → text_of t ≡ Some (chars (string_bytes s))
    → Answers (λ text. text) res (limited k (string_bytes s) (chars (string_bytes s))) → Answers (λ text. text) res (string_of k t)
unfolding string_of
string_answers k res t s e f h =
    rw (e, f) (subst (λ (b : List ℕ). Answers (λ (text : List ℕ). text) res (limited k b (chars (string_bytes s)))) (sym (encodes-chars (string_bytes s) (IsUtf8-string_bytes s))) h)

-- an IRI that is not resolved
pub absolute_answers : (k : Bool) (res : Result (String Global) Stop) (t : Spelled) (s : String Global) (iri : List ℕ) (r : Bool) →
    is_symbol symbol.IriRef t ≡ true → text_of t ≡ Some (chars (string_bytes s)) → iri ≡ string_bytes s
    → r ≡ is_some (scheme_of iri) → r ≡ true → Answers string_bytes res (limited k (string_bytes s) (string_bytes s)) → Answers string_bytes res (absolute_of k t)
unfolding absolute_of
absolute_answers k res t s iri r e f same is scheme h =
    let some : is_some (scheme_of (string_bytes s)) ≡ true = ap (λ (b : List ℕ). is_some (scheme_of b)) (sym same) ∙ sym is ∙ scheme in
    rw (e, f, encodes-chars (string_bytes s) (IsUtf8-string_bytes s), some) h

pub relative_answers : (k : Bool) (t : Spelled) (s : String Global) (iri : List ℕ) (r : Bool) → is_symbol symbol.IriRef t ≡ true →
    text_of t ≡ Some (chars (string_bytes s)) → iri ≡ string_bytes s → r ≡ is_some (scheme_of iri) → r ≡ false
    → absolute_of k t ≡ Err Syntax
unfolding absolute_of
relative_answers k t s iri r e f same is scheme =
    let none : is_some (scheme_of (string_bytes s)) ≡ false = ap (λ (b : List ℕ). is_some (scheme_of b)) (sym same) ∙ sym is ∙ scheme in
    rw (e, f, encodes-chars (string_bytes s) (IsUtf8-string_bytes s), none) refl

copied_some : (o : Option (Bor (List ℕ))) → is_some (option_copied o) ≡ is_some o
copied_some None = refl
copied_some (Some x) = refl

pub has_scheme : (o : Option (Bor (List ℕ))) (r : Bool) (text : List ℕ) → option_copied o ≡ scheme_of text → r ≡ is_some o → r ≡ is_some (scheme_of text)
has_scheme o r text e is = is ∙ sym (copied_some o) ∙ ap is_some e

-- tests of the characters of a text
pub starts_chars : (text p : List ℕ) (r : Bool) → IsUtf8 text → is_ascii p ≡ true → r ≡ starts_with nat_eq text p → r ≡ starts_with nat_eq (chars text) p
starts_chars text p r u a e = e ∙ ap (λ (b : List ℕ). starts_with nat_eq b p) (sym (encodes-chars text u)) ∙ starts_encodes (chars text) p a

-- a literal with a datatype
not_same : (a b : List ℕ) (c : Bool) → same_text a b ≡ c → (a ≡ b → ⊥) → c ≡ false
not_same a b false e n = refl
not_same a b true e n = absurd (n ((text_decides a b).0 e))

pub typed_is : (lex iri d : List ℕ) (l : LiteralParts) → d ≡ chars iri → l ≡ record { lex = lex; datatype = d; lang = None } → (d ≡ rdf_lang_string → IsNone (Some l))
    → typed_by lex (Ok iri) ≡ Ok (Lit l)
typed_is lex iri d l same is none =
    let other : same_text (chars iri) rdf_lang_string ≡ false = not_same (chars iri) rdf_lang_string (same_text (chars iri) rdf_lang_string) refl (λ f. absurd (true≢false (none (same ∙ f)))) in
    ap (λ (b : Bool). cond b (Err Syntax) (Ok (typed lex (chars iri)))) other
    ∙ ap (λ (x : List ℕ). Ok (typed lex x)) (sym same) ∙ ap (λ (x : LiteralParts). Ok (Lit x)) (sym is)

-- no short form has the datatype rdf:langString
by_length : (d : List ℕ) (n : ℕ) → length d ≡ n → nat_eq n 53 ≡ false → d ≡ rdf_lang_string → ⊥
by_length d n e f is = true≢false (sym (ap (λ (x : List ℕ). nat_eq (length x) 53) is) ∙ ap (λ (x : ℕ). nat_eq x 53) e ∙ f)

other_by : (a b c : Bool) → cond a xsd_integer (cond b xsd_decimal (cond c xsd_double xsd_boolean)) ≡ rdf_lang_string → ⊥
other_by true b c = by_length xsd_integer 40 refl refl
other_by false true c = by_length xsd_decimal 40 refl refl
other_by false false true = by_length xsd_double 39 refl refl
other_by false false false = by_length xsd_boolean 40 refl refl

pub shorthand_other : (s : Symbol) → shorthand_datatype s ≡ rdf_lang_string → ⊥
shorthand_other s = other_by (same_symbol s symbol.Integer) (same_symbol s symbol.Decimal) (same_symbol s symbol.Double)

integer_chars : chars xsd_integer ≡ xsd_integer
unfolding chars
integer_chars = refl

decimal_chars : chars xsd_decimal ≡ xsd_decimal
unfolding chars
decimal_chars = refl

double_chars : chars xsd_double ≡ xsd_double
unfolding chars
double_chars = refl

boolean_chars : chars xsd_boolean ≡ xsd_boolean
unfolding chars
boolean_chars = refl

chars_by : (a b c : Bool) → chars (cond a xsd_integer (cond b xsd_decimal (cond c xsd_double xsd_boolean))) ≡ cond a xsd_integer (cond b xsd_decimal (cond c xsd_double xsd_boolean))
chars_by true b c = integer_chars
chars_by false true c = decimal_chars
chars_by false false true = double_chars
chars_by false false false = boolean_chars

pub datatype_chars : (s : Symbol) (text : List ℕ) → text ≡ shorthand_datatype s → chars text ≡ shorthand_datatype s
datatype_chars s text e = ap chars e ∙ chars_by (same_symbol s symbol.Integer) (same_symbol s symbol.Decimal) (same_symbol s symbol.Double)

pub shorthand_is : (text lex d datatype : List ℕ) (s : Symbol) (l : LiteralParts) → lex ≡ chars text → d ≡ chars datatype → datatype ≡ shorthand_datatype s
    → l ≡ record { lex = lex; datatype = d; lang = None } → Lit l ≡ typed (chars text) (shorthand_datatype s)
shorthand_is text lex d datatype s l e f g is =
    ap (λ (x : LiteralParts). Lit x) is ∙ ap (λ (x : List ℕ). typed x d) e ∙ ap (typed (chars text)) (f ∙ datatype_chars s datatype g)

pub shorthand_typed : (d datatype : List ℕ) (s : Symbol) → d ≡ chars datatype → datatype ≡ shorthand_datatype s → d ≡ rdf_lang_string → ⊥
shorthand_typed d datatype s f g e = shorthand_other s (sym (f ∙ datatype_chars s datatype g) ∙ e)

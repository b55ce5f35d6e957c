-- The texts of terms are UTF-8, and each is that of one term.
use Rattle.std.proofs.Common.{◌≡◌, ℕ, List, [], ◌∷◌, ◌++◌, refl, sym, ◌∙◌, subst, Bool, true, false, codes, encode_utf8_all, nat_eq, if◌then◌else◌, inl, inr}
use Rattle.std.proofs.lemmas.Bool.{and_parts}
use Rattle.std.proofs.lemmas.List.{append-nil}
use Rattle.std.proofs.lemmas.Str.{IsUtf8-append, IsUtf8-from_ascii, IsUtf8-nil}
use Rattle.std.specs.Fmt.{decimal}
use Rattle.std.specs.List.{flat_map, starts_with}
use Rattle.std.specs.Str.{all_scalars, IsUtf8}
use Rattle.rdf_terms.specs.Laws.{IsTerm}
use Rattle.rdf_terms.specs.Literals.{LiteralParts}
use Rattle.rdf_terms.specs.Values.{IsLiteralUnicode, IsUnicode, IsUnicodeIfAny, IsValue, IsWhole, IsWholeTerm}
use Rattle.rdf_terms.specs.Written.{escaped, iri_text, suffix_text, term_text}
use Rattle.rdf_terms.specs.declared.terms.Name.TheVariants.{Label, Fresh}
use Rattle.rdf_terms.specs.declared.terms.Term.{Term}
use Rattle.rdf_terms.specs.declared.terms.Term.TheVariants.{Iri, Blank, Lit}
use Rattle.rdf_terms.proofs.Anonymous.{ascii_name}
use Rattle.rdf_terms.proofs.Characters.{ascii_codes, is_ascii}
use Rattle.rdf_terms.proofs.DistinctTexts.{IsCode, Spelling, short, plain, spelling, Suffix, tag, string, typed, suffix, texts_distinct}

-- ---- one term

pub whole_term : (t : Term) → IsWholeTerm t → IsTerm t
whole_term (Iri iri) h = tt
whole_term (Blank (Label label)) h = tt
whole_term (Blank (Fresh n)) h = h.1
whole_term (Lit literal) h = h.0

pub term_same : (a b : Term) → IsWholeTerm a → IsWholeTerm b → term_text a ≡ term_text b → a ≡ b
term_same a b h k e = texts_distinct a b (whole_term a h) (whole_term b k) e

-- ---- UTF-8

low_utf8 : (p : List ℕ) → is_ascii p ≡ true → IsUtf8 p
low_utf8 p h = IsUtf8-from_ascii p (ascii_codes p h)

text_utf8 : (text : List ℕ) → IsUnicode text → IsUtf8 (encode_utf8_all text)
text_utf8 text h = (text, (h, refl))

iri_utf8 : (iri : List ℕ) → IsUnicode iri → IsUtf8 (iri_text iri)
iri_utf8 iri h = IsUtf8-append (codes "<") (encode_utf8_all iri ++ codes ">") (low_utf8 (codes "<") refl)
    (IsUtf8-append (encode_utf8_all iri) (codes ">") (text_utf8 iri h) (low_utf8 (codes ">") refl))

label_utf8 : (b : Bool) (label : List ℕ) → IsUnicode label → IsUtf8 ((if b then codes "anon_" else []) ++ encode_utf8_all label)
label_utf8 true label h = IsUtf8-append (codes "anon_") (encode_utf8_all label) (low_utf8 (codes "anon_") refl) (text_utf8 label h)
label_utf8 false label h = text_utf8 label h

code_utf8 : (e : ℕ) → IsCode e → IsUtf8 (92 ∷ (e ∷ []))
code_utf8 e (inl h) = subst (λ z. IsUtf8 (92 ∷ (z ∷ []))) (sym h) (low_utf8 (codes "\\\"") refl)
code_utf8 e (inr (inl h)) = subst (λ z. IsUtf8 (92 ∷ (z ∷ []))) (sym h) (low_utf8 (codes "\\\\") refl)
code_utf8 e (inr (inr (inl h))) = subst (λ z. IsUtf8 (92 ∷ (z ∷ []))) (sym h) (low_utf8 (codes "\\n") refl)
code_utf8 e (inr (inr (inr h))) = subst (λ z. IsUtf8 (92 ∷ (z ∷ []))) (sym h) (low_utf8 (codes "\\r") refl)

escaped_utf8 : (c : ℕ) → all_scalars (c ∷ []) ≡ true → IsUtf8 (escaped c)
escaped_utf8 c h = by (spelling c)
  where
    by : Spelling c → IsUtf8 (escaped c)
    by (short e code means spelled) = subst IsUtf8 (sym spelled) (code_utf8 e code)
    by (plain spelled p q u v) = subst IsUtf8 (append-nil _ ∙ sym spelled) (c ∷ [], (h, refl))

first_scalar : (c : ℕ) (cs : List ℕ) → all_scalars (c ∷ cs) ≡ true → all_scalars (c ∷ []) ≡ true
first_scalar c cs h = let p = and_parts _ (all_scalars cs) h in rw p.0 refl

lexical_utf8 : (cs : List ℕ) → all_scalars cs ≡ true → IsUtf8 (flat_map escaped cs)
lexical_utf8 [] h = IsUtf8-nil
lexical_utf8 (c ∷ cs) h = IsUtf8-append (escaped c) (flat_map escaped cs) (escaped_utf8 c (first_scalar c cs h)) (lexical_utf8 cs (and_parts _ (all_scalars cs) h).1)

suffix_utf8 : (l : LiteralParts) → IsLiteralUnicode l → Suffix l → IsUtf8 (suffix_text l l.lang)
suffix_utf8 l h (tag t is of spelled) = subst IsUtf8 (sym spelled) (IsUtf8-append (codes "@") (encode_utf8_all t) (low_utf8 (codes "@") refl) (text_utf8 t (subst IsUnicodeIfAny is h.lang)))
suffix_utf8 l h (string is of spelled) = subst IsUtf8 (sym spelled) IsUtf8-nil
suffix_utf8 l h (typed is other spelled) = subst IsUtf8 (sym spelled) (IsUtf8-append (codes "^^") (iri_text l.datatype) (low_utf8 (codes "^^") refl) (iri_utf8 l.datatype h.datatype))

pub term_utf8 : (t : Term) → IsWhole t → IsValue t → IsUtf8 (term_text t)
term_utf8 (Iri iri) whole h = iri_utf8 iri h
term_utf8 (Blank (Label label)) whole h = IsUtf8-append (codes "_:") _ (low_utf8 (codes "_:") refl) (label_utf8 (starts_with nat_eq label (codes "anon")) label h)
term_utf8 (Blank (Fresh n)) whole h = IsUtf8-append (codes "_:") (codes "anon" ++ decimal n) (low_utf8 (codes "_:") refl) (IsUtf8-from_ascii (codes "anon" ++ decimal n) (ascii_name n h))
term_utf8 (Lit l) whole h =
    let quote = low_utf8 (codes "\"") refl in
    IsUtf8-append (codes "\"") (flat_map escaped l.lex ++ 34 ∷ suffix_text l l.lang) quote
    (IsUtf8-append (flat_map escaped l.lex) (34 ∷ suffix_text l l.lang) (lexical_utf8 l.lex h.lex) (IsUtf8-append (codes "\"") (suffix_text l l.lang) quote (suffix_utf8 l h (suffix l whole))))

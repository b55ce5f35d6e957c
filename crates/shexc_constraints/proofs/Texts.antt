-- Texts of tokens and of terms, as the code finds them.
use Rattle.std.proofs.Common.{◌≡◌, ℕ, List, [], Result, Ok, Err, true, sym, ap, subst, ◌∙◌, map}
use Rattle.std.specs.Prelude.{IfOk}
use Rattle.std.specs.Char.{to_ascii_lowercase}
use Rattle.std.specs.List.{after_first}
use Rattle.std.specs.Str.{chars, IsUtf8}
use Rattle.std.specs.declared.alloc.AllocError.{AllocError}
use Rattle.std.proofs.lemmas.Str.{chars-nil, encodes-chars}
use Rattle.rdf_terms.proofs.Characters.{lowered_chars}
use Rattle.rdf_terms.specs.declared.terms.Term.{Term}
use Rattle.rdf_terms.specs.declared.terms.Term.TheVariants as terms
use Rattle.rdf_terms.specs.declared.terms.Name.{Name}
use Rattle.rdf_cursor.specs.Symbols.{is_among}
use Rattle.rdf_lex.specs.Tokens.{Spelled}
use Rattle.term_tokens.specs.Terms.{is_at, tags}
use Rattle.shexc_constraints.specs.Meanings.{tag_of}
use Rattle.shexc_constraints.specs.Values.{form_of}

-- a tag in lower case
pub tag_is : (t : Spelled) (text bytes low : List ℕ) → is_among tags t ≡ true → text ≡ after_first is_at t.text → IsUtf8 text → IsUtf8 bytes →
    bytes ≡ map to_ascii_lowercase text → low ≡ chars bytes → tag_of t ≡ Ok low
unfolding tag_of
tag_is t text bytes low e same u w lowered is =
    rw e (ap (λ (x : List ℕ). Ok (map to_ascii_lowercase (chars x))) (sym same) ∙ ap (λ (x : List ℕ). Ok x) (sym (is ∙ ap chars lowered
    ∙ lowered_chars text (chars text) (subst IsUtf8 lowered w) (encodes-chars text u))))

-- a term that is no literal has no lexical form
pub no_form_iri : (r : Result (List ℕ) AllocError) (x : Term) (i : List ℕ) → x ≡ terms.Iri i → IfOk r (λ t. t ≡ chars []) → IfOk r (λ t. t ≡ form_of x)
no_form_iri (Ok t) x i e h = h ∙ chars-nil ∙ sym (ap form_of e)
no_form_iri (Err a) x i e h = tt

pub no_form_blank : (r : Result (List ℕ) AllocError) (x : Term) (n : Name) → x ≡ terms.Blank n → IfOk r (λ t. t ≡ chars []) → IfOk r (λ t. t ≡ form_of x)
no_form_blank (Ok t) x n e h = h ∙ chars-nil ∙ sym (ap form_of e)
no_form_blank (Err a) x n e h = tt

pub no_text : (r : Result (List ℕ) AllocError) → IfOk r (λ t. t ≡ chars []) → IfOk r (λ t. t ≡ [])
no_text (Ok t) h = h ∙ chars-nil
no_text (Err a) h = tt

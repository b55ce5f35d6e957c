-- A value set holds for a term or does not.
use Rattle.std.proofs.Common.{◌≡◌, ◌≢◌, ℕ, ◌⊎◌, inl, inr, Bool, List, [], ◌∷◌, ◌++◌, drop, get_or, refl, sym, ap, Option, Some, IsTrue, ◌↔◌, ◌∙◌, unwrap_or}
use Rattle.std.proofs.lemmas.Bool.{cases_eq}
use Rattle.std.specs.Option.{option_eq}
use Rattle.rdf_terms.specs.Sameness.{text_decides}
use Rattle.lists.specs.Equality.{option_decides}
use Rattle.rdf_terms.specs.Texts.{same_text}
use Rattle.rdf_terms.specs.declared.terms.Term.{Term}
use Rattle.rdf_terms.proofs.SameTerms.{same_term, term_decides}
use Rattle.value_sets.proofs.Between.{cons_same}
use Rattle.value_sets.specs.Laws.{ValuesAreDecided}
use Rattle.value_sets.specs.Stems.{HasPrefix, IsInLanguage, hyphen}
use Rattle.value_sets.specs.Values.{IsExcludedBy, IsInRange, IsValue, iri_of, lexical_form_of, tag_of}
use Rattle.value_sets.specs.declared.value.Except.{Except}
use Rattle.value_sets.specs.declared.value.Except.TheVariants.{Exact, Stem}
use Rattle.value_sets.specs.declared.value.Value.{Value}
use Rattle.lists.proofs.Decided.{Decided, from_test, decide_not, decide_both, decide_either, decide_some_and, decide_if_some, decide_any}
use Rattle.value_sets.specs.declared.value.Value.TheVariants as Values

pub decide_text : (a b : List ℕ) → Decided (a ≡ b)
decide_text a b = from_test (same_text a b) (text_decides a b)

decide_tag : (a b : Option (List ℕ)) → Decided (a ≡ b)
decide_tag a b = from_test (option_eq same_text a b) (option_decides same_text text_decides a b)

-- what `==` tells of texts, of terms, and of a text that may be there
pub same_told : (a b : List ℕ) (r : Bool) → r ≡ same_text a b → IsTrue r ↔ (a ≡ b)
same_told a b r is = (λ h. (text_decides a b).0 (sym is ∙ h), λ e. is ∙ (text_decides a b).1 e)

pub term_told : (a b : Term) (r : Bool) → r ≡ same_term a b → IsTrue r ↔ (b ≡ a)
term_told a b r is = (λ h. sym ((term_decides a b).0 (sym is ∙ h)), λ e. is ∙ (term_decides a b).1 (sym e))

pub tag_told : (own tag : List ℕ) (o : Option (List ℕ)) (r : Bool) → Some own ≡ o → r ≡ same_text own tag → IsTrue r ↔ (o ≡ Some tag)
tag_told own tag o r there is = (
  λ h. sym there ∙ ap (λ z. Some z) ((text_decides own tag).0 (sym is ∙ h)),
  λ e. is ∙ (text_decides own tag).1 (ap (λ z. unwrap_or z own) (there ∙ e)),
)

decide_term : (a b : Term) → Decided (a ≡ b)
decide_term a b = from_test (same_term a b) (term_decides a b)

decide_prefix : (stem text : List ℕ) → Decided (HasPrefix stem text)
decide_prefix [] text = inl (text, refl)
decide_prefix (c ∷ stem) [] = inr (λ h. let is : [] ≡ c ∷ (stem ++ h.0) = h.1 in cc)
decide_prefix (c ∷ stem) (d ∷ text) = go (cases_eq d c) (decide_prefix stem text)
  where
    go : (d ≡ c) ⊎ (d ≢ c) → Decided (HasPrefix stem text) → Decided (HasPrefix (c ∷ stem) (d ∷ text))
    go (inl e) (inl (rest, is)) = inl (rest, cons_same e is)
    go (inl e) (inr none) = inr (λ h. none (h.0, ap (λ z. drop 1 z) h.1))
    go (inr ne) rest = inr (λ h. ne (ap (λ z. get_or z 0 0) h.1))

decide_language : (stem tag : List ℕ) → Decided (IsInLanguage stem tag)
decide_language stem tag =
    decide_either (decide_text tag stem) (decide_either (decide_prefix (stem ++ hyphen ∷ []) tag) (decide_text stem []))

module _ (HasStem : List ℕ → List ℕ → Type 0) (d : (stem text : List ℕ) → Decided (HasStem stem text)) where
  decide_excluded : (e : Except) (text : List ℕ) → Decided (IsExcludedBy HasStem e text)
  decide_excluded (Exact exact) text = decide_text text exact
  decide_excluded (Stem stem) text = d stem text

  decide_range : (stem : Option (List ℕ)) (es : List Except) (text : List ℕ) → Decided (IsInRange HasStem stem es text)
  decide_range stem es text =
      decide_both (decide_if_some stem (λ s. HasStem s text) (λ s. d s text))
      (decide_not (decide_any (λ e. IsExcludedBy HasStem e text) (λ e. decide_excluded e text) es))

decide_value : (value : Value) (term : Term) → Decided (IsValue value term)
decide_value (Values.Term value) term = decide_term term value
decide_value (Values.IriStem stem) term = decide_some_and (iri_of term) (HasPrefix stem) (decide_prefix stem)
decide_value (Values.LitStem stem) term = decide_some_and (lexical_form_of term) (HasPrefix stem) (decide_prefix stem)
decide_value (Values.Lang tag) term = decide_tag (tag_of term) (Some tag)
decide_value (Values.LangStem stem) term = decide_some_and (tag_of term) (IsInLanguage stem) (decide_language stem)
decide_value (Values.IriRange stem es) term = decide_some_and (iri_of term) (IsInRange HasPrefix stem es) (decide_range HasPrefix decide_prefix stem es)
decide_value (Values.LitRange stem es) term = decide_some_and (lexical_form_of term) (IsInRange HasPrefix stem es) (decide_range HasPrefix decide_prefix stem es)
decide_value (Values.LangRange stem es) term = decide_some_and (tag_of term) (IsInRange IsInLanguage stem es) (decide_range IsInLanguage decide_language stem es)

pub values_are_decided : ValuesAreDecided
values_are_decided values term = decide_any (λ value. IsValue value term) (λ value. decide_value value term) values

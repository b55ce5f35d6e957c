-- The texts of a value set in ShExC are Unicode scalar values: by the form of each rule.
use Rattle.std.proofs.Common.{inl, inr, ℕ, List, [], ◌∷◌, Option, Some, None, refl, subst}
use Rattle.std.specs.List.{AllByRecursion}
use Rattle.lists.proofs.Quantifiers.{all_append}
use Rattle.rdf_cursor.specs.Ahead.{Ahead}
use Rattle.rdf_cursor.specs.Phrases.{Phrase, Many}
use Rattle.rdf_cursor.specs.declared.symbols.Symbol.TheVariants as symbol
use Rattle.rdf_lex.specs.Tokens.{Spelled}
use Rattle.rdf_terms.specs.declared.terms.Term.{Term}
use Rattle.rdf_terms.specs.declared.terms.Term.TheVariants as terms
use Rattle.value_sets.specs.declared.value.Except.{Except}
use Rattle.value_sets.specs.declared.value.Value.{Value}
use Rattle.value_sets.specs.declared.value.Value.TheVariants as values
use Rattle.term_tokens.specs.Scopes.{Scope}
use Rattle.shexc_constraints.specs.Grammar as low
use Rattle.shexc_constraints.specs.Values.{form_of, stem_or_range}
use Rattle.shexj_writer.specs.Held.{IsHeldExcept, IsHeldRange, IsHeldTerm, IsHeldValue, IsText}
use Rattle.conversion_laws.proofs.TextTokens.{AreTextNames, AreTextTokens, iri_held, literal_held, many_texts, mark_behind, object_held, tag_text}

-- a phrase of texts
abbrev Texts : (List ℕ → Phrase Spelled) → Type 0
Texts P = (text : List ℕ) (ts r : Ahead Spelled) → P text ts r → AreTextTokens ts → IsText text × AreTextTokens r

-- lists that grow by what is so
abbrev pub Every : {X : Type 0} → (X → Phrase Spelled) → (X → Type 0) → Type 0
Every {X = X} One P = (x : X) (ts r : Ahead Spelled) → One x ts r → AreTextTokens ts → P x × AreTextTokens r

added_held : {X : Type 0} (P : X → Type 0) (One : X → Phrase Spelled) → Every One P → (xs ys : List X) (ts r : Ahead Spelled) → low.Adds One xs ys ts r →
    AllByRecursion P xs → AreTextTokens ts → AllByRecursion P ys × AreTextTokens r
added_held P One every xs ys ts r (x, is, k) p u = let w = every x ts r k u in (subst (AllByRecursion P) is (all_append P xs (x ∷ []) p (w.0, tt)), w.1)

pub all_held : {X : Type 0} (P : X → Type 0) (One : X → Phrase Spelled) → Every One P → (xs ys : List X) (ts r : Ahead Spelled) →
    Many (low.Adds One) xs ys ts r → AllByRecursion P xs → AreTextTokens ts → AllByRecursion P ys × AreTextTokens r
all_held P One every xs ys ts r h p u = many_texts (low.Adds One) (AllByRecursion P) (added_held P One every) xs ys ts r h p u

module _ (v : Scope) (p : AreTextNames v) where
  tag_held : Texts (low.Tag v)
  tag_held text ts r (t, e, k) u = let w = subst AreTextTokens e u in (tag_text t text w.0 k, w.1)

  iri_text_held : Texts (low.IriText v)
  iri_text_held text ts r (i, is, k) u = let w = iri_held v p i ts r k u in (subst IsText is w.0, w.1)

  form_text : (x : Term) → IsHeldTerm x → IsText (form_of x)
  form_text (terms.Lit l) h = h.lex
  form_text (terms.Iri i) h = refl
  form_text (terms.Blank n) h = refl

  lexical_held : Texts (low.LexicalForm v)
  lexical_held lex ts r (x, is, k) u = let w = literal_held v p x ts r k u in (subst IsText is (form_text x w.0), w.1)

  -- exclusions
  excluded_held : (P : List ℕ → Phrase Spelled) → Texts P → (x : Except) (ts r : Ahead Spelled) → low.Excluded v P x ts r → AreTextTokens ts → IsHeldExcept x × AreTextTokens r
  excluded_held P own x ts r (text, inl (is, (m, k, c))) u = let w = own text ts m k u in (subst IsHeldExcept is w.0, mark_behind symbol.Tilde m r c w.1)
  excluded_held P own x ts r (text, inr (is, k)) u = let w = own text ts r k u in (subst IsHeldExcept is w.0, w.1)

  exclusion_held : (P : List ℕ → Phrase Spelled) → Texts P → Every (low.Exclusion v P) IsHeldExcept
  exclusion_held P own x ts r (m, c, k) u = excluded_held P own x m r k (mark_behind symbol.Minus ts m c u)

  exclusions_held : (P : List ℕ → Phrase Spelled) → Texts P → (xs ys : List Except) (ts r : Ahead Spelled) → Many (low.Adds (low.Exclusion v P)) xs ys ts r →
      AllByRecursion IsHeldExcept xs → AreTextTokens ts
      → AllByRecursion IsHeldExcept ys × AreTextTokens r
  exclusions_held P own xs ys ts r h q u = all_held IsHeldExcept (low.Exclusion v P) (exclusion_held P own) xs ys ts r h q u

  some_held : (P : List ℕ → Phrase Spelled) → Texts P → (xs : List Except) (ts r : Ahead Spelled) → low.Some_of (low.Exclusion v P) xs ts r → AreTextTokens ts →
      AllByRecursion IsHeldExcept xs × AreTextTokens r
  some_held P own xs ts r (ys, (m, k, h)) u =
      let w = added_held IsHeldExcept (low.Exclusion v P) (exclusion_held P own) [] ys ts m k tt u in
      exclusions_held P own ys xs m r h w.0 w.1

  -- stems and ranges, and wildcards
  stem_held : (P : List ℕ → Phrase Spelled) → Texts P → (stem : List ℕ → Value) (range : Option (List ℕ) → List Except → Value)
      → ((text : List ℕ) → IsText text → IsHeldValue (stem text)) → ((o : Option (List ℕ)) (xs : List Except) → IsHeldRange o xs → IsHeldValue (range o xs))
      → (x : Value) (ts r : Ahead Spelled) → low.Stem v P stem range x ts r → AreTextTokens ts → IsHeldValue x × AreTextTokens r
  stem_held P own stem range h k x ts r (text, xs, is, (m, a, (n, c, j))) u =
      let w = own text ts m a u in
      let z = exclusions_held P own [] xs n r j tt (mark_behind symbol.Tilde m n c w.1) in
      (subst IsHeldValue is (by xs w.0 z.0), z.1)
    where
      by : (ys : List Except) → IsText text → AllByRecursion IsHeldExcept ys → IsHeldValue (stem_or_range stem range text ys)
      by [] f g = h text f
      by (y ∷ ys) f g = k (Some text) (y ∷ ys) (f, g)

  wildcard_held : (P : List ℕ → Phrase Spelled) → Texts P → (range : Option (List ℕ) → List Except → Value) → ((o : Option (List ℕ)) (xs : List Except) → IsHeldRange o xs → IsHeldValue (range o xs))
      → (x : Value) (ts r : Ahead Spelled) → low.Wildcard v P range x ts r → AreTextTokens ts → IsHeldValue x × AreTextTokens r
  wildcard_held P own range k x ts r (xs, is, (m, c, h)) u =
      let w = some_held P own xs m r h (mark_behind symbol.Dot ts m c u) in
      (subst IsHeldValue is (k None xs (tt, w.0)), w.1)

  any_tag_held : (x : Value) (ts r : Ahead Spelled) → low.AnyTag v x ts r → AreTextTokens ts → IsHeldValue x × AreTextTokens r
  any_tag_held x ts r (xs, is, (m, a, (n, c, j))) u =
      let z = exclusions_held (low.Tag v) tag_held [] xs n r j tt (mark_behind symbol.Tilde m n c (mark_behind symbol.At ts m a u)) in
      (subst IsHeldValue is (by xs z.0), z.1)
    where
      by : (ys : List Except) → AllByRecursion IsHeldExcept ys → IsHeldValue (stem_or_range values.LangStem values.LangRange [] ys)
      by [] g = refl
      by (y ∷ ys) g = (refl, g)

  -- values
  value_held : Every (low.OneValue v) IsHeldValue
  value_held x ts r (inl (y, is, k)) u = let w = object_held v p y ts r k u in (subst IsHeldValue is w.0, w.1)
  value_held x ts r (inr (inl (tag, is, k))) u = let w = tag_held tag ts r k u in (subst IsHeldValue is w.0, w.1)
  value_held x ts r (inr (inr (inl k))) u = stem_held (low.IriText v) iri_text_held values.IriStem values.IriRange (λ text h. h) (λ o xs h. h) x ts r k u
  value_held x ts r (inr (inr (inr (inl k)))) u = stem_held (low.LexicalForm v) lexical_held values.LitStem values.LitRange (λ text h. h) (λ o xs h. h) x ts r k u
  value_held x ts r (inr (inr (inr (inr (inl k))))) u = stem_held (low.Tag v) tag_held values.LangStem values.LangRange (λ text h. h) (λ o xs h. h) x ts r k u
  value_held x ts r (inr (inr (inr (inr (inr (inl k)))))) u = any_tag_held x ts r k u
  value_held x ts r (inr (inr (inr (inr (inr (inr (inl k))))))) u = wildcard_held (low.IriText v) iri_text_held values.IriRange (λ o xs h. h) x ts r k u
  value_held x ts r (inr (inr (inr (inr (inr (inr (inr (inl k)))))))) u = wildcard_held (low.LexicalForm v) lexical_held values.LitRange (λ o xs h. h) x ts r k u
  value_held x ts r (inr (inr (inr (inr (inr (inr (inr (inr k)))))))) u = wildcard_held (low.Tag v) tag_held values.LangRange (λ o xs h. h) x ts r k u

  pub values_held : (xs : List Value) (ts r : Ahead Spelled) → low.ValueSet v xs ts r → AreTextTokens ts → AllByRecursion IsHeldValue xs × AreTextTokens r
  values_held xs ts r (m, o, (n, k, c)) u =
      let w = all_held IsHeldValue (low.OneValue v) value_held [] xs m n k tt (mark_behind symbol.OpenBracket ts m o u) in
      (w.0, mark_behind symbol.CloseBracket n r c w.1)

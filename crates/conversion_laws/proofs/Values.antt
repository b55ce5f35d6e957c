-- The values of a value set in ShExC have a form in ShExJ: by the form of each rule.
use Rattle.std.proofs.Common.{inl, inr, ℕ, List, [], ◌∷◌, ◌++◌, Some, Ok, refl, subst, map}
use Rattle.std.specs.Char.{to_ascii_lowercase}
use Rattle.std.specs.List.{AllByRecursion, after_first}
use Rattle.std.specs.Prelude.{◌≢◌}
use Rattle.std.specs.Str.{chars}
use Rattle.lists.proofs.Quantifiers.{all_append}
use Rattle.rdf_cursor.specs.Ahead.{Ahead}
use Rattle.rdf_cursor.specs.Phrases.{Phrase, Many}
use Rattle.rdf_cursor.specs.Symbols.{is_among}
use Rattle.rdf_lex.specs.Tokens.{Spelled}
use Rattle.rdf_terms.proofs.Characters.{lowered}
use Rattle.value_sets.specs.declared.value.Except.{Except}
use Rattle.value_sets.specs.declared.value.Value.{Value}
use Rattle.value_sets.specs.declared.value.Value.TheVariants as values
use Rattle.term_tokens.specs.Scopes.{Scope}
use Rattle.term_tokens.specs.Terms.{is_at, tags}
use Rattle.term_tokens.proofs.NameLines.{chosen, ok_same}
use Rattle.shexc_constraints.specs.Grammar as low
use Rattle.shexc_constraints.specs.Meanings.{tag_of}
use Rattle.shexc_constraints.specs.Values.{stem_or_range}
use Rattle.shexc_constraints.specs.declared.faults.Fault.TheVariants as fault
use Rattle.shexc_reader.proofs.Ordered.{many_keep}
use Rattle.shexj_writer.specs.Expressible.{IsExceptTag, IsExpressibleValue, IsLimited, IsTag}
use Rattle.conversion_laws.proofs.Names.{AreAbsolute, object_form}

-- ---- tags

tag_form : (v : Scope) (text : List ℕ) (ts r : Ahead Spelled) → low.Tag v text ts r → IsTag text
unfolding tag_of
tag_form v text ts r (t, e, k) =
    let low_case : List ℕ = map to_ascii_lowercase (chars (after_first is_at t.text)) in
    let c = chosen (is_among tags t) fault.Syntax (Ok low_case) text k in
    subst IsTag (ok_same low_case text c.1) (lowered (chars (after_first is_at t.text)))

excluded_form : (v : Scope) (x : Except) (ts r : Ahead Spelled) → low.Excluded v (low.Tag v) x ts r → IsExceptTag x
excluded_form v x ts r (text, inl (is, (m, k, c))) = subst IsExceptTag is (tag_form v text ts m k)
excluded_form v x ts r (text, inr (is, k)) = subst IsExceptTag is (tag_form v text ts r k)

exclusion_form : (v : Scope) (x : Except) (ts r : Ahead Spelled) → low.Exclusion v (low.Tag v) x ts r → IsExceptTag x
exclusion_form v x ts r (m, c, k) = excluded_form v x m r k

-- lists that grow by what is so
all_more : {X : Type 0} (P : X → Type 0) (One : X → Phrase Spelled) → ((x : X) (ts r : Ahead Spelled) → One x ts r → P x) →
    (xs ys : List X) (ts r : Ahead Spelled) → low.Adds One xs ys ts r → AllByRecursion P xs → AllByRecursion P ys
all_more P One every xs ys ts r (x, is, k) p = subst (AllByRecursion P) is (all_append P xs (x ∷ []) p (every x ts r k, tt))

all_many : {X : Type 0} (P : X → Type 0) (One : X → Phrase Spelled) → ((x : X) (ts r : Ahead Spelled) → One x ts r → P x) →
    (xs ys : List X) (ts r : Ahead Spelled) → Many (low.Adds One) xs ys ts r → AllByRecursion P xs → AllByRecursion P ys
all_many P One every xs ys ts r h p = many_keep (AllByRecursion P) (low.Adds One) (λ a b m n k q. all_more P One every a b m n k q) xs ys ts r h p

exclusions_form : (v : Scope) (xs ys : List Except) (ts r : Ahead Spelled) → Many (low.Adds (low.Exclusion v (low.Tag v))) xs ys ts r → AllByRecursion IsExceptTag xs → AllByRecursion IsExceptTag ys
exclusions_form v xs ys ts r h p = all_many IsExceptTag (low.Exclusion v (low.Tag v)) (exclusion_form v) xs ys ts r h p

-- ---- exclusions of a wildcard: there are some

pub one_more : {X : Type 0} (xs : List X) (x : X) → xs ++ x ∷ [] ≢ []
one_more [] x e = cc
one_more (y ∷ ys) x e = cc

added_some : {X : Type 0} (One : X → Phrase Spelled) (xs ys : List X) (ts r : Ahead Spelled) → low.Adds One xs ys ts r → ys ≢ []
added_some One xs ys ts r (x, is, k) = subst (λ (zs : List _). zs ≢ []) is (one_more xs x)

many_some : {X : Type 0} (One : X → Phrase Spelled) (xs ys : List X) (ts r : Ahead Spelled) → Many (low.Adds One) xs ys ts r → xs ≢ [] → ys ≢ []
many_some One xs ys ts r h p = many_keep (λ (zs : List _). zs ≢ []) (low.Adds One) (λ a b m n k q. added_some One a b m n k) xs ys ts r h p

some_of : {X : Type 0} (One : X → Phrase Spelled) (ys : List X) (ts r : Ahead Spelled) → low.Some_of One ys ts r → ys ≢ []
some_of One ys ts r (xs, (m, k, h)) = many_some One xs ys m r h (added_some One [] xs ts m k)

not_none : (text : List ℕ) (es : List Except) → IsLimited (Some text) es
not_none text es e = absurd (cc)

-- ---- stems and ranges

iri_stem : (text : List ℕ) (xs : List Except) → IsExpressibleValue (stem_or_range values.IriStem values.IriRange text xs)
iri_stem text [] = tt
iri_stem text (x ∷ xs) = not_none text (x ∷ xs)

literal_stem : (text : List ℕ) (xs : List Except) → IsExpressibleValue (stem_or_range values.LitStem values.LitRange text xs)
literal_stem text [] = tt
literal_stem text (x ∷ xs) = not_none text (x ∷ xs)

tag_stem : (text : List ℕ) (xs : List Except) → IsTag text → AllByRecursion IsExceptTag xs → IsExpressibleValue (stem_or_range values.LangStem values.LangRange text xs)
tag_stem text [] h k = h
tag_stem text (x ∷ xs) h k = (h, (k, not_none text (x ∷ xs)))

-- the exclusions of a wildcard of tags
some_tags : (v : Scope) (xs : List Except) (ts r : Ahead Spelled) → low.Some_of (low.Exclusion v (low.Tag v)) xs ts r → AllByRecursion IsExceptTag xs
some_tags v xs ts r (ys, (m, k, h)) = exclusions_form v ys xs m r h (all_more IsExceptTag (low.Exclusion v (low.Tag v)) (exclusion_form v) [] ys ts m k tt)

-- ---- values

module _ (v : Scope) (h : AreAbsolute v) where
  value_form : (x : Value) (ts r : Ahead Spelled) → low.OneValue v x ts r → IsExpressibleValue x
  value_form x ts r (inl (y, is, k)) = subst IsExpressibleValue is (object_form v h y ts r k)
  value_form x ts r (inr (inl (tag, is, k))) = subst IsExpressibleValue is (tag_form v tag ts r k)
  value_form x ts r (inr (inr (inl (text, xs, is, k)))) = subst IsExpressibleValue is (iri_stem text xs)
  value_form x ts r (inr (inr (inr (inl (text, xs, is, k))))) = subst IsExpressibleValue is (literal_stem text xs)
  value_form x ts r (inr (inr (inr (inr (inl (text, xs, is, (m, k, (n, c, j)))))))) = subst IsExpressibleValue is (tag_stem text xs (tag_form v text ts m k) (exclusions_form v [] xs n r j tt))
  value_form x ts r (inr (inr (inr (inr (inr (inl (xs, is, (m, a, (n, c, j))))))))) = subst IsExpressibleValue is (tag_stem [] xs refl (exclusions_form v [] xs n r j tt))
  value_form x ts r (inr (inr (inr (inr (inr (inr (inl (xs, is, (m, c, k))))))))) = subst IsExpressibleValue is (λ e. some_of (low.Exclusion v (low.IriText v)) xs m r k)
  value_form x ts r (inr (inr (inr (inr (inr (inr (inr (inl (xs, is, (m, c, k)))))))))) = subst IsExpressibleValue is (λ e. some_of (low.Exclusion v (low.LexicalForm v)) xs m r k)
  value_form x ts r (inr (inr (inr (inr (inr (inr (inr (inr (xs, is, (m, c, k)))))))))) =
      subst IsExpressibleValue is (tt, (some_tags v xs m r k, (λ e. some_of (low.Exclusion v (low.Tag v)) xs m r k)))

  -- a value set
  pub values_form : (xs : List Value) (ts r : Ahead Spelled) → low.ValueSet v xs ts r → AllByRecursion IsExpressibleValue xs
  values_form xs ts r (m, o, (n, k, c)) = all_many IsExpressibleValue (low.OneValue v) value_form [] xs m n k tt

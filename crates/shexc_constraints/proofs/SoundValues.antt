-- What is read is spelled so: values and constraints.
use Rattle.std.proofs.Common.{Bool, ℕ, List, [], Option, Some, None, refl, inl, inr}
use Rattle.std.specs.Str.{chars}
use Rattle.rdf_cursor.specs.Ahead.{Ahead}
use Rattle.rdf_cursor.specs.Phrases.{Phrase, Many}
use Rattle.rdf_cursor.specs.Properties.{IsLocal, Consumes}
use Rattle.term_tokens.specs.Scopes.{Scope}
use Rattle.term_tokens.specs.Terms.{iri_term}
use Rattle.shexc_constraints.specs.Values.{form_of}
use Rattle.shexc_constraints.specs.Stops.{R}
use Rattle.shexc_constraints.specs.Reading.{lexical_form, iri_text, tag, stem_or_exact, exclusion, exclusions, stemmed, iri_value, literal_value, tag_value, any_tag, excluded, wildcard, value, value_behind, value_set, of_kind, of_texts, non_literal, any_literal, of_datatype, of_values, of_numbers, literal_constraint}
use Rattle.shexc_constraints.proofs.Places.{local_iri_text, consumes_iri_text, local_lexical_form, consumes_lexical_form, local_tag, consumes_tag, consumes_exclusion, consumes_value_behind}
use Rattle.shexc_constraints.proofs.Sound.{iri_meets, literal_meets, text_facet_meets, number_facet_meets, text_facets_meet, number_facets_meet, facets_meet}
use Rattle.rdf_cursor.proofs.Soundness.{Meets, meets_give, meets_one, meets_bind, meets_either, meets_rule, meets_loop}
use Rattle.rdf_lex.specs.Tokens.{Spelled}
use Rattle.value_sets.specs.declared.value.Except.{Except}
use Rattle.value_sets.specs.declared.value.Value.{Value}
use Rattle.value_sets.specs.declared.value.Value.TheVariants as values
use Rattle.rdf_cursor.specs.declared.symbols.Symbol.TheVariants as symbol
use Rattle.shexc_constraints.specs.Grammar as g
use Rattle.shexc_constraints.specs.Symbols.{Mark}

module _ (v : Scope) where
  lexical_form_meets : (ts : Ahead Spelled) → Meets (lexical_form v) (λ lex r. g.LexicalForm v lex ts r) ts
  unfolding lexical_form
  lexical_form_meets ts = meets_bind (meets_rule (literal_meets v ts) (λ x r h. meets_give (x, refl, h)))

  iri_text_meets : (ts : Ahead Spelled) → Meets (iri_text v) (λ text r. g.IriText v text ts r) ts
  unfolding iri_text
  iri_text_meets ts = meets_bind (iri_meets v _ ts (λ i r h. meets_give (i, refl, h)))

  tag_meets : (ts : Ahead Spelled) → Meets (tag v) (λ text r. g.Tag v text ts r) ts
  unfolding tag
  tag_meets ts = meets_one (λ x r h. h)

  module _ (p : R (List ℕ)) (P : List ℕ → Phrase Spelled) (local : IsLocal p) (takes : Consumes p) (met : (ts : Ahead Spelled) → Meets p (λ text r. P text ts r) ts) where
    stem_or_exact_meets : (xs : List Except) (ts : Ahead Spelled) → Meets (stem_or_exact v p xs) (λ ys r. g.Adds (g.Excluded v P) xs ys ts r) ts
    unfolding stem_or_exact
    stem_or_exact_meets xs ts = meets_bind (meets_rule (met ts) (λ text m h.
        meets_either (meets_bind (meets_one (λ t r c. meets_give (_, refl, (text, inl (refl, (m, h, (t, c)))))))) (meets_give (_, refl, (text, inr (refl, h))))))

    exclusion_meets : (xs : List Except) (ts : Ahead Spelled) → Meets (exclusion v p xs) (λ ys r. g.Adds (g.Exclusion v P) xs ys ts r) ts
    unfolding exclusion
    exclusion_meets xs ts = meets_bind (meets_one (λ t m c. meets_rule (stem_or_exact_meets xs m) (λ ys r h. (h.0, h.1, (m, (t, c), h.2)))))

    exclusions_meet : (xs : List Except) (ts : Ahead Spelled) → Meets (exclusions v p xs) (λ ys r. Many (g.Adds (g.Exclusion v P)) xs ys ts r) ts
    unfolding exclusions
    exclusions_meet xs ts = meets_loop _ _ (g.Adds (g.Exclusion v P)) (consumes_exclusion v p local takes) exclusion_meets xs ts

    -- behind its text
    stemmed_meets : (stem : List ℕ → Value) (range : Option (List ℕ) → List Except → Value) (text : List ℕ) (whole ts : Ahead Spelled) → P text whole ts
        → Meets (stemmed v p stem range text) (λ x r. g.Stem v P stem range x whole r) ts
    unfolding stemmed
    stemmed_meets stem range text whole ts h = meets_bind (meets_one (λ t m c. meets_bind (meets_rule (exclusions_meet [] m) (λ xs r k. meets_give (text, xs, refl, (ts, h, (m, (t, c), k)))))))

    -- behind `.` and the first `-`
    excluded_meets : (range : Option (List ℕ) → List Except → Value) (whole q ts : Ahead Spelled) → Mark symbol.Dot whole q → Mark symbol.Minus q ts
        → Meets (excluded v p range) (λ x r. g.Wildcard v P range x whole r) ts
    unfolding excluded
    excluded_meets range whole q ts d b = meets_bind (meets_rule (stem_or_exact_meets [] ts) (λ xs m h.
        meets_bind (meets_rule (exclusions_meet xs m) (λ ys r k. meets_give (ys, refl, (q, d, (xs, (m, (h.0, h.1, (ts, b, h.2)), k))))))))

  iri_value_meets : (ts : Ahead Spelled) → Meets (iri_value v) (λ x r. g.OneValue v x ts r) ts
  unfolding iri_value
  iri_value_meets ts = meets_bind (iri_meets v _ ts (λ i m h.
      meets_either (meets_rule (stemmed_meets (iri_text v) (g.IriText v) (local_iri_text v) (consumes_iri_text v) iri_text_meets values.IriStem values.IriRange (chars i) ts m (i, refl, h)) (λ x r k. inr (inr (inl k))))
      (meets_give (inl (iri_term i, refl, inl (i, refl, h))))))

  literal_value_meets : (ts : Ahead Spelled) → Meets (literal_value v) (λ x r. g.OneValue v x ts r) ts
  unfolding literal_value
  literal_value_meets ts = meets_bind (meets_rule (literal_meets v ts) (λ y m h.
      meets_either (meets_rule (stemmed_meets (lexical_form v) (g.LexicalForm v) (local_lexical_form v) (consumes_lexical_form v) lexical_form_meets values.LitStem values.LitRange (form_of y) ts m (y, refl, h)) (λ x r k. inr (inr (inr (inl k)))))
      (meets_give (inl (y, refl, inr h)))))

  tag_value_meets : (ts : Ahead Spelled) → Meets (tag_value v) (λ x r. g.OneValue v x ts r) ts
  unfolding tag_value
  tag_value_meets ts = meets_bind (meets_rule (tag_meets ts) (λ text m h.
      meets_either (meets_rule (stemmed_meets (tag v) (g.Tag v) (local_tag v) (consumes_tag v) tag_meets values.LangStem values.LangRange text ts m h) (λ x r k. inr (inr (inr (inr (inl k))))))
      (meets_give (inr (inl (text, refl, h))))))

  any_tag_meets : (ts : Ahead Spelled) → Meets (any_tag v) (λ x r. g.OneValue v x ts r) ts
  unfolding any_tag stemmed
  any_tag_meets ts = meets_bind (meets_one (λ t m c. meets_bind (meets_one (λ u n d.
      meets_bind (meets_rule (exclusions_meet (tag v) (g.Tag v) (local_tag v) (consumes_tag v) tag_meets [] n) (λ xs r k. meets_give (inr (inr (inr (inr (inr (inl (xs, refl, (m, (t, c), (n, (u, d), k)))))))))))))))

  wildcard_meets : (ts : Ahead Spelled) → Meets (wildcard v) (λ x r. g.OneValue v x ts r) ts
  unfolding wildcard
  wildcard_meets ts = meets_bind (meets_one (λ t m c. meets_bind (meets_one (λ u n d.
      meets_either (meets_rule (excluded_meets (iri_text v) (g.IriText v) (local_iri_text v) (consumes_iri_text v) iri_text_meets values.IriRange ts m n (t, c) (u, d)) (λ x r k. inr (inr (inr (inr (inr (inr (inl k))))))))
      (meets_either (meets_rule (excluded_meets (tag v) (g.Tag v) (local_tag v) (consumes_tag v) tag_meets values.LangRange ts m n (t, c) (u, d)) (λ x r k. inr (inr (inr (inr (inr (inr (inr (inr k)))))))))
      (meets_rule (excluded_meets (lexical_form v) (g.LexicalForm v) (local_lexical_form v) (consumes_lexical_form v) lexical_form_meets values.LitRange ts m n (t, c) (u, d)) (λ x r k. inr (inr (inr (inr (inr (inr (inr (inl k))))))))))))))

  value_meets : (ts : Ahead Spelled) → Meets (value v) (λ x r. g.OneValue v x ts r) ts
  unfolding value
  value_meets ts = meets_either (wildcard_meets ts) (meets_either (iri_value_meets ts) (meets_either (tag_value_meets ts) (meets_either (any_tag_meets ts) (literal_value_meets ts))))

  value_behind_meets : (xs : List Value) (ts : Ahead Spelled) → Meets (value_behind v xs) (λ ys r. g.Adds (g.OneValue v) xs ys ts r) ts
  unfolding value_behind
  value_behind_meets xs ts = meets_bind (meets_rule (value_meets ts) (λ x r h. meets_give (x, refl, h)))

  pub value_set_meets : (ts : Ahead Spelled) → Meets (value_set v) (λ xs r. g.ValueSet v xs ts r) ts
  unfolding value_set
  value_set_meets ts = meets_bind (meets_one (λ t m c. meets_bind (meets_rule (meets_loop _ _ (g.Adds (g.OneValue v)) (consumes_value_behind v) value_behind_meets [] m)
      (λ xs n h. meets_bind (meets_one (λ u r d. meets_give (m, (t, c), (n, h, (u, d)))))))))

-- constraints
module _ (bounded : Bool) (v : Scope) where
  pub non_literal_meets : (ts : Ahead Spelled) → Meets (non_literal bounded v) (λ e r. g.NonLiteral bounded v e ts r) ts
  unfolding non_literal of_kind of_texts
  non_literal_meets ts = meets_either
      (meets_bind (meets_one (λ s m c. meets_bind (meets_rule (text_facets_meet bounded None [] m) (λ fs r h. meets_give (inl (s, fs, refl, (m, c, h))))))))
      (meets_bind (meets_rule (text_facet_meets bounded None [] ts) (λ fs m h. meets_bind (meets_rule (text_facets_meet bounded None fs m) (λ gs r i. meets_give (inr (fs, gs, refl, (m, h, i))))))))

  pub literal_constraint_meets : (ts : Ahead Spelled) → Meets (literal_constraint bounded v) (λ e r. g.LiteralConstraint bounded v e ts r) ts
  unfolding literal_constraint any_literal of_datatype of_values of_numbers
  literal_constraint_meets ts = meets_either
      (meets_bind (meets_one (λ t m c. meets_bind (meets_rule (facets_meet bounded None [] m) (λ fs r h. meets_give (inl (fs, refl, (m, (t, c), h))))))))
      (meets_either (meets_bind (iri_meets v _ ts (λ i m c. meets_bind (meets_rule (facets_meet bounded (Some (chars i)) [] m) (λ fs r h. meets_give (inr (inl (i, fs, refl, (m, c, h)))))))))
      (meets_either (meets_bind (meets_rule (value_set_meets v ts) (λ xs m c. meets_bind (meets_rule (facets_meet bounded None [] m) (λ fs r h. meets_give (inr (inr (inl (xs, fs, refl, (m, c, h))))))))))
      (meets_bind (meets_rule (number_facet_meets bounded None [] ts) (λ fs m h. meets_bind (meets_rule (number_facets_meet bounded None fs m) (λ gs r i. meets_give (inr (inr (inr (fs, gs, refl, (m, h, i))))))))))))

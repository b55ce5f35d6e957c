-- What is read is spelled so: names, literals, facets, values, constraints.
use Rattle.std.proofs.Common.{◌≡◌, Bool, true, false, ℕ, List, Option, Result, Ok, refl, inl, inr, cond}
use Rattle.rdf_cursor.specs.Ahead.{Ahead, next_is}
use Rattle.rdf_cursor.specs.Phrases.{Many}
use Rattle.rdf_cursor.specs.Readers.{Reader, either}
use Rattle.shexc_constraints.specs.Symbols.{lengths, digit_counts}
use Rattle.term_tokens.specs.Scopes.{Scope}
use Rattle.shexc_constraints.specs.Stops.{R}
use Rattle.shexc_constraints.specs.Reading.{iri, predicate, label, datatyped, suffix, literal, object, annotation, annotations, notes, reference, counted, ranged, text_facet, number_facet, facet, text_facets_behind, number_facets_behind, facets_behind, a_facet}
use Rattle.shexc_constraints.proofs.Places.{consumes_annotation, consumes_text_facet, consumes_number_facet, consumes_facet}
use Rattle.rdf_cursor.proofs.Soundness.{Meets, meets_give, meets_one, meets_bind, meets_either, meets_rule, meets_loop}
use Rattle.rdf_lex.specs.Tokens.{Spelled}
use Rattle.node_constraint.specs.declared.facet.Facet.{Facet}
use Rattle.rdf_cursor.specs.declared.symbols.Symbol.{Symbol}
use Rattle.shexc_constraints.specs.declared.faults.Fault.{Fault}
use Rattle.shexc_constraints.specs.Grammar as g
use Rattle.shexc_constraints.proofs.Admitted.{admitted_is}
use Rattle.shexc_constraints.specs.Patterns.{pattern_of}
use Rattle.shexc_constraints.specs.Facets.{counted_of, ranged_of}

-- the second reader where the next token is not of the class
by_class : {T F A : Type 0} (class : T → Bool) (p q : Reader T F A) (R : A → Ahead T → Type 0) (ts : Ahead T) (b : Bool) → next_is class ts ≡ b → Meets p R ts →
    (next_is class ts ≡ false → Meets q R ts)
    → (y : A × Ahead T) → cond b (p ts) (q ts) ≡ Ok y → R y.0 y.1
by_class class p q R ts true e h k y is = h.holds y is
by_class class p q R ts false e h k y is = (k e).holds y is

pub meets_or_else : {T F A : Type 0} (class : T → Bool) (p q : Reader T F A) (R : A → Ahead T → Type 0) (ts : Ahead T) → Meets p R ts →
    (next_is class ts ≡ false → Meets q R ts) → Meets (either class p q) R ts
meets_or_else class p q R ts h k = record { holds = λ y is. by_class class p q R ts (next_is class ts) refl h k y is }

module _ (v : Scope) where
  pub iri_meets : (P : List ℕ → Ahead Spelled → Type 0) (ts : Ahead Spelled) → ((i : List ℕ) (r : Ahead Spelled) → g.Iri v i ts r → P i r) → Meets (iri v) P ts
  unfolding iri
  iri_meets P ts h = meets_one h

  pub predicate_meets : (ts : Ahead Spelled) → Meets (predicate v) (λ p r. g.Predicate v p ts r) ts
  unfolding predicate
  predicate_meets ts = meets_either (meets_bind (meets_one (λ t r h. meets_give (inl (refl, (t, h)))))) (iri_meets _ ts (λ i r h. inr h))

  pub label_meets : (ts : Ahead Spelled) → Meets (label v) (λ l r. g.AnyLabel v l ts r) ts
  unfolding label
  label_meets ts = meets_either (meets_bind (meets_one (λ name r h. meets_give (inr (name, refl, h))))) (meets_bind (iri_meets _ ts (λ i r h. meets_give (inl (i, refl, h)))))

  pub suffix_meets : (lex : List ℕ) (ts : Ahead Spelled) → Meets (suffix v lex) (λ x r. g.Suffix v lex x ts r) ts
  unfolding suffix datatyped
  suffix_meets lex ts = meets_or_else _ _ _ _ ts (meets_one (λ x r h. inl h))
      (λ no_tag. meets_either (meets_bind (meets_one (λ t m c. meets_one (λ x r h. inr (inl (m, (t, c), h)))))) (meets_give (inr (inr (refl, no_tag, refl)))))

  pub literal_meets : (ts : Ahead Spelled) → Meets (literal v) (λ x r. g.Literal v x ts r) ts
  unfolding literal
  literal_meets ts = meets_either (meets_bind (meets_one (λ lex m s. meets_rule (suffix_meets lex m) (λ x r h. inl (lex, (m, s, h)))))) (meets_one (λ x r h. inr h))

  pub object_meets : (ts : Ahead Spelled) → Meets (object v) (λ x r. g.Object v x ts r) ts
  unfolding object
  object_meets ts = meets_either (meets_bind (iri_meets _ ts (λ i r h. meets_give (inl (i, refl, h))))) (meets_rule (literal_meets ts) (λ x r h. inr h))

  pub annotation_meets : (ts : Ahead Spelled) → Meets (annotation v) (λ u r. g.Annotation v ts r) ts
  unfolding annotation
  annotation_meets ts =
      meets_bind (meets_one (λ t m c. meets_bind (meets_rule (predicate_meets m) (λ p n h. meets_bind (meets_rule (object_meets n) (λ x r i. meets_give (p, x, (m, (t, c), (n, h, i)))))))))

  pub annotations_meet : (ts : Ahead Spelled) → Meets (annotations v) (λ u r. g.Each (g.Annotation v) ts r) ts
  unfolding annotations
  annotations_meet ts = meets_loop _ _ (λ (a b : Unit {0}) ts r. g.Annotation v ts r) (λ u. consumes_annotation v) (λ u ts. annotation_meets ts) tt ts

  pub notes_meet : (whole : Bool) (ts : Ahead Spelled) → Meets (notes v whole) (λ u r. g.Notes v whole ts r) ts
  unfolding notes
  notes_meet true ts = annotations_meet ts
  notes_meet false ts = meets_give refl

  pub reference_meets : (ts : Ahead Spelled) → Meets (reference v) (λ e r. g.Reference v e ts r) ts
  unfolding reference
  reference_meets ts = meets_either (meets_bind (meets_one (λ i r h. meets_give (_, refl, inr (i, refl, h)))))
      (meets_bind (meets_one (λ t m c. meets_bind (meets_rule (label_meets m) (λ l r h. meets_give (l, refl, inl (m, (t, c), h)))))))

-- facets
module _ (bounded : Bool) (datatype : Option (List ℕ)) where
  pub a_facet_meets : (class : Spelled → Result Facet Fault) (fs : List Facet) (P : List Facet → Ahead Spelled → Type 0) (ts : Ahead Spelled)
      → ((gs : List Facet) (r : Ahead Spelled) → g.AFacet bounded datatype class fs gs ts r → P gs r) → Meets (a_facet bounded datatype class fs) P ts
  unfolding a_facet
  a_facet_meets class fs P ts h = meets_bind (meets_one (λ f r c. meets_give (let a = admitted_is bounded datatype class f ts r c in h _ r (f, refl, a.0, a.1))))

  pub counted_meets : (words : List Symbol) (fs : List Facet) (ts : Ahead Spelled) → Meets (counted bounded datatype words fs) (λ gs r. g.Counted bounded datatype words fs gs ts r) ts
  unfolding counted
  counted_meets words fs ts = meets_bind (meets_one (λ s m c. a_facet_meets (counted_of s) fs _ m (λ gs r h. (s, (m, c, h)))))

  pub text_facet_meets : (fs : List Facet) (ts : Ahead Spelled) → Meets (text_facet bounded datatype fs) (λ gs r. g.TextFacet bounded datatype fs gs ts r) ts
  unfolding text_facet
  text_facet_meets fs ts = meets_either (a_facet_meets (pattern_of fs) fs _ ts (λ gs r h. inl h)) (meets_rule (counted_meets lengths fs ts) (λ gs r h. inr h))

  pub number_facet_meets : (fs : List Facet) (ts : Ahead Spelled) → Meets (number_facet bounded datatype fs) (λ gs r. g.NumberFacet bounded datatype fs gs ts r) ts
  unfolding number_facet ranged
  number_facet_meets fs ts = meets_either (meets_rule (counted_meets digit_counts fs ts) (λ gs r h. inr h))
      (meets_bind (meets_one (λ s m c. a_facet_meets (ranged_of s) fs _ m (λ gs r h. inl (s, (m, c, h))))))

  pub facet_meets : (fs : List Facet) (ts : Ahead Spelled) → Meets (facet bounded datatype fs) (λ gs r. g.AnyFacet bounded datatype fs gs ts r) ts
  unfolding facet
  facet_meets fs ts = meets_either (meets_rule (text_facet_meets fs ts) (λ gs r h. inl h)) (meets_rule (number_facet_meets fs ts) (λ gs r h. inr h))

  pub text_facets_meet : (fs : List Facet) (ts : Ahead Spelled) → Meets (text_facets_behind bounded datatype fs) (λ gs r. Many (g.TextFacet bounded datatype) fs gs ts r) ts
  unfolding text_facets_behind
  text_facets_meet fs ts = meets_loop _ _ (g.TextFacet bounded datatype) (consumes_text_facet bounded datatype) text_facet_meets fs ts

  pub number_facets_meet : (fs : List Facet) (ts : Ahead Spelled) → Meets (number_facets_behind bounded datatype fs) (λ gs r. Many (g.NumberFacet bounded datatype) fs gs ts r) ts
  unfolding number_facets_behind
  number_facets_meet fs ts = meets_loop _ _ (g.NumberFacet bounded datatype) (consumes_number_facet bounded datatype) number_facet_meets fs ts

  pub facets_meet : (fs : List Facet) (ts : Ahead Spelled) → Meets (facets_behind bounded datatype fs) (λ gs r. Many (g.AnyFacet bounded datatype) fs gs ts r) ts
  unfolding facets_behind
  facets_meet fs ts = meets_loop _ _ (g.AnyFacet bounded datatype) (consumes_facet bounded datatype) facet_meets fs ts

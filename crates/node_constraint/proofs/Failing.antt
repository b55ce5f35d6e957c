-- Facets that are tried in their order, and the first part that a term fails.
use Rattle.std.proofs.Common.{◌≡◌, ℕ, Bool, true, false, true≢false, ◌+◌, ◌<◌, ◌≤◌, List, [], ◌∷◌, ◌++◌, Option, Some, None, IsTrue, ◌↔◌, MatchOption, Result, IfOk, ap, drop, get_or, length, refl, subst, sym, take, ◌∙◌}
use Rattle.std.proofs.Math.Logic.{∥∥₁_map}
use Rattle.std.proofs.lemmas.List.{drop_more, take_all, take_more}
use Rattle.std.proofs.lemmas.Option.{slice_get_read}
use Rattle.std.specs.List.{AllByRecursion}
use Rattle.std.specs.declared.alloc.AllocError.{AllocError}
use Rattle.lists.proofs.Members.{got_in}
use Rattle.lists.proofs.Quantifiers.{all_append, all_at}
use Rattle.rdf_terms.specs.declared.terms.Term.{Term}
use Rattle.xs_pattern.specs.declared.pattern.Pattern.{Pattern}
use Rattle.node_constraint.specs.declared.facet.Facet.{Facet}
use Rattle.node_constraint.specs.declared.facet.Facet.TheVariants as Facets
use Rattle.node_constraint.specs.declared.part.ConstraintPart.{ConstraintPart}
use Rattle.node_constraint.specs.declared.part.ConstraintPart.TheVariants as Parts
use Rattle.node_constraint.specs.Constraint.{Constraint}
use Rattle.node_constraint.specs.Datatypes.{decimal_of}
use Rattle.node_constraint.specs.Facets.{HasPattern, SatFacet, text_of}
use Rattle.node_constraint.specs.Held.{AreReadFrom, IsFirstWithout, IsFoundIn, SatPlain}
use Rattle.node_constraint.specs.Laws.{FailedPartIsEnough}
use Rattle.node_constraint.specs.Making.{PatternText, patterns_in}
use Rattle.node_constraint.specs.Parts.{FailsPart, HasFacet}
use Rattle.node_constraint.specs.SatNode.{SatNode}
use Rattle.node_constraint.proofs.Deciding.{decide_pattern}
use Rattle.node_constraint.proofs.Joining.{same_pattern, unsealed}
use Rattle.node_constraint.proofs.Turning.{none_in}

-- ---- one facet

-- a pattern that is the first of those that are read
module _ (t : PatternText) (ts : List PatternText) (text : List ℕ) where
  pub first_found : (p : Pattern) (ps : List Pattern) (b : Bool) → IsTrue b ↔ IsFoundIn text p → ∥ AreReadFrom (t ∷ ts) (p ∷ ps) ∥₁ → IsTrue b ↔ HasPattern t.pattern t.flags text
  first_found p ps b told sealed =
      unsealed text None b (decide_pattern t.pattern t.flags text) (∥∥₁_map sealed (λ read.
      let same = same_pattern t p text read.0 in
      (λ h. same.0 (told.0 h), λ h. told.1 (same.1 h))))

  pub is_found : (whole ps : List Pattern) (p : Pattern) {b : Bool} → whole ≡ p ∷ ps → b ≡ true → IsTrue b ↔ IsFoundIn text p → ∥ AreReadFrom (t ∷ ts) whole ∥₁ →
      HasPattern t.pattern t.flags text × ∥ AreReadFrom ts ps ∥₁
  is_found whole ps p {b} is is_match told sealed =
      let read = subst (λ qs. ∥ AreReadFrom (t ∷ ts) qs ∥₁) is sealed in
      ((first_found p ps b told read).0 is_match, ∥∥₁_map read (λ both. both.1))

  pub not_found : (whole ps : List Pattern) (p : Pattern) {b : Bool} → whole ≡ p ∷ ps → b ≡ false → IsTrue b ↔ IsFoundIn text p → ∥ AreReadFrom (t ∷ ts) whole ∥₁ → ¬ HasPattern t.pattern t.flags text
  not_found whole ps p {b} is no_match told sealed h =
      true≢false (sym ((first_found p ps b told (subst (λ qs. ∥ AreReadFrom (t ∷ ts) qs ∥₁) is sealed)).1 h) ∙ no_match)

module _ (text : List ℕ) (decimal : Option (List ℕ)) where
  -- a facet that is no pattern holds where it holds as one of these
  pub plain_told : (facet : Facet) (b : Bool) → ((pattern flags : List ℕ) → facet ≡ Facets.Pattern pattern flags → ⊥) → IsTrue b ↔ SatPlain facet text decimal → IsTrue b ↔ SatFacet facet text decimal
  plain_told (Facets.Length n) b plain told = told
  plain_told (Facets.MinLength n) b plain told = told
  plain_told (Facets.MaxLength n) b plain told = told
  plain_told (Facets.MinInclusive v) b plain told = told
  plain_told (Facets.MinExclusive v) b plain told = told
  plain_told (Facets.MaxInclusive v) b plain told = told
  plain_told (Facets.MaxExclusive v) b plain told = told
  plain_told (Facets.TotalDigits n) b plain told = told
  plain_told (Facets.FractionDigits n) b plain told = told
  plain_told (Facets.Pattern pattern flags) b plain told = absurd (plain pattern flags refl)

  -- and then the patterns are those of the facets behind it
  pub plain_holds :
      (facet : Facet) (facets : List Facet) (ps : List Pattern) {b : Bool} → ((pattern flags : List ℕ) → facet ≡ Facets.Pattern pattern flags → ⊥) → b ≡ true → IsTrue b ↔ SatPlain facet text decimal →
      ∥ AreReadFrom (patterns_in (facet ∷ facets)) ps ∥₁ → SatFacet facet text decimal × ∥ AreReadFrom (patterns_in facets) ps ∥₁
  plain_holds facet facets ps {b} plain is_match told sealed = (
    (plain_told facet b plain told).0 is_match,
    subst (λ ts. ∥ AreReadFrom (ts ++ patterns_in facets) ps ∥₁) (none_in facet plain) sealed,
  )

  pub plain_fails : (facet : Facet) {b : Bool} → ((pattern flags : List ℕ) → facet ≡ Facets.Pattern pattern flags → ⊥) → b ≡ false →
      IsTrue b ↔ SatPlain facet text decimal → ¬ SatFacet facet text decimal
  plain_fails facet {b} plain no_match told h = true≢false (sym ((plain_told facet b plain told).1 h) ∙ no_match)

  -- of a facet that is a pattern
  pub pattern_told :
      {R : Type 0} (now : R → List Pattern) (r : Result (Option R) AllocError) (ps : List Pattern) (facet : Facet) (pattern flags : List ℕ) → facet ≡ Facets.Pattern pattern flags →
      ((t : PatternText) (ts : List PatternText) → ∥ AreReadFrom (t ∷ ts) ps ∥₁ →
      IfOk r (λ rest. MatchOption rest (¬ HasPattern t.pattern t.flags text) (λ qs. HasPattern t.pattern t.flags text × ∥ AreReadFrom ts (now qs) ∥₁))) →
      (facets : List Facet) → ∥ AreReadFrom (patterns_in (facet ∷ facets)) ps ∥₁ →
      IfOk r (λ rest. MatchOption rest (¬ SatFacet facet text decimal) (λ qs. SatFacet facet text decimal × ∥ AreReadFrom (patterns_in facets) (now qs) ∥₁))
  pattern_told {R} now r ps facet pattern flags is told =
      subst (λ (f : Facet). (facets : List Facet) → ∥ AreReadFrom (patterns_in (f ∷ facets)) ps ∥₁ →
      IfOk r (λ rest. MatchOption rest (¬ SatFacet f text decimal) (λ (qs : R). SatFacet f text decimal × ∥ AreReadFrom (patterns_in facets) (now qs) ∥₁))) (sym is)
      (λ facets sealed. told (record { pattern = pattern; flags = flags }) (patterns_in facets) sealed)

-- ---- the first facet that does not hold

-- the facets before a place hold, and the patterns are those of the facets from there on
pub record AreTried (P : Facet → Type 0) (facets : List Facet) (place : ℕ) (ps : List Pattern) : Type 0 where
  pub before : AllByRecursion P (take place facets)
  pub unread : ∥ AreReadFrom (patterns_in (drop place facets)) ps ∥₁

module _ (P : Facet → Type 0) (facets : List Facet) where
  pub none_tried : (ps : List Pattern) → ∥ AreReadFrom (patterns_in facets) ps ∥₁ → AreTried P facets 0 ps
  none_tried ps sealed = record { before = tt; unread = sealed }

  module _ (place : ℕ) (facet : Facet) (within : place < length facets) (is : facet ≡ get_or facets place facet) where
    -- the patterns are those of the next facet and of those behind it
    pub unread_here : (ps : List Pattern) → AreTried P facets place ps → ∥ AreReadFrom (patterns_in (facet ∷ drop (place + 1) facets)) ps ∥₁
    unread_here ps tried =
        subst (λ fs. ∥ AreReadFrom (patterns_in fs) ps ∥₁) (drop_more facets place facet within ∙ ap (λ f. f ∷ drop (place + 1) facets) (sym is)) tried.unread

    pub tries_more : (ps rest : List Pattern) → AreTried P facets place ps → P facet × ∥ AreReadFrom (patterns_in (drop (place + 1) facets)) rest ∥₁ → AreTried P facets (place + 1) rest
    tries_more ps rest tried here = record {
      before =
          subst (AllByRecursion P) (sym (take_more facets place facet within ∙ ap (λ f. take place facets ++ f ∷ []) (sym is)))
          (all_append P (take place facets) (facet ∷ []) tried.before (here.0, tt));
      unread = here.1;
    }

    pub ends_tried : {R : Type 0} (Q : R → Type 0) (ps : List Pattern) (rest : Option R) → AreTried P facets place ps → rest ≡ None →
        MatchOption rest (¬ P facet) Q → IsFirstWithout P facets (Some place)
    ends_tried Q ps rest tried none told = (
      tried.before,
      (facet, slice_get_read facets (length facets) place facet refl within is, subst (λ o. MatchOption o (¬ P facet) Q) none told),
    )

  pub all_tried : (place : ℕ) (ps : List Pattern) → length facets ≤ place → AreTried P facets place ps → IsFirstWithout P facets None
  all_tried place ps past tried = subst (AllByRecursion P) (take_all place facets past) tried.before

-- a text and a decimal text that are those of the term
pub of_term : (facets : List Facet) (term : Term) (text : List ℕ) (decimal : Option (List ℕ)) (r : Result (Option ℕ) AllocError) → text ≡ text_of term → decimal ≡ decimal_of term →
    IfOk r (IsFirstWithout (λ facet. SatFacet facet text decimal) facets) → IfOk r (IsFirstWithout (HasFacet term) facets)
of_term facets term text decimal r is_text is_decimal h =
    subst (λ d. IfOk r (IsFirstWithout (λ facet. SatFacet facet (text_of term) d) facets)) is_decimal
    (subst (λ t. IfOk r (IsFirstWithout (λ facet. SatFacet facet t decimal) facets)) is_text h)

-- ---- the first part

module _ (c : Constraint) (term : Term) where
  pub enough : (part : ConstraintPart) → FailsPart c term part → ¬ SatNode c term
  enough Parts.Kind fails sat = fails sat.kind
  enough Parts.Datatype fails sat = fails sat.datatype
  enough (Parts.Facet place) fails sat = fails.2 (all_at (HasFacet term) c.facets fails.0 sat.facets (got_in c.facets place fails.0 fails.1))
  enough Parts.Values fails sat = fails sat.values

pub one_is_enough : FailedPartIsEnough
one_is_enough c term part fails = enough c term part fails

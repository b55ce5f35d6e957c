-- Where two judgements of values allow the same places, they have the same reasons; so a view that answers as a typing does for each pair
-- that is needed has the typing's reasons.
use Rattle.std.proofs.Common.{◌≡◌, ℕ, refl, subst, List, [], ◌∷◌, true}
use Rattle.std.specs.Prelude.{◌↔◌, Contains, Option, Some, None}
use Rattle.lists.proofs.Members.{in_one, is_first, is_later}
use Rattle.node_constraint.specs.Laws.{NodesAreDecided}
use Rattle.rdf_terms.specs.declared.terms.Term.{Term}
use Rattle.rdf_terms.specs.declared.terms.TermId.{TermId}
use Rattle.rdf_terms.specs.declared.terms.Triple.{Triple}
use Rattle.schema_tree.specs.declared.schema.ExprId.{ExprId}
use Rattle.schema_tree.specs.declared.schema.Occurrence.{Occurrence}
use Rattle.schema_tree.specs.declared.schema.Pair.{Pair}
use Rattle.schema_tree.specs.declared.schema.Schema.{Schema}
use Rattle.schema_tree.specs.declared.schema.Shape.{Shape}
use Rattle.schema_tree.specs.declared.verdicts.Lean.TheVariants.{Possible}
use Rattle.schema_tree.specs.declared.verdicts.Place.{Place}
use Rattle.schema_tree.specs.declared.verdicts.Verdict.TheVariants.{Yes, No}
use Rattle.schema_tree.specs.Entries.{pair_of, shape_at}
use Rattle.schema_tree.specs.Matches.{SatValue, fits, other_end}
use Rattle.schema_tree.specs.Needs.{Needs}
use Rattle.schema_tree.specs.Places.{AreAllowed, IsAllowed, MayFail, MayHold}
use Rattle.schema_tree.specs.Relevant.{is_forward, relevant_in_order}
use Rattle.schema_tree.specs.Satisfies.{Sat}
use Rattle.schema_tree.specs.Sure.{Known, PairIs}
use Rattle.schema_tree.proofs.ExactViews.{value_exact}
use Rattle.schema_tree.proofs.Leans.{all_weaker_allowed}
use Rattle.schema_tree.proofs.Needed.{in_graph, need_of}
use Rattle.schema_tree.proofs.ToPlaces.{forward_parts}
use Rattle.nonconformance.specs.declared.reason.Reason.{Reason}
use Rattle.nonconformance.specs.declared.reason.Reason.TheVariants.{Forbidden, Unmatched, TooFew, TooMany, NoMatchingCounts, NoMatchingPlaces}
use Rattle.nonconformance.specs.Reasons.{IsKnownReason, HasNoMatchingCounts, HasNoMatchingPlaces, IsKnownReasonOf, IsReason, IsTooFew, IsTooMany, IsTrueReason, IsTrueReasonOf, IsUnmatched, MayServe, MustServe}
use Rattle.nonconformance.specs.Those.{AreThose}
use Rattle.nonconformance.proofs.Items.{those_alike}

module _ (hold fail hold' fail' : TermId → Option ExprId → Type 0) (g : List Triple) (sh : Shape) (n : TermId) (ts : List Triple)
    (to : (t : Triple) → Contains ts t → (p : Place) → IsAllowed hold fail sh n t p → IsAllowed hold' fail' sh n t p)
    (back : (t : Triple) → Contains ts t → (p : Place) → IsAllowed hold' fail' sh n t p → IsAllowed hold fail sh n t p) where
  may_alike : (cs : List ℕ) (t : Triple) → Contains ts t → MayServe hold fail sh n cs t ↔ MayServe hold' fail' sh n cs t
  may_alike cs t c = ((λ h. (h.0, h.1, to t c h.0 h.2)), (λ h. (h.0, h.1, back t c h.0 h.2)))

  must_alike : (cs : List ℕ) (t : Triple) → Contains ts t → MustServe hold fail sh n cs t ↔ MustServe hold' fail' sh n cs t
  must_alike cs t c = (
    (λ h. ((may_alike cs t c).0 h.0, (λ p a. h.1 p (back t c p a)))),
    (λ h. ((may_alike cs t c).1 h.0, (λ p a. h.1 p (to t c p a)))),
  )

  may_those : (cs : List ℕ) (found : List Triple) → AreThose (MayServe hold fail sh n cs) ts found → AreThose (MayServe hold' fail' sh n cs) ts found
  may_those cs found those = those_alike (MayServe hold fail sh n cs) (MayServe hold' fail' sh n cs) ts found (may_alike cs) those

  must_those : (cs : List ℕ) (found : List Triple) → AreThose (MustServe hold fail sh n cs) ts found → AreThose (MustServe hold' fail' sh n cs) ts found
  must_those cs found those = those_alike (MustServe hold fail sh n cs) (MustServe hold' fail' sh n cs) ts found (must_alike cs) those

  all_back : (us : List Triple) (ps : List Place) → ((t : Triple) → Contains us t → Contains ts t) → AreAllowed hold' fail' sh n us ps → AreAllowed hold fail sh n us ps
  all_back [] [] inside a = a
  all_back [] (p ∷ ps) inside a = a
  all_back (t ∷ us) [] inside a = a
  all_back (t ∷ us) (p ∷ ps) inside a = (back t (inside t (is_first t us)) p a.0, all_back us ps (λ u c. inside u (is_later t us u c)) a.1)

  few_alike : (cs : List ℕ) (least : ℕ) (found : List Triple) → IsTooFew hold fail g sh n ts cs least found → IsTooFew hold' fail' g sh n ts cs least found
  few_alike cs least found h = record { expression = h.expression; is = h.is; take = h.take; those = may_those cs found h.those; short = h.short }

  many_alike : (cs : List ℕ) (most : ℕ) (found : List Triple) → IsTooMany hold fail g sh n ts cs most found → IsTooMany hold' fail' g sh n ts cs most found
  many_alike cs most found h = record { expression = h.expression; is = h.is; take = h.take; those = must_those cs found h.those; over = h.over }

  counts_alike : (low high : List ℕ) → HasNoMatchingCounts hold fail g sh n ts low high → HasNoMatchingCounts hold' fail' g sh n ts low high
  counts_alike low high h = record {
    expression = h.expression;
    is = h.is;
    low_is = h.low_is;
    high_is = h.high_is;
    least = λ i lt. let (found, those, same) = h.least i lt in (found, must_those (i ∷ []) found those, same);
    most = λ i lt. let (found, those, same) = h.most i lt in (found, may_those (i ∷ []) found those, same);
    none = h.none;
  }

  unmatched_alike : (t : Triple) → IsUnmatched hold fail g sh n ts t → IsUnmatched hold' fail' g sh n ts t
  unmatched_alike t h = record { there = h.there; nowhere = λ p a. h.nowhere p (back t h.there p a) }

module _ (hold fail hold' fail' : TermId → Option ExprId → Type 0) (g : List Triple) (sh : Shape) (n : TermId) (ts : List Triple)
    (to : (t : Triple) → Contains ts t → (p : Place) → IsAllowed hold fail sh n t p → IsAllowed hold' fail' sh n t p)
    (back : (t : Triple) → Contains ts t → (p : Place) → IsAllowed hold' fail' sh n t p → IsAllowed hold fail sh n t p) where
  places_alike : HasNoMatchingPlaces hold fail g sh n ts → HasNoMatchingPlaces hold' fail' g sh n ts
  places_alike h = record {
    permitted = λ t r. h.permitted t (record { closed = r.closed; out = r.out; alone = r.alone });
    matched = λ t r. h.matched t (unmatched_alike hold' fail' hold fail g sh n ts back to t r);
    counted = λ low high r. h.counted low high (counts_alike hold' fail' hold fail g sh n ts back to low high r);
    none = λ places allowed. h.none places (all_back hold fail hold' fail' g sh n ts to back ts places (λ t c. c) allowed);
  }

  pub reason_alike : (r : Reason) → IsReason hold fail g sh n ts r → IsReason hold' fail' g sh n ts r
  reason_alike (Forbidden t) h = record { closed = h.closed; out = h.out; alone = h.alone }
  reason_alike (Unmatched t) h = unmatched_alike hold fail hold' fail' g sh n ts to back t h
  reason_alike (TooFew cs least found) h = few_alike hold fail hold' fail' g sh n ts to back cs least found h
  reason_alike (TooMany cs most found) h = many_alike hold fail hold' fail' g sh n ts to back cs most found h
  reason_alike (NoMatchingCounts low high) h = counts_alike hold fail hold' fail' g sh n ts to back low high h
  reason_alike NoMatchingPlaces h = places_alike h

module _ (nodes : NodesAreDecided) (s : Schema) (terms : List Term) (g : List Triple) (view : Known) (T : List Pair) (p : Pair)
    (needed : (q : Pair) → Needs s g p q → (Contains T q → PairIs view q Yes) × (¬ Contains T q → PairIs view q No)) where
  module _ (sh : Shape) (is : shape_at s p.shape ≡ Some sh) where
    abbrev Exact : TermId → Option ExprId → Type 0
    Exact m v =
        (SatValue (Sat s terms T m) v ↔ MayHold s terms view Possible m v) × ((¬ SatValue (Sat s terms T m) v) ↔ MayFail s terms view Possible m v)

    -- the view answers for all that the value of a constraint asks of the other end of a triple that it fits
    exact_at : (t : Triple) (o : Occurrence) → Contains g t → Contains sh.occs o → fits o p.node t ≡ true → Exact (other_end o.inverse t) o.value
    exact_at t o held of fit =
        value_exact s terms nodes view T (other_end o.inverse t) Possible o.value
        (λ e value i sign st. needed (pair_of (other_end o.inverse t) i) (need_of s g p sh is t held o of fit e value i sign st))

    exact_out : (t : Triple) (o : Occurrence) → Contains g t → Contains sh.occs o → is_forward p.node t o ≡ true → Exact t.o o.value
    exact_out t o held of forward =
        let parts = forward_parts (Sat s terms T) g sh p.node t o forward in
        subst (λ b. Exact (other_end b t) o.value) parts.0 (exact_at t o held of parts.1)

    abbrev hold : TermId → Option ExprId → Type 0
    hold m v = SatValue (Sat s terms T m) v

    abbrev fail : TermId → Option ExprId → Type 0
    fail m v = ¬ SatValue (Sat s terms T m) v

    to : (t : Triple) → Contains (relevant_in_order terms g sh p.node) t → (place : Place) →
        IsAllowed (MayHold s terms view Possible) (MayFail s terms view Possible) sh p.node t place → IsAllowed hold fail sh p.node t place
    to t c place a =
        (all_weaker_allowed (MayHold s terms view Possible) (MayFail s terms view Possible) hold fail sh p.node (λ u. Contains g u)
        (λ u o held of fit. (exact_at u o held of fit).0.1) (λ u o held extra of forward. (exact_out u o held of forward).1.1)
        (t ∷ []) (place ∷ []) (λ u d. subst (λ z. Contains g z) (in_one t u d) (in_graph terms g sh p.node t c)) (a, tt)).0

    back : (t : Triple) → Contains (relevant_in_order terms g sh p.node) t → (place : Place) →
        IsAllowed hold fail sh p.node t place → IsAllowed (MayHold s terms view Possible) (MayFail s terms view Possible) sh p.node t place
    back t c place a =
        (all_weaker_allowed hold fail (MayHold s terms view Possible) (MayFail s terms view Possible) sh p.node (λ u. Contains g u)
        (λ u o held of fit. (exact_at u o held of fit).0.0) (λ u o held extra of forward. (exact_out u o held of forward).1.0)
        (t ∷ []) (place ∷ []) (λ u d. subst (λ z. Contains g z) (in_one t u d) (in_graph terms g sh p.node t c)) (a, tt)).0

    reason_true : (r : Reason) → IsReason (MayHold s terms view Possible) (MayFail s terms view Possible) g sh p.node (relevant_in_order terms g sh p.node) r →
        IsReason hold fail g sh p.node (relevant_in_order terms g sh p.node) r
    reason_true r h =
        reason_alike (MayHold s terms view Possible) (MayFail s terms view Possible) hold fail g sh p.node (relevant_in_order terms g sh p.node) to back r h

  pub known_true : (r : Reason) → IsKnownReason s terms g view p r → IsTrueReason s terms g T p r
  known_true r = go (shape_at s p.shape) refl
    where
      go : (x : Option Shape) → shape_at s p.shape ≡ x → IsKnownReasonOf s terms g view p.node x r → IsTrueReasonOf s terms g T p.node x r
      go None is h = h
      go (Some sh) is h = reason_true sh is r h

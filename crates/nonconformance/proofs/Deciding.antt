-- A node that does not have a Shape has a reason, where the values of its constraints are decided.
use Rattle.std.proofs.Common.{◌≡◌, ℕ, zero, suc, ◌+◌, ◌⊎◌, inl, inr, refl, arith, sym, subst, Bool, true, false, true≢false, not, length, List, [], ◌∷◌, ◌++◌}
use Rattle.std.proofs.lemmas.Bool.{or_left}
use Rattle.std.specs.Prelude.{Contains, Option, Some, None, ◌&&◌, ◌||◌, slice_index}
use Rattle.std.specs.List.{list_all, list_any}
use Rattle.lists.proofs.Decided.{Decided, decide_both, decide_true}
use Rattle.lists.proofs.Members.{in_rest, is_first, is_later, not_in_none}
use Rattle.rdf_terms.specs.declared.terms.TermId.{TermId}
use Rattle.rdf_terms.specs.declared.terms.Triple.{Triple}
use Rattle.rdf_terms.specs.Graphs.{outs}
use Rattle.tally.specs.Plan.{Plan}
use Rattle.tally.specs.Span.{HasSpan, span}
use Rattle.tally.proofs.Exact.{copies_under}
use Rattle.schema_tree.specs.declared.schema.ExprId.{ExprId}
use Rattle.schema_tree.specs.declared.schema.Shape.{Shape}
use Rattle.schema_tree.specs.declared.verdicts.Place.{Place}
use Rattle.schema_tree.specs.Loaded.{BodyOk}
use Rattle.schema_tree.specs.Places.{AreAllowed, HasPlaces, IsAllowed, IsShut}
use Rattle.schema_tree.specs.Relevant.{is_relevant}
use Rattle.schema_tree.proofs.Decide.{Found, decide_found, decide_span}
use Rattle.nonconformance.specs.declared.reason.Reason.{Reason}
use Rattle.nonconformance.specs.declared.reason.Reason.TheVariants.{Forbidden, Unmatched, NoMatchingCounts, NoMatchingPlaces}
use Rattle.nonconformance.specs.Bounds.{is_at}
use Rattle.nonconformance.specs.Offers.{AreCounts}
use Rattle.nonconformance.specs.Reasons.{IsForbidden, IsOneOf, IsReason, IsUnmatched, MayServe, MustServe}
use Rattle.nonconformance.specs.Those.{AreThose}
use Rattle.nonconformance.proofs.Hindered.{by_places, no_numbers, numbers_match}
use Rattle.nonconformance.proofs.Items.{those_exist}
use Rattle.nonconformance.proofs.Serving.{at_one, one_at}
use Rattle.nonconformance.proofs.Setting.{counts_more}

-- a list of so many numbers
numbers_exist : (f : ℕ → ℕ) (count : ℕ) → (numbers : List ℕ) × AreCounts f count numbers
numbers_exist f zero = ([], (refl, λ i lt. absurd (omega (arith, lt))))
numbers_exist f (suc k) = go (numbers_exist f k)
  where
    more : k + 1 ≡ suc k
    more = omega arith

    go : ((numbers : List ℕ) × AreCounts f k numbers) → (numbers : List ℕ) × AreCounts f (suc k) numbers
    go (numbers, are) = (numbers ++ f k ∷ [], subst (λ m. AreCounts f m (numbers ++ f k ∷ [])) more (counts_more f k numbers (numbers ++ f k ∷ []) (f k) are refl refl))

decide_false : (b : Bool) → Decided (b ≡ false)
decide_false true = inr (λ e. true≢false e)
decide_false false = inl refl

only_left : (b : Bool) → b || false ≡ true → b ≡ true
only_left true e = refl
only_left false e = e

both_false : (b : Bool) → b ≡ false → b && true ≡ false
both_false true e = absurd (true≢false e)
both_false false e = refl

false_both : (b : Bool) → b && true ≡ false → b ≡ true → ⊥
false_both true e f = true≢false e
false_both false e f = true≢false (sym f)

module _ (hold fail : TermId → Option ExprId → Type 0) (g : List Triple) (sh : Shape) (n : TermId) (ts : List Triple)
    (dh : (m : TermId) (v : Option ExprId) → Decided (hold m v)) (df : (m : TermId) (v : Option ExprId) → Decided (fail m v)) where
  decide_may : (cs : List ℕ) (t : Triple) → Decided (MayServe hold fail sh n cs t)
  decide_may cs t = go (decide_found hold fail sh n dh df (t ∷ []) (λ ps. list_any (is_at cs) ps ≡ true) (λ ps. decide_true (list_any (is_at cs) ps)))
    where
      taken : (ps : List Place) → AreAllowed hold fail sh n (t ∷ []) ps → list_any (is_at cs) ps ≡ true → MayServe hold fail sh n cs t
      taken [] a q = absurd a
      taken (p ∷ []) a q = (p, at_one cs p (only_left (is_at cs p) q), a.0)
      taken (p ∷ (x ∷ ps)) a q = absurd a.1

      go : Decided (Found hold fail sh n dh df (λ ps. list_any (is_at cs) ps ≡ true) (t ∷ [])) → Decided (MayServe hold fail sh n cs t)
      go (inl (ps, a, q)) = inl (taken ps a q)
      go (inr none) = inr (λ (p, of, allowed). none (p ∷ [], (allowed, tt), or_left (is_at cs p) false (one_at cs p of)))

  decide_must : (cs : List ℕ) (t : Triple) → Decided (MustServe hold fail sh n cs t)
  decide_must cs t =
      decide_both (decide_may cs t)
      (go (decide_found hold fail sh n dh df (t ∷ []) (λ ps. list_all (is_at cs) ps ≡ false) (λ ps. decide_false (list_all (is_at cs) ps))))
    where
      other : (ps : List Place) → AreAllowed hold fail sh n (t ∷ []) ps → list_all (is_at cs) ps ≡ false → (p : Place) × IsAllowed hold fail sh n t p × (is_at cs p ≡ true → ⊥)
      other [] a q = absurd a
      other (p ∷ []) a q = (p, a.0, false_both (is_at cs p) q)
      other (p ∷ (x ∷ ps)) a q = absurd a.1

      go :
          Decided (Found hold fail sh n dh df (λ ps. list_all (is_at cs) ps ≡ false) (t ∷ [])) →
          Decided ((p : Place) → IsAllowed hold fail sh n t p → IsOneOf cs p)
      go (inl (ps, a, q)) = inr (λ all. let (p, allowed, apart) = other ps a q in apart (one_at cs p (all p allowed)))
      go (inr none) = inl (λ p allowed. by p allowed (is_at cs p) refl)
        where
          by : (p : Place) → IsAllowed hold fail sh n t p → (b : Bool) → is_at cs p ≡ b → IsOneOf cs p
          by p allowed true e = at_one cs p e
          by p allowed false e = absurd (none (p ∷ [], (allowed, tt), both_false (is_at cs p) e))

  -- an arc out that is forbidden
  forbidden_of : IsShut g sh n → (t : Triple) × IsForbidden hold fail g sh n ts t
  forbidden_of (closed, some) = go (outs g n) (λ t c. c) some
    where
      go : (us : List Triple) → ((t : Triple) → Contains us t → Contains (outs g n) t) → list_any (λ t. not (is_relevant sh.occs n t)) us ≡ true →
          (t : Triple) × IsForbidden hold fail g sh n ts t
      go [] inside e = absurd (true≢false (sym e))
      go (u ∷ us) inside e = by (is_relevant sh.occs n u) refl e (λ more. go us (λ t c. inside t (is_later u us t c)) more)
        where
          by : (b : Bool) → is_relevant sh.occs n u ≡ b → not b || list_any (λ t. not (is_relevant sh.occs n t)) us ≡ true →
              (list_any (λ t. not (is_relevant sh.occs n t)) us ≡ true → (t : Triple) × IsForbidden hold fail g sh n ts t) →
              (t : Triple) × IsForbidden hold fail g sh n ts t
          by true is more deeper = deeper more
          by false is more deeper = (u, record { closed = closed; out = inside u (is_first u us); alone = is })

  -- a triple without a place, or there is none
  decide_placed : (t : Triple) → Decided ((p : Place) → ¬ IsAllowed hold fail sh n t p)
  decide_placed t = go (decide_found hold fail sh n dh df (t ∷ []) (λ ps. Unit {0}) (λ ps. inl tt))
    where
      one_place : (ps : List Place) → AreAllowed hold fail sh n (t ∷ []) ps → ((p : Place) → ¬ IsAllowed hold fail sh n t p) → ⊥
      one_place [] a none = a
      one_place (p ∷ ps) a none = none p a.0

      go : Decided (Found hold fail sh n dh df (λ ps. Unit {0}) (t ∷ [])) → Decided ((p : Place) → ¬ IsAllowed hold fail sh n t p)
      go (inl (ps, a, q)) = inr (one_place ps a)
      go (inr none) = inl (λ p allowed. none (p ∷ [], (allowed, tt), tt))

  unmatched_or : (us : List Triple) → ((t : Triple) → Contains us t → Contains ts t) →
      ((t : Triple) × IsUnmatched hold fail g sh n ts t) ⊎ ((t : Triple) → Contains us t → ¬ ((p : Place) → ¬ IsAllowed hold fail sh n t p))
  unmatched_or [] inside = inr (λ t c. absurd (not_in_none t c))
  unmatched_or (u ∷ us) inside = go (decide_placed u) (unmatched_or us (λ t c. inside t (is_later u us t c)))
    where
      go : Decided ((p : Place) → ¬ IsAllowed hold fail sh n u p) →
          ((t : Triple) × IsUnmatched hold fail g sh n ts t) ⊎ ((t : Triple) → Contains us t → ¬ ((p : Place) → ¬ IsAllowed hold fail sh n t p)) →
          ((t : Triple) × IsUnmatched hold fail g sh n ts t) ⊎ ((t : Triple) → Contains (u ∷ us) t → ¬ ((p : Place) → ¬ IsAllowed hold fail sh n t p))
      go (inl nowhere) rest = inl (u, record { there = inside u (is_first u us); nowhere = nowhere })
      go (inr some) (inl found) = inl found
      go (inr some) (inr others) = inr (λ t c. elim (in_rest u us t c) [
        | inl e ↦ subst (λ z. ¬ ((p : Place) → ¬ IsAllowed hold fail sh n z p)) e some
        | inr later ↦ others t later
      ])

  module _ (ok : BodyOk sh.occs sh.body) (none : ¬ HasPlaces hold fail g sh n ts) (opened : ¬ IsShut g sh n)
      (matched : (t : Triple) → ¬ IsUnmatched hold fail g sh n ts t) where
    musts : (i : ℕ) → (found : List Triple) × AreThose (MustServe hold fail sh n (i ∷ [])) ts found
    musts i = those_exist (MustServe hold fail sh n (i ∷ [])) (decide_must (i ∷ [])) ts

    mays : (i : ℕ) → (found : List Triple) × AreThose (MayServe hold fail sh n (i ∷ [])) ts found
    mays i = those_exist (MayServe hold fail sh n (i ∷ [])) (decide_may (i ∷ [])) ts

    by_numbers : (c : Plan) → sh.body ≡ Some c → (r : Reason) × IsReason hold fail g sh n ts r
    by_numbers c is =
        go (numbers_exist (λ i. length (musts i).0) (length sh.occs)) (numbers_exist (λ i. length (mays i).0) (length sh.occs))
      where
        go : ((low : List ℕ) × AreCounts (λ i. length (musts i).0) (length sh.occs) low) → ((high : List ℕ) × AreCounts (λ i. length (mays i).0) (length sh.occs) high) →
            (r : Reason) × IsReason hold fail g sh n ts r
        go (low, (low_is, low_at)) (high, (high_is, high_at)) = by (decide_span (span c (slice_index low) (slice_index high)) 1)
          where
            by : Decided (HasSpan (span c (slice_index low) (slice_index high)) 1) → (r : Reason) × IsReason hold fail g sh n ts r
            by (inl has) = (
              NoMatchingPlaces,
              by_places hold fail g sh n ts none opened matched
                  (numbers_match hold fail g sh n ts c is (subst (λ b. BodyOk sh.occs b) is ok) low high
                  (λ i lt. ((musts i).0, (musts i).1, low_at i lt)) (λ i lt. ((mays i).0, (mays i).1, high_at i lt)) has),
            )
            by (inr no_copy) = (
              NoMatchingCounts low high,
              record {
                expression = c;
                is = is;
                low_is = low_is;
                high_is = high_is;
                least = λ i lt. ((musts i).0, (musts i).1, low_at i lt);
                most = λ i lt. ((mays i).0, (mays i).1, high_at i lt);
                none = λ counts under over copies. no_copy (copies_under c (slice_index low) counts (slice_index high) 1 under over copies);
              },
            )

    by_body : (b : Option Plan) → sh.body ≡ b → (r : Reason) × IsReason hold fail g sh n ts r
    by_body None is = (NoMatchingPlaces, by_places hold fail g sh n ts none opened matched (no_numbers hold fail g sh n ts is))
    by_body (Some c) is = by_numbers c is

  pub reason_of : BodyOk sh.occs sh.body → ¬ HasPlaces hold fail g sh n ts → (r : Reason) × IsReason hold fail g sh n ts r
  reason_of ok none =
      go (decide_both (decide_true sh.closed) (decide_true (list_any (λ t. not (is_relevant sh.occs n t)) (outs g n)))) (unmatched_or ts (λ t c. c))
    where
      go : Decided (IsShut g sh n) →
          ((t : Triple) × IsUnmatched hold fail g sh n ts t) ⊎ ((t : Triple) → Contains ts t → ¬ ((p : Place) → ¬ IsAllowed hold fail sh n t p)) →
          (r : Reason) × IsReason hold fail g sh n ts r
      go (inl shut) rest = let (t, is) = forbidden_of shut in (Forbidden t, is)
      go (inr opened) (inl (t, is)) = (Unmatched t, is)
      go (inr opened) (inr placed) = by_body ok none opened (λ t r. placed t r.there r.nowhere) sh.body refl

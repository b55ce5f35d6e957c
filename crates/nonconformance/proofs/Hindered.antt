-- Where no arc is forbidden, no triple is unmatched and numbers within the limits match, it is the places that hinder.
use Rattle.std.proofs.Common.{◌≡◌, ℕ, ◌≤◌, ◌<◌, arith, sym, subst, ap, ◌∙◌, not, length, List, [], ◌∷◌}
use Rattle.std.specs.Prelude.{Option, Some, None, slice_index}
use Rattle.lists.proofs.Members.{any_true}
use Rattle.rdf_terms.specs.declared.terms.TermId.{TermId}
use Rattle.rdf_terms.specs.declared.terms.Triple.{Triple}
use Rattle.rdf_terms.specs.Graphs.{outs}
use Rattle.tally.specs.Copies.{Copies}
use Rattle.tally.specs.Plan.{Plan}
use Rattle.tally.specs.Span.{HasSpan, span}
use Rattle.tally.specs.Symbols.{IsUnder}
use Rattle.schema_tree.specs.declared.schema.ExprId.{ExprId}
use Rattle.schema_tree.specs.declared.schema.Shape.{Shape}
use Rattle.schema_tree.specs.Loaded.{BodyOk}
use Rattle.schema_tree.specs.Places.{HasPlaces, IsShut}
use Rattle.schema_tree.specs.Relevant.{is_relevant}
use Rattle.nonconformance.specs.Reasons.{HasNoMatchingCounts, HasNoMatchingPlaces, IsForbidden, IsUnmatched, MayServe, MustServe}
use Rattle.nonconformance.specs.Those.{AreThose}
use Rattle.nonconformance.proofs.Boxed.{span_counts}
use Rattle.nonconformance.proofs.Items.{those_one}

module _ (hold fail : TermId → Option ExprId → Type 0) (g : List Triple) (sh : Shape) (n : TermId) (ts : List Triple) where
  pub shut_by : (t : Triple) → IsForbidden hold fail g sh n ts t → IsShut g sh n
  shut_by t r = (r.closed, any_true (λ u. not (is_relevant sh.occs n u)) (outs g n) t r.out (ap not r.alone))

  pub by_places :
      ¬ HasPlaces hold fail g sh n ts → ¬ IsShut g sh n → ((t : Triple) → ¬ IsUnmatched hold fail g sh n ts t) →
      ((low high : List ℕ) → ¬ HasNoMatchingCounts hold fail g sh n ts low high) → HasNoMatchingPlaces hold fail g sh n ts
  by_places none opened matched counted = record {
    permitted = λ t r. opened (shut_by t r);
    matched = matched;
    counted = counted;
    none = λ places allowed counts. none (record { open_to = opened; places = places; allowed = allowed; spelled = counts });
  }

  -- without an expression no numbers hinder
  pub no_numbers : sh.body ≡ None → (low high : List ℕ) → ¬ HasNoMatchingCounts hold fail g sh n ts low high
  no_numbers none low high r = absurd (let e : None ≡ Some r.expression = sym none ∙ r.is in cc)

  same_plan : (c d : Plan) → sh.body ≡ Some c → sh.body ≡ Some d → c ≡ d
  same_plan c d e f = (let both : Some c ≡ Some d = sym e ∙ f in cc)

  chain : (a b m k : ℕ) → a ≡ k → b ≡ k → a ≤ m → b ≤ m
  chain a b m k e f h = omega arith

  chain_up : (a b m k : ℕ) → a ≡ k → b ≡ k → m ≤ a → m ≤ b
  chain_up a b m k e f h = omega arith

  -- where the interval of the numbers that may be taken has one copy, no such numbers hinder
  pub numbers_match :
      (c : Plan) → sh.body ≡ Some c → BodyOk sh.occs (Some c) → (low high : List ℕ) →
      ((i : ℕ) → i < length sh.occs → (found : List Triple) × AreThose (MustServe hold fail sh n (i ∷ [])) ts found × (slice_index low i ≡ length found)) →
      ((i : ℕ) → i < length sh.occs → (found : List Triple) × AreThose (MayServe hold fail sh n (i ∷ [])) ts found × (slice_index high i ≡ length found)) →
      HasSpan (span c (slice_index low) (slice_index high)) 1 → (these those : List ℕ) → ¬ HasNoMatchingCounts hold fail g sh n ts these those
  numbers_match c is ok low high least most has these those r = go (span_counts c (slice_index low) (slice_index high) 1 ok.0 ok.1 has)
    where
      go : ((counts : ℕ → ℕ) × IsUnder c (slice_index low) counts × IsUnder c counts (slice_index high) × Copies c counts 1) → ⊥
      go (counts, from, to, copies) =
          subst (λ e. IsUnder e (slice_index these) counts → IsUnder e counts (slice_index those) → ¬ Copies e counts 1) (same_plan r.expression c r.is is)
          (r.none counts)
          (λ i e. let (found, are, same) = least i (ok.3 i e) in let (others, they, others_same) = r.least i (ok.3 i e) in
          chain (slice_index low i) (slice_index these i) (counts i) (length found) same
          (others_same ∙ ap (λ z. length z) (those_one (MustServe hold fail sh n (i ∷ [])) ts others found they are)) (from i e))
          (λ i e. let (found, are, same) = most i (ok.3 i e) in let (others, they, others_same) = r.most i (ok.3 i e) in
          chain_up (slice_index high i) (slice_index those i) (counts i) (length found) same
          (others_same ∙ ap (λ z. length z) (those_one (MayServe hold fail sh n (i ∷ [])) ts others found they are)) (to i e))
          copies

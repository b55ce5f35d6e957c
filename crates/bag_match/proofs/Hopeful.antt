-- Counts from which no places finish, by how many places of later triples there are.
use Rattle.std.proofs.Common.{◌≡◌, ℕ, zero, suc, ◌+◌, ◌^◌, ◌<◌, ◌≤◌, inl, inr, length, drop, replicate, List, [], ◌∷◌, arith, ap, sym, subst, ◌∙◌, slice_index, Bool, false, true≢false}
use Rattle.std.proofs.lemmas.List.{drop_all, get_or_past}
use Rattle.std.specs.Prelude.{IsTrue, Option, Some, None, ◌↔◌}
use Rattle.rdf_terms.specs.declared.terms.TermId.{TermId}
use Rattle.rdf_terms.specs.declared.terms.Triple.{Triple}
use Rattle.tally.specs.Copies.{Copies}
use Rattle.tally.specs.Laws.{IntervalHasCopies}
use Rattle.tally.specs.Plan.{Plan}
use Rattle.tally.specs.Span.{HasSpan, span}
use Rattle.tally.proofs.Exact.{copies_box}
use Rattle.schema_tree.specs.declared.schema.ExprId.{ExprId}
use Rattle.schema_tree.specs.declared.schema.Shape.{Shape}
use Rattle.schema_tree.specs.declared.verdicts.Place.{Place}
use Rattle.schema_tree.specs.Loaded.{BodyOk}
use Rattle.schema_tree.specs.Places.{AreAllowed, HaveCounts, times}
use Rattle.schema_tree.proofs.Decide.{decide_span}
use Rattle.schema_tree.proofs.ToPlaces.{counts_agree}
use Rattle.lists.proofs.Decided.{Decided}
use Rattle.bag_match.specs.Counts.{state_of}
use Rattle.bag_match.specs.Hopes.{AreOffers, ArePlacesOfEach, IsHopeless, offers}
use Rattle.bag_match.specs.Least.{AreOffered, Finishes}
use Rattle.bag_match.proofs.Offers.{AreFor, for_drop, for_few, for_most, for_offered, for_there}
use Rattle.bag_match.proofs.Stepping.{opening_at, opening_is}

-- what the test of counts by an expression tells of a Shape
pub hopeless_some : (body : Option Plan) (c : Plan) (counts more : List ℕ) (r : Bool) → body ≡ Some c →
    (IsTrue r ↔ (¬ HasSpan (span c (slice_index counts) (λ i. slice_index counts i + slice_index more i)) 1)) → IsTrue r ↔ IsHopeless body counts more
hopeless_some body c counts more r is h = subst (λ b. IsTrue r ↔ IsHopeless b counts more) (sym is) h

pub not_hopeless : (body : Option Plan) (own counts lent more : List ℕ) (r : Bool) → own ≡ counts → lent ≡ more → (IsTrue r ↔ IsHopeless body own lent) → r ≡ false → ¬ IsHopeless body counts more
not_hopeless body own counts lent more r same alike told not_so dead =
    true≢false (sym (told.1 (subst (λ z. IsHopeless body own z) (sym alike) (subst (λ z. IsHopeless body z more) (sym same) dead))) ∙ not_so)

module _ (hold fail : TermId → Option ExprId → Type 0) (sh : Shape) (n : TermId) (ts : List Triple) (lists : List (List Place)) (all : AreOffered hold fail sh n ts (length ts) lists) where
  all_for : AreFor hold fail sh n ts lists
  all_for = for_offered hold fail sh n ts lists all

  -- the numbers that are left are small
  pub more_small : (j : ℕ) (more : List ℕ) → length ts < 2 ^ 31 → AreOffers (length sh.occs) (drop j lists) more → (i : ℕ) → slice_index more i < 2 ^ 31
  more_small j more few h i =
      let a = h.1 i in
      let b = for_few hold fail sh n (drop j ts) (drop j lists) (for_drop hold fail sh n j ts lists all_for) i in
      let c = shorter j ts in
      omega (arith, a, b, c, few)
    where
      shorter : (k : ℕ) (us : List Triple) → length (drop k us) ≤ length us
      shorter zero us = omega arith
      shorter (suc k) [] = omega arith
      shorter (suc k) (u ∷ us) = let le = shorter k us in omega (arith, le)

  pub all_there : ArePlacesOfEach (length sh.occs) lists
  all_there = for_there hold fail sh n ts lists all_for

  -- the opening counts with the numbers of all places are small
  pub opening_small : (own counts lent more : List ℕ) → own ≡ replicate (length sh.occs) 0 → counts ≡ own → AreOffers (length sh.occs) lists more → lent ≡ more → length ts < 2 ^ 31 →
      (i : ℕ) → slice_index counts i + slice_index lent i < 2 ^ 32
  opening_small own counts lent more zeros same held alike few i =
      let z : slice_index own i ≡ 0 = subst (λ x. slice_index x.counts i ≡ 0) (opening_is sh own zeros) (opening_at sh i) in
      let e : slice_index counts i ≡ 0 = ap (λ c. slice_index c i) same ∙ z in
      let a : slice_index lent i ≡ slice_index more i = ap (λ c. slice_index c i) alike in
      let b = more_small 0 more few held i in
      omega (arith, e, a, b)

  pub all_small : length ts < 2 ^ 31 → (i : ℕ) → offers lists i < 2 ^ 31
  all_small few i = let b = for_few hold fail sh n ts lists all_for i in omega (arith, b, few)

  -- from counts that are hopeless nothing finishes
  pub hopeless_ends : (j : ℕ) (counts more : List ℕ) → AreOffers (length sh.occs) (drop j lists) more → IsHopeless sh.body counts more → (ps : List Place) →
      ¬ Finishes hold fail sh n ts (state_of j counts) ps
  hopeless_ends j counts more held dead ps (allowed, spelled) = go sh.body dead spelled
    where
      most : (i : ℕ) → times ps i ≤ slice_index more i
      most i =
          let a = for_most hold fail sh n (drop j ts) (drop j lists) ps (for_drop hold fail sh n j ts lists all_for) allowed i in
          let b = held.1 i in
          omega (arith, a, b)

      low : (i : ℕ) → slice_index counts i ≤ slice_index counts i + times ps i
      low i = omega arith

      high : (i : ℕ) → slice_index counts i + times ps i ≤ slice_index counts i + slice_index more i
      high i = let m = most i in omega (arith, m)

      go : (b : Option Plan) → IsHopeless b counts more → ¬ HaveCounts b (λ i. slice_index counts i + times ps i)
      go None bad h = bad
      go (Some c) bad h =
          bad (copies_box c (slice_index counts) (λ i. slice_index counts i + times ps i) (λ i. slice_index counts i + slice_index more i)
          (λ i. (low i, high i)) 1 h)

  -- with no triples left, counts that are not hopeless match
  pub hopes_spelled : IntervalHasCopies → BodyOk sh.occs sh.body → (j : ℕ) (counts more : List ℕ) → length counts ≡ length sh.occs → length ts ≤ j → AreOffers (length sh.occs) (drop j lists) more →
      ¬ IsHopeless sh.body counts more → Finishes hold fail sh n ts (state_of j counts) []
  hopes_spelled law body j counts more long past held alive = (
    subst (λ zs. AreAllowed hold fail sh n zs []) (sym (drop_all j ts past)) tt,
    go sh.body body alive,
  )
    where
      nothing : (i : ℕ) → slice_index more i ≡ 0
      nothing i =
          let e = all.count_is in
          let none : drop j lists ≡ [] = drop_all j lists (omega (arith, e, past)) in
          held.1 i ∙ ap (λ zs. offers zs i) none

      go : (b : Option Plan) → BodyOk sh.occs b → ¬ IsHopeless b counts more → HaveCounts b (λ i. slice_index counts i + 0)
      go None none lives = λ i. let z : slice_index counts i ≡ 0 = get_or_past counts i 0 (omega (arith, long, none)) in omega (arith, z)
      go (Some c) ok lives =
          let high : ◌≡◌ {A = ℕ → ℕ} (λ i. slice_index counts i + slice_index more i) (slice_index counts) =
          (λ k i. (let z = nothing i in
          let e : slice_index counts i + slice_index more i ≡ slice_index counts i = omega (arith, z) in e) k) in
          let spell : ¬ ¬ HasSpan (span c (slice_index counts) (slice_index counts)) 1 =
          subst (λ f. ¬ ¬ HasSpan (span c (slice_index counts) f) 1) high lives in
          let has : HasSpan (span c (slice_index counts) (slice_index counts)) 1 = sure (decide_span (span c (slice_index counts) (slice_index counts)) 1) spell in
          let copies : Copies c (slice_index counts) 1 = (law c (slice_index counts) 1 ok.1).0 has in
          counts_agree (Some c) (slice_index counts) (λ i. slice_index counts i + 0) (λ i. (let e : slice_index counts i ≡ slice_index counts i + 0 = omega arith in e)) copies
        where
          sure : {A : Type 0} → Decided A → ¬ ¬ A → A
          sure (inl a) h = a
          sure (inr b) h = absurd (h b)

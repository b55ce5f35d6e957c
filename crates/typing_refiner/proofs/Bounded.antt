-- What refinement of a list ticks is at most the sum over its narrow pairs.
use Rattle.std.proofs.Common.{◌≡◌, ◌∙◌, ℕ, suc, ◌<◌, ◌≤◌, ◌+◌, ◌*◌, List, [], ◌∷◌, refl, arith, sym, ap, subst, length, map, Bool, true, false, cond, true≢false}
use Rattle.std.proofs.Math.Dec.{leb}
use Rattle.std.proofs.lemmas.Bool.{eqb-true, le-leb, leb-true}
use Rattle.std.proofs.lemmas.List.Sums.{sum_by-cons}
use Rattle.std.proofs.lemmas.Option.{slice_get-map}
use Rattle.std.specs.List.{sum_by}
use Rattle.std.specs.Prelude.{◌&&◌, ◌-◌, ◌^◌, Option, Some, None, min, option_map, slice_get}
use Rattle.lists.specs.Distinct.{AreDistinct}
use Rattle.lists.proofs.Members.{got_in}
use Rattle.schema_tree.specs.declared.schema.Pair.{Pair}
use Rattle.schema_tree.specs.Edges.{level}
use Rattle.schema_tree.specs.Needs.{Needs}
use Rattle.bag_match.specs.Bounds.{most_ticks}
use Rattle.removal_laws.specs.Costs.{needs_count, phase_cost, total}
use Rattle.removal_laws.proofs.Bound.{on_true, total_le, true_on}
use Rattle.locality_laws.specs.Bounds.{AreNeedTests, IsOpenTest, NeedsAreCounted, StrataAreBounded, cost_where}
use Rattle.locality_laws.proofs.Counting.{total_first}
use Rattle.typing_refiner.specs.declared.ground.Ground.{Ground}
use Rattle.typing_refiner.specs.Building.{AreNeeds, is_within}
use Rattle.typing_refiner.specs.Ready.{IsAmong}
use Rattle.typing_refiner.specs.Spent.{is_among, is_of, is_some_true, look_cost, narrow_test, need_test, open_cost, open_test, phase_ticks, record_ticks}
use Rattle.typing_refiner.specs.Statements.{CountNeeds, most_at, most_of}
use Rattle.typing_refiner.proofs.Spending.{look_is}

-- a sum over the numbers of a list is at most that over its items
total_by : {X : Type 0} (φ : ℕ → ℕ) (w : X → ℕ) (xs : List X) → ((i : ℕ) (x : X) → slice_get xs i ≡ Some x → φ i ≤ w x) → total φ (length xs) ≤ sum_by w xs
total_by φ w [] h = omega arith
total_by φ w (x ∷ xs) h =
    let first : φ 0 ≤ w x = h 0 x refl in
    let rest = total_by (λ j. φ (suc j)) w xs (λ i y at. h (suc i) y at) in
    let parts = total_first φ (length xs) in
    let sum = sum_by-cons w x xs in
    omega (arith, first, rest, parts, sum)

-- a Width is within the budget exactly where it is so as it is told
same_test : (w m budget : ℕ) → budget < m → leb (min w m) budget ≡ leb w budget
same_test w m budget lt = go (leb w budget) refl
  where
    other : (c : Bool) → leb (min w m) budget ≡ c → leb w budget ≡ false → c ≡ false
    other true e none = absurd (let le = leb-true (min w m) budget e in true≢false (sym (le-leb w budget (omega (arith, le, lt))) ∙ none))
    other false e none = refl

    go : (b : Bool) → leb w budget ≡ b → leb (min w m) budget ≡ b
    go true e = let le = leb-true w budget e in le-leb (min w m) budget (omega (arith, le))
    go false e = other (leb (min w m) budget) refl e

module _ (h : Ground) (width count : Pair → ℕ) (narrow : h.narrow.now ≡ map (is_within width h.budget) h.table.now) (lt : h.budget < 2 ^ 64 - 1) where
  narrow_is : (i : ℕ) (p : Pair) → slice_get h.table.now i ≡ Some p → narrow_test h i ≡ leb (width p) h.budget
  narrow_is i p at =
      let told : slice_get h.narrow.now i ≡ option_map (is_within width h.budget) (slice_get h.table.now i) =
      ap (λ xs. slice_get xs i) narrow ∙ slice_get-map (is_within width h.budget) h.table.now i in
      ap is_some_true (told ∙ ap (option_map (is_within width h.budget)) at) ∙ same_test (width p) (2 ^ 64 - 1) h.budget lt

  weighed : (b : Bool) (k m : ℕ) → k * cond b m 0 ≤ cond b (k * m) 0
  weighed true k m = omega arith
  weighed false k m = omega arith

  module _ (distinct : AreDistinct h.table.now) (needing : AreNeeds h.schema.now h.graph.now.triples h.table.now (map (λ l. l.items) h.needing.now)) where
    some_is : (a b : Pair) → Some a ≡ Some b → a ≡ b
    some_is a b e = cc

    among : (o : Option (List ℕ)) (i : ℕ) → is_among i o ≡ true → IsAmong o i
    among None i e = absurd (true≢false (sym e))
    among (Some js) i e = true_on i js e

    to_among : (o : Option (List ℕ)) (i : ℕ) → IsAmong o i → is_among i o ≡ true
    to_among None i e = absurd e
    to_among (Some js) i e = on_true i js e

    tests : AreNeedTests h.schema.now h.graph.now.triples h.table.now (need_test h)
    tests at i p q at_is i_is = (to, from)
      where
        same : slice_get (map (λ l. l.items) h.needing.now) at ≡ option_map (λ l. l.items) (slice_get h.needing.now at)
        same = slice_get-map (λ l. l.items) h.needing.now at

        to : need_test h at i ≡ true → Needs h.schema.now h.graph.now.triples q p
        to e =
            let (u, v, u_is, v_is, need) = (needing at i).0 (subst (λ o. IsAmong o i) (sym same) (among _ i e)) in
            subst (λ z. Needs h.schema.now h.graph.now.triples z p) (some_is u q (sym u_is ∙ i_is)) (subst (λ z. Needs h.schema.now h.graph.now.triples u z) (some_is v p (sym v_is ∙ at_is)) need)

        from : Needs h.schema.now h.graph.now.triples q p → need_test h at i ≡ true
        from need = to_among _ i (subst (λ o. IsAmong o i) same ((needing at i).1 (q, p, i_is, at_is, need)))

    opens : IsOpenTest (open_test h) (narrow_test h)
    opens = record { once = once; narrow_only = λ k i e. first_true (narrow_test h i) _ e }
      where
        first_true : (a b : Bool) → (a && b) ≡ true → a ≡ true
        first_true true b e = refl
        first_true false b e = absurd (true≢false (sym e))

        second_true : (a b : Bool) → (a && b) ≡ true → b ≡ true
        second_true true b e = e
        second_true false b e = absurd (true≢false (sym e))

        one : (o : Option Pair) (k j : ℕ) → is_of h k o ≡ true → is_of h j o ≡ true → k ≡ j
        one None k j a b = absurd (true≢false (sym a))
        one (Some p) k j a b = sym (eqb-true (level h.strata.now p.shape) k a) ∙ eqb-true (level h.strata.now p.shape) j b

        once : (k j i : ℕ) → open_test h k i ≡ true → open_test h j i ≡ true → k ≡ j
        once k j i a b = one (slice_get h.table.now i) k j (second_true (narrow_test h i) _ a) (second_true (narrow_test h i) _ b)

    abbrev cost : ℕ → ℕ
    cost = cost_where (narrow_test h) (look_cost h width)

    row : NeedsAreCounted → CountNeeds h.schema.now h.graph.now.triples h.table.now count → (i : ℕ) (p : Pair) → slice_get h.table.now i ≡ Some p →
        (2 * needs_count cost (need_test h) (length h.table.now) i + 3) * cost i ≤ most_at h.schema.now h.terms.now h.graph.now.triples h.budget width count p
    row law counts i p at =
        let k : count p ≡ needs_count cost (need_test h) (length h.table.now) i =
        (law h.schema.now h.graph.now.triples h.table.now (need_test h) cost distinct tests i p at (count p)).0 (counts p (got_in h.table.now i p at)) in
        subst (λ m. (2 * m + 3) * cost i ≤ most_at h.schema.now h.terms.now h.graph.now.triples h.budget width count p) k
        (subst (λ b. (2 * count p + 3) * cond b (look_cost h width i) 0 ≤ cond (leb (width p) h.budget) ((2 * count p + 3) * most_ticks h.schema.now h.terms.now h.graph.now.triples p (width p)) 0)
        (sym (narrow_is i p at))
        (subst (λ c. (2 * count p + 3) * cond (leb (width p) h.budget) c 0 ≤ cond (leb (width p) h.budget) ((2 * count p + 3) * most_ticks h.schema.now h.terms.now h.graph.now.triples p (width p)) 0)
        (look_is h width i p at) (weighed (leb (width p) h.budget) (2 * count p + 3) (most_ticks h.schema.now h.terms.now h.graph.now.triples p (width p)))))

    pub bounded : StrataAreBounded → NeedsAreCounted → CountNeeds h.schema.now h.graph.now.triples h.table.now count → (strata : ℕ) →
        total (λ k. 2 * phase_ticks h width k) strata + record_ticks h width ≤ most_of h.schema.now h.terms.now h.graph.now.triples h.budget width count h.table.now
    unfolding phase_ticks record_ticks
    bounded strata_law needs_law counts strata =
        let a = strata_law (open_test h) (narrow_test h) opens (look_cost h width) (need_test h) (length h.table.now) strata in
        let b = total_le (λ k. 2 * phase_cost (open_cost h width k) (need_test h) (length h.table.now))
        (λ k. phase_cost (open_cost h width k) (need_test h) (length h.table.now) + phase_cost (open_cost h width k) (need_test h) (length h.table.now)) strata (λ k below. omega arith) in
        let d = total_by (λ i. (2 * needs_count cost (need_test h) (length h.table.now) i + 3) * cost i)
        (most_at h.schema.now h.terms.now h.graph.now.triples h.budget width count) h.table.now (row needs_law counts) in
        omega (arith, a, b, d)

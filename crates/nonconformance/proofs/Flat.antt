-- A flat expression matches once wherever the number of triples of each constraint is within its bounds.
use Rattle.std.proofs.Common.{◌≡◌, ℕ, zero, suc, ◌+◌, ◌*◌, ◌≤◌, refl, arith, sym, ap, ◌∙◌, Bool, true, false, true≢false, cond}
use Rattle.std.proofs.lemmas.Bool.{eq-eqb, or_left, or_right}
use Rattle.std.specs.Prelude.{Option, Some, None, nat_eq, ◌||◌}
use Rattle.tally.specs.declared.Bound.{Bound}
use Rattle.tally.specs.declared.Bound.TheVariants.{Upto, Free}
use Rattle.tally.specs.Copies.{Copies, CopiesEach, Fills}
use Rattle.tally.specs.Plan.{Plan, sym as symbol, each, one, many, Plans, no_plans, more_plans}
use Rattle.tally.specs.Span.{IsBelow, add_ends}
use Rattle.tally.specs.Symbols.{IsDistinct, AreDistinct, has_symbol, some_has}
use Rattle.nonconformance.proofs.Alone.{alone, alone_is}
use Rattle.nonconformance.specs.Bounds.{AreFlat, IsFlat, is_among, least_each, least_of, max_ends, most_each, most_of, most_one, times_end}

-- a constraint that does not stand in an expression takes no triple there
other_is : (i j : ℕ) → nat_eq j i ≡ false → is_among (alone i) j ≡ false
other_is i j e = go (nat_eq j i) e
  where
    go : (b : Bool) → b ≡ false → b || false ≡ false
    go true f = f
    go false f = refl

end_none : (bound : Bound) → times_end bound (Some 0) ≡ Some 0
end_none (Upto zero) = refl
end_none (Upto (suc m)) = ap (λ k. Some k) (let none : suc m * 0 ≡ 0 = omega arith in none)
end_none Free = refl

or_neither : (a b : Bool) → a || b ≡ false → (a ≡ false) × (b ≡ false)
or_neither true b e = absurd (true≢false e)
or_neither false b e = (refl, e)

mutual
  unfolding most_of

  absent : (i : ℕ) (p : Plan) → has_symbol i p ≡ false → most_of (alone i) p ≡ Some 0
  absent i (symbol j) e = ap (λ b. Some (cond b 1 0)) (other_is i j e)
  absent i (each ps) e = absent_each i ps e
  absent i (one ps) e = absent_one i ps e
  absent i (many n bound p) e = ap (times_end bound) (absent i p e) ∙ end_none bound

  absent_each : (i : ℕ) (ps : Plans) → some_has i ps ≡ false → most_each (alone i) ps ≡ Some 0
  absent_each i no_plans e = refl
  absent_each i (more_plans p ps) e =
      let (h, t) = or_neither (has_symbol i p) (some_has i ps) e in
      ap (λ z. add_ends z (most_each (alone i) ps)) (absent i p h) ∙ ap (λ z. add_ends (Some 0) z) (absent_each i ps t)

  absent_one : (i : ℕ) (ps : Plans) → some_has i ps ≡ false → most_one (alone i) ps ≡ Some 0
  absent_one i no_plans e = refl
  absent_one i (more_plans p ps) e =
      let (h, t) = or_neither (has_symbol i p) (some_has i ps) e in
      ap (λ z. max_ends z (most_one (alone i) ps)) (absent i p h) ∙ ap (λ z. max_ends (Some 0) z) (absent_one i ps t)

-- the count is within the bounds of the constraint alone
pub record IsWithin (p : Plan) (counts : ℕ → ℕ) (i : ℕ) : Type 0 where
  pub least : least_of (alone i) p ≤ counts i
  pub most : IsBelow (counts i) (most_of (alone i) p)

record AreWithin (ps : Plans) (counts : ℕ → ℕ) (i : ℕ) : Type 0 where
  pub least : least_each (alone i) ps ≤ counts i
  pub most : IsBelow (counts i) (most_each (alone i) ps)

below_left : (k : ℕ) (x y : Option ℕ) → y ≡ Some 0 → IsBelow k (add_ends x y) → IsBelow k x
below_left k None y e h = tt
below_left k (Some a) y e h = by y e h
  where
    by : (y : Option ℕ) → y ≡ Some 0 → IsBelow k (add_ends (Some a) y) → k ≤ a
    by None e h = absurd cc
    by (Some b) e h = (let none : b ≡ 0 = cc in omega arith)

below_right : (k : ℕ) (x y : Option ℕ) → x ≡ Some 0 → IsBelow k (add_ends x y) → IsBelow k y
below_right k None y e h = absurd cc
below_right k (Some a) None e h = tt
below_right k (Some a) (Some b) e h = (let none : a ≡ 0 = cc in omega arith)

one_count : (b : Bool) (k : ℕ) → b ≡ true → cond b 1 0 ≤ k → k ≤ cond b 1 0 → k ≡ 1
one_count true k e h t = omega arith
one_count false k e h t = absurd (true≢false (sym e))

fill_once : (bound : Bound) (b : Bool) (n k : ℕ) → b ≡ true → n * cond b 1 0 ≤ k → IsBelow k (times_end bound (Some (cond b 1 0))) → Fills n bound 1 k
fill_once (Upto zero) true n k e h t = (omega arith, omega arith)
fill_once (Upto (suc m)) true n k e h t = (omega arith, omega arith)
fill_once (Upto m) false n k e h t = absurd (true≢false (sym e))
fill_once Free true n k e h t = (omega arith, λ z. absurd (omega (arith, z)))
fill_once Free false n k e h t = absurd (true≢false (sym e))

low_left : (a b k : ℕ) → a + b ≤ k → a ≤ k
low_left a b k h = omega arith

low_right : (a b k : ℕ) → a + b ≤ k → b ≤ k
low_right a b k h = omega arith

not_left : (x y : Bool) → y ≡ true → (x ≡ true → y ≡ false) → x ≡ false
not_left true y e apart = absurd (true≢false (sym e ∙ apart refl))
not_left false y e apart = refl

mutual
  unfolding Copies IsDistinct IsFlat least_of most_of

  pub flat_spelled : (p : Plan) (counts : ℕ → ℕ) → IsFlat p → IsDistinct p → ((i : ℕ) → has_symbol i p ≡ true → IsWithin p counts i) → Copies p counts 1
  flat_spelled (symbol j) counts flat d within =
      let w = within j (eq-eqb j j refl) in one_count (is_among (alone j) j) (counts j) (alone_is j) w.least w.most
  flat_spelled (each ps) counts flat d within = flats_spelled ps counts flat d (λ i e. let w = within i e in record { least = w.least; most = w.most })
  flat_spelled (one ps) counts flat d within = absurd flat
  flat_spelled (many n bound (symbol j)) counts flat d within =
      let w = within j (eq-eqb j j refl) in (counts j, fill_once bound (is_among (alone j) j) n (counts j) (alone_is j) w.least w.most, refl)
  flat_spelled (many n bound (each ps)) counts flat d within = absurd flat
  flat_spelled (many n bound (one ps)) counts flat d within = absurd flat
  flat_spelled (many n bound (many m b p)) counts flat d within = absurd flat

  flats_spelled : (ps : Plans) (counts : ℕ → ℕ) → AreFlat ps → AreDistinct ps → ((i : ℕ) → some_has i ps ≡ true → AreWithin ps counts i) → CopiesEach ps counts 1
  flats_spelled no_plans counts flat d within = tt
  flats_spelled (more_plans p ps) counts (flat, flats) (d, ds, apart) within = (
    flat_spelled p counts flat d
        (λ i e. let w = within i (or_left (has_symbol i p) (some_has i ps) e) in record {
          least = low_left (least_of (alone i) p) (least_each (alone i) ps) (counts i) w.least;
          most = below_left (counts i) (most_of (alone i) p) (most_each (alone i) ps) (absent_each i ps (apart i e)) w.most;
        }),
    flats_spelled ps counts flats ds
        (λ i e. let w = within i (or_right (has_symbol i p) (some_has i ps) e) in record {
          least = low_right (least_of (alone i) p) (least_each (alone i) ps) (counts i) w.least;
          most = below_right (counts i) (most_of (alone i) p) (most_each (alone i) ps) (absent i p (not_left (has_symbol i p) (some_has i ps) e (apart i))) w.most;
        }),
  )

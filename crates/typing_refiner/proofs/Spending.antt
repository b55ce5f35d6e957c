-- Looks are paid.
use Rattle.std.proofs.Common.{◌≡◌, ◌≢◌, ◌∙◌, ℕ, zero, suc, ◌<◌, ◌≤◌, ◌+◌, ◌⊎◌, inl, inr, List, refl, sym, ap, subst, arith, length, Bool, true, false, cond}
use Rattle.std.proofs.lemmas.Bool.{cases_eq, eq-eqb}
use Rattle.std.proofs.lemmas.Option.{slice_get-get_or, slice_get_within}
use Rattle.std.specs.Prelude.{◌↔◌, Contains, Option, Some, None, slice_get, slice_set}
use Rattle.schema_tree.specs.declared.schema.Pair.{Pair}
use Rattle.schema_tree.specs.declared.verdicts.Verdict.{Verdict}
use Rattle.std.specs.Cmp.Derive.{both_true}
use Rattle.removal_laws.proofs.Bound.{begin, mark, on_true, pop}
use Rattle.removal_laws.specs.Costs.{potential, total}
use Rattle.typing_refiner.specs.declared.ground.Ground.{Ground}
use Rattle.typing_refiner.specs.Ready.{GoesBack, IsAmong, IsOpen, IsReady, Waits}
use Rattle.schema_tree.specs.Width.{IsWithinWidth}
use Rattle.typing_refiner.specs.Spent.{cost_of_pair, is_among, is_of, is_some_true, look_cost, narrow_test, need_test, open_cost, open_test, phase_ticks, record_ticks, record_ticks_below, still_to_tick}
use Rattle.typing_refiner.proofs.Steps.{within}

-- the number of a narrow pair passes the test
pub narrow_true : (h : Ground) → IsReady h → (i : ℕ) (p : Pair) → slice_get h.table.now i ≡ Some p → IsWithinWidth h.schema.now h.terms.now h.graph.now.triples h.budget p → narrow_test h i ≡ true
narrow_true h ready i p is narrow = by (slice_get h.narrow.now i) refl
  where
    inside : i < length h.narrow.now
    inside = let w = slice_get_within h.table.now i p is in let e = ready.tested in omega arith

    by : (o : Option Bool) → slice_get h.narrow.now i ≡ o → is_some_true (slice_get h.narrow.now i) ≡ true
    by None e = absurd (let there = slice_get-get_or h.narrow.now i false inside in let both : Some _ ≡ None = sym there ∙ e in cc)
    by (Some b) e = ap is_some_true e ∙ (ready.narrow i p b is e).1 narrow

-- and that of an open one passes its test
pub opens : (h : Ground) → IsReady h → (k i : ℕ) → IsOpen h k i → open_test h k i ≡ true
opens h ready k i (p, is, narrow) = both_true (narrow_true h ready i p is narrow.2) (ap (λ o. is_of h k o) is ∙ eq-eqb _ k narrow.1)

pub open_cost_is : (h : Ground) (width : Pair → ℕ) → IsReady h → (k i : ℕ) → IsOpen h k i → open_cost h width k i ≡ look_cost h width i
open_cost_is h width ready k i o = ap (λ b. cond b (look_cost h width i) 0) (opens h ready k i o)

among_true : (i : ℕ) (o : Option (List ℕ)) → IsAmong o i → is_among i o ≡ true
among_true i None h = absurd h
among_true i (Some js) h = on_true i js h

-- the least number is taken off the agenda
pub taken : (h : Ground) (width : Pair → ℕ) → IsReady h → (k : ℕ) (v : Verdict) (marks : List Verdict) (at : ℕ) (old new : List ℕ) → IsOpen h k at →
    ((q : ℕ) → Contains old q ↔ (Contains new q ⊎ (q ≡ at))) →
    ((q : ℕ) → Contains new q → at < q) → still_to_tick h width k v marks old ≡ still_to_tick h width k v marks new + look_cost h width at
unfolding still_to_tick
taken h width ready k v marks at old new o takes least =
    pop (open_cost h width k) (need_test h) (length h.table.now) v marks at old new (within h k at o) takes (λ c. let l = least at c in omega arith)
    ∙ ap (λ x. potential (open_cost h width k) (need_test h) (length h.table.now) v marks new + x) (open_cost_is h width ready k at o)

-- a pair changes its mark
pub changed : (h : Ground) (width : Pair → ℕ) (k : ℕ) (v w : Verdict) → v ≢ w → (marks : List Verdict) (at : ℕ) (agenda next : List ℕ) (marks' : List Verdict) →
    marks' ≡ slice_set marks at w → Waits h k marks v at →
    ((q : ℕ) → Contains next q → Contains agenda q ⊎ GoesBack h k at marks' v q) → still_to_tick h width k v marks' next ≤ still_to_tick h width k v marks agenda
unfolding still_to_tick
changed h width k v w ne marks at agenda next marks' marked waits put =
    subst (λ ms. potential (open_cost h width k) (need_test h) (length h.table.now) v ms next ≤ potential (open_cost h width k) (need_test h) (length h.table.now) v marks agenda) (sym marked)
    (mark (open_cost h width k) (need_test h) (length h.table.now) v w ne marks at (within h k at waits.0) waits.1 agenda next
    (λ q c. elim (put q c) [ inl o ↦ inl o | inr t ↦ inr (among_true q _ t.0) ]))

-- at the start
pub opened : (h : Ground) (width : Pair → ℕ) (k : ℕ) (v : Verdict) (marks : List Verdict) (agenda : List ℕ) → still_to_tick h width k v marks agenda ≤ phase_ticks h width k
unfolding still_to_tick phase_ticks
opened h width k v marks agenda = begin (open_cost h width k) (need_test h) (length h.table.now) v marks agenda

pub look_is : (h : Ground) (width : Pair → ℕ) (i : ℕ) (p : Pair) → slice_get h.table.now i ≡ Some p → cost_of_pair h width (Some p) ≡ look_cost h width i
unfolding look_cost
look_is h width i p is = ap (cost_of_pair h width) (sym is)

-- ---- sums over strata

pub total_more : (φ : ℕ → ℕ) (k : ℕ) → total φ (k + 1) ≡ total φ k + φ k
total_more φ k = let e : suc k ≡ k + 1 = omega arith in subst (λ j. total φ j ≡ total φ k + φ k) e (let f : φ k + total φ k ≡ total φ k + φ k = omega arith in f)

-- the sum over fewer numbers is at most that over more
pub total_part : (φ : ℕ → ℕ) (k n : ℕ) → k ≤ n → total φ k ≤ total φ n
total_part φ zero zero le = omega arith
total_part φ (suc k) zero le = absurd (omega arith)
total_part φ k (suc n) le = elim (cases_eq k (suc n)) [
  | inl e ↦ subst (λ j. total φ k ≤ total φ j) e (let r : total φ k ≤ total φ k = omega arith in r)
  | inr ne ↦ (let deeper = total_part φ k n (omega arith) in omega (arith, deeper))
]

pub spent_all : (φ : ℕ → ℕ) (start now k n : ℕ) → k ≤ n → now ≤ start + total φ k → now ≤ start + total φ n
spent_all φ start now k n le h = let p = total_part φ k n le in omega (arith, p, h)

pub spent_next : (φ : ℕ → ℕ) (start now next k n : ℕ) → k < n → now ≤ start + total φ k → next ≤ now + φ k → next ≤ start + total φ n
spent_next φ start now next k n lt h more = let p = total_part φ (suc k) n (omega arith) in omega (arith, p, h, more)

-- ---- one look at each narrow pair

-- a look at one more, which is narrow
pub recorded_more : (h : Ground) (width : Pair → ℕ) (start now next at : ℕ) → narrow_test h at ≡ true → now ≤ start + record_ticks_below h width at → next ≤ now + look_cost h width at →
    next ≤ start + record_ticks_below h width (at + 1)
recorded_more h width start now next at narrow before more =
    let one : cond (narrow_test h at) (look_cost h width at) 0 ≡ look_cost h width at = ap (λ b. cond b (look_cost h width at) 0) narrow in
    let a = total_more (λ i. cond (narrow_test h i) (look_cost h width i) 0) at in
    omega (arith, before, more, one, a)

-- none at one more
pub recorded_pass : (h : Ground) (width : Pair → ℕ) (start now at : ℕ) → now ≤ start + record_ticks_below h width at → now ≤ start + record_ticks_below h width (at + 1)
recorded_pass h width start now at before = spent_all (λ i. cond (narrow_test h i) (look_cost h width i) 0) start now at (at + 1) (omega arith) before

-- and so for all
pub recorded_all : (h : Ground) (width : Pair → ℕ) (start now at : ℕ) → at ≤ length h.table.now → now ≤ start + record_ticks_below h width at → now ≤ start + record_ticks h width
unfolding record_ticks
recorded_all h width start now at inside before = spent_all (λ i. cond (narrow_test h i) (look_cost h width i) 0) start now at (length h.table.now) inside before

pub recorded_next : (h : Ground) (width : Pair → ℕ) (start now next at : ℕ) → at < length h.table.now → narrow_test h at ≡ true → now ≤ start + record_ticks_below h width at →
    next ≤ now + look_cost h width at → next ≤ start + record_ticks h width
recorded_next h width start now next at inside narrow before more =
    recorded_all h width start next (at + 1) (omega (arith, inside)) (recorded_more h width start now next at narrow before more)

-- How many pairs of a list a test picks.
use Rattle.std.proofs.Common.{◌≡◌, ◌∙◌, ℕ, zero, suc, ◌+◌, inl, inr, List, [], ◌∷◌, refl, arith, sym, subst, ap, length, Bool, true, false, cond}
use Rattle.std.specs.Prelude.{◌↔◌, Contains, Some, slice_get}
use Rattle.lists.specs.Distinct.{AreDistinct}
use Rattle.lists.proofs.Among.{few_among}
use Rattle.lists.proofs.Decided.{Decided}
use Rattle.lists.proofs.Members.{got_in, in_rest, is_first, is_later, not_in_none, place_of}
use Rattle.rdf_terms.specs.declared.terms.Triple.{Triple}
use Rattle.schema_tree.specs.declared.schema.Pair.{Pair}
use Rattle.schema_tree.specs.declared.schema.Schema.{Schema}
use Rattle.schema_tree.specs.Loaded.{IsLoaded}
use Rattle.schema_tree.specs.Needs.{Needs}
use Rattle.removal_laws.specs.Costs.{bit, needs_count, total}
use Rattle.demand.proofs.Led.{decide_needs}
use Rattle.locality_laws.specs.Bounds.{AreNeedTests, NeedsAreCounted, NeedsHaveCounts, NeedsSoMany}

-- the first item of distinct ones is none of the others, and these are distinct
behind_distinct : (x : Pair) (xs : List Pair) → AreDistinct (x ∷ xs) → AreDistinct xs
behind_distinct x xs d i j y a b = let e : suc i ≡ suc j = d (suc i) (suc j) y a b in omega (arith, e)

first_once : (x : Pair) (xs : List Pair) → AreDistinct (x ∷ xs) → ¬ Contains xs x
first_once x xs d c = let (j, at) = place_of xs x c in let f : 0 ≡ suc j = d 0 (suc j) x refl at in omega (arith, f)

pub with_first : (x : Pair) (xs : List Pair) → ¬ Contains xs x → AreDistinct xs → AreDistinct (x ∷ xs)
with_first x xs none d zero zero y a b = refl
with_first x xs none d zero (suc j) y a b = absurd (none (let e : x ≡ y = cc in subst (λ z. Contains xs z) (sym e) (got_in xs j y b)))
with_first x xs none d (suc i) zero y a b = absurd (none (let e : x ≡ y = cc in subst (λ z. Contains xs z) (sym e) (got_in xs i y a)))
with_first x xs none d (suc i) (suc j) y a b = ap suc (d i j y a b)

-- the pairs whose places pass a test
abbrev picked : (ℕ → Bool) → List Pair → List Pair
picked t [] = []
picked t (p ∷ ps) = cond (t 0) (p ∷ picked (λ j. t (suc j)) ps) (picked (λ j. t (suc j)) ps)

abbrev HasPlace : (ℕ → Bool) → List Pair → Pair → Type 0
HasPlace t ps q = (j : ℕ) × (slice_get ps j ≡ Some q) × (t j ≡ true)

some_is : {X : Type 0} (x y : X) → Some x ≡ Some y → x ≡ y
some_is x y e = cc

to_place : (t : ℕ → Bool) (ps : List Pair) (q : Pair) → Contains (picked t ps) q → HasPlace t ps q
to_place t [] q c = absurd (not_in_none q c)
to_place t (p ∷ ps) q c = go (t 0) refl c (λ d. to_place (λ j. t (suc j)) ps q d)
  where
    later : HasPlace (λ j. t (suc j)) ps q → HasPlace t (p ∷ ps) q
    later (j, at, is) = (suc j, at, is)

    go : (b : Bool) → t 0 ≡ b → Contains (cond b (p ∷ picked (λ j. t (suc j)) ps) (picked (λ j. t (suc j)) ps)) q →
        (Contains (picked (λ j. t (suc j)) ps) q → HasPlace (λ j. t (suc j)) ps q) → HasPlace t (p ∷ ps) q
    go true is h deeper = elim (in_rest p (picked (λ j. t (suc j)) ps) q h) [ inl e ↦ (0, ap (λ z. Some z) e, is) | inr l ↦ later (deeper l) ]
    go false is h deeper = later (deeper h)

from_place : (t : ℕ → Bool) (ps : List Pair) (q : Pair) → HasPlace t ps q → Contains (picked t ps) q
from_place t [] q (j, at, is) = absurd (not_in_none q (got_in [] j q at))
from_place t (p ∷ ps) q (zero, at, is) =
    subst (λ b. Contains (cond b (p ∷ picked (λ j. t (suc j)) ps) (picked (λ j. t (suc j)) ps)) q) (sym is)
    (subst (λ z. Contains (z ∷ picked (λ j. t (suc j)) ps) q) (sym (some_is p q at)) (is_first q (picked (λ j. t (suc j)) ps)))
from_place t (p ∷ ps) q (suc j, at, is) = go (t 0) (from_place (λ j. t (suc j)) ps q (j, at, is))
  where
    go : (b : Bool) → Contains (picked (λ j. t (suc j)) ps) q → Contains (cond b (p ∷ picked (λ j. t (suc j)) ps) (picked (λ j. t (suc j)) ps)) q
    go true c = is_later p (picked (λ j. t (suc j)) ps) q c
    go false c = c

picked_distinct : (t : ℕ → Bool) (ps : List Pair) → AreDistinct ps → AreDistinct (picked t ps)
picked_distinct t [] d = d
picked_distinct t (p ∷ ps) d = go (t 0) (picked_distinct (λ j. t (suc j)) ps (behind_distinct p ps d))
  where
    go : (b : Bool) → AreDistinct (picked (λ j. t (suc j)) ps) → AreDistinct (cond b (p ∷ picked (λ j. t (suc j)) ps) (picked (λ j. t (suc j)) ps))
    go true rest = with_first p (picked (λ j. t (suc j)) ps) (λ c. (let (j, at, is) = to_place (λ j. t (suc j)) ps p c in first_once p ps d (got_in ps j p at))) rest
    go false rest = rest

-- a sum from its first number on
pub total_first : (φ : ℕ → ℕ) (n : ℕ) → total φ (suc n) ≡ φ 0 + total (λ j. φ (suc j)) n
total_first φ zero = refl
total_first φ (suc n) = let deeper = total_first φ n in omega (arith, deeper)

picked_many : (t : ℕ → Bool) (ps : List Pair) → length (picked t ps) ≡ total (λ j. bit (t j)) (length ps)
picked_many t [] = refl
picked_many t (p ∷ ps) = go (t 0) refl (picked_many (λ j. t (suc j)) ps)
  where
    go : (b : Bool) → t 0 ≡ b → length (picked (λ j. t (suc j)) ps) ≡ total (λ j. bit (t (suc j))) (length ps) →
        length (cond b (p ∷ picked (λ j. t (suc j)) ps) (picked (λ j. t (suc j)) ps)) ≡ total (λ j. bit (t j)) (suc (length ps))
    go true is deeper = let f = total_first (λ j. bit (t j)) (length ps) in let o : bit (t 0) ≡ 1 = ap bit is in omega (arith, deeper, f, o)
    go false is deeper = let f = total_first (λ j. bit (t j)) (length ps) in let o : bit (t 0) ≡ 0 = ap bit is in omega (arith, deeper, f, o)

module _ (s : Schema) (g : List Triple) (pairs : List Pair) (need : ℕ → ℕ → Bool) (cost : ℕ → ℕ) (distinct : AreDistinct pairs)
    (tests : AreNeedTests s g pairs need) (i : ℕ) (p : Pair) (here : slice_get pairs i ≡ Some p) where
  abbrev mine : List Pair
  mine = picked (λ at. need at i) pairs

  mine_exactly : (q : Pair) → Contains mine q ↔ (Contains pairs q × Needs s g p q)
  mine_exactly q = (
    (λ c. (let (j, at, is) = to_place (λ at. need at i) pairs q c in (got_in pairs j q at, (tests j i q p at here).0 is))),
    (λ h. (let (j, at) = place_of pairs q h.0 in from_place (λ at. need at i) pairs q (j, at, (tests j i q p at here).1 h.1))),
  )

  mine_many : length mine ≡ needs_count cost need (length pairs) i
  mine_many = picked_many (λ at. need at i) pairs

  counted : (k : ℕ) → NeedsSoMany s g pairs p k ↔ (k ≡ needs_count cost need (length pairs) i)
  counted k = (to, from)
    where
      to : NeedsSoMany s g pairs p k → k ≡ needs_count cost need (length pairs) i
      to h =
          let a = few_among h.needed mine h.distinct (λ q c. (mine_exactly q).1 ((h.exactly q).0 c)) in
          let b = few_among mine h.needed (picked_distinct (λ at. need at i) pairs distinct) (λ q c. (h.exactly q).1 ((mine_exactly q).0 c)) in
          let m = mine_many in
          let n = h.count in
          omega (arith, a, b, m, n)

      from : k ≡ needs_count cost need (length pairs) i → NeedsSoMany s g pairs p k
      from e = record {
        needed = mine;
        distinct = picked_distinct (λ at. need at i) pairs distinct;
        exactly = mine_exactly;
        count = e ∙ sym mine_many;
      }

pub needs_counted : NeedsAreCounted
needs_counted s g pairs need cost distinct tests i p here k = counted s g pairs need cost distinct tests i p here k

-- ---- how many pairs a pair needs

module _ (s : Schema) (loaded : IsLoaded s) (g : List Triple) (p : Pair) where
  abbrev HasCount : List Pair → Type 0
  HasCount ps = (k : ℕ) × NeedsSoMany s g ps p k

  none_needed : HasCount []
  none_needed = (0, record { needed = []; distinct = none_distinct; exactly = λ q. ((λ c. absurd (not_in_none q c)), (λ h. h.0)); count = refl })
    where
      none_distinct : AreDistinct {X = Pair} []
      none_distinct i j x a b = absurd (not_in_none x (got_in [] i x a))

  one_more : (x : Pair) (xs : List Pair) → ¬ Contains xs x → Needs s g p x → HasCount xs → HasCount (x ∷ xs)
  one_more x xs apart need (k, h) = (
    suc k,
    record {
      needed = x ∷ h.needed;
      distinct = with_first x h.needed (λ c. apart ((h.exactly x).0 c).0) h.distinct;
      exactly = λ q. (to q, from q);
      count = ap suc h.count;
    },
  )
    where
      to : (q : Pair) → Contains (x ∷ h.needed) q → Contains (x ∷ xs) q × Needs s g p q
      to q c = elim (in_rest x h.needed q c) [
        | inl e ↦ (subst (λ z. Contains (x ∷ xs) z) e (is_first x xs), subst (λ z. Needs s g p z) e need)
        | inr l ↦ (is_later x xs q ((h.exactly q).0 l).0, ((h.exactly q).0 l).1)
      ]

      from : (q : Pair) → Contains (x ∷ xs) q × Needs s g p q → Contains (x ∷ h.needed) q
      from q (c, n) = elim (in_rest x xs q c) [
        | inl e ↦ subst (λ z. Contains (x ∷ h.needed) z) e (is_first x h.needed)
        | inr l ↦ is_later x h.needed q ((h.exactly q).1 (l, n))
      ]

  no_more : (x : Pair) (xs : List Pair) → ¬ Needs s g p x → HasCount xs → HasCount (x ∷ xs)
  no_more x xs none (k, h) = (k, record { needed = h.needed; distinct = h.distinct; exactly = λ q. (to q, from q); count = h.count })
    where
      to : (q : Pair) → Contains h.needed q → Contains (x ∷ xs) q × Needs s g p q
      to q c = (is_later x xs q ((h.exactly q).0 c).0, ((h.exactly q).0 c).1)

      from : (q : Pair) → Contains (x ∷ xs) q × Needs s g p q → Contains h.needed q
      from q (c, n) = elim (in_rest x xs q c) [
        | inl e ↦ absurd (none (subst (λ z. Needs s g p z) (sym e) n))
        | inr l ↦ (h.exactly q).1 (l, n)
      ]

  count_of : (ps : List Pair) → AreDistinct ps → HasCount ps
  count_of [] d = none_needed
  count_of (x ∷ xs) d = elim (decide_needs s loaded g p x) [
    | inl need ↦ one_more x xs (first_once x xs d) need (count_of xs (behind_distinct x xs d))
    | inr none ↦ no_more x xs none (count_of xs (behind_distinct x xs d))
  ]

pub needs_have_counts : NeedsHaveCounts
needs_have_counts s loaded g pairs d = ((λ p. (count_of s loaded g p pairs d).0), (λ p. (count_of s loaded g p pairs d).1))

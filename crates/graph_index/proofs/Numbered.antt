-- Places that are written one by one.
use Rattle.std.proofs.Common.{◌≡◌, ◌≢◌, ℕ, suc, ◌+◌, ◌<◌, ◌≤◌, ◌⊎◌, inl, inr, List, ap, sym, ◌∙◌, length, get_or, set, arith, Some, subst, Contains, All, replicate}
use Rattle.std.proofs.lemmas.List.{get_or-set_same, get_or-set_other, get_or-replicate, length-replicate, get_or_past}
use Rattle.std.proofs.lemmas.Option.{slice_get-get_or}
use Rattle.std.proofs.Math.ListN.{length-set}
use Rattle.std.proofs.lemmas.List.Sorted.{Contains-permutation, IsPermutation-sym}
use Rattle.std.specs.List.{slice_get}
use Rattle.std.specs.List.Sorted.{IsPermutation}
use Rattle.rdf_terms.specs.declared.terms.TermId.{TermId}
use Rattle.rdf_terms.specs.declared.terms.Triple.{Triple}
use Rattle.graph_index.specs.Numbers.{ArePlacesIn, IsOf}
use Rattle.graph_index.specs.Places.{place_of, IsPlaced}
use Rattle.graph_index.proofs.Noted.{same_or, id_is}
use Rattle.graph_index.proofs.Placed.{place_is}

-- the items before a count have their places
pub record Written (len : ℕ) (ids : List TermId) (i : ℕ) (places : List ℕ) : Type 0 where
  pub size : length places ≡ len
  pub are : ArePlacesIn ids places
  pub all : (k : ℕ) (d : TermId) → k < i → 0 < place_of places (get_or ids k d)

blank : (len k : ℕ) → ◌≡◌ {A = ℕ} (get_or (replicate len 0) k 0) 0
blank len k = by (order k len)
  where
    order : (x y : ℕ) → (x < y) ⊎ (y ≤ x)
    order x y = grind arith

    by : (k < len) ⊎ (len ≤ k) → ◌≡◌ {A = ℕ} (get_or (replicate len 0) k 0) 0
    by (inl l) = get_or-replicate len k 0 0 l
    by (inr l) = get_or_past (replicate len 0) k 0 (omega (arith, length-replicate {A = ℕ} len 0))

pub none_written : (len : ℕ) (ids : List TermId) (places : List ℕ) → places ≡ replicate len 0 → Written len ids 0 places
none_written len ids places is = record {
  size = ap length is ∙ length-replicate {A = ℕ} len 0;
  are = λ n k e. absurd (let zero_there : place_of places n ≡ 0 = place_is places n ∙ ap (λ (v : List ℕ). get_or v n.0 0) is ∙ blank len n.0 in omega (arith, e, zero_there));
  all = λ k d l. absurd (omega arith);
}

-- a number's place after a place is written
own_place : (places : List ℕ) (n m : TermId) (p : ℕ) → n.0 < length places → m.0 ≡ n.0 → place_of (set places n.0 p) m ≡ p
own_place places n m p fits same = place_is (set places n.0 p) m ∙ ap (λ z. get_or (set places n.0 p) z 0) same ∙ get_or-set_same places n.0 p 0 fits

other_place : (places : List ℕ) (n m : TermId) (p : ℕ) → m.0 ≢ n.0 → place_of (set places n.0 p) m ≡ place_of places m
other_place places n m p other = place_is (set places n.0 p) m ∙ get_or-set_other places n.0 m.0 p 0 other ∙ sym (place_is places m)

pub writes_more : (len : ℕ) (ids : List TermId) (i : ℕ) (places : List ℕ) (n : TermId) → i < length ids → n.0 < len → ((d : TermId) → n ≡ get_or ids i d) →
    Written len ids i places → Written len ids (i + 1) (set places n.0 (i + 1))
writes_more len ids i places n here fits own h = record {
  size = length-set places n.0 (i + 1) ∙ h.size;
  are = λ m k e. met m k e (same_or m.0 n.0);
  all = λ k d l. held k d l (same_or (get_or ids k d).0 n.0) (order k i);
}
  where
    inside : n.0 < length places
    inside = let e = h.size in omega (arith, e, fits)

    order : (x y : ℕ) → (x < y) ⊎ (y ≤ x)
    order x y = grind arith

    met : (m : TermId) (k : ℕ) → place_of (set places n.0 (i + 1)) m ≡ suc k → (m.0 ≡ n.0) ⊎ (m.0 ≢ n.0) → slice_get ids k ≡ Some m
    met m k e (inl same) =
        let at : i ≡ k = let p = own_place places n m (i + 1) inside same in omega (arith, e, p) in
        ap (slice_get ids) (sym at) ∙ slice_get-get_or ids i n here ∙ ap (λ (z : TermId). Some z) (sym (own n) ∙ sym (id_is m n same))
    met m k e (inr other) = h.are m k (sym (other_place places n m (i + 1) other) ∙ e)

    held : (k : ℕ) (d : TermId) → k < i + 1 → ((get_or ids k d).0 ≡ n.0) ⊎ ((get_or ids k d).0 ≢ n.0) → (k < i) ⊎ (i ≤ k) → 0 < place_of (set places n.0 (i + 1)) (get_or ids k d)
    held k d l (inl same) where_ = let p = own_place places n (get_or ids k d) (i + 1) inside same in omega (arith, p)
    held k d l (inr other) (inl before) =
        let p = other_place places n (get_or ids k d) (i + 1) other in
        let a = h.all k d before in omega (arith, p, a)
    held k d l (inr other) (inr after) =
        let e : k ≡ i = omega arith in
        absurd (other (ap (λ z. (get_or ids z d).0) e ∙ ap (λ (z : TermId). z.0) (sym (own d))))

pub all_written : (len : ℕ) (ids : List TermId) (i : ℕ) (places : List ℕ) → length ids ≤ i → Written len ids i places → (n : TermId) → Contains ids n → 0 < place_of places n
all_written len ids i places whole h n (k, l, e) = subst (λ (z : TermId). 0 < place_of places z) e (h.all k n (omega arith))

-- a sorted list has the numbers of the list that was sorted
pub still_below : (len : ℕ) (ids sorted lent : List TermId) → lent ≡ sorted → IsPermutation ids sorted → ((n : TermId) → Contains ids n → n.0 < len) → (n : TermId) → Contains lent n → n.0 < len
still_below len ids sorted lent is same below n h = below n (Contains-permutation sorted ids n (IsPermutation-sym ids sorted same) (subst (λ (v : List TermId). Contains v n) is h))

pub all_placed :
    (ids sorted lent : List TermId) (places : List ℕ) (triples : List Triple) → lent ≡ sorted → IsPermutation ids sorted → All (IsOf ids) triples →
    ((n : TermId) → Contains lent n → 0 < place_of places n) → All (IsPlaced places) triples
all_placed ids sorted lent places triples is same all placed k d l =
    let h = all k d l in
    record { subject = there _ h.subject; predicate = there _ h.predicate; object = there _ h.object }
  where
    there : (n : TermId) → Contains ids n → 0 < place_of places n
    there n h = placed n (subst (λ (v : List TermId). Contains v n) (sym is) (Contains-permutation ids sorted n same h))

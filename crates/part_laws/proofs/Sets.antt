-- Graphs as lists of distinct triples, of which only membership counts.
use Rattle.std.proofs.Common.{◌≡◌, ◌∙◌, ℕ, zero, suc, ◌≤◌, List, [], ◌∷◌, refl, arith, sym, subst, ap, Bool, true, false, true≢false, cond, filter, eq-eqb, nat_eq, inl, inr}
use Rattle.std.proofs.lemmas.Bool.{and_parts}
use Rattle.std.proofs.lemmas.List.Sums.{sum_by-cons}
use Rattle.std.proofs.lemmas.List.Sorted.{Contains-permutation, IsPermutation-cons, IsPermutation-middle, IsPermutation-refl, IsPermutation-sym, IsPermutation-trans, sum_by-IsPermutation}
use Rattle.std.specs.List.{sum_by}
use Rattle.std.specs.List.Sorted.{IsPermutation}
use Rattle.std.specs.Prelude.{◌↔◌, ◌&&◌, ◌⊎◌, Contains}
use Rattle.lists.specs.Distinct.{AreDistinct}
use Rattle.lists.proofs.Filters.{in_filter}
use Rattle.lists.proofs.Members.{got_in, in_rest, is_first, is_later, not_in_none}
use Rattle.rdf_terms.specs.declared.terms.Triple.{Triple}
use Rattle.rdf_terms.specs.Graphs.{same_id}
use Rattle.rdf_terms.proofs.SameTerms.{same_is}
use Rattle.part_laws.proofs.Lists.{distinct_rest, first_apart}

abbrev same_triple : Triple → Triple → Bool
same_triple a b = same_id a.s b.s && (same_id a.p b.p && same_id a.o b.o)

itself : (n : ℕ) → nat_eq n n ≡ true
itself n = eq-eqb n n refl

same_itself : (t : Triple) → same_triple t t ≡ true
same_itself t = λ i. itself t.s.0 i && (itself t.p.0 i && itself t.o.0 i)

triple_is : (a b : Triple) → same_triple a b ≡ true → a ≡ b
triple_is a b e =
    let (x, rest) = and_parts (same_id a.s b.s) (same_id a.p b.p && same_id a.o b.o) e in
    let (y, z) = and_parts (same_id a.p b.p) (same_id a.o b.o) rest in
    (λ i. record { s = same_is a.s b.s x i; p = same_is a.p b.p y i; o = same_is a.o b.o z i })

-- how often the triple stands in a list
abbrev is_there : Triple → Triple → ℕ
is_there t u = cond (same_triple t u) 1 0

abbrev times : Triple → List Triple → ℕ
times t xs = sum_by (is_there t) xs

one_there : (t u : Triple) → same_triple t u ≡ true → is_there t u ≡ 1
one_there t u e = ap (λ b. cond b 1 0) e

none_there : (t u : Triple) → same_triple t u ≡ false → is_there t u ≡ 0
none_there t u e = ap (λ b. cond b 1 0) e

-- a triple is the first, or stands behind it as often as in all
data First (t x : Triple) : Type 0 where
  is_it : t ≡ x → is_there t x ≡ 1 → First t x
  is_other : ¬ (t ≡ x) → is_there t x ≡ 0 → First t x

first : (t x : Triple) → First t x
first t x = by (same_triple t x) refl
  where
    by : (b : Bool) → same_triple t x ≡ b → First t x
    by true e = is_it (triple_is t x e) (one_there t x e)
    by false e = is_other (λ same. true≢false (sym (same_itself t) ∙ ap (same_triple t) same ∙ e)) (none_there t x e)

none_times : (t : Triple) (xs : List Triple) → ¬ Contains xs t → times t xs ≡ 0
none_times t [] none = refl
none_times t (x ∷ xs) none = by (first t x) (none_times t xs (λ c. none (is_later x xs t c)))
  where
    by : First t x → times t xs ≡ 0 → times t (x ∷ xs) ≡ 0
    by (is_it same one) rest = absurd (none (subst (λ z. Contains (x ∷ xs) z) (sym same) (is_first x xs)))
    by (is_other apart zero_it) rest = let sum = sum_by-cons (is_there t) x xs in omega (arith, sum, zero_it, rest)

some_times : (t : Triple) (xs : List Triple) → Contains xs t → 1 ≤ times t xs
some_times t [] c = absurd (not_in_none t c)
some_times t (x ∷ xs) c = by (first t x) (in_rest x xs t c) (λ later. some_times t xs later)
  where
    by : First t x → (x ≡ t) ⊎ Contains xs t → (Contains xs t → 1 ≤ times t xs) → 1 ≤ times t (x ∷ xs)
    by (is_it same one) h deeper = let sum = sum_by-cons (is_there t) x xs in omega (arith, sum, one)
    by (is_other apart zero_it) (inl same) deeper = absurd (apart (sym same))
    by (is_other apart zero_it) (inr later) deeper = let sum = sum_by-cons (is_there t) x xs in let le = deeper later in omega (arith, sum, zero_it, le)

-- of distinct triples each stands there once at most
once : (t : Triple) (xs : List Triple) → AreDistinct xs → times t xs ≤ 1
once t [] d = let e : times t [] ≡ 0 = refl in omega (arith, e)
once t (x ∷ xs) d = by (first t x) (once t xs (distinct_rest x xs d))
  where
    by : First t x → times t xs ≤ 1 → times t (x ∷ xs) ≤ 1
    by (is_it same one) rest =
        let none = none_times t xs (λ c. first_apart x xs d (subst (λ z. Contains xs z) same c)) in
        let sum = sum_by-cons (is_there t) x xs in
        omega (arith, sum, none, one)
    by (is_other apart zero_it) rest = let sum = sum_by-cons (is_there t) x xs in omega (arith, sum, zero_it, rest)

pub with_first : (x : Triple) (xs : List Triple) → ¬ Contains xs x → AreDistinct xs → AreDistinct (x ∷ xs)
with_first x xs none d zero zero y a b = refl
with_first x xs none d zero (suc j) y a b = absurd (none (let e : x ≡ y = cc in subst (λ z. Contains xs z) (sym e) (got_in xs j y b)))
with_first x xs none d (suc i) zero y a b = absurd (none (let e : x ≡ y = cc in subst (λ z. Contains xs z) (sym e) (got_in xs i y a)))
with_first x xs none d (suc i) (suc j) y a b = ap suc (d i j y a b)

-- and where each does, they are distinct
apart_by : (xs : List Triple) → ((t : Triple) → times t xs ≤ 1) → AreDistinct xs
apart_by [] few = λ i j y a b. absurd (not_in_none y (got_in [] i y a))
apart_by (x ∷ xs) few = with_first x xs none (apart_by xs (λ t. (let le = few t in let sum = sum_by-cons (is_there t) x xs in omega (arith, le, sum))))
  where
    none : ¬ Contains xs x
    none c =
        let le = few x in
        let one = one_there x x (same_itself x) in
        let two = some_times x xs c in
        let sum = sum_by-cons (is_there x) x xs in
        omega (arith, le, one, two, sum)

-- distinct triples are so in any order
pub distinct_permuted : (xs ys : List Triple) → IsPermutation xs ys → AreDistinct xs → AreDistinct ys
distinct_permuted xs ys p d = apart_by ys (λ t. (let e = sum_by-IsPermutation (is_there t) xs ys p in let le = once t xs d in omega (arith, e, le)))

-- one that stands in a list is its first in some order
pub taken : (zs : List Triple) (z : Triple) → Contains zs z → (rest : List Triple) × IsPermutation zs (z ∷ rest)
taken [] z c = absurd (not_in_none z c)
taken (w ∷ ws) z c = elim (in_rest w ws z c) [
  | inl is ↦ (ws, subst (λ v. IsPermutation (w ∷ ws) (v ∷ ws)) is (IsPermutation-refl (w ∷ ws)))
  | inr later ↦ (let (rest, moved) = taken ws z later in (w ∷ rest, IsPermutation-trans (w ∷ ws) (w ∷ z ∷ rest) (z ∷ w ∷ rest) (IsPermutation-cons w ws (z ∷ rest) moved) (IsPermutation-middle (w ∷ []) z rest)))
]

-- lists of the same distinct triples are one in some order
pub same_set : (xs ys : List Triple) → AreDistinct xs → AreDistinct ys → ((t : Triple) → Contains xs t ↔ Contains ys t) → IsPermutation xs ys
same_set [] [] d e same = IsPermutation-refl []
same_set [] (y ∷ ys) d e same = absurd (not_in_none y ((same y).1 (is_first y ys)))
same_set (x ∷ xs) ys d e same =
    let (rest, moved) = taken ys x ((same x).0 (is_first x xs)) in
    let apart_rest : AreDistinct (x ∷ rest) = distinct_permuted ys (x ∷ rest) moved e in
    let behind : IsPermutation xs rest = same_set xs rest (distinct_rest x xs d) (distinct_rest x rest apart_rest) (λ t. (
      (λ c. elim (in_rest x rest t (Contains-permutation ys (x ∷ rest) t moved ((same t).0 (is_later x xs t c)))) [
        | inl is ↦ absurd (first_apart x xs d (subst (λ z. Contains xs z) (sym is) c))
        | inr later ↦ later
      ]),
      (λ c. elim (in_rest x xs t ((same t).1 (Contains-permutation (x ∷ rest) ys t (IsPermutation-sym ys (x ∷ rest) moved) (is_later x rest t c)))) [
        | inl is ↦ absurd (first_apart x rest apart_rest (subst (λ z. Contains rest z) (sym is) c))
        | inr later ↦ later
      ]),
    )) in
    IsPermutation-trans (x ∷ xs) (x ∷ rest) ys (IsPermutation-cons x xs rest behind) (IsPermutation-sym ys (x ∷ rest) moved)

-- those that pass a test are distinct
pub sift_apart : (q : Triple → Bool) (xs : List Triple) → AreDistinct xs → AreDistinct (filter q xs)
sift_apart q [] d = d
sift_apart q (x ∷ xs) d = go (q x) (sift_apart q xs (distinct_rest x xs d))
  where
    go : (b : Bool) → AreDistinct (filter q xs) → AreDistinct (cond b (x ∷ filter q xs) (filter q xs))
    go true rest = with_first x (filter q xs) (λ c. first_apart x xs d (in_filter q xs x c).0) rest
    go false rest = rest

-- what a removal leaves
pub left_over : (old new : List Triple) (t : Triple) → AreDistinct old → IsPermutation old (t ∷ new) → AreDistinct new × (¬ Contains new t)
left_over old new t d p = let e = distinct_permuted old (t ∷ new) p d in (distinct_rest t new e, first_apart t new e)

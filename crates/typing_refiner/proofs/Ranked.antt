-- What a record that refutes may use of all records is what was known when its pair went.
use Rattle.std.proofs.Common.{◌≡◌, ℕ, zero, suc, ◌<◌, ◌≤◌, ◌⊎◌, inl, inr, List, [], ◌∷◌, ◌++◌, Bool, true, false, ◌&&◌, ◌||◌, arith, refl, sym, ap, subst, take, filter, nat_eq, nat_lt}
use Rattle.std.proofs.lemmas.Bool.{and_parts, lt-ltb, ltb-true}
use Rattle.std.proofs.lemmas.Bool.Decides.{nat_tests}
use Rattle.std.proofs.lemmas.List.Elements.{Contains-append_cases, Contains-append_left, Contains-append_right}
use Rattle.std.specs.Prelude.{◌↔◌, Contains, Some, slice_get}
use Rattle.schema_tree.specs.declared.schema.Pair.{Pair}
use Rattle.schema_tree.specs.declared.verdicts.Verdict.{Verdict}
use Rattle.schema_tree.specs.Edges.{level}
use Rattle.schema_tree.specs.Sure.{Known, PairIs}
use Rattle.schema_tree.specs.Typings.{below}
use Rattle.lists.proofs.Filters.{in_filter, filter_has}
use Rattle.lists.proofs.Members.{in_map, from_map, in_rest, is_first, is_later, not_in_none}
use Rattle.proof_file.specs.Views.{Refuted, is_before, minus_view, pairs_of}
use Rattle.removal_laws.proofs.Views.{same_up_to}
use Rattle.typing_refiner.specs.Records.{known_without}

by_or : (a b : Bool) → (a || b) ≡ true → (a ≡ true) ⊎ (b ≡ true)
by_or true b h = inl refl
by_or false b h = inr h

from_left : (a b : Bool) → a ≡ true → (a || b) ≡ true
from_left true b h = refl
from_left false b h = cc

from_right : (a b : Bool) → b ≡ true → (a || b) ≡ true
from_right true b h = refl
from_right false b h = h

from_both : (a b : Bool) → a ≡ true → b ≡ true → (a && b) ≡ true
from_both true b h g = g
from_both false b h g = cc

less_is : (a b : ℕ) → nat_lt a b ≡ true → a < b
less_is a b h = ltb-true a b h

same_is : (a b : ℕ) → nat_eq a b ≡ true → a ≡ b
same_is a b h = grind (arith, nat_tests, h)

same_test : (a b : ℕ) → a ≡ b → nat_eq a b ≡ true
same_test a b h = grind (arith, nat_tests, h)

pub taken_at : (xs : List Pair) (i : ℕ) (q : Pair) → Contains (take i xs) q → (j : ℕ) × (j < i) × (slice_get xs j ≡ Some q)
taken_at xs zero q held = absurd (not_in_none q held)
taken_at [] (suc i) q held = absurd (not_in_none q held)
taken_at (x ∷ xs) (suc i) q held = elim (in_rest x (take i xs) q held) [
  | inl e ↦ (0, (let l : 0 < suc i = omega arith in l), ap (λ z. Some z) e)
  | inr r ↦ (let (j, l, is) = taken_at xs i q r in (suc j, (let m : suc j < suc i = omega (arith, l) in m), is))
]

pub at_taken : (xs : List Pair) (i j : ℕ) (q : Pair) → slice_get xs j ≡ Some q → j < i → Contains (take i xs) q
at_taken xs zero j q at lt = absurd (let e : j < 0 = lt in omega (arith, e))
at_taken [] (suc i) j q at lt = absurd (let e = at in cc)
at_taken (x ∷ xs) (suc i) zero q at lt = let e : x ≡ q = (let f : Some x ≡ Some q = at in cc) in subst (λ z. Contains (x ∷ take i xs) z) e (is_first x (take i xs))
at_taken (x ∷ xs) (suc i) (suc j) q at lt = is_later x (take i xs) q (at_taken xs i j q at (let l : suc j < suc i = lt in let m : j < i = omega (arith, l) in m))

-- plus and minus are the pairs of all records, lower what was known below the stratum, and gone the pairs that went from it
module _ (f : List ℕ) (k : ℕ) (plus : List Pair) (minus : List Refuted) (lower : Known) (gone : List Pair)
    (yes_low : (q : Pair) → Contains lower.yes q ↔ (Contains plus q × (level f q.shape < k)))
    (no_low : (q : Pair) → Contains lower.no q ↔ (Contains (pairs_of minus) q × (level f q.shape < k)))
    (ranks : (q : Pair) (r : ℕ) → (Contains minus (record { pair = q; rank = r }) × (level f q.shape ≡ k)) ↔ ((j : ℕ) × (slice_get gone j ≡ Some q) × (r ≡ suc j))) where
  abbrev before : ℕ → Refuted → Bool
  before i = is_before f k (suc i)

  yes_same : (q : Pair) → Contains lower.yes q ↔ Contains (below f k plus) q
  yes_same q = (
    (λ c. let (held, lt) = (yes_low q).0 c in filter_has (λ p. nat_lt (level f p.shape) k) plus q held (lt-ltb (level f q.shape) k lt)),
    (λ c. let (held, test) = in_filter (λ p. nat_lt (level f p.shape) k) plus q c in (yes_low q).1 (held, less_is (level f q.shape) k test)),
  )

  no_to : (i : ℕ) (q : Pair) → Contains (lower.no ++ take i gone) q → Contains (pairs_of (filter (before i) minus)) q
  no_to i q c = elim (Contains-append_cases lower.no (take i gone) q c) [
    | inl l ↦ (let (held, lt) = (no_low q).0 l in
        let (u, inside, is) = from_map (λ x. x.pair) minus q held in
        subst (λ z. Contains (pairs_of (filter (before i) minus)) z) is
        (in_map (λ x. x.pair) (filter (before i) minus) u (filter_has (before i) minus u inside
        (from_left (nat_lt (level f u.pair.shape) k) _ (lt-ltb (level f u.pair.shape) k (subst (λ z. level f z.shape < k) (sym is) lt))))))
    | inr r ↦ (let (j, lt, at) = taken_at gone i q r in
        let (held, lev) = (ranks q (suc j)).1 (j, at, refl) in
        in_map (λ x. x.pair) (filter (before i) minus) (record { pair = q; rank = suc j }) (filter_has (before i) minus (record { pair = q; rank = suc j }) held
        (from_right (nat_lt (level f q.shape) k) _ (from_both (nat_eq (level f q.shape) k) (nat_lt (suc j) (suc i)) (same_test (level f q.shape) k lev)
        (lt-ltb (suc j) (suc i) (let l : suc j < suc i = omega (arith, lt) in l))))))
  ]

  no_from : (i : ℕ) (q : Pair) → Contains (pairs_of (filter (before i) minus)) q → Contains (lower.no ++ take i gone) q
  no_from i q c =
      let (u, inside, is) = from_map (λ x. x.pair) (filter (before i) minus) q c in
      let (held, test) = in_filter (before i) minus u inside in
      subst (λ z. Contains (lower.no ++ take i gone) z) is (elim (by_or (nat_lt (level f u.pair.shape) k) _ test) [
        | inl l ↦ Contains-append_left lower.no (take i gone) u.pair ((no_low u.pair).1 (in_map (λ x. x.pair) minus u held, less_is (level f u.pair.shape) k l))
        | inr b ↦ (let (same, less) = and_parts (nat_eq (level f u.pair.shape) k) (nat_lt u.rank (suc i)) b in
            let (j, at, e) = (ranks u.pair u.rank).0 (held, same_is (level f u.pair.shape) k same) in
            let lt = less_is u.rank (suc i) less in
            Contains-append_right lower.no (take i gone) u.pair (at_taken gone i j u.pair at (let l : j < i = omega (arith, lt, e) in l)))
      ])

  -- the two views answer alike up to the stratum
  pub as_it_was : (i : ℕ) (q : Pair) → level f q.shape ≤ k → (v : Verdict) → PairIs (known_without lower (take i gone)) q v ↔ PairIs (minus_view f plus minus k (suc i)) q v
  as_it_was i q le v = same_up_to f k (known_without lower (take i gone)) (minus_view f plus minus k (suc i)) (λ u l. yes_same u) (λ u l. (no_to i u, no_from i u)) q le v

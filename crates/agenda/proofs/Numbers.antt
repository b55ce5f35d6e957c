-- Numbers in a set.
use Rattle.std.proofs.Common.{◌≡◌, ℕ, zero, suc, ◌<◌, ◌≤◌, ◌+◌, ◌⊎◌, inl, inr, List, [], ◌∷◌, refl, arith, sym, subst, ◌∙◌, length}
use Rattle.std.proofs.lemmas.Bool.Decides.{nat_tests}
use Rattle.std.proofs.lemmas.Map.Keys.{sorted_head, sorted_tail}
use Rattle.std.specs.BTreeSet.{insert_key}
use Rattle.std.specs.List.{AllByRecursion}
use Rattle.std.specs.List.Sorted.{IsStrictlySortedBy}
use Rattle.std.specs.Ordering.{match_ordering, nat_cmp}
use Rattle.std.specs.Prelude.{◌↔◌, Contains, Option, Some, None, IfSome}
use Rattle.std.specs.declared.cmp.Ordering.{Ordering}
use Rattle.std.specs.declared.cmp.Ordering.TheVariants.{Less, Equal, Greater}

none_in : (q : ℕ) → Contains [] q → ⊥
none_in q (i, l, e) = omega (arith, l)

first_in : (x : ℕ) (xs : List ℕ) → Contains (x ∷ xs) x
first_in x xs = (0, (let l : 0 < length (x ∷ xs) = omega arith in l), refl)

later_in : (x : ℕ) (xs : List ℕ) (q : ℕ) → Contains xs q → Contains (x ∷ xs) q
later_in x xs q (i, l, e) = (suc i, (let m : suc i < length (x ∷ xs) = omega arith in m), e)

split_in : (x : ℕ) (xs : List ℕ) (q : ℕ) → Contains (x ∷ xs) q → Contains xs q ⊎ (q ≡ x)
split_in x xs q (zero, l, e) = inr (sym e)
split_in x xs q (suc i, l, e) = inl (i, (let m : i < length xs = omega arith in m), e)

-- the first and the others
pub cons_in : (x : ℕ) (xs : List ℕ) (q : ℕ) → Contains (x ∷ xs) q ↔ (Contains xs q ⊎ (q ≡ x))
cons_in x xs q = (split_in x xs q, (λ h. elim h [ inl l ↦ later_in x xs q l | inr e ↦ subst (λ z. Contains (x ∷ xs) z) (sym e) (first_in x xs) ]))

less_of : (a b : ℕ) → nat_cmp a b ≡ Less → a < b
less_of a b e = grind (arith, nat_tests)

same_of : (a b : ℕ) → nat_cmp a b ≡ Equal → a ≡ b
same_of a b e = grind (arith, nat_tests)

-- with one more number
pub key_in : (xs : List ℕ) (k q : ℕ) → Contains (insert_key nat_cmp xs k) q ↔ (Contains xs q ⊎ (q ≡ k))
key_in [] k q = cons_in k [] q
key_in (x ∷ xs) k q = go (nat_cmp k x) refl (key_in xs k q)
  where
    go : (r : Ordering) → nat_cmp k x ≡ r → Contains (insert_key nat_cmp xs k) q ↔ (Contains xs q ⊎ (q ≡ k)) →
        Contains (match_ordering r (k ∷ x ∷ xs) (x ∷ xs) (x ∷ insert_key nat_cmp xs k)) q ↔ (Contains (x ∷ xs) q ⊎ (q ≡ k))
    go Less e deeper = cons_in k (x ∷ xs) q
    go Equal e deeper = (
      inl,
      (λ h. elim h [ inl c ↦ c | inr is ↦ subst (λ z. Contains (x ∷ xs) z) (sym (is ∙ same_of k x e)) (first_in x xs) ]),
    )
    go Greater e deeper = (
      (λ c. elim (split_in x (insert_key nat_cmp xs k) q c) [
        | inl l ↦ elim (deeper.0 l) [ inl o ↦ inl (later_in x xs q o) | inr n ↦ inr n ]
        | inr f ↦ inl (subst (λ z. Contains (x ∷ xs) z) (sym f) (first_in x xs))
      ]),
      (λ h. elim h [
        | inl c ↦ elim (split_in x xs q c) [
          | inl l ↦ later_in x (insert_key nat_cmp xs k) q (deeper.1 (inl l))
          | inr f ↦ subst (λ z. Contains (x ∷ insert_key nat_cmp xs k) z) (sym f) (first_in x (insert_key nat_cmp xs k))
        ]
        | inr n ↦ later_in x (insert_key nat_cmp xs k) q (deeper.1 (inr n))
      ]),
    )

above : (x : ℕ) (xs : List ℕ) → AllByRecursion (λ y. nat_cmp x y ≡ Less) xs → (q : ℕ) → Contains xs q → x < q
above x [] h q c = absurd (none_in q c)
above x (y ∷ ys) h q c = elim (split_in y ys q c) [
  | inl l ↦ above x ys h.1 q l
  | inr e ↦ subst (λ z. x < z) (sym e) (less_of x y h.0)
]

-- numbers from m up to n that rise are at most so many
rise : (xs : List ℕ) (m n : ℕ) → m ≤ n → IsStrictlySortedBy nat_cmp xs → ((q : ℕ) → Contains xs q → m ≤ q) → ((q : ℕ) → Contains xs q → q < n) → length xs + m ≤ n
rise [] m n le up low high = omega arith
rise (x ∷ xs) m n le up low high =
    let a : m ≤ x = low x (first_in x xs) in
    let b : x < n = high x (first_in x xs) in
    let r : length xs + suc m ≤ n = rise xs (suc m) n (omega arith) (sorted_tail nat_cmp x xs up)
    (λ q c. let s : x < q = above x xs (sorted_head nat_cmp x xs up) q c in omega arith) (λ q c. high q (later_in x xs q c)) in
    omega arith

pub few : (xs : List ℕ) (n : ℕ) → IsStrictlySortedBy nat_cmp xs → ((q : ℕ) → Contains xs q → q < n) → length xs ≤ n
few xs n up high = let r = rise xs 0 n (omega arith) up (λ q c. omega arith) high in omega arith

pub taken : (old new : List ℕ) (r : Option ℕ) → IfSome r (λ k. old ≡ k ∷ new) → IfSome r (λ k. (q : ℕ) → Contains old q ↔ (Contains new q ⊎ (q ≡ k)))
taken old new None h = h
taken old new (Some k) h = λ q. subst (λ xs. Contains xs q ↔ (Contains new q ⊎ (q ≡ k))) (sym h) (cons_in k new q)

-- Counts of places, a place at a time.
use Rattle.std.proofs.Common.{◌≡◌, ℕ, zero, suc, ◌+◌, ◌-◌, ◌^◌, ◌<◌, ◌≤◌, length, get_or, take, List, [], ◌∷◌, ◌++◌, refl, arith, ap, sym, subst, ◌∙◌, Bool, true, false, true≢false, cond, slice_index, replicate}
use Rattle.std.proofs.lemmas.List.{take_more, take_all, length-take-le, get_or_past, get_or-replicate, length-replicate}
use Rattle.std.proofs.lemmas.Bool.{cases_lt}
use Rattle.std.proofs.lemmas.Bool.Decides.{nat_tests}
use Rattle.std.proofs.Common.{inl, inr}
use Rattle.std.specs.Prelude.{nat_eq, ◌↔◌}
use Rattle.tally.specs.Plan.{Plan}
use Rattle.tally.specs.Copies.{Copies}
use Rattle.tally.specs.Symbols.{has_symbol}
use Rattle.tally.specs.Laws.{OwnSymbolsDecide}
use Rattle.schema_tree.specs.declared.verdicts.Place.{Place}
use Rattle.schema_tree.specs.declared.verdicts.Place.TheVariants.{At, Rest}
use Rattle.schema_tree.specs.Places.{add_place, times}
use Rattle.bag_match.specs.Counted.{Counts}

abbrev pub nought : ℕ
nought = 0

-- two places may be counted in either order
pub add_in_turn : (i : ℕ) (p q : Place) (k : ℕ) → add_place i q (add_place i p k) ≡ add_place i p (add_place i q k)
add_in_turn i (At a) (At b) k = both (nat_eq i a) (nat_eq i b)
  where
    both : (c d : Bool) → cond d (suc (cond c (suc k) k)) (cond c (suc k) k) ≡ cond c (suc (cond d (suc k) k)) (cond d (suc k) k)
    both true true = refl
    both true false = refl
    both false true = refl
    both false false = refl
add_in_turn i (At a) Rest k = refl
add_in_turn i Rest (At b) k = refl
add_in_turn i Rest Rest k = refl

pub times_push : (ps : List Place) (p : Place) (i : ℕ) → times (ps ++ p ∷ []) i ≡ add_place i p (times ps i)
times_push [] p i = refl
times_push (q ∷ ps) p i = ap (λ k. add_place i q k) (times_push ps p i) ∙ add_in_turn i p q (times ps i)

-- the first j places, and the next
pub times_next : (ps : List Place) (j : ℕ) (d : Place) (i : ℕ) → j < length ps → times (take (j + 1) ps) i ≡ add_place i (get_or ps j d) (times (take j ps) i)
times_next ps j d i within = ap (λ z. times z i) (take_more ps j d within) ∙ times_push (take j ps) (get_or ps j d) i

pub add_most : (i : ℕ) (p : Place) (k : ℕ) → add_place i p k ≤ suc k
add_most i (At a) k = go (nat_eq i a)
  where
    go : (b : Bool) → cond b (suc k) k ≤ suc k
    go true = omega arith
    go false = omega arith
add_most i Rest k = omega arith

pub times_most : (ps : List Place) (i : ℕ) → times ps i ≤ length ps
times_most [] i = omega arith
times_most (p ∷ ps) i = let a = add_most i p (times ps i) in let b = times_most ps i in omega (arith, a, b)

index_past : (xs : List ℕ) (i : ℕ) → length xs ≤ i → slice_index xs i ≡ 0
index_past xs i past = get_or_past xs i 0 past

-- counts of fewer than so many places can be raised by one
pub counts_small :
    (n : ℕ) (ps : List Place) (j : ℕ) (xs : List ℕ) → j < length ps → length ps < 2 ^ 32 → Counts n (take j ps) xs →
    (i : ℕ) → slice_index xs i < 2 ^ 32 - 1
counts_small n ps j xs within few (len, are) i = elim (cases_lt i n) [
  | inl lt ↦
      let most = times_most (take j ps) i in
      let long : length (take j ps) ≡ j = length-take-le j ps (omega (arith, within)) in
      let is = are i lt in
      omega (arith, most, long, is, within, few)
  | inr ge ↦ let nothing = index_past xs i (omega (arith, len, ge)) in omega (arith, nothing)
]

-- all counts are 0 before the first place
pub none_counted : (n : ℕ) (ps : List Place) (xs : List ℕ) → length xs ≡ n → ((i : ℕ) → slice_index xs i ≡ 0) → Counts n (take 0 ps) xs
none_counted n ps xs len zeros = (len, λ i lt. zeros i)

-- one more place is counted
pub one_counted :
    (n : ℕ) (ps : List Place) (j : ℕ) (d : Place) (xs more : List ℕ) → j < length ps → Counts n (take j ps) xs →
    length more ≡ length xs → ((i : ℕ) → i < length xs → slice_index more i ≡ add_place i (get_or ps j d) (slice_index xs i)) →
    Counts n (take (j + 1) ps) more
one_counted n ps j d xs more within (len, are) same added =
    (same ∙ len, λ i lt. added i (omega (arith, lt, len)) ∙ ap (λ k. add_place i (get_or ps j d) k) (are i lt) ∙ sym (times_next ps j d i within))

pub all_counted : (n : ℕ) (ps : List Place) (j : ℕ) (xs : List ℕ) → length ps ≤ j → Counts n (take j ps) xs → Counts n ps xs
all_counted n ps j xs past counted = subst (λ z. Counts n z xs) (take_all j ps past) counted

pub add_least : (i : ℕ) (p : Place) (k : ℕ) → k ≤ add_place i p k
add_least i (At a) k = go (nat_eq i a)
  where
    go : (b : Bool) → k ≤ cond b (suc k) k
    go true = omega arith
    go false = omega arith
add_least i Rest k = omega arith

-- a place that is an occurrence is counted
pub counted_once : (ps : List Place) (j : ℕ) (a : ℕ) (d : Place) → j < length ps → get_or ps j d ≡ At a → 0 < times ps a
counted_once [] j a d within is = absurd (omega (arith, within))
counted_once (p ∷ ps) zero a d within is = subst (λ z. 0 < add_place a z (times ps a)) (sym is) (here (nat_eq a a) (same a))
  where
    same : (k : ℕ) → nat_eq k k ≡ true
    same k = grind (arith, nat_tests)

    here : (b : Bool) → b ≡ true → 0 < cond b (suc (times ps a)) (times ps a)
    here true e = omega arith
    here false e = absurd (true≢false (sym e))
counted_once (p ∷ ps) (suc j) a d within is =
    let later = counted_once ps j a d (omega (arith, within)) is in
    let more = add_least a p (times ps a) in
    omega (arith, later, more)

-- only the counts of the expression's own symbols matter
pub counts_alike :
    OwnSymbolsDecide → (c : Plan) (n : ℕ) → ((i : ℕ) → has_symbol i c ≡ true → i < n) →
    (ps : List Place) (xs : List ℕ) → Counts n ps xs →
    Copies c (slice_index xs) 1 ↔ Copies c (times ps) 1
counts_alike own c n covered ps xs (len, are) = (
  (λ h. own c (slice_index xs) (times ps) 1 (λ i has. are i (covered i has)) h),
  λ h. own c (times ps) (slice_index xs) 1 (λ i has. sym (are i (covered i has))) h,
)

-- a list of zeros has no other number
pub zeros_alone : (n i : ℕ) → slice_index (replicate n nought) i ≡ 0
zeros_alone n i = elim (cases_lt i n) [
  | inl lt ↦ get_or-replicate n i nought 0 lt
  | inr ge ↦ index_past (replicate n nought) i (let long = length-replicate n nought in omega (arith, long, ge))
]

-- the test of places that are all the remainder
pub not_all_rest : (ps : List Place) (j : ℕ) (a : ℕ) (d : Place) → j < length ps → get_or ps j d ≡ At a → ¬ ((i : ℕ) → times ps i ≡ 0)
not_all_rest ps j a d within is zeros = let once = counted_once ps j a d within is in let none_there = zeros a in omega (arith, once, none_there)

pub rest_next : (ps : List Place) (j : ℕ) (d : Place) → j < length ps → get_or ps j d ≡ Rest →
    ((i : ℕ) → times (take j ps) i ≡ 0) → (i : ℕ) → times (take (j + 1) ps) i ≡ 0
rest_next ps j d within is zeros i = times_next ps j d i within ∙ ap (λ z. add_place i z (times (take j ps) i)) is ∙ zeros i

-- what is no occurrence is the remainder
pub is_rest : (p : Place) → ((a : ℕ) → ¬ (p ≡ At a)) → p ≡ Rest
is_rest (At a) other = absurd (other a refl)
is_rest Rest other = refl

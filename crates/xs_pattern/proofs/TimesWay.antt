-- A character of one set, so many times.
use Rattle.std.proofs.Common.{rules, ◌≡◌, ◌∙◌, ◌+◌, ◌-◌, ◌≤◌, ℕ, zero, suc, Bool, true, false, ◌&&◌, ◌||◌, List, [], ◌∷◌, ◌++◌, refl, arith, ap, sym, drop, get_or, add-one, append_assoc, replicate}
use Rattle.std.proofs.lemmas.Bool.Decides.{nat_tests}
use Rattle.std.proofs.lemmas.List.{get_or-drop}
use Rattle.std.specs.Prelude.{slice_index_or, ◌==◌}
use Rattle.xs_pattern.specs.declared.unrolled.Unrolled.{Unrolled, One, Times, the_lemmas}
use Rattle.xs_pattern.specs.declared.walk.Edge.{Edge}
use Rattle.xs_pattern.specs.Unrolling.{copies, is_never, is_nothing, then_way}
use Rattle.xs_pattern.specs.Marked.{set_numbers}
use Rattle.xs_pattern.specs.Way.{way_of, one, then, size, passes, ends, next, first, next_times, times_way}

way_times : (k n : ℕ) → way_of (Times k n) ≡ times_way k n
way_times k n = search (rules, the_lemmas)

pub is_times : (e : Unrolled) (k n : ℕ) → e ≡ Times k n → way_of e ≡ times_way k n
is_times e k n is = ap way_of is ∙ way_times k n

pub size_times : (k n : ℕ) → size (times_way k n) ≡ n
size_times k zero = refl
size_times k (suc zero) = refl
size_times k (suc (suc n)) = let e = size_times k (suc n) in omega (arith, e)

pub passes_some : (e : Edge) (k n : ℕ) → passes e (times_way k (suc n)) ≡ false
passes_some e k zero = refl
passes_some e k (suc n) = refl

or_none : (x y : Bool) → (x || (y && false)) ≡ x
or_none true y = refl
or_none false true = refl
or_none false false = refl

first_is : (m : List Bool) → first m ≡ get_or m 0 false
first_is [] = refl
first_is (b ∷ bs) = refl

behind_first : (xs : List Bool) (i : ℕ) → get_or (drop 1 xs) i false ≡ get_or xs (suc i) false
behind_first [] i = refl
behind_first (x ∷ xs) i = refl

pub ends_some : (e : Edge) (k n : ℕ) (m : List Bool) → ends e (times_way k (suc n)) m ≡ get_or m n false
ends_some e k zero m = first_is m
ends_some e k (suc n) m =
    ap (λ p. ends e (times_way k (suc n)) (drop 1 m) || (first m && p)) (passes_some e k n)
    ∙ or_none (ends e (times_way k (suc n)) (drop 1 m)) (first m)
    ∙ ends_some e k n (drop 1 m) ∙ behind_first m n

pub next_is : (e : Edge) (has : ℕ → Bool) (k n : ℕ) (enters : Bool) (m : List Bool) → next e has (times_way k n) enters m ≡ next_times (has k) n enters m
next_is e has k zero enters m = refl
next_is e has k (suc zero) enters m = refl
next_is e has k (suc (suc n)) enters m =
    ap (λ b. (enters && has k) ∷ next e has (times_way k (suc n)) b (drop 1 m)) (or_none (first m) enters)
    ∙ ap (λ xs. (enters && has k) ∷ xs) (next_is e has k (suc n) (first m) (drop 1 m))

pub sets_times : (k n : ℕ) → set_numbers (times_way k n) ≡ replicate n k
sets_times k zero = refl
sets_times k (suc zero) = refl
sets_times k (suc (suc n)) = ap (λ ks. k ∷ ks) (sets_times k (suc n))

-- it is so many copies
then_one : (k n : ℕ) → then_way (one k) (times_way k (suc n)) ≡ then (one k) (times_way k (suc n))
then_one k zero = refl
then_one k (suc n) = refl

pub copies_one : (k n : ℕ) → copies n (one k) ≡ times_way k n
unfolding copies
copies_one k zero = refl
copies_one k (suc zero) = refl
copies_one k (suc (suc n)) = ap (λ w. then_way (one k) w) (copies_one k (suc n)) ∙ then_one k n

-- whether the position with so many before it is entered
abbrev pub entered_at : Bool → List Bool → ℕ → Bool
entered_at enters m zero = enters
entered_at enters m (suc i) = get_or m i false

-- one more
pub next_more : (has enters : Bool) (n : ℕ) (m : List Bool) → next_times has (suc n) enters m ≡ next_times has n enters m ++ (entered_at enters m n && has) ∷ []
next_more has enters zero m = refl
next_more has enters (suc n) m =
    ap (λ xs. (enters && has) ∷ xs) (next_more has (first m) n (drop 1 m) ∙ ap (λ b. next_times has n (first m) (drop 1 m) ++ (b && has) ∷ []) (later n))
  where
    later : (i : ℕ) → entered_at (first m) (drop 1 m) i ≡ get_or m i false
    later zero = first_is m
    later (suc i) = behind_first m i

pub next_on : (has enters : Bool) (n : ℕ) (m old mid new : List Bool) (entered : Bool) → mid ≡ old ++ next_times has n enters m → entered ≡ entered_at enters m n → new ≡ mid ++ (entered && has) ∷ [] →
    new ≡ old ++ next_times has (n + 1) enters m
next_on has enters n m old mid new entered so_far is push =
    push ∙ ap (λ xs. xs ++ (entered && has) ∷ []) so_far ∙ append_assoc old (next_times has n enters m) ((entered && has) ∷ [])
    ∙ ap (λ b. old ++ (next_times has n enters m ++ (b && has) ∷ [])) is ∙ ap (λ xs. old ++ xs) (sym (next_more has enters n m)) ∙ ap (λ k. old ++ next_times has k enters m) (sym (add-one n))

pub entered_on : (enters : Bool) (n from : ℕ) (marks : List Bool) (b : Bool) → b ≡ get_or marks (from + n) false → b ≡ entered_at enters (drop from marks) (n + 1)
entered_on enters n from marks b is = rw add-one (is ∙ sym (get_or-drop from marks n false))

-- what it does at a place
pub exit_is : (marks : List Bool) (from count : ℕ) (edge : Edge) (k : ℕ) → 1 ≤ count →
    (slice_index_or marks (from + count - 1) false ≡ ends edge (times_way k count) (drop from marks)) × (false ≡ passes edge (times_way k count))
exit_is marks from zero edge k some = absurd (omega (arith, some))
exit_is marks from (suc n) edge k some = (
  ap (λ i. slice_index_or marks i false) (place from n) ∙ sym (get_or-drop from marks n false) ∙ sym (ends_some edge k n (drop from marks)),
  sym (passes_some edge k n),
)
  where
    place : (a b : ℕ) → a + suc b - 1 ≡ a + b
    place a b = omega arith

pub never_times : (k n : ℕ) → is_never (times_way k n) ≡ false
never_times k zero = refl
never_times k (suc zero) = refl
never_times k (suc (suc n)) = refl

pub nothing_times : (k n : ℕ) → (n == 0) ≡ is_nothing (times_way k n)
nothing_times k zero = refl
nothing_times k (suc zero) = refl
nothing_times k (suc (suc n)) = some (suc n)
  where
    some : (m : ℕ) → (suc m == 0) ≡ false
    some m = grind (arith, nat_tests)

pub copies_is : (e : Unrolled) (k n : ℕ) → e ≡ One k → way_of (Times k n) ≡ copies n (way_of e)
copies_is e k n is = way_times k n ∙ sym (copies_one k n) ∙ ap (copies n) (sym (ap way_of is ∙ way_one k))
  where
    way_one : (j : ℕ) → way_of (One j) ≡ one j
    way_one j = search (rules, the_lemmas)

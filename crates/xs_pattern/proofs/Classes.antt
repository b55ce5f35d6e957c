-- The tests of sets of characters are exact.
use Rattle.std.proofs.Common.{◌≡◌, ◌≢◌, ℕ, zero, suc, ◌≤◌, ◌⊎◌, inl, inr, List, [], ◌∷◌, refl, arith, sym, ap, ◌∙◌, Bool, true, false, cond, not, ◌&&◌, ◌||◌, map, filter}
use Rattle.std.proofs.lemmas.Bool.{leb-true, le-leb, eqb-true, eq-eqb, cases_eq}
use Rattle.std.specs.Prelude.{Contains, nat_le, nat_eq, MatchBool, ⊤}
use Rattle.std.specs.List.{list_any}
use Rattle.ucd_case.specs.CaseFolding.{simple_fold, fold_pairs}
use Rattle.ucd_case.proofs.FoldPairsLemmas.{IsFoldPairs-fold_pairs}
use Rattle.xs_pattern.specs.declared.expression.Flags.{Flags}
use Rattle.xs_pattern.specs.declared.expression.Item.{Item}
use Rattle.xs_pattern.specs.declared.expression.Item.TheVariants as Items
use Rattle.xs_pattern.specs.Characters.{IsWithin, HasItem, HasSome, HasMember, HasClass, HasChar}
use Rattle.xs_pattern.specs.Regex.{Members, Chars, dot, item, class}
use Rattle.xs_pattern.specs.Tests.{others, alike, some_within, item_has, some_has, member_has, class_has, set_has, char_test}
use Rattle.xs_pattern.proofs.Reading.{or_left, or_right, or_cases, and_both, and_parts}

-- the test is true exactly where the fact holds
abbrev pub Tells : Bool → Type 0 → Type 0
Tells b P = (b ≡ true → P) × (P → b ≡ true)

not_true : (b : Bool) (P : Type 0) → Tells b P → Tells (not b) (¬ P)
not_true true P t = (λ h. absurd (cc), λ h. absurd (h (t.0 refl)))
not_true false P t = (λ h p. (let e = t.1 p in absurd (cc)), λ h. refl)

or_tells : (a b : Bool) (P Q : Type 0) → Tells a P → Tells b Q → Tells (a || b) (P ⊎ Q)
or_tells a b P Q s t = (
  λ h. elim (or_cases a b h) [ inl x ↦ inl (s.0 x) | inr y ↦ inr (t.0 y) ],
  λ h. elim h [ inl p ↦ or_left a b (s.1 p) | inr q ↦ or_right a b (t.1 q) ],
)

and_tells : (a b : Bool) (P Q : Type 0) → Tells a P → Tells b Q → Tells (a && b) (P × Q)
and_tells a b P Q s t = (
  λ h. (let p = and_parts a b h in (s.0 p.0, t.0 p.1)),
  λ h. and_both a b (s.1 h.0) (t.1 h.1),
)

-- membership
here : {X : Type 0} (x : X) (xs : List X) → Contains (x ∷ xs) x
here x xs = (0, omega arith, refl)

later : {X : Type 0} (x y : X) (xs : List X) → Contains xs y → Contains (x ∷ xs) y
later x y xs (k, lt, is) = (suc k, omega arith, is)

either_place : {X : Type 0} (x y : X) (xs : List X) → Contains (x ∷ xs) y → (x ≡ y) ⊎ Contains xs y
either_place x y xs (zero, lt, is) = inl is
either_place x y xs (suc k, lt, is) = inr (k, omega arith, is)

-- the pairs of one character
abbrev pairs_of : ℕ → List (ℕ × ℕ) → List ℕ
pairs_of c pairs = map (λ pair. pair.1) (filter (λ pair. nat_eq pair.0 c) pairs)

any_pair : (p : ℕ → Bool) (c : ℕ) (pairs : List (ℕ × ℕ)) → list_any p (pairs_of c pairs) ≡ true → (d : ℕ) × (p d ≡ true) × Contains pairs (c, d)
any_pair p c [] h = absurd (cc)
any_pair p c (q ∷ qs) h = go (nat_eq q.0 c) refl h (any_pair p c qs)
  where
    on : (d : ℕ) × (p d ≡ true) × Contains qs (c, d) → (d : ℕ) × (p d ≡ true) × Contains (q ∷ qs) (c, d)
    on (d, holds, at) = (d, holds, later q (c, d) qs at)

    go : (b : Bool) → nat_eq q.0 c ≡ b →
        list_any p (map (λ pair. pair.1) (cond b (q ∷ filter (λ pair. nat_eq pair.0 c) qs) (filter (λ pair. nat_eq pair.0 c) qs))) ≡ true →
        (list_any p (pairs_of c qs) ≡ true → (d : ℕ) × (p d ≡ true) × Contains qs (c, d)) → (d : ℕ) × (p d ≡ true) × Contains (q ∷ qs) (c, d)
    go true e k ih = elim (or_cases (p q.1) (list_any p (pairs_of c qs)) k) [
      | inl x ↦ (q.1, x, (0, omega arith, λ i. (eqb-true q.0 c e i, q.1)))
      | inr y ↦ on (ih y)
    ]
    go false e k ih = on (ih k)

pair_any : (p : ℕ → Bool) (c d : ℕ) (pairs : List (ℕ × ℕ)) → p d ≡ true → Contains pairs (c, d) → list_any p (pairs_of c pairs) ≡ true
pair_any p c d [] holds (k, lt, is) = absurd (omega arith)
pair_any p c d (q ∷ qs) holds at = go (nat_eq q.0 c) refl (either_place q (c, d) qs at) (pair_any p c d qs holds)
  where
    go : (b : Bool) → nat_eq q.0 c ≡ b → (q ≡ (c, d)) ⊎ Contains qs (c, d) → (Contains qs (c, d) → list_any p (pairs_of c qs) ≡ true) →
        list_any p (map (λ pair. pair.1) (cond b (q ∷ filter (λ pair. nat_eq pair.0 c) qs) (filter (λ pair. nat_eq pair.0 c) qs))) ≡ true
    go true e (inl is) ih = or_left (p q.1) (list_any p (pairs_of c qs)) (ap (λ v. p v.1) is ∙ holds)
    go true e (inr found) ih = or_right (p q.1) (list_any p (pairs_of c qs)) (ih found)
    go false e (inl is) ih = let t : nat_eq q.0 c ≡ true = eq-eqb q.0 c (ap (λ v. v.0) is) in absurd (cc)
    go false e (inr found) ih = ih found

-- ranges
in_range : (a b c : ℕ) → Tells (nat_le a c && nat_le c b) ((a ≤ c) × (c ≤ b))
in_range a b c = and_tells (nat_le a c) (nat_le c b) (a ≤ c) (c ≤ b) (leb-true a c, le-leb a c) (leb-true c b, le-leb c b)

exactly_once : (b : Bool) → (b || false) ≡ true → b ≡ true
exactly_once true h = refl
exactly_once false h = h

within : (f : Flags) (a b c : ℕ) → Tells (some_within a b (alike f c)) (IsWithin f a b c)
within f a b c = go f.ignore_case
  where
    test : ℕ → Bool
    test d = nat_le a d && nat_le d b

    fold_of : test c ≡ true → (d : ℕ) × (a ≤ d) × (d ≤ b) × (simple_fold d ≡ simple_fold c)
    fold_of h = let r = (in_range a b c).0 h in (c, r.0, r.1, refl)

    other_of : (d : ℕ) × (test d ≡ true) × Contains fold_pairs (c, d) → (d : ℕ) × (a ≤ d) × (d ≤ b) × (simple_fold d ≡ simple_fold c)
    other_of (d, holds, at) = let r = (in_range a b d).0 holds in (d, r.0, r.1, sym ((IsFoldPairs-fold_pairs c d).0 at).1)

    into_fold : (d : ℕ) → a ≤ d → d ≤ b → simple_fold d ≡ simple_fold c → (c ≡ d) ⊎ (c ≡ d → ⊥) → (test c || list_any test (others c)) ≡ true
    into_fold d lo hi is (inl same) = or_left (test c) (list_any test (others c)) ((in_range a b c).1 (omega arith, omega arith))
    into_fold d lo hi is (inr apart) =
        or_right (test c) (list_any test (others c)) (pair_any test c d fold_pairs ((in_range a b d).1 (lo, hi)) ((IsFoldPairs-fold_pairs c d).1 (apart, sym is)))

    go : (i : Bool) → Tells (list_any test (c ∷ cond i (others c) [])) (MatchBool i ((d : ℕ) × (a ≤ d) × (d ≤ b) × (simple_fold d ≡ simple_fold c)) ((a ≤ c) × (c ≤ b)))
    go true = (
      λ h. elim (or_cases (test c) (list_any test (others c)) h) [
        | inl x ↦ fold_of x
        | inr y ↦ other_of (any_pair test c fold_pairs y)
      ],
      λ (d, lo, hi, is). into_fold d lo hi is (cases_eq c d),
    )
    go false = (
      λ h. (in_range a b c).0 (exactly_once (test c) h),
      λ h. or_left (test c) false ((in_range a b c).1 h),
    )

item_tells : (f : Flags) (x : Item) (c : ℕ) → Tells (item_has x c (alike f c)) (HasItem f x c)
item_tells f (Items.Char a) c = within f a a c
item_tells f (Items.Range a b) c = within f a b c
item_tells f (Items.Kind k) c = (λ h. h, λ h. h)
item_tells f (Items.Not k) c = (λ h. h, λ h. h)

some_tells : (f : Flags) (xs : List Item) (c : ℕ) → Tells (some_has xs c (alike f c)) (HasSome f xs c)
some_tells f [] c = (λ h. absurd (cc), λ h. absurd h)
some_tells f (x ∷ xs) c = or_tells (item_has x c (alike f c)) (some_has xs c (alike f c)) (HasItem f x c) (HasSome f xs c) (item_tells f x c) (some_tells f xs c)

member_tells : (f : Flags) (m : Members) (c : ℕ) → Tells (member_has m c (alike f c)) (HasMember f m c)
member_tells f m c = go m.negated
  where
    go : (b : Bool) → Tells (cond b (not (some_has m.items c (alike f c))) (some_has m.items c (alike f c))) (MatchBool b (¬ HasSome f m.items c) (HasSome f m.items c))
    go true = not_true (some_has m.items c (alike f c)) (HasSome f m.items c) (some_tells f m.items c)
    go false = some_tells f m.items c

class_tells : (f : Flags) (ms : List Members) (c : ℕ) → Tells (class_has ms c (alike f c)) (HasClass f ms c)
class_tells f [] c = (λ h. absurd (cc), λ h. absurd h)
class_tells f (m ∷ ms) c =
    and_tells (member_has m c (alike f c)) (not (class_has ms c (alike f c))) (HasMember f m c) (¬ HasClass f ms c) (member_tells f m c)
    (not_true (class_has ms c (alike f c)) (HasClass f ms c) (class_tells f ms c))

dot_tells : (f : Flags) (c : ℕ) → Tells (set_has f dot c (alike f c)) (HasChar f dot c)
dot_tells f c = go f.dot_all
  where
    lines : Tells (not (nat_eq c 10 || nat_eq c 13)) ((c ≢ 10) × (c ≢ 13))
    lines =
        let t = not_true (nat_eq c 10 || nat_eq c 13) ((c ≡ 10) ⊎ (c ≡ 13)) (or_tells (nat_eq c 10) (nat_eq c 13) (c ≡ 10) (c ≡ 13) (eqb-true c 10, eq-eqb c 10) (eqb-true c 13, eq-eqb c 13)) in (
          λ h. (λ e. t.0 h (inl e), λ e. t.0 h (inr e)),
          λ h. t.1 (λ w. elim w [ inl e ↦ h.0 e | inr e ↦ h.1 e ]),
        )

    go : (b : Bool) → Tells (b || not (nat_eq c 10 || nat_eq c 13)) (MatchBool b ⊤ ((c ≢ 10) × (c ≢ 13)))
    go true = (λ h. tt, λ h. refl)
    go false = lines

-- the test of a set is exact
pub char_tells : (f : Flags) (s : Chars) (c : ℕ) → Tells (char_test f s c) (HasChar f s c)
char_tells f dot c = dot_tells f c
char_tells f (item x) c = item_tells f x c
char_tells f (class ms) c = class_tells f ms c

-- Some match takes just as many triples as the bounds say.
use Rattle.std.proofs.Common.{◌≡◌, ℕ, zero, suc, ◌+◌, ◌*◌, ◌≤◌, ◌⊎◌, inl, inr, refl, arith, sym, subst, ap, ◌∙◌, Bool, true, false, true≢false, cond, min, max, List, [], ◌∷◌, ◌++◌}
use Rattle.std.proofs.lemmas.Bool.{cases_lt, eq-eqb, eqb-true, or_left, or_right}
use Rattle.std.specs.Prelude.{Option, Some, None, nat_eq}
use Rattle.std.specs.List.{AllByRecursion}
use Rattle.lists.proofs.Quantifiers.{all_append}
use Rattle.tally.specs.declared.Bound.{Bound}
use Rattle.tally.specs.declared.Bound.TheVariants.{Upto, Free}
use Rattle.tally.specs.Copies.{Copies, Fills}
use Rattle.tally.specs.Plan.{Plan, sym as symbol, each, one, many, Plans, no_plans, more_plans}
use Rattle.tally.specs.Span.{AreSound, IsOrdered, IsSound, add_ends}
use Rattle.tally.specs.Symbols.{AreDistinct, IsDistinct, has_symbol, some_has}
use Rattle.tally.proofs.CopyLaws.{copies_add, copies_agree, copies_zero, each_agree, one_zero}
use Rattle.schema_tree.specs.declared.verdicts.Place.{Place}
use Rattle.schema_tree.specs.declared.verdicts.Place.TheVariants.{At, Rest}
use Rattle.schema_tree.specs.Places.{add_place, times}
use Rattle.nonconformance.specs.Bounds.{HasChoices, HasMembers, HaveChoices, IsPlaceOf, MayTakeJust, is_among, is_at, least_each, least_of, least_one, max_ends, most_each, most_of, most_one, served, times_end}

-- ---- places of two lists together

add_more : (i : ℕ) (p : Place) (a b : ℕ) → add_place i p (a + b) ≡ add_place i p a + b
add_more i (At j) a b = go (nat_eq i j)
  where
    go : (c : Bool) → cond c (suc (a + b)) (a + b) ≡ cond c (suc a) a + b
    go true = omega arith
    go false = refl
add_more i Rest a b = refl

times_both : (xs ys : List Place) (i : ℕ) → times (xs ++ ys) i ≡ times xs i + times ys i
times_both [] ys i = omega arith
times_both (p ∷ xs) ys i = ap (λ k. add_place i p k) (times_both xs ys i) ∙ add_more i p (times xs i) (times ys i)

served_both : (cs : List ℕ) (xs ys : List Place) → served cs (xs ++ ys) ≡ served cs xs + served cs ys
served_both cs [] ys = omega arith
served_both cs (p ∷ xs) ys = go (is_at cs p) (served_both cs xs ys)
  where
    go : (c : Bool) → served cs (xs ++ ys) ≡ served cs xs + served cs ys →
        cond c (suc (served cs (xs ++ ys))) (served cs (xs ++ ys)) ≡ cond c (suc (served cs xs)) (served cs xs) + served cs ys
    go true e = omega (arith, e)
    go false e = e

-- a symbol that does not stand in an expression is none of its places
absent : (c : Plan) (ps : List Place) (i : ℕ) → AllByRecursion (IsPlaceOf c) ps → has_symbol i c ≡ false → times ps i ≡ 0
absent c [] i h none = refl
absent c (Rest ∷ ps) i h none = absent c ps i h.1 none
absent c (At j ∷ ps) i h none = go (nat_eq i j) refl (absent c ps i h.1 none)
  where
    go : (b : Bool) → nat_eq i j ≡ b → times ps i ≡ 0 → cond b (suc (times ps i)) (times ps i) ≡ 0
    go true e t = absurd (true≢false (sym h.0 ∙ subst (λ z. has_symbol z c ≡ false) (eqb-true i j e) none))
    go false e t = t

wider : (c d : Plan) → ((i : ℕ) → has_symbol i c ≡ true → has_symbol i d ≡ true) → (ps : List Place) → AllByRecursion (IsPlaceOf c) ps → AllByRecursion (IsPlaceOf d) ps
wider c d up [] h = tt
wider c d up (At i ∷ ps) h = (up i h.0, wider c d up ps h.1)
wider c d up (Rest ∷ ps) h = (tt, wider c d up ps h.1)

not_both : (a b : Bool) → (a ≡ true → b ≡ false) → b ≡ true → a ≡ false
not_both true b apart e = absurd (true≢false (sym e ∙ apart refl))
not_both false b apart e = refl

one_more : (k : ℕ) → 1 + k ≡ suc k
one_more k = omega arith

-- ---- the parts of an expression

module _ (cs : List ℕ) where
  sole : (i : ℕ) → MayTakeJust (symbol i) cs (cond (is_among cs i) 1 0)
  unfolding Copies
  sole i = (At i ∷ [], ((eq-eqb i i refl, tt), own), refl)
    where
      own : ◌≡◌ {A = ℕ} (cond (nat_eq i i) 1 0) 1
      own = ap (λ b. cond b 1 0) (eq-eqb i i refl)

  -- no members take no triples
  none_each : MayTakeJust (each no_plans) cs 0
  unfolding Copies
  none_each = ([], (tt, tt), refl)

  module _ (p : Plan) (ps : Plans) (apart : (i : ℕ) → has_symbol i p ≡ true → some_has i ps ≡ false) where
    -- a match of each member
    both : (a b : ℕ) → MayTakeJust p cs a → MayTakeJust (each ps) cs b → MayTakeJust (each (more_plans p ps)) cs (a + b)
    unfolding Copies
    both a b (xs, (in_p, spell_p), is_a) (ys, (in_ps, spell_ps), is_b) = (
      xs ++ ys,
      (
        all_append (IsPlaceOf (each (more_plans p ps))) xs ys
            (wider p (each (more_plans p ps)) (λ i e. or_left (has_symbol i p) (some_has i ps) e) xs in_p)
            (wider (each ps) (each (more_plans p ps)) (λ i e. or_right (has_symbol i p) (some_has i ps) e) ys in_ps),
        (
          copies_agree p (times xs) (times (xs ++ ys)) 1 (λ i e. left i (absent (each ps) ys i in_ps (apart i e))) spell_p,
          each_agree ps (times ys) (times (xs ++ ys)) 1 (λ i e. right i (absent p xs i in_p (not_both (has_symbol i p) (some_has i ps) (apart i) e))) spell_ps,
        ),
      ),
      served_both cs xs ys ∙ ap (λ z. z + served cs ys) is_a ∙ ap (λ z. a + z) is_b,
    )
      where
        left : (i : ℕ) → times ys i ≡ 0 → times xs i ≡ times (xs ++ ys) i
        left i e = let both = times_both xs ys i in omega (arith, both, e)

        right : (i : ℕ) → times xs i ≡ 0 → times ys i ≡ times (xs ++ ys) i
        right i e = let both = times_both xs ys i in omega (arith, both, e)

    -- a match of the first member of a OneOf, and of a later one
    first : (a : ℕ) → MayTakeJust p cs a → MayTakeJust (one (more_plans p ps)) cs a
    unfolding Copies
    first a (xs, (in_p, spell), is) = (
      xs,
      (
        wider p (one (more_plans p ps)) (λ i e. or_left (has_symbol i p) (some_has i ps) e) xs in_p,
        (1, 0, refl, spell, one_zero ps (times xs) (λ i e. absent p xs i in_p (not_both (has_symbol i p) (some_has i ps) (apart i) e))),
      ),
      is,
    )

    later : (b : ℕ) → MayTakeJust (one ps) cs b → MayTakeJust (one (more_plans p ps)) cs b
    unfolding Copies
    later b (ys, (in_ps, spell), is) = (
      ys,
      (
        wider (one ps) (one (more_plans p ps)) (λ i e. or_right (has_symbol i p) (some_has i ps) e) ys in_ps,
        (0, 1, refl, copies_zero p (times ys) (λ i e. absent (one ps) ys i in_ps (apart i e)), spell),
      ),
      is,
    )

  -- so many matches one after the other
  repeats : (p : Plan) (a : ℕ) → MayTakeJust p cs a → (k : ℕ) → (xs : List Place) × AllByRecursion (IsPlaceOf p) xs × Copies p (times xs) k × (served cs xs ≡ k * a)
  repeats p a taken zero = ([], tt, copies_zero p (times []) (λ i e. refl), (let none : 0 * a ≡ 0 = omega arith in sym none))
  repeats p a (ys, (in_p, spell), is) (suc k) = go (repeats p a (ys, (in_p, spell), is) k)
    where
      go : ((xs : List Place) × AllByRecursion (IsPlaceOf p) xs × Copies p (times xs) k × (served cs xs ≡ k * a)) →
          (xs : List Place) × AllByRecursion (IsPlaceOf p) xs × Copies p (times xs) (suc k) × (served cs xs ≡ suc k * a)
      go (xs, in_xs, spells, all) = (
        ys ++ xs,
        all_append (IsPlaceOf p) ys xs in_p in_xs,
        copies_agree p (λ i. times ys i + times xs i) (times (ys ++ xs)) (suc k) (λ i e. sym (times_both ys xs i))
            (subst (Copies p (λ i. times ys i + times xs i)) (one_more k) (copies_add p (times ys) (times xs) 1 k spell spells)),
        (let s = served_both cs ys xs in omega (arith, s, is, all)),
      )

  repeated : (p : Plan) (n : ℕ) (bound : Bound) (k a : ℕ) → Fills n bound 1 k → MayTakeJust p cs a → MayTakeJust (many n bound p) cs (k * a)
  unfolding Copies
  repeated p n bound k a fills taken = let (xs, in_p, spell, is) = repeats p a taken k in (xs, (in_p, (k, fills, spell)), is)

  fills_least : (n : ℕ) (bound : Bound) → IsOrdered n bound → Fills n bound 1 n
  fills_least n (Upto m) h = (omega arith, omega arith)
  fills_least n Free h = (omega arith, λ e. absurd (omega (arith, e)))

  -- the lesser of two members, and the greater
  lesser : (p : Plan) (ps : Plans) → ((i : ℕ) → has_symbol i p ≡ true → some_has i ps ≡ false) → (a b : ℕ) → MayTakeJust p cs a → MayTakeJust (one ps) cs b →
      MayTakeJust (one (more_plans p ps)) cs (min a b)
  lesser p ps apart a b h t = elim (cases_lt a b) [
    | inl lt ↦ subst (λ k. MayTakeJust (one (more_plans p ps)) cs k) (let same : a ≡ min a b = omega arith in same) (first p ps apart a h)
    | inr ge ↦ subst (λ k. MayTakeJust (one (more_plans p ps)) cs k) (let same : b ≡ min a b = omega arith in same) (later p ps apart b t)
  ]

  greater : (p : Plan) (ps : Plans) → ((i : ℕ) → has_symbol i p ≡ true → some_has i ps ≡ false) → (a b : ℕ) → MayTakeJust p cs a → MayTakeJust (one ps) cs b →
      MayTakeJust (one (more_plans p ps)) cs (max a b)
  greater p ps apart a b h t = elim (cases_lt b a) [
    | inl lt ↦ subst (λ k. MayTakeJust (one (more_plans p ps)) cs k) (let same : a ≡ max a b = omega arith in same) (first p ps apart a h)
    | inr ge ↦ subst (λ k. MayTakeJust (one (more_plans p ps)) cs k) (let same : b ≡ max a b = omega arith in same) (later p ps apart b t)
  ]

  -- ---- the least

  mutual
    unfolding IsDistinct IsSound HasChoices least_of

    pub least_taken : (c : Plan) → IsDistinct c → IsSound c → HasChoices c → MayTakeJust c cs (least_of cs c)
    least_taken (symbol i) d s h = sole i
    least_taken (each ps) d s h = least_all ps d s h
    least_taken (one ps) d s h = least_some ps d s h.0 h.1
    least_taken (many n bound p) d s h = repeated p n bound n (least_of cs p) (fills_least n bound s.0) (least_taken p d s.1 h)

    pub least_all : (ps : Plans) → AreDistinct ps → AreSound ps → HaveChoices ps → MayTakeJust (each ps) cs (least_each cs ps)
    least_all no_plans d s h = none_each
    least_all (more_plans p ps) d s h = both p ps d.2 (least_of cs p) (least_each cs ps) (least_taken p d.0 s.0 h.0) (least_all ps d.1 s.1 h.1)

    pub least_some : (ps : Plans) → AreDistinct ps → AreSound ps → HasMembers ps → HaveChoices ps → MayTakeJust (one ps) cs (least_one cs ps)
    least_some no_plans d s m h = absurd m
    least_some (more_plans p no_plans) d s m h = first p no_plans d.2 (least_of cs p) (least_taken p d.0 s.0 h.0)
    least_some (more_plans p (more_plans q qs)) d s m h =
        lesser p (more_plans q qs) d.2 (least_of cs p) (least_one cs (more_plans q qs)) (least_taken p d.0 s.0 h.0) (least_some (more_plans q qs) d.1 s.1 tt h.1)

  -- ---- the most

  sum_ends : (x y : Option ℕ) (m : ℕ) → add_ends x y ≡ Some m → (a b : ℕ) × (x ≡ Some a) × (y ≡ Some b) × (a + b ≡ m)
  sum_ends None y m e = absurd cc
  sum_ends (Some a) None m e = absurd cc
  sum_ends (Some a) (Some b) m e = (a, b, refl, refl, cc)

  greater_ends : (x y : Option ℕ) (m : ℕ) → max_ends x y ≡ Some m → (a b : ℕ) × (x ≡ Some a) × (y ≡ Some b) × (max a b ≡ m)
  greater_ends None y m e = absurd cc
  greater_ends (Some a) None m e = absurd cc
  greater_ends (Some a) (Some b) m e = (a, b, refl, refl, cc)

  zero_is : (m : ℕ) → Some 0 ≡ Some m → 0 ≡ m
  zero_is m e = cc

  many_taken :
      (p : Plan) (n l : ℕ) (bound : Bound) (x : Option ℕ) → IsOrdered n bound → MayTakeJust p cs l → ((h : ℕ) → x ≡ Some h → MayTakeJust p cs h) →
      (m : ℕ) → times_end bound x ≡ Some m → MayTakeJust (many n bound p) cs m
  many_taken p n l (Upto zero) x ordered some most m e =
      subst (λ k. MayTakeJust (many n (Upto 0) p) cs k) (let none : 0 * l ≡ 0 = omega arith in none ∙ zero_is m e)
      (repeated p n (Upto 0) 0 l (omega arith, omega arith) some)
  many_taken p n l (Upto (suc u)) None ordered some most m e = absurd cc
  many_taken p n l (Upto (suc u)) (Some h) ordered some most m e =
      subst (λ k. MayTakeJust (many n (Upto (suc u)) p) cs k) (let same : suc u * h ≡ m = cc in same)
      (repeated p n (Upto (suc u)) (suc u) h (omega arith, omega arith) (most h refl))
  many_taken p n l Free None ordered some most m e = absurd cc
  many_taken p n l Free (Some zero) ordered some most m e =
      subst (λ k. MayTakeJust (many n Free p) cs k) (let none : n * 0 ≡ 0 = omega arith in none ∙ zero_is m e)
      (repeated p n Free n 0 (omega arith, λ z. absurd (omega (arith, z))) (most 0 refl))
  many_taken p n l Free (Some (suc h)) ordered some most m e = absurd cc

  mutual
    unfolding IsDistinct IsSound HasChoices most_of

    pub most_taken : (c : Plan) → IsDistinct c → IsSound c → HasChoices c → (m : ℕ) → most_of cs c ≡ Some m → MayTakeJust c cs m
    most_taken (symbol i) d s h m e = subst (λ k. MayTakeJust (symbol i) cs k) (let same : cond (is_among cs i) 1 0 ≡ m = cc in same) (sole i)
    most_taken (each ps) d s h m e = most_all ps d s h m e
    most_taken (one ps) d s h m e = most_some ps d s h.0 h.1 m e
    most_taken (many n bound p) d s h m e =
        many_taken p n (least_of cs p) bound (most_of cs p) s.0 (least_taken p d s.1 h) (λ k is. most_taken p d s.1 h k is) m e

    pub most_all : (ps : Plans) → AreDistinct ps → AreSound ps → HaveChoices ps → (m : ℕ) → most_each cs ps ≡ Some m → MayTakeJust (each ps) cs m
    most_all no_plans d s h m e = subst (λ k. MayTakeJust (each no_plans) cs k) (zero_is m e) none_each
    most_all (more_plans p ps) d s h m e =
        let (a, b, is_a, is_b, sum) = sum_ends (most_of cs p) (most_each cs ps) m e in
        subst (λ k. MayTakeJust (each (more_plans p ps)) cs k) sum (both p ps d.2 a b (most_taken p d.0 s.0 h.0 a is_a) (most_all ps d.1 s.1 h.1 b is_b))

    pub most_some : (ps : Plans) → AreDistinct ps → AreSound ps → HasMembers ps → HaveChoices ps → (m : ℕ) → most_one cs ps ≡ Some m → MayTakeJust (one ps) cs m
    most_some no_plans d s some h m e = absurd some
    most_some (more_plans p no_plans) d s some h m e =
        let (a, b, is_a, is_b, sum) = greater_ends (most_of cs p) (most_one cs no_plans) m e in
        let none = zero_is b is_b in
        subst (λ k. MayTakeJust (one (more_plans p no_plans)) cs k) (let same : a ≡ m = omega (arith, none, sum) in same)
        (first p no_plans d.2 a (most_taken p d.0 s.0 h.0 a is_a))
    most_some (more_plans p (more_plans q qs)) d s some h m e =
        let (a, b, is_a, is_b, sum) = greater_ends (most_of cs p) (most_one cs (more_plans q qs)) m e in
        subst (λ k. MayTakeJust (one (more_plans p (more_plans q qs))) cs k) sum
        (greater p (more_plans q qs) d.2 a b (most_taken p d.0 s.0 h.0 a is_a) (most_some (more_plans q qs) d.1 s.1 tt h.1 b is_b))

  -- ---- without an end

  abbrev pub Endless : Plan → Type 0
  Endless c = (wanted : ℕ) → (count : ℕ) × (wanted ≤ count) × MayTakeJust c cs count

  no_sum : (x y : Option ℕ) → add_ends x y ≡ None → (x ≡ None) ⊎ (y ≡ None)
  no_sum None y e = inl refl
  no_sum (Some a) None e = inr refl
  no_sum (Some a) (Some b) e = absurd cc

  no_greater : (x y : Option ℕ) → max_ends x y ≡ None → (x ≡ None) ⊎ (y ≡ None)
  no_greater None y e = inl refl
  no_greater (Some a) None e = inr refl
  no_greater (Some a) (Some b) e = absurd cc

  first_endless : (p : Plan) (ps : Plans) → ((i : ℕ) → has_symbol i p ≡ true → some_has i ps ≡ false) → Endless p → Endless (one (more_plans p ps))
  first_endless p ps apart h wanted = let (k, le, taken) = h wanted in (k, le, first p ps apart k taken)

  later_endless : (p : Plan) (ps : Plans) → ((i : ℕ) → has_symbol i p ≡ true → some_has i ps ≡ false) → Endless (one ps) → Endless (one (more_plans p ps))
  later_endless p ps apart h wanted = let (k, le, taken) = h wanted in (k, le, later p ps apart k taken)

  left_endless : (p : Plan) (ps : Plans) → ((i : ℕ) → has_symbol i p ≡ true → some_has i ps ≡ false) → (b : ℕ) → Endless p → MayTakeJust (each ps) cs b →
      Endless (each (more_plans p ps))
  left_endless p ps apart b h t wanted = let (k, le, taken) = h wanted in (k + b, (omega arith), both p ps apart k b taken t)

  right_endless : (p : Plan) (ps : Plans) → ((i : ℕ) → has_symbol i p ≡ true → some_has i ps ≡ false) → (a : ℕ) → MayTakeJust p cs a → Endless (each ps) →
      Endless (each (more_plans p ps))
  right_endless p ps apart a h t wanted = let (k, le, taken) = t wanted in (a + k, (omega arith), both p ps apart a k h taken)

  more_than : (k a w : ℕ) → w ≤ a → w ≤ suc k * a
  more_than k a w le = omega arith

  spread : (n w h : ℕ) → w ≤ (n + w) * suc h
  spread n w h = omega arith

  many_endless :
      (p : Plan) (n : ℕ) (bound : Bound) (x : Option ℕ) → IsOrdered n bound → (x ≡ None → Endless p) → ((h : ℕ) → x ≡ Some h → MayTakeJust p cs h) →
      times_end bound x ≡ None → Endless (many n bound p)
  many_endless p n (Upto zero) x ordered endless most e wanted = absurd cc
  many_endless p n (Upto (suc u)) None ordered endless most e wanted =
      let (k, le, taken) = endless refl wanted in
      (suc u * k, more_than u k wanted le, repeated p n (Upto (suc u)) (suc u) k (omega arith, omega arith) taken)
  many_endless p n (Upto (suc u)) (Some h) ordered endless most e wanted = absurd cc
  many_endless p n Free None ordered endless most e wanted =
      let (k, le, taken) = endless refl wanted in
      (suc n * k, more_than n k wanted le, repeated p n Free (suc n) k (omega arith, λ z. absurd (omega (arith, z))) taken)
  many_endless p n Free (Some zero) ordered endless most e wanted = absurd cc
  many_endless p n Free (Some (suc h)) ordered endless most e wanted =
      ((n + wanted) * suc h, spread n wanted h, repeated p n Free (n + wanted) (suc h) (omega arith, λ z. absurd (omega (arith, z))) (most (suc h) refl))

  mutual
    unfolding IsDistinct IsSound HasChoices most_of

    pub many_taken_of : (c : Plan) → IsDistinct c → IsSound c → HasChoices c → most_of cs c ≡ None → Endless c
    many_taken_of (symbol i) d s h e = absurd cc
    many_taken_of (each ps) d s h e = many_taken_all ps d s h e
    many_taken_of (one ps) d s h e = many_taken_some ps d s h.1 e
    many_taken_of (many n bound p) d s h e =
        many_endless p n bound (most_of cs p) s.0 (λ none. many_taken_of p d s.1 h none) (λ k is. most_taken p d s.1 h k is) e

    pub many_taken_all : (ps : Plans) → AreDistinct ps → AreSound ps → HaveChoices ps → most_each cs ps ≡ None → Endless (each ps)
    many_taken_all no_plans d s h e = absurd cc
    many_taken_all (more_plans p ps) d s h e = elim (no_sum (most_of cs p) (most_each cs ps) e) [
      | inl none ↦ left_endless p ps d.2 (least_each cs ps) (many_taken_of p d.0 s.0 h.0 none) (least_all ps d.1 s.1 h.1)
      | inr none ↦ right_endless p ps d.2 (least_of cs p) (least_taken p d.0 s.0 h.0) (many_taken_all ps d.1 s.1 h.1 none)
    ]

    pub many_taken_some : (ps : Plans) → AreDistinct ps → AreSound ps → HaveChoices ps → most_one cs ps ≡ None → Endless (one ps)
    many_taken_some no_plans d s h e = absurd cc
    many_taken_some (more_plans p ps) d s h e = elim (no_greater (most_of cs p) (most_one cs ps) e) [
      | inl none ↦ first_endless p ps d.2 (many_taken_of p d.0 s.0 h.0 none)
      | inr none ↦ later_endless p ps d.2 (many_taken_some ps d.1 s.1 h.1 none)
    ]

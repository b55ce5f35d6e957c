-- Ways put together hold where their parts do.
use Rattle.std.proofs.Common.{◌≡◌, ℕ, zero, suc, ◌+◌, ◌-◌, ◌≤◌, ◌⊎◌, inl, inr, List, [], ◌∷◌, ◌++◌, length, refl, arith, sym, subst, ap, ◌∙◌, Bool, true, false, cond, ◌&&◌, length-append, add-one}
use Rattle.std.proofs.lemmas.Bool.Decides.{nat_tests}
use Rattle.std.specs.Prelude.{Option, Some, None, nat_le}
use Rattle.xs_pattern.specs.declared.walk.Edge.{Edge}
use Rattle.xs_pattern.specs.Language.{Leads, IsUpTo}
use Rattle.xs_pattern.specs.Way.{Way, nothing, never, start, finish, one, then, either, plus, Runs}
use Rattle.xs_pattern.specs.Unrolling.{is_nothing, is_never, then_way, either_way, plus_way, copies, at_most, repeated}

nothing_is : (a : Way) → is_nothing a ≡ true → a ≡ nothing
nothing_is nothing h = refl
nothing_is never h = absurd (cc)
nothing_is start h = absurd (cc)
nothing_is finish h = absurd (cc)
nothing_is (one k) h = absurd (cc)
nothing_is (then a b) h = absurd (cc)
nothing_is (either a b) h = absurd (cc)
nothing_is (plus a) h = absurd (cc)

never_is : (a : Way) → is_never a ≡ true → a ≡ never
never_is nothing h = absurd (cc)
never_is never h = refl
never_is start h = absurd (cc)
never_is finish h = absurd (cc)
never_is (one k) h = absurd (cc)
never_is (then a b) h = absurd (cc)
never_is (either a b) h = absurd (cc)
never_is (plus a) h = absurd (cc)

and_true : (a b : Bool) → (a && b) ≡ true → (a ≡ true) × (b ≡ true)
and_true true b h = (refl, h)
and_true false b h = absurd (cc)

-- so many steps lead from i to j
abbrev pub Steps : (ℕ → ℕ → Type 0) → ℕ → ℕ → ℕ → Type 0
Steps R n i j = (places : List ℕ) × (length places ≡ n) × Leads R i places j

pub leads_map : (R Q : ℕ → ℕ → Type 0) → ((i j : ℕ) → R i j → Q i j) → (i : ℕ) (places : List ℕ) (j : ℕ) → Leads R i places j → Leads Q i places j
leads_map R Q to i [] j at = at
leads_map R Q to i (k ∷ ks) j (step, path) = (to i k step, leads_map R Q to k ks j path)

join : (R : ℕ → ℕ → Type 0) (i : ℕ) (ps : List ℕ) (k : ℕ) (qs : List ℕ) (j : ℕ) → Leads R i ps k → Leads R k qs j → Leads R i (ps ++ qs) j
join R i [] k qs j at path = subst (λ v. Leads R v qs j) at path
join R i (m ∷ ms) k qs j (step, rest) path = (step, join R m ms k qs j rest path)

joined : (R : ℕ → ℕ → Type 0) (a b i k j : ℕ) → Steps R a i k → Steps R b k j → Steps R (a + b) i j
joined R a b i k j (ps, la, p) (qs, lb, q) = (ps ++ qs, omega (arith, length-append ps qs), join R i ps k qs j p q)

split : (R : ℕ → ℕ → Type 0) (a b i j : ℕ) (ps : List ℕ) → length ps ≡ a + b → Leads R i ps j → (k : ℕ) × Steps R a i k × Steps R b k j
split R zero b i j ps len path = (i, ([], refl, refl), (ps, omega arith, path))
split R (suc a) b i j [] len path = absurd (omega arith)
split R (suc a) b i j (m ∷ ms) len (step, path) = widen (split R a b m j ms (omega arith) path)
  where
    widen : (k : ℕ) × Steps R a m k × Steps R b k j → (k : ℕ) × Steps R (suc a) i k × Steps R b k j
    widen (k, (qs, lq, q), rest) = (k, (m ∷ qs, omega arith, (step, q)), rest)

module _ (edge : ℕ → Edge) (has : ℕ → ℕ → Bool) where
  abbrev R : Way → ℕ → ℕ → Type 0
  R w i j = Runs edge has w i j

  -- sequences
  pub to_then : (a b : Way) (i k j : ℕ) → R a i k → R b k j → R (then_way a b) i j
  unfolding Runs
  to_then a b i k j x y = first (is_nothing a) refl
    where
      second : (q : Bool) → is_nothing b ≡ q → R (cond q a (then a b)) i j
      second true e = let z : j ≡ k = subst (λ v. R v k j) (nothing_is b e) y in subst (λ v. R a i v) (sym z) x
      second false e = (k, x, y)

      first : (p : Bool) → is_nothing a ≡ p → R (cond p b (cond (is_nothing b) a (then a b))) i j
      first true e = let z : k ≡ i = subst (λ v. R v i k) (nothing_is a e) x in subst (λ v. R b v j) z y
      first false e = second (is_nothing b) refl

  pub of_then : (a b : Way) (i j : ℕ) → R (then_way a b) i j → (k : ℕ) × R a i k × R b k j
  unfolding Runs
  of_then a b i j h = first (is_nothing a) refl h
    where
      second : (q : Bool) → is_nothing b ≡ q → R (cond q a (then a b)) i j → (k : ℕ) × R a i k × R b k j
      second true e r = (j, r, subst (λ v. R v j j) (sym (nothing_is b e)) refl)
      second false e r = r

      first : (p : Bool) → is_nothing a ≡ p → R (cond p b (cond (is_nothing b) a (then a b))) i j → (k : ℕ) × R a i k × R b k j
      first true e r = (i, subst (λ v. R v i i) (sym (nothing_is a e)) refl, r)
      first false e r = second (is_nothing b) refl r

  -- choices
  pub to_either : (a b : Way) (i j : ℕ) → R a i j ⊎ R b i j → R (either_way a b) i j
  unfolding Runs
  to_either a b i j h = first (is_never a) refl
    where
      both : (a ≡ nothing) × (b ≡ nothing) → R a i j ⊎ R b i j → R a i j
      both e (inl x) = x
      both e (inr y) = subst (λ v. R v i j) (e.1 ∙ sym e.0) y

      second : (q : Bool) → (is_nothing a && is_nothing b) ≡ q → R (cond q a (either a b)) i j
      second true e = let p = and_true (is_nothing a) (is_nothing b) e in both (nothing_is a p.0, nothing_is b p.1) h
      second false e = h

      only : (a ≡ never) → R a i j ⊎ R b i j → R b i j
      only e (inl x) = let z : ⊥ = subst (λ v. R v i j) e x in absurd z
      only e (inr y) = y

      first : (p : Bool) → is_never a ≡ p → R (cond p b (cond (is_nothing a && is_nothing b) a (either a b))) i j
      first true e = only (never_is a e) h
      first false e = second (is_nothing a && is_nothing b) refl

  pub of_either : (a b : Way) (i j : ℕ) → R (either_way a b) i j → R a i j ⊎ R b i j
  unfolding Runs
  of_either a b i j h = first (is_never a) h
    where
      second : (q : Bool) → R (cond q a (either a b)) i j → R a i j ⊎ R b i j
      second true r = inl r
      second false r = r

      first : (p : Bool) → R (cond p b (cond (is_nothing a && is_nothing b) a (either a b))) i j → R a i j ⊎ R b i j
      first true r = inr r
      first false r = second (is_nothing a && is_nothing b) r

  stays : (w : Way) → w ≡ nothing → (i : ℕ) (places : List ℕ) (j : ℕ) → Leads (R w) i places j → j ≡ i
  unfolding Runs
  stays w e i [] j at = at
  stays w e i (k ∷ ks) j (step, path) = let at : k ≡ i = subst (λ v. R v i k) e step in stays w e k ks j path ∙ at

  pub to_plus : (w : Way) (n i j : ℕ) → Steps (R w) (suc n) i j → R (plus_way w) i j
  unfolding Runs
  to_plus w n i j (places, len, path) = go (is_nothing w) refl
    where
      go : (p : Bool) → is_nothing w ≡ p → R (cond p w (plus w)) i j
      go true e = let at = stays w (nothing_is w e) i places j path in subst (λ v. R w i v) (sym at) (subst (λ v. R v i i) (sym (nothing_is w e)) refl)
      go false e = (places, omega arith, path)

  pub of_plus : (w : Way) (i j : ℕ) → R (plus_way w) i j → (n : ℕ) × Steps (R w) (suc n) i j
  unfolding Runs
  of_plus w i j h = go (is_nothing w) h
    where
      some : (places : List ℕ) → 1 ≤ length places → Leads (R w) i places j → (n : ℕ) × Steps (R w) (suc n) i j
      some [] le path = absurd (omega arith)
      some (k ∷ ks) le path = (length ks, (k ∷ ks, omega arith, path))

      go : (p : Bool) → R (cond p w (plus w)) i j → (n : ℕ) × Steps (R w) (suc n) i j
      go true r = (0, (j ∷ [], refl, (r, refl)))
      go false (places, le, path) = some places le path

  pub to_copies : (w : Way) (n i j : ℕ) → Steps (R w) n i j → R (copies n w) i j
  unfolding Runs copies
  to_copies w zero i j ([], len, path) = path
  to_copies w zero i j (k ∷ ks, len, path) = absurd (omega arith)
  to_copies w (suc n) i j ([], len, path) = absurd (omega arith)
  to_copies w (suc n) i j (k ∷ ks, len, (step, path)) = to_then w (copies n w) i k j step (to_copies w n k j (ks, omega arith, path))

  pub of_copies : (w : Way) (n i j : ℕ) → R (copies n w) i j → Steps (R w) n i j
  unfolding Runs copies
  of_copies w zero i j h = ([], refl, h)
  of_copies w (suc n) i j h =
      let t = of_then w (copies n w) i j h in
      let s = of_copies w n t.0 j t.2 in
      (t.0 ∷ s.0, omega (arith, s.1), (t.1, s.2))

  pub to_at_most : (w : Way) (n m i j : ℕ) → n ≤ m → Steps (R w) n i j → R (at_most m w) i j
  unfolding Runs at_most
  to_at_most w n zero i j le ([], len, path) = path
  to_at_most w n zero i j le (k ∷ ks, len, path) = absurd (omega arith)
  to_at_most w n (suc m) i j le ([], len, path) = to_either nothing (then_way w (at_most m w)) i j (inl path)
  to_at_most w n (suc m) i j le (k ∷ ks, len, (step, path)) =
      to_either nothing (then_way w (at_most m w)) i j (inr (to_then w (at_most m w) i k j step (to_at_most w (length ks) m k j (omega arith) (ks, refl, path))))

  at_most_parts : (w : Way) (m i j : ℕ) → ((k : ℕ) → R (at_most m w) k j → (n : ℕ) × (n ≤ m) × Steps (R w) n k j) → R nothing i j ⊎
      R (then_way w (at_most m w)) i j → (n : ℕ) × (n ≤ suc m) × Steps (R w) n i j
  unfolding Runs
  at_most_parts w m i j ih (inl at) = (0, omega arith, ([], refl, at))
  at_most_parts w m i j ih (inr t) =
      let p = of_then w (at_most m w) i j t in
      let q = ih p.0 p.2 in
      (suc q.0, omega (arith, q.1), (p.0 ∷ q.2.0, omega (arith, q.2.1), (p.1, q.2.2)))

  none_left : (Q : ℕ → ℕ → Type 0) (i j : ℕ) (places : List ℕ) → length places ≡ 0 → Leads Q i places j → j ≡ i
  none_left Q i j [] len at = at
  none_left Q i j (k ∷ ks) len path = absurd (omega arith)

  pub of_at_most : (w : Way) (m i j : ℕ) → R (at_most m w) i j → (n : ℕ) × (n ≤ m) × Steps (R w) n i j
  unfolding Runs at_most
  of_at_most w zero i j h = (0, omega arith, ([], refl, h))
  of_at_most w (suc m) i j h = at_most_parts w m i j (λ k r. of_at_most w m k j r) (of_either nothing (then_way w (at_most m w)) i j h)

  -- the number of copies is between the least and the greatest
  pub to_repeated : (least : ℕ) (most : Option ℕ) (w : Way) (n i j : ℕ) → least ≤ n → IsUpTo n most → Steps (R w) n i j → R (repeated least most w) i j
  unfolding Runs
  to_repeated zero None w zero i j le up (places, len, path) =
      to_either nothing (plus_way w) i j (inl (none_left (R w) i j places len path))
  to_repeated zero None w (suc n) i j le up steps = to_either nothing (plus_way w) i j (inr (to_plus w n i j steps))
  to_repeated (suc l) None w zero i j le up steps = absurd (omega arith)
  to_repeated (suc l) None w (suc n) i j le up (places, len, path) =
      let parts = split (R w) l (suc (n - l)) i j places (omega arith) path in
      to_then (copies l w) (plus_way w) i parts.0 j (to_copies w l i parts.0 parts.1) (to_plus w (n - l) parts.0 j parts.2)
  to_repeated least (Some most) w n i j le up (places, len, path) = go (nat_le least most) refl
    where
      go : (b : Bool) → nat_le least most ≡ b → R (cond b (then_way (copies least w) (at_most (most - least) w)) never) i j
      go true e =
          let parts = split (R w) least (n - least) i j places (omega arith) path in
          to_then (copies least w) (at_most (most - least) w) i parts.0 j (to_copies w least i parts.0 parts.1) (to_at_most w (n - least) (most - least) parts.0 j (omega arith) parts.2)
      go false e = absurd (grind (arith, nat_tests))

  pub of_repeated : (least : ℕ) (most : Option ℕ) (w : Way) (i j : ℕ) → R (repeated least most w) i j → (n : ℕ) × (least ≤ n) × IsUpTo n most × Steps (R w) n i j
  unfolding Runs
  of_repeated zero None w i j h = go (of_either nothing (plus_way w) i j h)
    where
      go : R nothing i j ⊎ R (plus_way w) i j → (n : ℕ) × (zero ≤ n) × IsUpTo n None × Steps (R w) n i j
      go (inl at) = (0, omega arith, tt, ([], refl, at))
      go (inr r) = let p = of_plus w i j r in (suc p.0, omega arith, tt, p.1)
  of_repeated (suc l) None w i j h =
      let t = of_then (copies l w) (plus_way w) i j h in
      let p = of_plus w t.0 j t.2 in
      (l + suc p.0, omega arith, tt, joined (R w) l (suc p.0) i t.0 j (of_copies w l i t.0 t.1) p.1)
  of_repeated least (Some most) w i j h = go (nat_le least most) refl h
    where
      go : (b : Bool) → nat_le least most ≡ b → R (cond b (then_way (copies least w) (at_most (most - least) w)) never) i j → (n : ℕ) × (least ≤ n) × (n ≤ most) × Steps (R w) n i j
      go true e r =
          let t = of_then (copies least w) (at_most (most - least) w) i j r in
          let m = of_at_most w (most - least) t.0 j t.2 in
          let le : least ≤ most = grind (arith, nat_tests) in
          (least + m.0, omega arith, omega (arith, m.1), joined (R w) least m.0 i t.0 j (of_copies w least i t.0 t.1) m.2)
      go false e r = absurd r

-- of what is repeated 0 times nothing matters
pub repeated_none : (least : ℕ) (w : Way) → repeated least (Some 0) w ≡ repeated least (Some 0) nothing
unfolding copies at_most
repeated_none zero w = refl
repeated_none (suc n) w = go (nat_le (suc n) 0) refl
  where
    go : (b : Bool) → nat_le (suc n) 0 ≡ b → cond b (then_way (copies (suc n) w) (at_most (0 - suc n) w)) never ≡ cond b (then_way (copies (suc n) nothing) (at_most (0 - suc n) nothing)) never
    go true e = absurd (grind (arith, nat_tests))
    go false e = refl

-- one copy more
pub copied : (all copy before : Way) (n : ℕ) (w : Way) → all ≡ then_way copy before → copy ≡ w → before ≡ copies n w → all ≡ copies (n + 1) w
unfolding copies
copied all copy before n w is a b = rw add-one (is ∙ (ap (λ v. then_way v before) a ∙ ap (λ v. then_way w v) b))

pub copied_or_none : (all none longer copy before : Way) (n : ℕ) (w : Way) → all ≡ either_way none longer → none ≡ nothing → longer ≡ then_way copy before →
    copy ≡ w → before ≡ at_most n w → all ≡ at_most (n + 1) w
unfolding at_most
copied_or_none all none longer copy before n w is z l a b =
    rw add-one (is ∙ (ap (λ v. either_way v longer) z ∙ ap (λ v. either_way nothing v) (l ∙ (ap (λ v. then_way v before) a ∙ ap (λ v. then_way w v) b))))

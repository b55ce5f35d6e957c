-- A pattern and what it unrolls to hold between the same places.
use Rattle.std.proofs.Common.{◌≡◌, ℕ, zero, suc, ◌+◌, ◌≤◌, ◌⊎◌, inl, inr, List, [], ◌∷◌, ◌++◌, length, drop, refl, arith, sym, subst, ap, ◌∙◌, Bool, false, map, append_assoc}
use Rattle.std.proofs.Math.Seq.{drop-append_seam, drop-nil}
use Rattle.std.proofs.lemmas.List.{drop-drop}
use Rattle.std.proofs.lemmas.Bool.{ltb-true, lt-ltb, eqb-true, eq-eqb}
use Rattle.std.specs.Prelude.{Option, Some, None, slice_index, slice_index_or, nat_lt}
use Rattle.xs_pattern.specs.declared.expression.Flags.{Flags}
use Rattle.xs_pattern.specs.Language.{Leads, IsUpTo, HoldsAt, Holds, HoldsAll, HoldsSome}
use Rattle.xs_pattern.specs.Regex.{Chars, Regex, start, finish, one, group, branch, choice, repeat, Regexes, none, more}
use Rattle.xs_pattern.specs.Tests.{char_test}
use Rattle.xs_pattern.specs.Unrolling.{then_way, either_way, repeated, sets, all_sets, unroll, unroll_all, unroll_some, edge_at, having, has_at}
use Rattle.xs_pattern.specs.Way as Ways
use Rattle.xs_pattern.specs.Way.{Way, Runs}
use Rattle.xs_pattern.proofs.Classes.{char_tells}
use Rattle.xs_pattern.proofs.Reading.{and_both, and_parts}
use Rattle.xs_pattern.proofs.Repeated.{leads_map, to_then, of_then, to_either, of_either, to_repeated, of_repeated}

-- the element behind the first k
at_place : (g : Chars → Bool) (k : ℕ) (ss : List Chars) (s : Chars) (rest : List Chars) → drop k ss ≡ s ∷ rest → slice_index_or (map g ss) k false ≡ g s
at_place g k [] s rest is = let e = sym (drop-nil {A = Chars} k) ∙ is in absurd (cc)
at_place g zero (x ∷ xs) s rest is = ap g (let e = is in cc)
at_place g (suc k) (x ∷ xs) s rest is = at_place g k xs s rest is

no_steps : (P Q : ℕ → ℕ → Type 0) (i : ℕ) (places : List ℕ) (j : ℕ) → length places ≤ 0 → Leads P i places j → Leads Q i places j
no_steps P Q i [] j le at = at
no_steps P Q i (k ∷ ks) j le path = absurd (omega arith)

-- behind a part of what is behind the first k
behind_part : (k : ℕ) (ss xs ys : List Chars) → drop k ss ≡ xs ++ ys → drop (k + length xs) ss ≡ ys
behind_part k ss xs ys is = sym (drop-drop (length xs) k ss) ∙ (ap (drop (length xs)) is ∙ drop-append_seam xs ys)

module _ (f : Flags) (text : List ℕ) (ss : List Chars) where
  -- from number k on the sets are these, and then others
  abbrev pub From : ℕ → List Chars → Type 0
  From k xs = (rest : List Chars) × (drop k ss ≡ xs ++ rest)

  from_left : (k : ℕ) (xs ys : List Chars) → From k (xs ++ ys) → From k xs
  from_left k xs ys (rest, is) = (ys ++ rest, is ∙ append_assoc xs ys rest)

  from_right : (k : ℕ) (xs ys : List Chars) → From k (xs ++ ys) → From (k + length xs) ys
  from_right k xs ys (rest, is) = (rest, behind_part k ss xs (ys ++ rest) (is ∙ append_assoc xs ys rest))

  abbrev R : Way → ℕ → ℕ → Type 0
  R w i j = Runs (edge_at text) (has_at f ss text) w i j

  -- both ways between any two places
  abbrev pub Same : Way → (ℕ → ℕ → Type 0) → Type 0
  Same w Q = (i j : ℕ) → (R w i j → Q i j) × (Q i j → R w i j)

  same_one : (k : ℕ) (s : Chars) → From k (s ∷ []) → Same (Ways.one k) (HoldsAt f text s)
  unfolding Runs
  same_one k s (rest, is) i j = (out, into)
    where
      found : slice_index_or (having f ss (slice_index text i)) k false ≡ char_test f s (slice_index text i)
      found = at_place (λ t. char_test f t (slice_index text i)) k ss s rest is

      out : R (Ways.one k) i j → HoldsAt f text s i j
      out (h, step) =
          let p = and_parts (nat_lt i (length text)) (slice_index_or (having f ss (slice_index text i)) k false) h in
          (ltb-true i (length text) p.0, step, (char_tells f s (slice_index text i)).0 (sym found ∙ p.1))

      into : HoldsAt f text s i j → R (Ways.one k) i j
      into (lt, step, has) =
          (and_both (nat_lt i (length text)) (slice_index_or (having f ss (slice_index text i)) k false) (lt-ltb i (length text) lt) (found ∙ (char_tells f s (slice_index text i)).1 has), step)

  same_repeat : (least : ℕ) (most : Option ℕ) (w : Way) (Q : ℕ → ℕ → Type 0) → Same w Q →
      Same (repeated least most w) (λ i j. (places : List ℕ) × (least ≤ length places) × IsUpTo (length places) most × Leads Q i places j)
  same_repeat least most w Q same i j = (out, into)
    where
      out : R (repeated least most w) i j → (places : List ℕ) × (least ≤ length places) × IsUpTo (length places) most × Leads Q i places j
      out h =
          let p = of_repeated (edge_at text) (has_at f ss text) least most w i j h in
          let len = p.3.1 in
          (p.3.0, omega (arith, p.1), subst (λ n. IsUpTo n most) (sym len) p.2, leads_map (R w) Q (λ a b. (same a b).0) i p.3.0 j p.3.2)

      into : (places : List ℕ) × (least ≤ length places) × IsUpTo (length places) most × Leads Q i places j → R (repeated least most w) i j
      into (places, le, up, path) =
          to_repeated (edge_at text) (has_at f ss text) least most w (length places) i j le up (places, refl, leads_map Q (R w) (λ a b. (same a b).1) i places j path)

  -- what is repeated 0 times
  same_never : (least : ℕ) (w : Way) (Q : ℕ → ℕ → Type 0) → Same (repeated least (Some 0) w) (λ i j. (places : List ℕ) × (least ≤ length places) × IsUpTo (length places) (Some 0) × Leads Q i places j)
  same_never least w Q i j =
      let t = same_repeat least (Some 0) w (R w) (λ a b. (λ h. h, λ h. h)) i j in (
        λ h. (let p = t.0 h in (p.0, p.1, p.2, no_steps (R w) Q i p.0 j p.2 p.3)),
        λ p. t.1 (p.0, p.1, p.2, no_steps Q (R w) i p.0 j p.2 p.3),
      )

  -- behind what is there already, and beside it
  abbrev Behind : Way → Regexes → ℕ → ℕ → Type 0
  Behind done es i j = (m : ℕ) × R done i m × HoldsAll f text es m j

  abbrev Beside : Way → Regexes → ℕ → ℕ → Type 0
  Beside done es i j = R done i j ⊎ HoldsSome f text es i j

  behind_more : (done : Way) (w : Way) (e : Regex) (es : Regexes) → Same w (Holds f text e) → (i j : ℕ) →
      (Behind (then_way done w) es i j → Behind done (more e es) i j) × (Behind done (more e es) i j → Behind (then_way done w) es i j)
  unfolding HoldsAll
  behind_more done w e es same i j = (
    λ (m, r, rest). (let t = of_then (edge_at text) (has_at f ss text) done w i m r in (t.0, t.1, (m, (same t.0 m).0 t.2, rest))),
    λ (k, r, (m, x, rest)). (m, to_then (edge_at text) (has_at f ss text) done w i k m r ((same k m).1 x), rest),
  )

  beside_more : (done : Way) (w : Way) (e : Regex) (es : Regexes) → Same w (Holds f text e) → (i j : ℕ) →
      (Beside (either_way done w) es i j → Beside done (more e es) i j) × (Beside done (more e es) i j → Beside (either_way done w) es i j)
  unfolding HoldsSome
  beside_more done w e es same i j = (out, into)
    where
      parts : R done i j ⊎ R w i j → Beside done (more e es) i j
      parts (inl x) = inl x
      parts (inr y) = inr (inl ((same i j).0 y))

      out : Beside (either_way done w) es i j → Beside done (more e es) i j
      out (inl r) = parts (of_either (edge_at text) (has_at f ss text) done w i j r)
      out (inr h) = inr (inr h)

      into : Beside done (more e es) i j → Beside (either_way done w) es i j
      into (inl r) = inl (to_either (edge_at text) (has_at f ss text) done w i j (inl r))
      into (inr (inl x)) = inl (to_either (edge_at text) (has_at f ss text) done w i j (inr ((same i j).1 x)))
      into (inr (inr h)) = inr h

  mutual
    unfolding Holds HoldsAll HoldsSome Runs

    -- the way of an expression holds where the expression does
    pub same : (k : ℕ) (e : Regex) → From k (sets e) → Same (unroll k e) (Holds f text e)
    same k start from i j = (λ h. (eqb-true i 0 h.0, h.1), λ h. (eq-eqb i 0 h.0, h.1))
    same k finish from i j = (λ h. (eqb-true i (length text) h.0, h.1), λ h. (eq-eqb i (length text) h.0, h.1))
    same k (one s) from i j = same_one k s from i j
    same k (group e) from i j = same k e from i j
    same k (branch es) from i j =
        (let t = same_all k Ways.nothing es from i j in (
          λ h. (let p = t.0 h in subst (λ m. HoldsAll f text es m j) p.1 p.2),
          λ h. t.1 (i, refl, h),
        ))
    same k (choice es) from i j =
        (let t = same_some k Ways.never es from i j in (
          λ h. elim (t.0 h) [ inl x ↦ absurd x | inr y ↦ y ],
          λ h. t.1 (inr h),
        ))
    same k (repeat least None e) from i j = same_repeat least None (unroll k e) (Holds f text e) (same k e from) i j
    same k (repeat least (Some zero) e) from i j = same_never least (unroll k e) (Holds f text e) i j
    same k (repeat least (Some (suc m)) e) from i j = same_repeat least (Some (suc m)) (unroll k e) (Holds f text e) (same k e from) i j

    same_all : (k : ℕ) (done : Way) (es : Regexes) → From k (all_sets es) → Same (unroll_all k done es) (Behind done es)
    same_all k done none from i j = (λ h. (j, h, refl), λ (m, r, at). subst (λ v. R done i v) (sym at) r)
    same_all k done (more e es) from i j =
        (let t = same_all (k + length (sets e)) (then_way done (unroll k e)) es (from_right k (sets e) (all_sets es) from) i j in
        let b = behind_more done (unroll k e) e es (same k e (from_left k (sets e) (all_sets es) from)) i j in
        (λ h. b.0 (t.0 h), λ h. t.1 (b.1 h)))

    same_some : (k : ℕ) (done : Way) (es : Regexes) → From k (all_sets es) → Same (unroll_some k done es) (Beside done es)
    same_some k done none from i j = (λ h. inl h, λ h. elim h [ inl x ↦ x | inr y ↦ absurd y ])
    same_some k done (more e es) from i j =
        (let t = same_some (k + length (sets e)) (either_way done (unroll k e)) es (from_right k (sets e) (all_sets es) from) i j in
        let b = beside_more done (unroll k e) e es (same k e (from_left k (sets e) (all_sets es) from)) i j in
        (λ h. b.0 (t.0 h), λ h. t.1 (b.1 h)))

-- Two readers of one form agree but for faults that the first answers alone.
use Rattle.std.proofs.Common.{◌≡◌, ℕ, zero, suc, ◌≤◌, Bool, true, false, cond, Result, Ok, Err, refl, sym, ap, subst, arith, ◌⊎◌, inl, inr}
use Rattle.rdf_cursor.specs.Ahead.{Ahead, finished, broken, token, count, next_is}
use Rattle.rdf_cursor.specs.Readers.{Answer, Reader, and_then, ◌>>=◌, give, taken, one, either, loop, finish}
use Rattle.rdf_cursor.specs.Properties.{Consumes, AgreesAt, Agrees}
use Rattle.rdf_cursor.proofs.Loops.{loop_step}

module _ {T F : Type 0} (Common : F → Type 0) (Alone : F → Ahead T → Type 0) where
  pub agrees_give : {A : Type 0} (x : A) → Agrees {T = T} Common Alone (give x) (give x)
  agrees_give x ts = refl

  -- a class agrees with another but for a fault at the token
  abbrev pub ClassAgrees : {A : Type 0} → T → Result A F → Result A F → Type 0
  ClassAgrees t (Ok x) other = other ≡ Ok x
  ClassAgrees t (Err f) other = (Common f × (other ≡ Err f)) ⊎ ((ts : Ahead T) → Alone f (token t ts))

  taken_agrees : {A : Type 0} (t : T) (ts : Ahead T) (c d : Result A F) → ClassAgrees t c d → AgreesAt Common Alone (taken c (token t ts) ts) (taken d (token t ts) ts)
  taken_agrees t ts (Ok x) d h = ap (λ (r : Result _ F). taken r (token t ts) ts) h
  taken_agrees t ts (Err f) d (inl (c, e)) = inl (c, ap (λ (r : Result _ F). taken r (token t ts) ts) e)
  taken_agrees t ts (Err f) d (inr h) = inr (h ts)

  pub agrees_one : {A : Type 0} (f : F) (c d : T → Result A F) → Common f → ((t : T) → ClassAgrees t (c t) (d t)) → Agrees Common Alone (one f c) (one f d)
  agrees_one f c d common h finished = inl (common, refl)
  agrees_one f c d common h broken = inl (common, refl)
  agrees_one f c d common h (token t ts) = taken_agrees t ts (c t) (d t) (h t)

  pub agrees_finish : {A : Type 0} (f : F) (x : A) → Common f → Agrees {T = T} Common Alone (finish f x) (finish f x)
  agrees_finish f x common finished = refl
  agrees_finish f x common broken = inl (common, refl)
  agrees_finish f x common (token t ts) = inl (common, refl)

  pub agrees_on : {A B : Type 0} (p q : A → Reader T F B) (a b : Answer T F A) → AgreesAt Common Alone a b → ((x : A) (ts : Ahead T) → AgreesAt Common Alone (p x ts) (q x ts))
      → AgreesAt Common Alone (and_then a p) (and_then b q)
  agrees_on p q (Ok x) b e next = subst (λ (c : Answer T F _). AgreesAt Common Alone (p x.0 x.1) (and_then c q)) (sym e) (next x.0 x.1)
  agrees_on p q (Err f) b (inl (c, e)) next = inl (c, ap (λ (d : Answer T F _). and_then d q) e)
  agrees_on p q (Err f) b (inr h) next = inr h

  pub agrees_bind : {A B : Type 0} (p q : Reader T F A) (f g : A → Reader T F B) → Agrees Common Alone p q → ((x : A) → Agrees Common Alone (f x) (g x)) → Agrees Common Alone (p >>= f) (q >>= g)
  agrees_bind p q f g a h ts = agrees_on f g (p ts) (q ts) (a ts) h

  chosen_agrees : {A : Type 0} (b : Bool) (p q r s : Answer T F A) → AgreesAt Common Alone p q → AgreesAt Common Alone r s → AgreesAt Common Alone (cond b p r) (cond b q s)
  chosen_agrees true p q r s a h = a
  chosen_agrees false p q r s a h = h

  pub agrees_either : {A : Type 0} (class : T → Bool) (p q r s : Reader T F A) → Agrees Common Alone p q → Agrees Common Alone r s → Agrees Common Alone (either class p r) (either class q s)
  agrees_either class p q r s a h ts = chosen_agrees (next_is class ts) (p ts) (q ts) (r ts) (s ts) (a ts) (h ts)

  -- loops
  module _ {S : Type 0} (class : T → Bool) (p q : S → Reader T F S) (eats_p : (s : S) → Consumes (p s)) (eats_q : (s : S) → Consumes (q s)) (h : (s : S) → Agrees Common Alone (p s) (q s)) where
    behind : (n : ℕ) (s : S) (ts : Ahead T) (a b : Answer T F S) → p s ts ≡ a → AgreesAt Common Alone a b → count ts ≤ suc n
        → ((x : S) (r : Ahead T) → count r ≤ n → AgreesAt Common Alone (loop class p x r) (loop class q x r)) → AgreesAt Common Alone (and_then a (loop class p)) (and_then b (loop class q))
    behind n s ts (Ok x) b e is le ih =
        let l = eats_p s ts x.0 x.1 e in
        subst (λ (c : Answer T F S). AgreesAt Common Alone (loop class p x.0 x.1) (and_then c (loop class q))) (sym is) (ih x.0 x.1 (omega arith))
    behind n s ts (Err f) b e (inl (c, is)) le ih = inl (c, ap (λ (d : Answer T F S). and_then d (loop class q)) is)
    behind n s ts (Err f) b e (inr k) le ih = inr k

    turn : (n : ℕ) (s : S) (ts : Ahead T) (b : Bool) → count ts ≤ suc n → ((x : S) (r : Ahead T) → count r ≤ n → AgreesAt Common Alone (loop class p x r) (loop class q x r))
        → AgreesAt Common Alone (cond b (and_then (p s ts) (loop class p)) (Ok (s, ts))) (cond b (and_then (q s ts) (loop class q)) (Ok (s, ts)))
    turn n s ts true le ih = behind n s ts (p s ts) (q s ts) refl (h s ts) le ih
    turn n s ts false le ih = refl

    no_turn : (s : S) (ts : Ahead T) → count ts ≤ 0 →
        AgreesAt Common Alone (cond (next_is class ts) (and_then (p s ts) (loop class p)) (Ok (s, ts))) (cond (next_is class ts) (and_then (q s ts) (loop class q)) (Ok (s, ts)))
    no_turn s finished le = refl
    no_turn s broken le = refl
    no_turn s (token t ts) le = absurd (omega arith)

    steps : (s : S) (ts : Ahead T) →
        AgreesAt Common Alone (cond (next_is class ts) (and_then (p s ts) (loop class p)) (Ok (s, ts))) (cond (next_is class ts) (and_then (q s ts) (loop class q)) (Ok (s, ts)))
        → AgreesAt Common Alone (loop class p s ts) (loop class q s ts)
    steps s ts a =
        subst (λ (v : Answer T F S). AgreesAt Common Alone (loop class p s ts) v) (sym (loop_step class q eats_q s ts))
        (subst (λ (v : Answer T F S). AgreesAt Common Alone v (cond (next_is class ts) (and_then (q s ts) (loop class q)) (Ok (s, ts)))) (sym (loop_step class p eats_p s ts)) a)

    loops_to : (n : ℕ) (s : S) (ts : Ahead T) → count ts ≤ n → AgreesAt Common Alone (loop class p s ts) (loop class q s ts)
    loops_to zero s ts le = steps s ts (no_turn s ts le)
    loops_to (suc n) s ts le = steps s ts (turn n s ts (next_is class ts) le (λ x r k. loops_to n x r k))

    pub agrees_loop : (s : S) → Agrees Common Alone (loop class p s) (loop class q s)
    agrees_loop s ts = loops_to (count ts) s ts (omega arith)

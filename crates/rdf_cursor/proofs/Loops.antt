-- Loops: without a bound on their steps, local, and by induction; and what code that loops has to show.
use Rattle.std.proofs.Common.{◌≡◌, ℕ, zero, suc, ◌≤◌, Bool, true, false, cond, Ok, Err, refl, sym, ap, ◌∙◌, arith}
use Rattle.rdf_cursor.specs.Ahead.{Ahead, finished, broken, token, prepend, count, next_is}
use Rattle.rdf_cursor.specs.Readers.{Answer, Reader, and_then, ◌>>=◌, give, either, loop_within, loop}
use Rattle.rdf_cursor.specs.Properties.{IsLocalAt, IsLocal, Consumes}
use Rattle.rdf_cursor.proofs.Locality.{local_give, bind_at, left_at, right_at}
use Rattle.rdf_cursor.proofs.Answers.{then_ok, ok_is}

-- A loop needs no bound on its steps.
module _ {T F S : Type 0} (class : T → Bool) (step : S → Reader T F S) (consumes : (s : S) → Consumes (step s)) where
  none_left : (ts : Ahead T) → count ts ≤ 0 → next_is class ts ≡ false
  none_left finished h = refl
  none_left broken h = refl
  none_left (token t ts) h = absurd (omega arith)

  at_end : (n : ℕ) (s : S) (ts : Ahead T) → count ts ≤ 0 → loop_within n class step s ts ≡ Ok (s, ts)
  at_end zero s ts h = refl
  at_end (suc n) s finished h = refl
  at_end (suc n) s broken h = refl
  at_end (suc n) s (token t ts) h = absurd (omega arith)

  same_after : (n m : ℕ) (s : S) (ts : Ahead T) (a : Answer T F S) → ((x : S) (r : Ahead T) → count r ≤ n → count r ≤ m → loop_within n class step x r ≡ loop_within m class step x r)
      → step s ts ≡ a → count ts ≤ suc n → count ts ≤ suc m → and_then a (loop_within n class step) ≡ and_then a (loop_within m class step)
  same_after n m s ts (Err d) ih e h k = refl
  same_after n m s ts (Ok x) ih e h k = let l = consumes s ts x.0 x.1 e in ih x.0 x.1 (omega arith) (omega arith)

  loop_same : (n m : ℕ) (s : S) (ts : Ahead T) → count ts ≤ n → count ts ≤ m → loop_within n class step s ts ≡ loop_within m class step s ts
  loop_same zero m s ts h k = sym (at_end m s ts h)
  loop_same (suc n) zero s ts h k = at_end (suc n) s ts k
  loop_same (suc n) (suc m) s ts h k =
      ap (λ (a : Answer T F S). cond (next_is class ts) a (Ok (s, ts))) (same_after n m s ts (step s ts) (λ x r a b. loop_same n m x r a b) refl h k)

  step_after : (n : ℕ) (s : S) (ts : Ahead T) (a : Answer T F S) → step s ts ≡ a → count ts ≤ suc n → and_then a (loop_within n class step) ≡ and_then a (loop class step)
  unfolding loop
  step_after n s ts (Err d) e h = refl
  step_after n s ts (Ok x) e h = let l = consumes s ts x.0 x.1 e in loop_same n (count x.1) x.0 x.1 (omega arith) (omega arith)

  pub loop_step : (s : S) (ts : Ahead T) → loop class step s ts ≡ cond (next_is class ts) (and_then (step s ts) (loop class step)) (Ok (s, ts))
  unfolding loop
  loop_step s finished = refl
  loop_step s broken = refl
  loop_step s (token t ts) = ap (λ (a : Answer T F S). cond (class t) a (Ok (s, token t ts))) (step_after (count ts) s (token t ts) (step s (token t ts)) refl (omega arith))

  pub loop_more : (s : S) (ts : Ahead T) → next_is class ts ≡ true → loop class step s ts ≡ and_then (step s ts) (loop class step)
  loop_more s ts e = rw (loop_step s ts, e) refl

  pub loop_stop : (s : S) (ts : Ahead T) → next_is class ts ≡ false → loop class step s ts ≡ Ok (s, ts)
  loop_stop s ts e = rw (loop_step s ts, e) refl

  -- a loop is the step and the loop, or nothing
  pub as_either : (s : S) (ts : Ahead T) → loop class step s ts ≡ either class (step s >>= loop class step) (give s) ts
  as_either s ts = loop_step s ts

  module _ (locals : (s : S) → IsLocal (step s)) where
    moved : (s : S) (ts : Ahead T) (a : Answer T F S) → IsLocalAt (either class (step s >>= loop class step) (give s)) ts a → IsLocalAt (loop class step s) ts a
    moved s ts (Ok x) l = (l.0, l.1, λ q h. as_either s (prepend l.0 q) ∙ l.2 q h)
    moved s ts (Err x) l = (l.0, l.1, λ q h. as_either s (prepend l.0 q) ∙ l.2 q h)

    local_cases : (n : ℕ) (s : S) (ts : Ahead T) (b : Bool) → ((x : S) (r : Ahead T) → count r ≤ n → IsLocalAt (loop class step x) r (loop class step x r)) → next_is class ts ≡ b → count ts ≤ suc n
        → IsLocalAt (either class (step s >>= loop class step) (give s)) ts (cond b ((step s >>= loop class step) ts) (Ok (s, ts)))
    local_cases n s ts false ih e h = right_at class (step s >>= loop class step) (give s) ts (Ok (s, ts)) e (local_give s ts)
    local_cases n s ts true ih e h =
        left_at class (step s >>= loop class step) (give s) ts (and_then (step s ts) (loop class step)) e
        (bind_at (step s) (loop class step) ts (step s ts) (locals s ts) (λ x r is. let l = consumes s ts x r is in ih x r (omega arith)))

    local_to : (n : ℕ) (s : S) (ts : Ahead T) → count ts ≤ n → IsLocalAt (loop class step s) ts (loop class step s ts)
    local_to zero s ts h =
        let stops : loop class step s ts ≡ Ok (s, ts) = loop_stop s ts (none_left ts h) in
        rw stops (moved s ts (Ok (s, ts)) (right_at class (step s >>= loop class step) (give s) ts (Ok (s, ts)) (none_left ts h) (local_give s ts)))
    local_to (suc n) s ts h =
        rw (as_either s ts) (moved s ts (either class (step s >>= loop class step) (give s) ts) (local_cases n s ts (next_is class ts) (λ x r k. local_to n x r k) refl h))

    pub local_loop : (s : S) → IsLocal (loop class step s)
    local_loop s ts = local_to (count ts) s ts (omega arith)

  -- what a loop's answer came from: by induction from its end to its beginning
  rule_cases : (P : S → Ahead T → Type 0) (y : S × Ahead T) (n : ℕ) (s : S) (ts : Ahead T) (b : Bool) → next_is class ts ≡ b → count ts ≤ suc n
      → ((s : S) (ts : Ahead T) → next_is class ts ≡ false → (s, ts) ≡ y → P s ts)
      → ((s : S) (ts : Ahead T) (x : S) (r : Ahead T) → next_is class ts ≡ true → step s ts ≡ Ok (x, r) → P x r → P s ts)
      → ((x : S) (r : Ahead T) → count r ≤ n → loop class step x r ≡ Ok y → P x r)
      → cond b (and_then (step s ts) (loop class step)) (Ok (s, ts)) ≡ Ok y → P s ts
  rule_cases P y n s ts false e h stops goes ih is = stops s ts e (ok_is (s, ts) y is)
  rule_cases P y n s ts true e h stops goes ih is =
      let c = then_ok (step s ts) (loop class step) y is in
      let l = consumes s ts c.0.0 c.0.1 c.1 in
      goes s ts c.0.0 c.0.1 e c.1 (ih c.0.0 c.0.1 (omega arith) c.2)

  rule_to : (P : S → Ahead T → Type 0) (y : S × Ahead T) (n : ℕ) (s : S) (ts : Ahead T) → count ts ≤ n
      → ((s : S) (ts : Ahead T) → next_is class ts ≡ false → (s, ts) ≡ y → P s ts)
      → ((s : S) (ts : Ahead T) (x : S) (r : Ahead T) → next_is class ts ≡ true → step s ts ≡ Ok (x, r) → P x r → P s ts)
      → loop class step s ts ≡ Ok y → P s ts
  rule_to P y zero s ts h stops goes is = let e = none_left ts h in stops s ts e (ok_is (s, ts) y (sym (loop_stop s ts e) ∙ is))
  rule_to P y (suc n) s ts h stops goes is =
      rule_cases P y n s ts (next_is class ts) refl h stops goes (λ x r k i. rule_to P y n x r k stops goes i) (sym (loop_step s ts) ∙ is)

  pub loop_rule : (P : S → Ahead T → Type 0) (y : S × Ahead T) (s : S) (ts : Ahead T)
      → ((s : S) (ts : Ahead T) → next_is class ts ≡ false → (s, ts) ≡ y → P s ts)
      → ((s : S) (ts : Ahead T) (x : S) (r : Ahead T) → next_is class ts ≡ true → step s ts ≡ Ok (x, r) → P x r → P s ts)
      → loop class step s ts ≡ Ok y → P s ts
  loop_rule P y s ts stops goes is = rule_to P y (count ts) s ts (omega arith) stops goes is

-- for the code's loops: what is answered from here is what was answered from the start
module _ {T F S : Type 0} (class : T → Bool) (step : S → Reader T F S) (consumes : (s : S) → Consumes (step s)) where
  pub loop_goes : (s : S) (ts : Ahead T) (x : S) (r : Ahead T) (total : Answer T F S) → next_is class ts ≡ true → step s ts ≡ Ok (x, r) → loop class step s ts ≡ total → loop class step x r ≡ total
  loop_goes s ts x r total e is all = sym (loop_more class step consumes s ts e ∙ ap (λ (a : Answer T F S). and_then a (loop class step)) is) ∙ all

  pub loop_fails : (s : S) (ts : Ahead T) (f : F × Ahead T) (total : Answer T F S) → next_is class ts ≡ true → step s ts ≡ Err f → loop class step s ts ≡ total → total ≡ Err f
  loop_fails s ts f total e is all = sym all ∙ loop_more class step consumes s ts e ∙ ap (λ (a : Answer T F S). and_then a (loop class step)) is

  pub loop_ends : (s : S) (ts : Ahead T) (total : Answer T F S) → next_is class ts ≡ false → loop class step s ts ≡ total → total ≡ Ok (s, ts)
  loop_ends s ts total e all = sym all ∙ loop_stop class step consumes s ts e

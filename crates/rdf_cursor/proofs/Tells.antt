-- What a reader answers, by the form of the reader: what a value and what lies ahead of it satisfy, and what a fault and its place do.
use Rattle.std.proofs.Common.{◌≡◌, Bool, true, false, cond, ℕ, zero, suc, Result, Ok, Err, refl, sym, ap, subst, ◌⊎◌, inl, inr}
use Rattle.rdf_cursor.specs.Ahead.{Ahead, finished, broken, token, count, next_is}
use Rattle.rdf_cursor.specs.Readers.{Answer, Reader, and_then, ◌>>=◌, give, refuse, taken, one, either, loop_within, loop}
use Rattle.rdf_cursor.proofs.Answers.{then_ok, apart, ok_is, err_is}

pub record Tells {T F A : Type 0} (p : Reader T F A) (Q : A → Ahead T → Type 0) (P : F → Ahead T → Type 0) (ts : Ahead T) : Type 0 where
  pub good : (y : A × Ahead T) → p ts ≡ Ok y → Q y.0 y.1
  pub bad : (e : F × Ahead T) → p ts ≡ Err e → P e.0 e.1

then_err : {T F A B : Type 0} (a : Answer T F A) (f : A → Reader T F B) (e : F × Ahead T) → and_then a f ≡ Err e → (a ≡ Err e) ⊎ ((x : A × Ahead T) × (a ≡ Ok x) × (f x.0 x.1 ≡ Err e))
then_err (Ok x) f e is = inr (x, refl, is)
then_err (Err d) f e is = inl (ap Err (err_is d e is))

pub tells_give : {T F A : Type 0} {x : A} {Q : A → Ahead T → Type 0} {P : F → Ahead T → Type 0} {ts : Ahead T} → Q x ts → Tells (give x) Q P ts
tells_give {T = T} {A = A} {x = x} {Q = Q} {ts = ts} h = record {
  good = λ y e. subst (λ (v : A × Ahead T). Q v.0 v.1) (ok_is (x, ts) y e) h;
  bad = λ e is. absurd (apart (x, ts) e is);
}

pub tells_refuse : {T F A : Type 0} {f : F} {Q : A → Ahead T → Type 0} {P : F → Ahead T → Type 0} {ts : Ahead T} → P f ts → Tells (refuse f) Q P ts
tells_refuse {T = T} {F = F} {A = A} {f = f} {P = P} {ts = ts} h = record {
  good = λ y e. absurd (apart y (f, ts) (sym e));
  bad = λ e is. subst (λ (v : F × Ahead T). P v.0 v.1) (err_is (f, ts) e is) h;
}

-- one token: what is known of it is known of the class
one_good : {T F A : Type 0} (z : F) (class : T → Result A F) (Q : A → Ahead T → Type 0) (ts : Ahead T) → ((t : T) (rest : Ahead T) (x : A) → ts ≡ token t rest → class t ≡ Ok x → Q x rest)
    → (y : A × Ahead T) → one z class ts ≡ Ok y → Q y.0 y.1
one_good z class Q finished h y e = absurd (apart y (z, finished) (sym e))
one_good z class Q broken h y e = absurd (apart y (z, broken) (sym e))
one_good {T = T} {F = F} {A = A} z class Q (token t ts) h y e = by (class t) refl e
  where
    by : (c : Result A F) → class t ≡ c → taken c (token t ts) ts ≡ Ok y → Q y.0 y.1
    by (Ok x) is e = subst (λ (v : A × Ahead T). Q v.0 v.1) (ok_is (x, ts) y e) (h t ts x refl is)
    by (Err d) is e = absurd (apart y (d, token t ts) (sym e))

one_bad : {T F A : Type 0} (z : F) (class : T → Result A F) (P : F → Ahead T → Type 0) (ts : Ahead T) → P z ts →
    ((t : T) (rest : Ahead T) (f : F) → ts ≡ token t rest → class t ≡ Err f → P f (token t rest))
    → (e : F × Ahead T) → one z class ts ≡ Err e → P e.0 e.1
one_bad {T = T} {F = F} z class P finished s h e is = subst (λ (v : F × Ahead T). P v.0 v.1) (err_is (z, finished) e is) s
one_bad {T = T} {F = F} z class P broken s h e is = subst (λ (v : F × Ahead T). P v.0 v.1) (err_is (z, broken) e is) s
one_bad {T = T} {F = F} {A = A} z class P (token t ts) s h e is = by (class t) refl is
  where
    by : (c : Result A F) → class t ≡ c → taken c (token t ts) ts ≡ Err e → P e.0 e.1
    by (Ok x) k is = absurd (apart (x, ts) e is)
    by (Err d) k is = subst (λ (v : F × Ahead T). P v.0 v.1) (err_is (d, token t ts) e is) (h t ts d refl k)

pub tells_one : {T F A : Type 0} {z : F} {class : T → Result A F} {Q : A → Ahead T → Type 0} {P : F → Ahead T → Type 0} {ts : Ahead T} → P z ts
    → ((t : T) (rest : Ahead T) (x : A) → ts ≡ token t rest → class t ≡ Ok x → Q x rest) →
    ((t : T) (rest : Ahead T) (f : F) → ts ≡ token t rest → class t ≡ Err f → P f (token t rest)) → Tells (one z class) Q P ts
tells_one {z = z} {class = class} {Q = Q} {P = P} {ts = ts} s h k = record { good = λ y e. one_good z class Q ts h y e; bad = λ e is. one_bad z class P ts s k e is }

pub tells_bind : {T F A B : Type 0} {p : Reader T F A} {f : A → Reader T F B} {Q : A → Ahead T → Type 0} {S : B → Ahead T → Type 0} {P : F → Ahead T → Type 0} {ts : Ahead T} → Tells p Q P ts
    → ((x : A) (r : Ahead T) → Q x r → Tells (f x) S P r) → Tells (p >>= f) S P ts
tells_bind {T = T} {F = F} {A = A} {B = B} {p = p} {f = f} {S = S} {P = P} {ts = ts} a h = record {
  good = λ y e. let c = then_ok (p ts) f y e in (h c.0.0 c.0.1 (a.good c.0 c.1)).good y c.2;
  bad = λ e is. by e (then_err (p ts) f e is);
}
  where
    by : (e : F × Ahead T) → (p ts ≡ Err e) ⊎ ((x : A × Ahead T) × (p ts ≡ Ok x) × (f x.0 x.1 ≡ Err e)) → P e.0 e.1
    by e (inl is) = a.bad e is
    by e (inr (x, is, k)) = (h x.0 x.1 (a.good x is)).bad e k

tells_chosen : {T F A : Type 0} (b : Bool) (p q : Reader T F A) (Q : A → Ahead T → Type 0) (P : F → Ahead T → Type 0) (ts : Ahead T) → (b ≡ true → Tells p Q P ts) → (b ≡ false → Tells q Q P ts)
    → ((y : A × Ahead T) → cond b (p ts) (q ts) ≡ Ok y → Q y.0 y.1) × ((e : F × Ahead T) → cond b (p ts) (q ts) ≡ Err e → P e.0 e.1)
tells_chosen true p q Q P ts a b = ((a refl).good, (a refl).bad)
tells_chosen false p q Q P ts a b = ((b refl).good, (b refl).bad)

pub tells_either : {T F A : Type 0} {class : T → Bool} {p q : Reader T F A} {Q : A → Ahead T → Type 0} {P : F → Ahead T → Type 0} {ts : Ahead T} →
    (next_is class ts ≡ true → Tells p Q P ts) → (next_is class ts ≡ false → Tells q Q P ts)
    → Tells (either class p q) Q P ts
tells_either {class = class} {p = p} {q = q} {Q = Q} {P = P} {ts = ts} a b = let c = tells_chosen (next_is class ts) p q Q P ts a b in record { good = c.0; bad = c.1 }

tells_within : {T F S : Type 0} (class : T → Bool) (step : S → Reader T F S) (Q : S → Ahead T → Type 0) (P : F → Ahead T → Type 0) → ((s : S) (ts : Ahead T) → Q s ts → Tells (step s) Q P ts)
    → (n : ℕ) (s : S) (ts : Ahead T) → Q s ts → Tells (loop_within n class step s) Q P ts
tells_within class step Q P h zero s ts q = let t : Tells (give s) Q P ts = tells_give q in record { good = t.good; bad = t.bad }
tells_within class step Q P h (suc n) s ts q =
    let c = tells_chosen (next_is class ts) (step s >>= loop_within n class step) (give s) Q P ts (λ _. tells_bind (h s ts q) (λ x r k. tells_within class step Q P h n x r k)) (λ _. tells_give q) in
    record { good = c.0; bad = c.1 }

pub tells_loop : {T F S : Type 0} (class : T → Bool) (step : S → Reader T F S) (Q : S → Ahead T → Type 0) (P : F → Ahead T → Type 0) → ((s : S) (ts : Ahead T) → Q s ts → Tells (step s) Q P ts)
    → (s : S) (ts : Ahead T) → Q s ts → Tells (loop class step s) Q P ts
unfolding loop
tells_loop class step Q P h s ts q = let w = tells_within class step Q P h (count ts) s ts q in record { good = w.good; bad = w.bad }

-- what follows from what is satisfied
pub tells_so : {T F A : Type 0} {p : Reader T F A} {Q S : A → Ahead T → Type 0} {P O : F → Ahead T → Type 0} {ts : Ahead T} →
    ((x : A) (r : Ahead T) → Q x r → S x r) → ((f : F) (r : Ahead T) → P f r → O f r)
    → Tells p Q P ts → Tells p S O ts
tells_so g h t = record { good = λ y e. g y.0 y.1 (t.good y e); bad = λ e is. h e.0 e.1 (t.bad e is) }

-- Whatever a reader answers meets a relation: by the form of the reader.
use Rattle.std.proofs.Common.{◌≡◌, Bool, true, false, cond, Result, Ok, Err, refl, sym, subst}
use Rattle.rdf_cursor.specs.Ahead.{Ahead, finished, broken, token, next_is}
use Rattle.rdf_cursor.specs.Readers.{Reader, ◌>>=◌, give, refuse, taken, one, either, loop, finish}
use Rattle.rdf_cursor.specs.Phrases.{Phrase, Is, Many, none, more}
use Rattle.rdf_cursor.specs.Properties.{Consumes}
use Rattle.rdf_cursor.proofs.Answers.{then_ok, apart, ok_is}
use Rattle.rdf_cursor.proofs.Loops.{loop_rule}

-- one token: what was read, and what is read
one_taken : {T F A : Type 0} (f : F) (class : T → Result A F) (t : T) (ts : Ahead T) (y : A × Ahead T) (c : Result A F) → class t ≡ c → taken c (token t ts) ts ≡ Ok y → Is class y.0 (token t ts) y.1
one_taken {T = T} {A = A} f class t ts y (Ok x) is e =
    let same : (x, ts) ≡ y = ok_is (x, ts) y e in
    subst (λ (v : A × Ahead T). Is class v.0 (token t ts) v.1) same (t, refl, is)
one_taken f class t ts y (Err d) is e = absurd cc

pub one_sound : {T F A : Type 0} (f : F) (class : T → Result A F) (ts : Ahead T) (y : A × Ahead T) → one f class ts ≡ Ok y → Is class y.0 ts y.1
one_sound f class finished y e = absurd cc
one_sound f class broken y e = absurd cc
one_sound f class (token t ts) y e = one_taken f class t ts y (class t) refl e

pub finish_sound : {T F A : Type 0} (f : F) (x : A) (ts : Ahead T) (y : A × Ahead T) → finish f x ts ≡ Ok y → ((x, ts) ≡ y) × (ts ≡ finished)
finish_sound f x finished y e = (ok_is (x, finished) y e, refl)
finish_sound f x broken y e = absurd cc
finish_sound f x (token t ts) y e = absurd cc

-- Whatever p answers from ts on satisfies R: by the shape of p.
pub record Meets {T F A : Type 0} (p : Reader T F A) (R : A → Ahead T → Type 0) (ts : Ahead T) : Type 0 where
  pub holds : (y : A × Ahead T) → p ts ≡ Ok y → R y.0 y.1

pub meets_give : {T F A : Type 0} {x : A} {R : A → Ahead T → Type 0} {ts : Ahead T} → R x ts → Meets {F = F} (give x) R ts
meets_give {T = T} {A = A} {x = x} {R = R} {ts = ts} h = record { holds = λ y e. subst (λ (v : A × Ahead T). R v.0 v.1) (ok_is (x, ts) y e) h }

pub meets_one : {T F A : Type 0} {f : F} {class : T → Result A F} {R : A → Ahead T → Type 0} {ts : Ahead T} → ((x : A) (r : Ahead T) → Is class x ts r → R x r) → Meets (one f class) R ts
meets_one {f = f} {class = class} {ts = ts} h = record { holds = λ y e. h y.0 y.1 (one_sound f class ts y e) }

pub meets_bind : {T F A B : Type 0} {p : Reader T F A} {f : A → Reader T F B} {R : B → Ahead T → Type 0} {ts : Ahead T} → Meets p (λ x r. Meets (f x) R r) ts → Meets (p >>= f) R ts
meets_bind {p = p} {f = f} {ts = ts} h = record { holds = λ y e. let c = then_ok (p ts) f y e in (h.holds c.0 c.1).holds y c.2 }

meets_choice : {T F A : Type 0} (b : Bool) (p q : Reader T F A) (R : A → Ahead T → Type 0) (ts : Ahead T) → Meets p R ts → Meets q R ts → (y : A × Ahead T) → cond b (p ts) (q ts) ≡ Ok y → R y.0 y.1
meets_choice true p q R ts a b y e = a.holds y e
meets_choice false p q R ts a b y e = b.holds y e

pub meets_either : {T F A : Type 0} {class : T → Bool} {p q : Reader T F A} {R : A → Ahead T → Type 0} {ts : Ahead T} → Meets p R ts → Meets q R ts → Meets (either class p q) R ts
meets_either {class = class} {p = p} {q = q} {R = R} {ts = ts} a b = record { holds = λ y e. meets_choice (next_is class ts) p q R ts a b y e }

pub meets_finish : {T F A : Type 0} {f : F} {x : A} {R : A → Ahead T → Type 0} {ts : Ahead T} → (ts ≡ finished → R x ts) → Meets (finish f x) R ts
meets_finish {T = T} {A = A} {f = f} {x = x} {R = R} {ts = ts} h = record { holds = λ y e. let c = finish_sound f x ts y e in subst (λ (v : A × Ahead T). R v.0 v.1) c.0 (h c.1) }

-- a rule whose answers satisfy P satisfies what follows from P
pub meets_rule : {T F A : Type 0} {p : Reader T F A} {P R : A → Ahead T → Type 0} {ts : Ahead T} → Meets p P ts → ((x : A) (r : Ahead T) → P x r → R x r) → Meets p R ts
meets_rule a h = record { holds = λ y e. h y.0 y.1 (a.holds y e) }

pub meets_refuse : {T F A : Type 0} {f : F} {R : A → Ahead T → Type 0} {ts : Ahead T} → Meets (refuse f) R ts
meets_refuse {T = T} {A = A} {f = f} {ts = ts} = record { holds = λ y e. absurd (apart y (f, ts) (sym e)) }

-- loops and repeated phrases
pub meets_loop : {T F S : Type 0} (class : T → Bool) (step : S → Reader T F S) (One : S → S → Phrase T) → ((s : S) → Consumes (step s))
    → ((s : S) (ts : Ahead T) → Meets (step s) (λ x r. One s x ts r) ts) → (s : S) (ts : Ahead T) → Meets (loop class step s) (λ y r. Many One s y ts r) ts
meets_loop {T = T} {S = S} class step One consumes each s ts = record {
  holds = λ y e.
      loop_rule class step consumes (λ s ts. Many One s y.0 ts y.1) y s ts
      (λ s ts n k. subst (λ (v : S × Ahead T). Many One s v.0 ts v.1) k none)
      (λ s ts x r n k p. more ((each s ts).holds (x, r) k) p) e;
}

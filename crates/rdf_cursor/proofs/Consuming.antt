-- A reader takes a token: by the form of the reader.
use Rattle.std.proofs.Common.{◌≡◌, suc, ◌<◌, Bool, true, false, cond, Result, Ok, Err, ap, arith}
use Rattle.rdf_cursor.specs.Ahead.{Ahead, finished, broken, token, count, next_is}
use Rattle.rdf_cursor.specs.Readers.{Reader, ◌>>=◌, refuse, taken, one, either}
use Rattle.rdf_cursor.specs.Properties.{IsLocal, Consumes}
use Rattle.rdf_cursor.proofs.Locality.{local_takes}
use Rattle.rdf_cursor.proofs.Answers.{then_ok, ok_is}

consumes_taken : {T F A : Type 0} (c : Result A F) (t : T) (ts : Ahead T) (x : A) (r : Ahead T) → taken c (token t ts) ts ≡ Ok (x, r) → count r < suc (count ts)
consumes_taken {T = T} {A = A} (Ok y) t ts x r e = let k : (y, ts) ≡ (x, r) = ok_is (y, ts) (x, r) e in let m : ts ≡ r = ap (λ (v : A × Ahead T). v.1) k in rw m (omega arith)
consumes_taken (Err d) t ts x r e = absurd cc

pub consumes_one : {T F A : Type 0} (f : F) (class : T → Result A F) → Consumes (one f class)
consumes_one f class finished x r e = absurd cc
consumes_one f class broken x r e = absurd cc
consumes_one f class (token t ts) x r e = consumes_taken (class t) t ts x r e

pub consumes_bind : {T F A B : Type 0} (p : Reader T F A) (f : A → Reader T F B) → Consumes p → ((x : A) → IsLocal (f x)) → Consumes (p >>= f)
consumes_bind p f h l ts y r e =
    let s = then_ok (p ts) f (y, r) e in
    let a = h ts s.0.0 s.0.1 s.1 in
    let b = local_takes (f s.0.0) s.0.1 y r (l s.0.0) s.2 in
    omega arith

pub consumes_then : {T F A B : Type 0} (p : Reader T F A) (f : A → Reader T F B) → IsLocal p → ((x : A) → Consumes (f x)) → Consumes (p >>= f)
consumes_then p f l h ts y r e =
    let s = then_ok (p ts) f (y, r) e in
    let a = h s.0.0 s.0.1 y r s.2 in
    let b = local_takes p ts s.0.0 s.0.1 l s.1 in
    omega arith

consumes_choice : {T F A : Type 0} (p q : Reader T F A) (b : Bool) (ts : Ahead T) (x : A) (r : Ahead T) → Consumes p → Consumes q → cond b (p ts) (q ts) ≡ Ok (x, r) → count r < count ts
consumes_choice p q true ts x r a b e = a ts x r e
consumes_choice p q false ts x r a b e = b ts x r e

pub consumes_either : {T F A : Type 0} (class : T → Bool) (p q : Reader T F A) → Consumes p → Consumes q → Consumes (either class p q)
consumes_either class p q a b ts x r e = consumes_choice p q (next_is class ts) ts x r a b e

pub consumes_refuse : {T F A : Type 0} (f : F) → Consumes {T = T} {A = A} (refuse f)
consumes_refuse f ts x r e = absurd cc

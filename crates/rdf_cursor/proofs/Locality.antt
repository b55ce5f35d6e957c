-- A reader looks no further than the next token: by the form of the reader.
use Rattle.std.proofs.Common.{◌≡◌, ◌≤◌, Bool, true, false, cond, List, [], ◌∷◌, ◌++◌, Result, Ok, Err, refl, sym, ap, ◌∙◌, arith}
use Rattle.rdf_cursor.specs.Ahead.{Ahead, finished, broken, token, prepend, count, next_is, SameNext}
use Rattle.rdf_cursor.specs.Readers.{Answer, Reader, and_then, ◌>>=◌, give, refuse, taken, one, either, finish}
use Rattle.rdf_cursor.specs.Properties.{IsLocalAt, IsLocal}

pub prepend-append : {T : Type 0} (f g : List T) (r : Ahead T) → prepend (f ++ g) r ≡ prepend f (prepend g r)
prepend-append [] g r = refl
prepend-append (t ∷ f) g r = ap (token t) (prepend-append f g r)

pub same_prepend : {T : Type 0} (g : List T) (r q : Ahead T) → SameNext r q → SameNext (prepend g r) (prepend g q)
same_prepend [] r q h = h
same_prepend (t ∷ g) r q h = refl

pub count_prepend : {T : Type 0} (f : List T) (r : Ahead T) → count r ≤ count (prepend f r)
count_prepend [] r = omega arith
count_prepend (t ∷ f) r = let h = count_prepend f r in omega arith

pub local_give : {T F A : Type 0} (x : A) → IsLocal {T = T} {F = F} (give x)
local_give x ts = ([], refl, λ q h. refl)

pub local_refuse : {T F A : Type 0} (f : F) → IsLocal {T = T} {A = A} (refuse f)
local_refuse f ts = ([], refl, λ q h. refl)

local_class : {T F A : Type 0} (f : F) (class : T → Result A F) (t : T) (ts : Ahead T) (r : Result A F) → class t ≡ r → IsLocalAt (one f class) (token t ts) (taken r (token t ts) ts)
local_class f class t ts (Ok x) e = (t ∷ [], refl, λ q h. rw e refl)
local_class f class t ts (Err d) e = ([], refl, λ q h. go q h)
  where
    go : (q : Ahead _) → SameNext (token t ts) q → one f class q ≡ Err (d, q)
    go finished h = absurd h
    go broken h = absurd h
    go (token u q) h = rw (← h, e) refl

pub local_one : {T F A : Type 0} (f : F) (class : T → Result A F) → IsLocal (one f class)
local_one f class finished = ([], refl, λ q h. at_finished q h)
  where
    at_finished : (q : Ahead _) → SameNext finished q → one f class q ≡ Err (f, q)
    at_finished finished h = refl
    at_finished broken h = absurd h
    at_finished (token u q) h = absurd h
local_one f class broken = ([], refl, λ q h. at_broken q h)
  where
    at_broken : (q : Ahead _) → SameNext broken q → one f class q ≡ Err (f, q)
    at_broken broken h = refl
    at_broken finished h = absurd h
    at_broken (token u q) h = absurd h
local_one f class (token t ts) = local_class f class t ts (class t) refl

-- One after the other.
bind_after : {T F A B : Type 0} (p : Reader T F A) (f : A → Reader T F B) (front : List T) (x : A) (r : Ahead T)
    → ((q : Ahead T) → SameNext r q → p (prepend front q) ≡ Ok (x, q)) → (a : Answer T F B) → IsLocalAt (f x) r a → IsLocalAt (p >>= f) (prepend front r) a
bind_after p f front x r same (Ok y) l = (
  front ++ l.0,
  ap (prepend front) l.1 ∙ sym (prepend-append front l.0 y.1),
  λ q h. let k : SameNext r (prepend l.0 q) = rw l.1 (same_prepend l.0 y.1 q h) in rw (prepend-append front l.0 q, same (prepend l.0 q) k) (l.2 q h),
)
bind_after p f front x r same (Err e) l = (
  front ++ l.0,
  ap (prepend front) l.1 ∙ sym (prepend-append front l.0 e.1),
  λ q h. let k : SameNext r (prepend l.0 q) = rw l.1 (same_prepend l.0 e.1 q h) in rw (prepend-append front l.0 q, same (prepend l.0 q) k) (l.2 q h),
)

pub bind_at : {T F A B : Type 0} (p : Reader T F A) (f : A → Reader T F B) (ts : Ahead T) (a : Answer T F A)
    → IsLocalAt p ts a → ((x : A) (r : Ahead T) → a ≡ Ok (x, r) → IsLocalAt (f x) r (f x r)) → IsLocalAt (p >>= f) ts (and_then a f)
bind_at p f ts (Ok x) l g = rw l.1 (bind_after p f l.0 x.0 x.1 l.2 (f x.0 x.1) (g x.0 x.1 refl))
bind_at p f ts (Err e) l g = (l.0, l.1, λ q h. rw (l.2 q h) refl)

pub local_bind : {T F A B : Type 0} (p : Reader T F A) (f : A → Reader T F B) → IsLocal p → ((x : A) → IsLocal (f x)) → IsLocal (p >>= f)
local_bind p f l g ts = bind_at p f ts (p ts) (l ts) (λ x r e. g x r)

-- A choice by the next token.
same_next : {T : Type 0} (class : T → Bool) (r q : Ahead T) → SameNext r q → next_is class r ≡ next_is class q
same_next class finished finished h = refl
same_next class broken broken h = refl
same_next class (token t r) (token u q) h = ap class h
same_next class finished broken h = absurd h
same_next class finished (token u q) h = absurd h
same_next class broken finished h = absurd h
same_next class broken (token u q) h = absurd h
same_next class (token t r) finished h = absurd h
same_next class (token t r) broken h = absurd h

same_next_prepend : {T : Type 0} (class : T → Bool) (front : List T) (r q : Ahead T) → SameNext r q → next_is class (prepend front r) ≡ next_is class (prepend front q)
same_next_prepend class front r q h = same_next class (prepend front r) (prepend front q) (same_prepend front r q h)

pub left_at : {T F A : Type 0} (class : T → Bool) (p q : Reader T F A) (ts : Ahead T) (a : Answer T F A) → next_is class ts ≡ true → IsLocalAt p ts a → IsLocalAt (either class p q) ts a
left_at class p q ts (Ok x) e l = (l.0, l.1, λ u h. rw (sym (same_next_prepend class l.0 x.1 u h) ∙ ap (next_is class) (sym l.1) ∙ e) (l.2 u h))
left_at class p q ts (Err x) e l = (l.0, l.1, λ u h. rw (sym (same_next_prepend class l.0 x.1 u h) ∙ ap (next_is class) (sym l.1) ∙ e) (l.2 u h))

pub right_at : {T F A : Type 0} (class : T → Bool) (p q : Reader T F A) (ts : Ahead T) (a : Answer T F A) → next_is class ts ≡ false → IsLocalAt q ts a → IsLocalAt (either class p q) ts a
right_at class p q ts (Ok x) e l = (l.0, l.1, λ u h. rw (sym (same_next_prepend class l.0 x.1 u h) ∙ ap (next_is class) (sym l.1) ∙ e) (l.2 u h))
right_at class p q ts (Err x) e l = (l.0, l.1, λ u h. rw (sym (same_next_prepend class l.0 x.1 u h) ∙ ap (next_is class) (sym l.1) ∙ e) (l.2 u h))

choose_at : {T F A : Type 0} (class : T → Bool) (p q : Reader T F A) (ts : Ahead T) (b : Bool) → next_is class ts ≡ b → IsLocalAt p ts (p ts) →
    IsLocalAt q ts (q ts) → IsLocalAt (either class p q) ts (cond b (p ts) (q ts))
choose_at class p q ts true e l m = left_at class p q ts (p ts) e l
choose_at class p q ts false e l m = right_at class p q ts (q ts) e m

pub local_either : {T F A : Type 0} (class : T → Bool) (p q : Reader T F A) → IsLocal p → IsLocal q → IsLocal (either class p q)
local_either class p q l m ts = choose_at class p q ts (next_is class ts) refl (l ts) (m ts)

-- What a reader takes: no more than there is.
no_more : {T F A : Type 0} (p : Reader T F A) (ts : Ahead T) (a : Answer T F A) (x : A) (r : Ahead T) → a ≡ Ok (x, r) → IsLocalAt p ts a → count r ≤ count ts
no_more p ts (Ok y) x r e l = let h = count_prepend l.0 y.1 in let k : y.1 ≡ r = cc in rw (l.1, ← k) h
no_more p ts (Err y) x r e l = absurd cc

pub local_takes : {T F A : Type 0} (p : Reader T F A) (ts : Ahead T) (x : A) (r : Ahead T) → IsLocal p → p ts ≡ Ok (x, r) → count r ≤ count ts
local_takes p ts x r l e = no_more p ts (p ts) x r e (l ts)

-- the end
finish_finished : {T F A : Type 0} (f : F) (x : A) (q : Ahead T) → SameNext finished q → finish f x q ≡ Ok (x, q)
finish_finished f x finished h = refl
finish_finished f x broken h = absurd h
finish_finished f x (token u q) h = absurd h

finish_broken : {T F A : Type 0} (f : F) (x : A) (q : Ahead T) → SameNext broken q → finish f x q ≡ Err (f, q)
finish_broken f x broken h = refl
finish_broken f x finished h = absurd h
finish_broken f x (token u q) h = absurd h

finish_token : {T F A : Type 0} (f : F) (x : A) (t : T) (ts : Ahead T) (q : Ahead T) → SameNext (token t ts) q → finish f x q ≡ Err (f, q)
finish_token f x t ts broken h = absurd h
finish_token f x t ts finished h = absurd h
finish_token f x t ts (token u q) h = refl

pub local_finish : {T F A : Type 0} (f : F) (x : A) → IsLocal {T = T} (finish f x)
local_finish f x finished = ([], refl, λ q h. finish_finished f x q h)
local_finish f x broken = ([], refl, λ q h. finish_broken f x q h)
local_finish f x (token t ts) = ([], refl, λ q h. finish_token f x t ts q h)

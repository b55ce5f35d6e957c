-- Readers of the front of what lies ahead, from which each rule of a grammar is read as one small definition.
use Rattle.std.specs.Prelude.{ℕ, zero, suc, Bool, Result, Ok, Err, if◌then◌else◌}
use Rattle.rdf_cursor.specs.Ahead.{Ahead, finished, broken, token, count, next_is}

-- a value and what lies ahead behind it, or a fault and what lies ahead from the token of the fault on
abbrev pub Answer : Type 0 → Type 0 → Type 0 → Type 0
Answer T F A = Result (A × Ahead T) (F × Ahead T)

abbrev pub Reader : Type 0 → Type 0 → Type 0 → Type 0
Reader T F A = Ahead T → Answer T F A

-- a value goes to the next reader, a fault is the answer
abbrev pub and_then : {T F A B : Type 0} → Answer T F A → (A → Reader T F B) → Answer T F B
and_then (Ok x) next = next x.0 x.1
and_then (Err e) next = Err e

infixl 10 ◌>>=◌
-- one reader, and behind it the next, which depends on the value of the first
abbrev pub ◌>>=◌ : {T F A B : Type 0} → Reader T F A → (A → Reader T F B) → Reader T F B
(p >>= next) ts = and_then (p ts) next

-- a value, without taking a token
abbrev pub give : {T F A : Type 0} → A → Reader T F A
give x ts = Ok (x, ts)

-- a fault at the next token
abbrev pub refuse : {T F A : Type 0} → F → Reader T F A
refuse f ts = Err (f, ts)

-- the answer for a token that was looked at: it is taken with its value, or it is at fault
abbrev pub taken : {T F A : Type 0} → Result A F → Ahead T → Ahead T → Answer T F A
taken (Ok x) whole rest = Ok (x, rest)
taken (Err f) whole rest = Err (f, whole)

-- one token, whose class gives its value or names its fault; where none is next, the first argument is the fault
abbrev pub one : {T F A : Type 0} → F → (T → Result A F) → Reader T F A
one f class (token t ts) = taken (class t) (token t ts) ts
one f class finished = Err (f, finished)
one f class broken = Err (f, broken)

-- the first reader where the next token is of a class, and else the second
abbrev pub either : {T F A : Type 0} → (T → Bool) → Reader T F A → Reader T F A → Reader T F A
either class p q ts = if next_is class ts then p ts else q ts

-- a step from state to state for as long as the next token is of a class, so many times at most
abbrev pub loop_within : {T F S : Type 0} → ℕ → (T → Bool) → (S → Reader T F S) → S → Reader T F S
loop_within zero class step s ts = Ok (s, ts)
loop_within (suc n) class step s ts = if next_is class ts then and_then (step s ts) (loop_within n class step) else Ok (s, ts)

-- the same without a bound, for a step that takes a token
unfoldable pub loop : {T F S : Type 0} → (T → Bool) → (S → Reader T F S) → S → Reader T F S
loop class step s ts = loop_within (count ts) class step s ts

-- a value, where the text ends
abbrev pub finish : {T F A : Type 0} → F → A → Reader T F A
finish f x finished = Ok (x, finished)
finish f x broken = Err (f, broken)
finish f x (token t ts) = Err (f, token t ts)

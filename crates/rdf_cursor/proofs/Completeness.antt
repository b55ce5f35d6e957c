-- Whatever a phrase relates is read.
use Rattle.std.proofs.Common.{◌≡◌, Bool, true, false, Result, Ok, refl, ◌∙◌}
use Rattle.rdf_cursor.specs.Ahead.{Ahead, next_is}
use Rattle.rdf_cursor.specs.Readers.{Reader, one, loop}
use Rattle.rdf_cursor.specs.Phrases.{Phrase, Is, Many, none, more}
use Rattle.rdf_cursor.specs.Properties.{Consumes}
use Rattle.rdf_cursor.specs.Marks.{mark}
use Rattle.rdf_cursor.specs.Symbols.{of_symbol}
use Rattle.rdf_cursor.specs.declared.stops.Fault.TheVariants.{Syntax}
use Rattle.rdf_cursor.specs.declared.symbols.Symbol.{Symbol}
use Rattle.rdf_cursor.proofs.Loops.{loop_more, loop_stop}
use Rattle.rdf_lex.specs.Tokens.{Spelled}

pub one_read : {T F A : Type 0} (f : F) (class : T → Result A F) (x : A) (ts r : Ahead T) → Is class x ts r → one f class ts ≡ Ok (x, r)
one_read f class x ts r h = rw (h.1, h.2) refl

-- a token that is one symbol
pub took : (a : Symbol) (w : Spelled) (ts r : Ahead Spelled) → Is (of_symbol a) w ts r → mark a ts ≡ Ok (w, r)
took a w ts r h = one_read Syntax (of_symbol a) w ts r h

pub many_follows : {T S : Type 0} (class : T → Bool) (One : S → S → Phrase T) (Follow : Ahead T → Type 0) → ((s x : S) (ts m : Ahead T) → One s x ts m → next_is class ts ≡ true)
    → ((m : Ahead T) → next_is class m ≡ true → Follow m) → (s y : S) (m r : Ahead T) → Many One s y m r → Follow r → Follow m
many_follows class One Follow starts goes s y m r none f = f
many_follows class One Follow starts goes s y m r (more {x = x} {mid = n} o rest) f = goes m (starts s x m n o)

pub loop_read : {T F S : Type 0} (class : T → Bool) (step : S → Reader T F S) (One : S → S → Phrase T) (Follow : Ahead T → Type 0) → ((s : S) → Consumes (step s))
    → ((s x : S) (ts m : Ahead T) → One s x ts m → Follow m → step s ts ≡ Ok (x, m)) → ((s x : S) (ts m : Ahead T) → One s x ts m → next_is class ts ≡ true)
    → ((m : Ahead T) → next_is class m ≡ true → Follow m) → (s y : S) (ts r : Ahead T) → Many One s y ts r → Follow r → next_is class r ≡ false → loop class step s ts ≡ Ok (y, r)
loop_read class step One Follow consumes reads starts goes s y ts r none f n = loop_stop class step consumes s ts n
loop_read class step One Follow consumes reads starts goes s y ts r (more {x = x} {mid = m} o rest) f n =
    loop_more class step consumes s ts (starts s x ts m o)
    ∙ rw (reads s x ts m o (many_follows class One Follow starts goes x y m r rest f)) (loop_read class step One Follow consumes reads starts goes x y m r rest f n)

-- the same where an element says what it begins with, beyond the class of the loop
pub elements_follow : {T S : Type 0} (One : S → S → Phrase T) (Follow : Ahead T → Type 0) → ((s x : S) (ts m : Ahead T) → One s x ts m → Follow ts)
    → (s y : S) (m r : Ahead T) → Many One s y m r → Follow r → Follow m
elements_follow One Follow begins s y m r none f = f
elements_follow One Follow begins s y m r (more {x = x} {mid = n} o rest) f = begins s x m n o

pub elements_read : {T F S : Type 0} (class : T → Bool) (step : S → Reader T F S) (One : S → S → Phrase T) (Follow : Ahead T → Type 0) → ((s : S) → Consumes (step s))
    → ((s x : S) (ts m : Ahead T) → One s x ts m → Follow m → step s ts ≡ Ok (x, m)) → ((s x : S) (ts m : Ahead T) → One s x ts m → next_is class ts ≡ true)
    → ((s x : S) (ts m : Ahead T) → One s x ts m → Follow ts) → (s y : S) (ts r : Ahead T) → Many One s y ts r → Follow r → next_is class r ≡ false → loop class step s ts ≡ Ok (y, r)
elements_read class step One Follow consumes reads starts begins s y ts r none f n = loop_stop class step consumes s ts n
elements_read class step One Follow consumes reads starts begins s y ts r (more {x = x} {mid = m} o rest) f n =
    loop_more class step consumes s ts (starts s x ts m o)
    ∙ rw (reads s x ts m o (elements_follow One Follow begins x y m r rest f)) (elements_read class step One Follow consumes reads starts begins x y m r rest f n)

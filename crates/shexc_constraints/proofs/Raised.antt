-- Tokens that stand for the same in every language.
use Rattle.std.proofs.Common.{◌≡◌, Bool, true, false, cond, Result, Ok, Err, refl, ap, ◌∙◌}
use Rattle.std.specs.Result.{IsErrAnd}
use Rattle.rdf_cursor.specs.Ahead.{Ahead, finished, broken, token}
use Rattle.rdf_cursor.specs.Phrases.{Is}
use Rattle.rdf_cursor.specs.Readers.{Answer, Reader, ◌>>=◌, and_then, one, taken}
use Rattle.rdf_cursor.specs.Marks as any_mark
use Rattle.rdf_cursor.specs.Stops as any_stops
use Rattle.rdf_cursor.specs.Symbols.{is_symbol}
use Rattle.rdf_cursor.specs.declared.stops.Fault as any
use Rattle.rdf_cursor.specs.declared.stops.Fault.TheVariants as plain
use Rattle.rdf_cursor.specs.declared.stops.Stop as any_stop
use Rattle.rdf_cursor.specs.declared.stops.Stop.TheVariants as plain_stop
use Rattle.rdf_cursor.specs.declared.symbols.Symbol.{Symbol}
use Rattle.rdf_cursor.specs.declared.symbols.Symbol.TheVariants.{Carets}
use Rattle.rdf_lex.specs.Tokens.{Spelled}
use Rattle.rdf_terms.specs.declared.terms.Term.{Term}
use Rattle.term_tokens.specs.Literals.{datatyped_by}
use Rattle.shexc_constraints.specs.declared.faults.Fault.{Fault}
use Rattle.shexc_constraints.specs.declared.faults.Fault.TheVariants.{Syntax}
use Rattle.shexc_constraints.specs.declared.faults.Stop.{Stop}
use Rattle.shexc_constraints.specs.Stops.{fault_by, raised, stop_by, Gives, StopsAs}
use Rattle.shexc_constraints.specs.Symbols.{mark}

raised_ok : {A : Type 0} (c : Result A any.Fault) (x : A) → raised c ≡ Ok x → c ≡ Ok x
raised_ok (Ok y) x e = cc
raised_ok (Err f) x e = absurd cc

pub lowered : {A : Type 0} (class : Spelled → Result A any.Fault) (x : A) (ts r : Ahead Spelled) → Is (λ t. raised (class t)) x ts r → Is class x ts r
lowered class x ts r (t, e, h) = (t, e, raised_ok (class t) x h)

-- an answer of any language, as an answer of ShExC
abbrev pub answer_by : {A : Type 0} → Answer Spelled any.Fault A → Answer Spelled Fault A
answer_by (Ok p) = Ok p
answer_by (Err p) = Err (fault_by p.0, p.1)

taken_by : {A : Type 0} (c : Result A any.Fault) (ts r : Ahead Spelled) → taken (raised c) ts r ≡ answer_by (taken c ts r)
taken_by (Ok x) ts r = refl
taken_by (Err f) ts r = refl

pub one_by : {A : Type 0} (class : Spelled → Result A any.Fault) (ts : Ahead Spelled) → one Syntax (λ t. raised (class t)) ts ≡ answer_by (one plain.Syntax class ts)
one_by class (token t ts) = taken_by (class t) (token t ts) ts
one_by class finished = refl
one_by class broken = refl

pub mark_by : (a : Symbol) (ts : Ahead Spelled) → mark a ts ≡ answer_by (any_mark.mark a ts)
mark_by a (token t ts) = by (is_symbol a t)
  where
    by : (b : Bool) → taken (cond b (Ok t) (Err Syntax)) (token t ts) ts ≡ answer_by (taken (cond b (Ok t) (Err plain.Syntax)) (token t ts) ts)
    by true = refl
    by false = refl
mark_by a finished = refl
mark_by a broken = refl

then_by : {A B : Type 0} (a : Answer Spelled any.Fault A) (next : A → Reader Spelled any.Fault B) (own : A → Reader Spelled Fault B) →
    ((x : A) (ts : Ahead Spelled) → own x ts ≡ answer_by (next x ts)) → and_then (answer_by a) own ≡ answer_by (and_then a next)
then_by (Ok p) next own same = same p.0 p.1
then_by (Err p) next own same = refl

pub typed_by : (class : Spelled → Result Term any.Fault) (ts : Ahead Spelled) → (mark Carets >>= λ _. one Syntax (λ t. raised (class t))) ts ≡ answer_by (datatyped_by class ts)
typed_by class ts = ap (λ a. and_then a (λ _. one Syntax (λ t. raised (class t)))) (mark_by Carets ts) ∙ then_by (any_mark.mark Carets ts) (λ _. one plain.Syntax class) _ (λ _. one_by class)

-- a value that is read in any language is read in ShExC, and a stop stops there
pub reads : {A : Type 0} {a : Answer Spelled any.Fault A} {b : Answer Spelled Fault A} (p : A × Ahead Spelled) → b ≡ answer_by a → a ≡ Ok p → b ≡ Ok p
reads p is e = is ∙ ap answer_by e

stops_by : {A : Type 0} (a : Answer Spelled any.Fault A) {b : Answer Spelled Fault A} (s : any_stop.Stop) (r : Ahead Spelled) → b ≡ answer_by a → any_stops.StopsAs s r a → StopsAs (stop_by s) r b
stops_by a plain_stop.Memory r is e = tt
stops_by a (plain_stop.Fault f) r is e = is ∙ ap answer_by e

pub stops : {A X : Type 0} (view : X →
    A) (a : Answer Spelled any.Fault A) {b : Answer Spelled Fault A} (s : any_stop.Stop) (result : Result X Stop) (r : Ahead Spelled) → b ≡ answer_by a →
    IsErrAnd result (λ e. e ≡ stop_by s) → any_stops.StopsAs s r a → Gives view result r b
stops view a s (Ok x) r is raises e = absurd raises
stops view a s (Err q) r is raises e = rw raises (stops_by a s r is e)

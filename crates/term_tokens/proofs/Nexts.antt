-- Sets of symbols: what may come next.
use Rattle.std.proofs.Common.{◌≡◌, ℕ, Bool, true, false, cond, List, [], ◌∷◌, Result, Ok, Err, refl, sym, ap, ◌∙◌, ◌||◌}
use Rattle.std.specs.Prelude.{nat_eq, not}
use Rattle.std.proofs.lemmas.Bool.{eqb-true}
use Rattle.rdf_cursor.specs.Ahead.{Ahead, finished, broken, token, next_is}
use Rattle.rdf_cursor.specs.Phrases.{Is}
use Rattle.rdf_lex.specs.Tokens.{Spelled}
use Rattle.rdf_cursor.specs.declared.stops.Fault.{Fault}
use Rattle.rdf_cursor.specs.declared.stops.Fault.TheVariants.{Syntax}
use Rattle.rdf_cursor.specs.declared.symbols.Symbol.{Symbol}
use Rattle.rdf_cursor.specs.Symbols.{symbol_of, number, same_symbol, has, is_symbol, is_other, is_among, is_any, of_symbol}

-- every one of some symbols is among others, and none is
abbrev pub within : List Symbol → List Symbol → Bool
within [] js = true
within (k ∷ ks) js = cond (has k js) (within ks js) false

abbrev pub outside : List Symbol → List Symbol → Bool
outside [] js = true
outside (k ∷ ks) js = cond (has k js) false (outside ks js)

has_same : (a k : Symbol) (js : List Symbol) → same_symbol a k ≡ true → has a js ≡ has k js
has_same a k [] e = refl
has_same a k (j ∷ js) e =
    let n : nat_eq (number a) (number j) ≡ nat_eq (number k) (number j) = ap (λ (n : ℕ). nat_eq n (number j)) (eqb-true (number a) (number k) e) in
    rw (n, has_same a k js e) refl

split_true : (b c : Bool) → cond b c false ≡ true → (b ≡ true) × (c ≡ true)
split_true true c e = (refl, e)
split_true false c e = absurd cc

split_false : (b c : Bool) → cond b false c ≡ true → (b ≡ false) × (c ≡ true)
split_false true c e = absurd cc
split_false false c e = (refl, e)

widen_by : (js : List Symbol) (a k : Symbol) (b c : Bool) → same_symbol a k ≡ b → has k js ≡ true → (c ≡ true → has a js ≡ true) → (b || c) ≡ true → has a js ≡ true
widen_by js a k true c e w ih h = has_same a k js e ∙ w
widen_by js a k false c e w ih h = ih h

pub widen : (ks js : List Symbol) (a : Symbol) → within ks js ≡ true → has a ks ≡ true → has a js ≡ true
widen [] js a w h = absurd cc
widen (k ∷ ks) js a w h = let s = split_true (has k js) (within ks js) w in widen_by js a k (same_symbol a k) (has a ks) refl s.0 (λ i. widen ks js a s.1 i) h

avoid_by : (js : List Symbol) (a k : Symbol) (b c : Bool) → same_symbol a k ≡ b → has k js ≡ false → (c ≡ true → has a js ≡ false) → (b || c) ≡ true → has a js ≡ false
avoid_by js a k true c e w ih h = has_same a k js e ∙ w
avoid_by js a k false c e w ih h = ih h

pub avoid : (ks js : List Symbol) (a : Symbol) → outside ks js ≡ true → has a ks ≡ true → has a js ≡ false
avoid [] js a w h = absurd cc
avoid (k ∷ ks) js a w h = let s = split_false (has k js) (outside ks js) w in avoid_by js a k (same_symbol a k) (has a ks) refl s.0 (λ i. avoid ks js a s.1 i) h

-- what is next
abbrev pub Next : List Symbol → Ahead Spelled → Type 0
Next ks ts = next_is (is_among ks) ts ≡ true

pub nexts : (ks js : List Symbol) (ts : Ahead Spelled) → within ks js ≡ true → Next ks ts → Next js ts
unfolding is_among
nexts ks js (token t ts) w h = widen ks js (symbol_of t.kind t.text) w h
nexts ks js finished w h = absurd cc
nexts ks js broken w h = absurd cc

pub no_next : (ks js : List Symbol) (ts : Ahead Spelled) → outside ks js ≡ true → Next ks ts → next_is (is_among js) ts ≡ false
unfolding is_among
no_next ks js (token t ts) w h = avoid ks js (symbol_of t.kind t.text) w h
no_next ks js finished w h = absurd cc
no_next ks js broken w h = absurd cc

is_one : (b : Bool) → b ≡ (b || false)
is_one true = refl
is_one false = refl

pub single : (k : Symbol) (ts : Ahead Spelled) → next_is (is_symbol k) ts ≡ next_is (is_among (k ∷ [])) ts
unfolding is_symbol is_among
single k (token t ts) = is_one (same_symbol (symbol_of t.kind t.text) k)
single k finished = refl
single k broken = refl

-- not this symbol
pub no_symbol : (ks : List Symbol) (k : Symbol) (ts : Ahead Spelled) → outside ks (k ∷ []) ≡ true → Next ks ts → next_is (is_symbol k) ts ≡ false
no_symbol ks k ts w h = single k ts ∙ no_next ks (k ∷ []) ts w h

-- what a class looks for is next
guard_ok : {A : Type 0} (b : Bool) (x : Result A Fault) (d : Fault) (y : A) → cond b x (Err d) ≡ Ok y → b ≡ true
guard_ok true x d y e = refl
guard_ok false x d y e = absurd cc

pub begins : (k : Symbol) (w : Spelled) (ts r : Ahead Spelled) → Is (of_symbol k) w ts r → next_is (is_symbol k) ts ≡ true
begins k w ts r h = rw h.1 (guard_ok (is_symbol k h.0) (Ok h.0) Syntax w h.2)

pub first : (k : Symbol) (w : Spelled) (ts r : Ahead Spelled) → Is (of_symbol k) w ts r → Next (k ∷ []) ts
first k w ts r h = sym (single k ts) ∙ begins k w ts r h

pub first_of : (k : Symbol) (ts : Ahead Spelled) → next_is (is_symbol k) ts ≡ true → Next (k ∷ []) ts
first_of k ts h = sym (single k ts) ∙ h

-- a class that begins with a test of symbols
pub guarded : {A : Type 0} (ks : List Symbol) (class : Spelled → Result A Fault) (good : Spelled → Result A Fault) → ((t : Spelled) → class t ≡ cond (is_among ks t) (good t) (Err Syntax))
    → (x : A) (ts r : Ahead Spelled) → Is class x ts r → Next ks ts
guarded ks class good is x ts r h = rw h.1 (guard_ok (is_among ks h.0) (good h.0) Syntax x (sym (is h.0) ∙ h.2))

pub guarded_one : {A : Type 0} (k : Symbol) (class : Spelled → Result A Fault) (good : Spelled → Result A Fault) → ((t : Spelled) → class t ≡ cond (is_symbol k t) (good t) (Err Syntax))
    → (x : A) (ts r : Ahead Spelled) → Is class x ts r → Next (k ∷ []) ts
guarded_one k class good is x ts r h = first_of k ts (rw h.1 (guard_ok (is_symbol k h.0) (good h.0) Syntax x (sym (is h.0) ∙ h.2)))

-- another symbol is next
pub other_next : (k : Symbol) (ks : List Symbol) (ts : Ahead Spelled) → outside ks (k ∷ []) ≡ true → Next ks ts → next_is (is_other k) ts ≡ true
unfolding is_other
other_next k ks (token t ts) w h = ap not (no_symbol ks k (token t ts) w h)
other_next k ks finished w h = h
other_next k ks broken w h = h

pub same_next : (k : Symbol) (ts : Ahead Spelled) → next_is (is_symbol k) ts ≡ true → next_is (is_other k) ts ≡ false
unfolding is_other
same_next k (token t ts) h = ap not h
same_next k finished h = refl
same_next k broken h = refl

pub any_next : (ks : List Symbol) (ts : Ahead Spelled) → Next ks ts → next_is is_any ts ≡ true
any_next ks (token t ts) h = refl
any_next ks finished h = h
any_next ks broken h = h

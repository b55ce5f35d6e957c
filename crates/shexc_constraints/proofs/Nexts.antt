-- What is not next, and what the classes of ShExC begin with.
use Rattle.std.proofs.Common.{◌≡◌, Bool, true, false, cond, ◌||◌, List, [], ◌∷◌, ◌++◌, Result, Ok, Err, refl, sym, ◌∙◌, true≢false}
use Rattle.rdf_cursor.specs.Ahead.{Ahead, finished, broken, token, next_is}
use Rattle.rdf_cursor.specs.Phrases.{Is}
use Rattle.rdf_cursor.specs.Symbols.{symbol_of, same_symbol, has, is_symbol, is_among}
use Rattle.rdf_cursor.specs.declared.symbols.Symbol.{Symbol}
use Rattle.rdf_cursor.proofs.Completeness.{one_read}
use Rattle.rdf_lex.specs.Tokens.{Spelled}
use Rattle.term_tokens.proofs.Nexts.{within, outside, widen, Next, no_next, single, first_of}
use Rattle.shexc_constraints.specs.declared.faults.Fault.{Fault}
use Rattle.shexc_constraints.specs.declared.faults.Fault.TheVariants.{Syntax}
use Rattle.shexc_constraints.specs.Symbols.{of_symbol, mark}

-- what is not next
abbrev pub Never : List Symbol → Ahead Spelled → Type 0
Never ks ts = next_is (is_among ks) ts ≡ false

fewer_by : (ks js : List Symbol) (a : Symbol) (b : Bool) → has a ks ≡ b → within ks js ≡ true → has a js ≡ false → has a ks ≡ false
fewer_by ks js a true e w n = absurd (true≢false (sym (widen ks js a w e) ∙ n))
fewer_by ks js a false e w n = e

pub fewer : (ks js : List Symbol) (ts : Ahead Spelled) → within ks js ≡ true → Never js ts → Never ks ts
unfolding is_among
fewer ks js (token t ts) w n = fewer_by ks js (symbol_of t.kind t.text) (has (symbol_of t.kind t.text) ks) refl w n
fewer ks js finished w n = refl
fewer ks js broken w n = refl

-- what is next is not another
pub never : (ks js : List Symbol) (ts : Ahead Spelled) → outside ks js ≡ true → Next ks ts → Never js ts
never ks js ts w h = no_next ks js ts w h

pub not_symbol : (js : List Symbol) (k : Symbol) (ts : Ahead Spelled) → within (k ∷ []) js ≡ true → Never js ts → next_is (is_symbol k) ts ≡ false
not_symbol js k ts w n = single k ts ∙ fewer (k ∷ []) js ts w n

-- what a class looks for is next
guard_ok : {A : Type 0} (b : Bool) (x : Result A Fault) (d : Fault) (y : A) → cond b x (Err d) ≡ Ok y → b ≡ true
guard_ok true x d y e = refl
guard_ok false x d y e = absurd cc

pub begins : (k : Symbol) (w : Spelled) (ts r : Ahead Spelled) → Is (of_symbol k) w ts r → next_is (is_symbol k) ts ≡ true
begins k w ts r h = rw h.1 (guard_ok (is_symbol k h.0) (Ok h.0) Syntax w h.2)

pub first : (k : Symbol) (w : Spelled) (ts r : Ahead Spelled) → Is (of_symbol k) w ts r → Next (k ∷ []) ts
first k w ts r h = sym (single k ts) ∙ begins k w ts r h

-- a class that begins with a test of symbols
pub guarded : {A : Type 0} (ks : List Symbol) (class : Spelled → Result A Fault) (good : Spelled → Result A Fault) → ((t : Spelled) → class t ≡ cond (is_among ks t) (good t) (Err Syntax))
    → (x : A) (ts r : Ahead Spelled) → Is class x ts r → Next ks ts
guarded ks class good is x ts r h = rw h.1 (guard_ok (is_among ks h.0) (good h.0) Syntax x (sym (is h.0) ∙ h.2))

pub guarded_one : {A : Type 0} (k : Symbol) (class : Spelled → Result A Fault) (good : Spelled → Result A Fault) → ((t : Spelled) → class t ≡ cond (is_symbol k t) (good t) (Err Syntax))
    → (x : A) (ts r : Ahead Spelled) → Is class x ts r → Next (k ∷ []) ts
guarded_one k class good is x ts r h = first_of k ts (rw h.1 (guard_ok (is_symbol k h.0) (good h.0) Syntax x (sym (is h.0) ∙ h.2)))

-- a token that is one symbol
pub took : (a : Symbol) (w : Spelled) (ts r : Ahead Spelled) → Is (of_symbol a) w ts r → mark a ts ≡ Ok (w, r)
took a w ts r h = one_read Syntax (of_symbol a) w ts r h

-- what is next is among the one symbols or the others
either_by : (b c d e : Bool) → c ≡ (d || e) → (b || c) ≡ ((b || d) || e)
either_by true c d e h = refl
either_by false c d e h = h

has_either : (a : Symbol) (ks js : List Symbol) → has a (ks ++ js) ≡ (has a ks || has a js)
has_either a [] js = refl
has_either a (k ∷ ks) js = either_by (same_symbol a k) (has a (ks ++ js)) (has a ks) (has a js) (has_either a ks js)

pub either_next : (ks js : List Symbol) (ts : Ahead Spelled) → next_is (is_among (ks ++ js)) ts ≡ (next_is (is_among ks) ts || next_is (is_among js) ts)
unfolding is_among
either_next ks js (token t ts) = has_either (symbol_of t.kind t.text) ks js
either_next ks js finished = refl
either_next ks js broken = refl

pub first_next : (ks js : List Symbol) (ts : Ahead Spelled) (b : Bool) → b ≡ next_is (is_among ks) ts → b ≡ true → b ≡ next_is (is_among (ks ++ js)) ts
first_next ks js ts b e is = is ∙ sym (rw (either_next ks js ts, sym e, is) refl)

pub second_next : (ks js : List Symbol) (ts : Ahead Spelled) (b c : Bool) → b ≡ next_is (is_among ks) ts → b ≡ false → c ≡ next_is (is_among js) ts → c ≡ next_is (is_among (ks ++ js)) ts
second_next ks js ts b c e is f = f ∙ sym (rw (either_next ks js ts, sym e, is) refl)

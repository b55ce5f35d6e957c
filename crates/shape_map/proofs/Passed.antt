-- What stands before a fault: which base and which prefixes a name behind it has.
use Rattle.std.proofs.Common.{append_assoc, ◌≡◌, ℕ, zero, suc, Bool, true, false, cond, ◌||◌, List, [], ◌∷◌, ◌++◌, Option, Some, None, Result, Ok, Err, refl, sym, ap, subst, ◌∙◌}
use Rattle.std.proofs.lemmas.List.{append-nil}
use Rattle.rdf_terms.specs.declared.terms.Term.{Term}
use Rattle.rdf_cursor.specs.Ahead.{Ahead, finished, broken, token, prepend, count, next_is}
use Rattle.rdf_cursor.specs.Phrases.{Is}
use Rattle.rdf_cursor.specs.Readers.{Answer, and_then, ◌>>=◌, give, taken, one, either, loop_within, loop, finish}
use Rattle.rdf_cursor.proofs.Answers.{apart, err_is, ok_is}
use Rattle.rdf_cursor.proofs.Locality.{prepend-append}
use Rattle.rdf_lex.specs.Tokens.{Spelled}
use Rattle.term_tokens.specs.Meanings.{text_of}
use Rattle.rdf_cursor.specs.declared.stops.Fault.{Fault}
use Rattle.rdf_cursor.specs.declared.stops.Fault.TheVariants.{Syntax, Prefix, Deep, Long, Full}
use Rattle.shape_map.specs.declared.items.Item.{Item}
use Rattle.rdf_cursor.specs.declared.symbols.Symbol.{Symbol}
use Rattle.rdf_cursor.specs.declared.symbols.Symbol.TheVariants as symbol
use Rattle.shape_map.specs.Maps.{ends_in_mark, scope_at}
use Rattle.term_tokens.specs.Scopes.{Scope}
use Rattle.term_tokens.specs.Terms.{prefix_of, name_in, iri_ref_of, tags, tagged_of, joined, resolved, lexical, typed_by, iri_of, at_name_of, string_of, typed_of, shorthand_of, names, shorthands}
use Rattle.shape_map.specs.Meanings.{node_tags, node_tagged_of, blank_of, blank_target_of, prefixed, target_marks}
use Rattle.shape_map.specs.Reading.{R, iri, literal, resource, node, verb, or_any, of_subjects, of_objects, pattern, triples, selector, target, wish, asked, item, added, behind, items, all_items, shape_map}
use Rattle.rdf_cursor.specs.Marks.{mark}
use Rattle.rdf_cursor.specs.Symbols.{symbol_of, is_symbol, is_among}
use Rattle.term_tokens.proofs.Literals as any
use Rattle.term_tokens.proofs.Literals.{iris, iri_begins}
use Rattle.shape_map.proofs.Complete.{tagged_begins, blank_begins}
use Rattle.term_tokens.proofs.Nexts.{Next, no_next, first, within, outside, widen, single}

-- what was passed, and what was passed before a fault
pub record Passes {A : Type 0} (p : R A) (G : List Spelled → Type 0) (P : List Spelled → Fault → Ahead Spelled → Type 0) (ts : Ahead Spelled) : Type 0 where
  pub good : (y : A × Ahead Spelled) → p ts ≡ Ok y → (front : List Spelled) × (ts ≡ prepend front y.1) × G front
  pub bad : (e : Fault × Ahead Spelled) → p ts ≡ Err e → (front : List Spelled) × (ts ≡ prepend front e.1) × P front e.0 e.1

passes_rule : {A : Type 0} {p : R A} {G H : List Spelled → Type 0} {P Q : List Spelled → Fault → Ahead Spelled → Type 0} {ts : Ahead Spelled} →
    Passes p G P ts → ((front : List Spelled) → G front → H front)
    → ((front : List Spelled) (f : Fault) (rest : Ahead Spelled) → P front f rest → Q front f rest) → Passes p H Q ts
passes_rule h g k = record { good = λ y e. let (a, b, c) = h.good y e in (a, b, g a c); bad = λ x e. let (a, b, c) = h.bad x e in (a, b, k a x.0 x.1 c) }

passes_give : {A : Type 0} {x : A} {G : List Spelled → Type 0} {P : List Spelled → Fault → Ahead Spelled → Type 0} {ts : Ahead Spelled} → G [] → Passes (give x) G P ts
passes_give {x = x} {ts = ts} g = record {
  good = λ y e. ([], ap (λ (v : _ × Ahead Spelled). v.1) (ok_is (x, ts) y e), g);
  bad = λ e is. absurd (apart (x, ts) e is);
}

one_good : {A : Type 0} (class : Spelled → Result A Fault) (G : List Spelled → Type 0) → ((x : A) (t : Spelled) (r : Ahead Spelled) → Is class x (token t r) r → G (t ∷ []))
    → (ts : Ahead Spelled) (y : A × Ahead Spelled) → one Syntax class ts ≡ Ok y → (front : List Spelled) × (ts ≡ prepend front y.1) × G front
one_good class G h finished y e = absurd cc
one_good class G h broken y e = absurd cc
one_good {A = A} class G h (token t ts) y e = by (class t) refl e
  where
    by : (c : Result A Fault) → class t ≡ c → taken c (token t ts) ts ≡ Ok y → (front : List Spelled) × (token t ts ≡ prepend front y.1) × G front
    by (Ok x) k is = (t ∷ [], ap (λ (v : A × Ahead Spelled). token t v.1) (ok_is (x, ts) y is), h x t ts (t, refl, k))
    by (Err d) k is = absurd cc

one_bad : {A : Type 0} (class : Spelled → Result A Fault) (P : List Spelled → Fault → Ahead Spelled → Type 0) → ((ts : Ahead Spelled) → P [] Syntax ts) →
    ((t : Spelled) (rest : Ahead Spelled) (f : Fault) → class t ≡ Err f → P [] f (token t rest))
    → (ts : Ahead Spelled) (e : Fault × Ahead Spelled) → one Syntax class ts ≡ Err e → (front : List Spelled) × (ts ≡ prepend front e.1) × P front e.0 e.1
one_bad class P s h finished e is = let k = err_is (Syntax, finished) e is in ([], ap (λ (v : Fault × Ahead Spelled). v.1) k, subst (λ (v : Fault × Ahead Spelled). P [] v.0 v.1) k (s finished))
one_bad class P s h broken e is = let k = err_is (Syntax, broken) e is in ([], ap (λ (v : Fault × Ahead Spelled). v.1) k, subst (λ (v : Fault × Ahead Spelled). P [] v.0 v.1) k (s broken))
one_bad {A = A} class P s h (token t ts) e is = by (class t) refl is
  where
    by : (c : Result A Fault) → class t ≡ c → taken c (token t ts) ts ≡ Err e → (front : List Spelled) × (token t ts ≡ prepend front e.1) × P front e.0 e.1
    by (Ok x) k is = absurd (apart (x, ts) e is)
    by (Err d) k is = let m = err_is (d, token t ts) e is in ([], ap (λ (v : Fault × Ahead Spelled). v.1) m, subst (λ (v : Fault × Ahead Spelled). P [] v.0 v.1) m (h t ts d k))

passes_one : {A : Type 0} {class : Spelled → Result A Fault} {G : List Spelled → Type 0} {P : List Spelled → Fault → Ahead Spelled →
    Type 0} {ts : Ahead Spelled} → ((x : A) (t : Spelled) (r : Ahead Spelled) → Is class x (token t r) r → G (t ∷ []))
    → ((ts : Ahead Spelled) → P [] Syntax ts) → ((t : Spelled) (rest : Ahead Spelled) (f : Fault) → class t ≡ Err f → P [] f (token t rest)) → Passes (one Syntax class) G P ts
passes_one {class = class} {G = G} {P = P} {ts = ts} g s h = record { good = λ y e. one_good class G g ts y e; bad = λ e is. one_bad class P s h ts e is }

-- one after the other
then_good : {A B : Type 0} (f : A → R B) (ts : Ahead Spelled) (a : Answer Spelled Fault A) (G H : List Spelled → Type 0) (P : List Spelled → Fault → Ahead Spelled → Type 0)
    → ((y : A × Ahead Spelled) → a ≡ Ok y → (front : List Spelled) × (ts ≡ prepend front y.1) × G front)
    → ((x : A) (r : Ahead Spelled) (front : List Spelled) → G front → Passes (f x) (λ g. H (front ++ g)) (λ g. P (front ++ g)) r)
    → (y : B × Ahead Spelled) → and_then a f ≡ Ok y → (front : List Spelled) × (ts ≡ prepend front y.1) × H front
then_good f ts (Ok x) G H P g h y e =
    let (a, b, c) = g x refl in
    let (d, i, k) = (h x.0 x.1 a c).good y e in
    (a ++ d, b ∙ ap (prepend a) i ∙ sym (prepend-append a d y.1), k)
then_good f ts (Err d) G H P g h y e = absurd cc

then_bad : {A B : Type 0} (f : A → R B) (ts : Ahead Spelled) (a : Answer Spelled Fault A) (G H : List Spelled → Type 0) (P : List Spelled → Fault → Ahead Spelled → Type 0)
    → ((y : A × Ahead Spelled) → a ≡ Ok y → (front : List Spelled) × (ts ≡ prepend front y.1) × G front)
    → ((e : Fault × Ahead Spelled) → a ≡ Err e → (front : List Spelled) × (ts ≡ prepend front e.1) × P front e.0 e.1)
    → ((x : A) (r : Ahead Spelled) (front : List Spelled) → G front → Passes (f x) (λ g. H (front ++ g)) (λ g. P (front ++ g)) r)
    → (e : Fault × Ahead Spelled) → and_then a f ≡ Err e → (front : List Spelled) × (ts ≡ prepend front e.1) × P front e.0 e.1
then_bad f ts (Ok x) G H P g b h e is =
    let (a, j, c) = g x refl in
    let (d, i, k) = (h x.0 x.1 a c).bad e is in
    (a ++ d, j ∙ ap (prepend a) i ∙ sym (prepend-append a d e.1), k)
then_bad {B = B} f ts (Err d) G H P g b h e is = b e (ap Err (same d e is))
  where
    same : (d e : Fault × Ahead Spelled) → Path (Answer Spelled Fault B) (Err d) (Err e) → d ≡ e
    same d e is = cc

passes_bind : {A B : Type 0} {p : R A} {f : A → R B} {G H : List Spelled → Type 0} {P : List Spelled → Fault → Ahead Spelled → Type 0} {ts : Ahead Spelled} → Passes p G P ts
    → ((x : A) (r : Ahead Spelled) (front : List Spelled) → G front → Passes (f x) (λ g. H (front ++ g)) (λ g. P (front ++ g)) r) → Passes (p >>= f) H P ts
passes_bind {p = p} {f = f} {G = G} {H = H} {P = P} {ts = ts} a h = record { good = λ y e. then_good f ts (p ts) G H P a.good h y e; bad = λ e is. then_bad f ts (p ts) G H P a.good a.bad h e is }

passes_chosen : {A : Type 0} (b : Bool) (p q : R A) (G : List Spelled → Type 0) (P : List Spelled → Fault → Ahead Spelled → Type 0) (ts : Ahead Spelled) → Passes p G P ts → Passes q G P ts
    → ((y : A × Ahead Spelled) → cond b (p ts) (q ts) ≡ Ok y → (front : List Spelled) × (ts ≡ prepend front y.1) × G front)
    × ((e : Fault × Ahead Spelled) → cond b (p ts) (q ts) ≡ Err e → (front : List Spelled) × (ts ≡ prepend front e.1) × P front e.0 e.1)
passes_chosen true p q G P ts a b = (a.good, a.bad)
passes_chosen false p q G P ts a b = (b.good, b.bad)

passes_either : {A : Type 0} {class : Spelled → Bool} {p q : R A} {G : List Spelled → Type 0} {P : List Spelled → Fault → Ahead Spelled →
    Type 0} {ts : Ahead Spelled} → Passes p G P ts → Passes q G P ts → Passes (either class p q) G P ts
passes_either {class = class} {p = p} {q = q} {G = G} {P = P} {ts = ts} a b = let c = passes_chosen (next_is class ts) p q G P ts a b in record { good = c.0; bad = c.1 }

-- a loop, behind any tokens
passes_within : {S : Type 0} (class : Spelled → Bool) (step : S → R S) (P : List Spelled → Fault → Ahead Spelled → Type 0)
    → ((b : List Spelled) (s : S) (ts : Ahead Spelled) → Passes (step s) (λ g. Unit {0}) (λ g. P (b ++ g)) ts)
    → (n : ℕ) (b : List Spelled) (s : S) (ts : Ahead Spelled) → Passes (loop_within n class step s) (λ g. Unit {0}) (λ g. P (b ++ g)) ts
passes_within class step P h zero b s ts = let t : Passes (give s) (λ g. Unit {0}) (λ g. P (b ++ g)) ts = passes_give tt in record { good = t.good; bad = t.bad }
passes_within class step P h (suc n) b s ts =
    let c = passes_chosen (next_is class ts) (step s >>= loop_within n class step) (give s) (λ g. Unit {0}) (λ g. P (b ++ g)) ts
    (passes_bind (h b s ts) (λ x r front k. passes_rule (passes_within class step P h n (b ++ front) x r) (λ g u. tt) (λ g f rest. subst (λ (v : List Spelled). P v f rest) (append_assoc b front g))))
    (passes_give tt) in
    record { good = c.0; bad = c.1 }

passes_loop : {S : Type 0} (class : Spelled → Bool) (step : S → R S) (P : List Spelled → Fault → Ahead Spelled → Type 0)
    → ((b : List Spelled) (s : S) (ts : Ahead Spelled) → Passes (step s) (λ g. Unit {0}) (λ g. P (b ++ g)) ts)
    → (b : List Spelled) (s : S) (ts : Ahead Spelled) → Passes (loop class step s) (λ g. Unit {0}) (λ g. P (b ++ g)) ts
unfolding loop
passes_loop class step P h b s ts = let w = passes_within class step P h (count ts) b s ts in record { good = w.good; bad = w.bad }

-- no token of some is a mark behind which a target stands
abbrev plain : List Spelled → Bool
plain [] = true
plain (t ∷ ts) = cond (is_among target_marks t) false (plain ts)

abbrev IsPlain : List Spelled → Type 0
IsPlain ts = plain ts ≡ true

plain_one : (t : Spelled) → is_among target_marks t ≡ false → IsPlain (t ∷ [])
plain_one t e = rw e refl

plain_more : (t : Spelled) (xs zs : List Spelled) (b : Bool) → is_among target_marks t ≡ b → cond b false (plain xs) ≡ true →
    (plain xs ≡ true → plain zs ≡ true) → cond (is_among target_marks t) false (plain zs) ≡ true
plain_more t xs zs true e g ih = absurd cc
plain_more t xs zs false e g ih = rw e (ih g)

plain_append : (xs ys : List Spelled) → IsPlain xs → IsPlain ys → IsPlain (xs ++ ys)
plain_append [] ys h k = k
plain_append (t ∷ xs) ys h k = plain_more t xs (xs ++ ys) (is_among target_marks t) refl h (λ g. plain_append xs ys g k)

plain_last : (xs : List Spelled) → IsPlain xs → ends_in_mark xs ≡ false
plain_last [] h = refl
plain_last (t ∷ []) h = by (is_among target_marks t) h
  where
    by : (b : Bool) → cond b false true ≡ true → b ≡ false
    by true g = absurd cc
    by false g = refl
plain_last (t ∷ u ∷ xs) h = plain_last (u ∷ xs) (by (is_among target_marks t) h)
  where
    by : (b : Bool) → cond b false (plain (u ∷ xs)) ≡ true → plain (u ∷ xs) ≡ true
    by true g = absurd cc
    by false g = g

-- behind no mark, and plain tokens: no mark
plain_end : (b xs : List Spelled) → ends_in_mark b ≡ false → IsPlain xs → ends_in_mark (b ++ xs) ≡ false
plain_end [] xs e h = plain_last xs h
plain_end (t ∷ []) [] e h = e
plain_end (t ∷ []) (u ∷ xs) e h = plain_last (u ∷ xs) h
plain_end (t ∷ u ∷ b) xs e h = plain_end (u ∷ b) xs e h

-- behind some tokens one
one_end : (b : List Spelled) (t : Spelled) → ends_in_mark (b ++ t ∷ []) ≡ is_among target_marks t
one_end [] t = refl
one_end (u ∷ []) t = refl
one_end (u ∷ w ∷ b) t = one_end (w ∷ b) t

-- the next token is a name whose prefix is not declared
abbrev IsUnknown : List Symbol → Scope → Ahead Spelled → Type 0
IsUnknown ks v rest = (t : Spelled) × (more : Ahead Spelled) × (rest ≡ token t more) × (is_among ks t ≡ true) × (v.prefixes (prefix_of t) ≡ None)

abbrev Cause : List Symbol → Scope → Fault → Ahead Spelled → Type 0
Cause ks v Syntax rest = Unit {0}
Cause ks v Prefix rest = IsUnknown ks v rest
Cause ks v Deep rest = ⊥
Cause ks v Long rest = ⊥
Cause ks v Full rest = ⊥

syntax_only : {A : Type 0} (ks : List Symbol) (v : Scope) (rest : Ahead Spelled) (f : Fault) → Path (Result A Fault) (Err Syntax) (Err f) → Cause ks v f rest
syntax_only ks v rest f e = subst (λ (g : Fault). Cause ks v g rest) (err_is Syntax f e) tt

module _ (ks : List Symbol) (v : Scope) (t : Spelled) (rest : Ahead Spelled) (f : Fault) where
  joined_bad : (local found : Option (List ℕ)) → is_among ks t ≡ true → v.prefixes (prefix_of t) ≡ found → joined false local found ≡ Err f → Cause ks v f (token t rest)
  joined_bad None found n e is = syntax_only ks v (token t rest) f is
  joined_bad (Some local) None n e is = subst (λ (g : Fault). Cause ks v g (token t rest)) (err_is Prefix f is) (t, rest, refl, n, e)
  joined_bad (Some local) (Some found) n e is = absurd (apart (found ++ _) f is)

  resolved_bad : (text : Option (List ℕ)) → resolved false v text ≡ Err f → Cause ks v f (token t rest)
  resolved_bad None is = syntax_only ks v (token t rest) f is
  resolved_bad (Some text) is = absurd (apart _ f is)

iri_bad : (v : Scope) (t : Spelled) (rest : Ahead Spelled) (f : Fault) → iri_of false v t ≡ Err f → Cause names v f (token t rest)
unfolding iri_of iri_ref_of
iri_bad v t rest f is = by (is_among names t) (is_symbol symbol.IriRef t) refl is
  where
    by : (a b : Bool) → is_among names t ≡ a → cond a (name_in false v t) (cond b (resolved false v (text_of t)) (Err Syntax)) ≡ Err f → Cause names v f (token t rest)
    by true b e is = joined_bad names v t rest f (text_of t) (v.prefixes (prefix_of t)) e refl is
    by false true e is = resolved_bad names v t rest f (text_of t) is
    by false false e is = syntax_only names v (token t rest) f is

at_name_bad : (v : Scope) (t : Spelled) (rest : Ahead Spelled) (f : Fault) → at_name_of false v t ≡ Err f → Cause (symbol.AtName ∷ []) v f (token t rest)
unfolding at_name_of
at_name_bad v t rest f is = by (is_symbol symbol.AtName t) refl is
  where
    by : (a : Bool) → is_symbol symbol.AtName t ≡ a → cond a (name_in false v t) (Err Syntax) ≡ Err f → Cause (symbol.AtName ∷ []) v f (token t rest)
    by true e is = joined_bad (symbol.AtName ∷ []) v t rest f (text_of t) (v.prefixes (prefix_of t)) (sym (single symbol.AtName (token t finished)) ∙ e) refl is
    by false e is = syntax_only (symbol.AtName ∷ []) v (token t rest) f is

guard_bad : {A : Type 0} (ks : List Symbol) (v : Scope) (rest : Ahead Spelled) (f : Fault) (b : Bool) (x : A) → cond b (Ok x) (Err Syntax) ≡ Err f → Cause ks v f rest
guard_bad ks v rest f true x is = absurd (apart x f is)
guard_bad ks v rest f false x is = syntax_only ks v rest f is

string_bad : (ks : List Symbol) (v : Scope) (t : Spelled) (rest : Ahead Spelled) (f : Fault) → string_of false t ≡ Err f → Cause ks v f (token t rest)
unfolding string_of
string_bad ks v t rest f is = by (is_symbol symbol.Str t) (text_of t) is
  where
    by : (b : Bool) (o : Option (List ℕ)) → cond b (lexical false o) (Err Syntax) ≡ Err f → Cause ks v f (token t rest)
    by true None is = syntax_only ks v (token t rest) f is
    by true (Some x) is = absurd (apart x f is)
    by false o is = syntax_only ks v (token t rest) f is

tagged_bad : (ks : List Symbol) (v : Scope) (lex : List ℕ) (t : Spelled) (rest : Ahead Spelled) (f : Fault) → node_tagged_of lex t ≡ Err f → Cause ks v f (token t rest)
unfolding node_tagged_of tagged_of
tagged_bad ks v lex t rest f is = by (is_among node_tags t) (is_among tags t) _ is
  where
    by : (b c : Bool) (x : Term) → cond b (cond c (Ok x) (Err Syntax)) (Err Syntax) ≡ Err f → Cause ks v f (token t rest)
    by true c x is = guard_bad ks v (token t rest) f c x is
    by false c x is = syntax_only ks v (token t rest) f is

shorthand_bad : (ks : List Symbol) (v : Scope) (t : Spelled) (rest : Ahead Spelled) (f : Fault) → shorthand_of false t ≡ Err f → Cause ks v f (token t rest)
unfolding shorthand_of
shorthand_bad ks v t rest f is = guard_bad ks v (token t rest) f (is_among shorthands t) _ is

blank_bad : (ks : List Symbol) (v : Scope) (t : Spelled) (rest : Ahead Spelled) (f : Fault) → blank_of t ≡ Err f → Cause ks v f (token t rest)
unfolding blank_of
blank_bad ks v t rest f is = guard_bad ks v (token t rest) f (is_symbol symbol.BlankLabel t) _ is

blank_target_bad : (ks : List Symbol) (v : Scope) (t : Spelled) (rest : Ahead Spelled) (f : Fault) → blank_target_of t ≡ Err f → Cause ks v f (token t rest)
unfolding blank_target_of
blank_target_bad ks v t rest f is = guard_bad ks v (token t rest) f (is_symbol symbol.BlankLabel t) _ is

typed_bad : (v : Scope) (lex : List ℕ) (t : Spelled) (rest : Ahead Spelled) (f : Fault) → typed_of false v lex t ≡ Err f → Cause names v f (token t rest)
unfolding typed_of
typed_bad v lex t rest f is = by (iri_of false v t) refl is
  where
    lang : (b : Bool) (x : Term) → cond b (Err Syntax) (Ok x) ≡ Err f → Cause names v f (token t rest)
    lang true x is = syntax_only names v (token t rest) f is
    lang false x is = absurd (apart x f is)

    by : (i : Result (List ℕ) Fault) → iri_of false v t ≡ i → typed_by lex i ≡ Err f → Cause names v f (token t rest)
    by (Ok i) e is = lang _ _ is
    by (Err d) e is = iri_bad v t rest f (e ∙ ap (λ (g : Fault). Err g) (err_is d f is))

typed_begins : (v : Scope) (lex : List ℕ) (x : Term) (ts r : Ahead Spelled) → Is (typed_of false v lex) x ts r → Next iris ts
unfolding typed_of
typed_begins v lex x ts r (t, is, e) = by (iri_of false v t) refl e
  where
    by : (i : Result (List ℕ) Fault) → iri_of false v t ≡ i → typed_by lex i ≡ Ok x → Next iris ts
    by (Ok i) k e = iri_begins false v i ts r (t, is, k)
    by (Err d) k e = absurd cc

-- parts of a node pass no mark behind which a target stands
module _ (v : Scope) where
  abbrev At : List Spelled → Fault → Ahead Spelled → Type 0
  At front f rest = IsPlain front × Cause names v f rest

  at_syntax : (ts : Ahead Spelled) → At [] Syntax ts
  at_syntax ts = (refl, tt)

  plain_bind : {A B : Type 0} {p : R A} {f : A → R B} {ts : Ahead Spelled} → Passes p IsPlain At ts → ((x : A) (r : Ahead Spelled) → Passes (f x) IsPlain At r) → Passes (p >>= f) IsPlain At ts
  plain_bind a h = passes_bind a (λ x r front k. passes_rule (h x r) (λ g m. plain_append front g k m) (λ g f rest m. (plain_append front g k m.0, m.1)))

  class_plain : {A : Type 0} {class : Spelled → Result A Fault} {ts : Ahead Spelled} (ks : List Symbol) → outside ks target_marks ≡ true →
      ((x : A) (ts r : Ahead Spelled) → Is class x ts r → Next ks ts)
      → ((t : Spelled) (rest : Ahead Spelled) (f : Fault) → class t ≡ Err f → Cause names v f (token t rest)) → Passes (one Syntax class) IsPlain At ts
  class_plain ks out begins bad = passes_one (λ x t r h. plain_one t (no_next ks target_marks (token t r) out (begins x (token t r) r h))) at_syntax (λ t rest f e. (refl, bad t rest f e))

  mark_plain : {ts : Ahead Spelled} (a : Symbol) → outside (a ∷ []) target_marks ≡ true → Passes (mark a) IsPlain At ts
  mark_plain a out = class_plain (a ∷ []) out (λ x ts r h. first a x ts r h) (λ t rest f e. guard_bad names v (token t rest) f (is_symbol a t) t e)

  plain_give : {A : Type 0} {x : A} {ts : Ahead Spelled} → Passes (give x) IsPlain At ts
  plain_give = passes_give refl

  iri_plain : (ts : Ahead Spelled) → Passes (iri v) IsPlain At ts
  unfolding iri
  iri_plain ts = class_plain iris refl (iri_begins false v) (iri_bad v)

  literal_plain : (ts : Ahead Spelled) → Passes (literal v) IsPlain At ts
  unfolding literal
  literal_plain ts = plain_bind (class_plain (symbol.Str ∷ []) refl (any.string_begins false) (string_bad names v))
      (λ lex m. passes_either (class_plain node_tags refl (tagged_begins lex) (tagged_bad names v lex))
      (passes_either (plain_bind (mark_plain symbol.Carets refl) (λ _ n. class_plain iris refl (typed_begins v lex) (typed_bad v lex))) plain_give))

  resource_plain : (ts : Ahead Spelled) → Passes (resource v) IsPlain At ts
  unfolding resource
  resource_plain ts = passes_either (class_plain (symbol.BlankLabel ∷ []) refl blank_begins (blank_bad names v)) (plain_bind (iri_plain ts) (λ i m. plain_give))

  node_plain : (ts : Ahead Spelled) → Passes (node v) IsPlain At ts
  unfolding node
  node_plain ts = passes_either (literal_plain ts) (passes_either (class_plain shorthands refl (any.shorthand_begins false) (shorthand_bad names v)) (resource_plain ts))

  verb_plain : (ts : Ahead Spelled) → Passes (verb v) IsPlain At ts
  unfolding verb
  verb_plain ts = passes_either (plain_bind (mark_plain symbol.A refl) (λ _ m. plain_give)) (plain_bind (iri_plain ts) (λ i m. plain_give))

  any_plain : (p : R Term) → ((ts : Ahead Spelled) → Passes p IsPlain At ts) → (ts : Ahead Spelled) → Passes (or_any v p) IsPlain At ts
  unfolding or_any
  any_plain p each ts = passes_either (plain_bind (mark_plain symbol.Underscore refl) (λ _ m. plain_give)) (plain_bind (each ts) (λ i m. plain_give))

  subjects_plain : (ts : Ahead Spelled) → Passes (of_subjects v) IsPlain At ts
  unfolding of_subjects
  subjects_plain ts = plain_bind (mark_plain symbol.Focus refl) (λ _ m. plain_bind (verb_plain m) (λ p n. plain_bind (any_plain (node v) node_plain n) (λ o r. plain_give)))

  objects_plain : (ts : Ahead Spelled) → Passes (of_objects v) IsPlain At ts
  unfolding of_objects
  objects_plain ts = plain_bind (any_plain (resource v) resource_plain ts) (λ o m. plain_bind (verb_plain m) (λ p n. plain_bind (mark_plain symbol.Focus refl) (λ _ r. plain_give)))

  triples_plain : (ts : Ahead Spelled) → Passes (triples v) IsPlain At ts
  unfolding triples pattern
  triples_plain ts = plain_bind (mark_plain symbol.OpenBrace refl)
      (λ _ m. plain_bind (passes_either (subjects_plain m) (objects_plain m)) (λ x n. plain_bind (mark_plain symbol.CloseBrace refl) (λ _ r. plain_give)))

  selector_plain : (ts : Ahead Spelled) → Passes (selector v) IsPlain At ts
  unfolding selector
  selector_plain ts = passes_either (plain_bind (triples_plain ts) (λ x m. plain_give)) (plain_bind (node_plain ts) (λ x m. plain_give))

-- a symbol of a set is one of a wider set
among : (ks js : List Symbol) (t : Spelled) → within ks js ≡ true → is_among ks t ≡ true → is_among js t ≡ true
unfolding is_among
among ks js t w h = widen ks js (symbol_of t.kind t.text) w h

-- at a fault behind these tokens
module _ (nodes labels : Scope) where
  abbrev pub Behind : List Spelled → Fault → Ahead Spelled → Type 0
  Behind front Syntax rest = Unit {0}
  Behind front Deep rest = ⊥
  Behind front Long rest = ⊥
  Behind front Full rest = ⊥
  Behind front Prefix rest = (t : Spelled) × (more : Ahead Spelled) × (rest ≡ token t more) × (is_among prefixed t ≡ true) × ((scope_at nodes labels front t).prefixes (prefix_of t) ≡ None)

  no_at : (t : Spelled) → is_among names t ≡ true → is_symbol symbol.AtName t ≡ false
  no_at t h = single symbol.AtName (token t finished) ∙ no_next names (symbol.AtName ∷ []) (token t finished) refl h

  or_true : (a b : Bool) → b ≡ true → (a || b) ≡ true
  or_true true b e = refl
  or_true false b e = e

  node_scope : (b : List Spelled) (t : Spelled) → ends_in_mark b ≡ false → is_among names t ≡ true → scope_at nodes labels b t ≡ nodes
  node_scope b t e n = rw (no_at t n, e) refl

  label_scope : (b : List Spelled) (t : Spelled) → (is_symbol symbol.AtName t || ends_in_mark b) ≡ true → scope_at nodes labels b t ≡ labels
  label_scope b t e = rw e refl

  of_node : (b front : List Spelled) (f : Fault) (rest : Ahead Spelled) → ends_in_mark b ≡ false → At nodes front f rest → Behind (b ++ front) f rest
  of_node b front Syntax rest e h = tt
  of_node b front Deep rest e h = h.1
  of_node b front Long rest e h = h.1
  of_node b front Full rest e h = h.1
  of_node b front Prefix rest e (p, (t, more, is, n, none)) =
      (t, more, is, among names prefixed t refl n, ap (λ (v : Scope). v.prefixes (prefix_of t)) (node_scope (b ++ front) t (plain_end b front e p) n) ∙ none)

  -- one token behind a mark
  of_label : (b : List Spelled) (f : Fault) (rest : Ahead Spelled) → ends_in_mark b ≡ true → Cause names labels f rest → Behind b f rest
  of_label b Syntax rest e h = tt
  of_label b Deep rest e h = h
  of_label b Long rest e h = h
  of_label b Full rest e h = h
  of_label b Prefix rest e (t, more, is, n, none) =
      (t, more, is, among names prefixed t refl n, ap (λ (v : Scope). v.prefixes (prefix_of t)) (label_scope b t (or_true (is_symbol symbol.AtName t) (ends_in_mark b) e)) ∙ none)

  of_at_name : (b : List Spelled) (f : Fault) (rest : Ahead Spelled) → Cause (symbol.AtName ∷ []) labels f rest → Behind b f rest
  of_at_name b Syntax rest h = tt
  of_at_name b Deep rest h = h
  of_at_name b Long rest h = h
  of_at_name b Full rest h = h
  of_at_name b Prefix rest (t, more, is, n, none) =
      let a : is_symbol symbol.AtName t ≡ true = single symbol.AtName (token t finished) ∙ n in
      (t, more, is, among (symbol.AtName ∷ []) prefixed t refl n, ap (λ (v : Scope). v.prefixes (prefix_of t)) (label_scope b t (rw a refl)) ∙ none)

  abbrev All : List Spelled → Type 0
  All g = Unit {0}

  -- behind some tokens
  abbrev On : List Spelled → List Spelled → Fault → Ahead Spelled → Type 0
  On b g = Behind (b ++ g)

  on_none : (b : List Spelled) (f : Fault) (rest : Ahead Spelled) → Behind b f rest → On b [] f rest
  on_none b f rest h = subst (λ (v : List Spelled). Behind v f rest) (sym (append-nil b)) h

  on_more : (b front g : List Spelled) (f : Fault) (rest : Ahead Spelled) → On (b ++ front) g f rest → On b (front ++ g) f rest
  on_more b front g f rest h = subst (λ (v : List Spelled). Behind v f rest) (append_assoc b front g) h

  behind_bind : {A B : Type 0} {p : R A} {f : A → R B} {G : List Spelled → Type 0} {ts : Ahead Spelled} (b : List Spelled) → Passes p G (On b) ts
      → ((x : A) (r : Ahead Spelled) (front : List Spelled) → G front → Passes (f x) All (On (b ++ front)) r) → Passes (p >>= f) All (On b) ts
  behind_bind b a h = passes_bind a (λ x r front k. passes_rule (h x r front k) (λ g m. tt) (λ g f rest m. on_more b front g f rest m))

  -- a mark, which is the token that was passed
  mark_on : {ts : Ahead Spelled} (a : Symbol) (b : List Spelled) → Passes (mark a) (λ g. (t : Spelled) × (g ≡ t ∷ []) × (is_among (a ∷ []) t ≡ true)) (On b) ts
  mark_on a b = passes_one (λ x t r h. (t, refl, first a x (token t r) r h)) (λ ts. on_none b Syntax ts tt)
      (λ t rest f e. on_none b f (token t rest) (syntax_behind f (token t rest) (is_symbol a t) t e))
    where
      syntax_behind : (f : Fault) (rest : Ahead Spelled) (c : Bool) (x : Spelled) → cond c (Ok x) (Err Syntax) ≡ Err f → Behind b f rest
      syntax_behind f rest true x e = absurd (apart x f e)
      syntax_behind f rest false x e = subst (λ (g : Fault). Behind b g rest) (err_is {X = Spelled} Syntax f e) tt

  on_give : {A : Type 0} {x : A} {ts : Ahead Spelled} (b : List Spelled) → Passes (give x) All (On b) ts
  on_give b = passes_give tt

  class_on : {A : Type 0} {class : Spelled → Result A Fault} {ts : Ahead Spelled} (b : List Spelled) →
      ((t : Spelled) (rest : Ahead Spelled) (f : Fault) → class t ≡ Err f → Behind b f (token t rest)) → Passes (one Syntax class) All (On b) ts
  class_on b bad = passes_one (λ x t r h. tt) (λ ts. on_none b Syntax ts tt) (λ t rest f e. on_none b f (token t rest) (bad t rest f e))

  target_on : (b : List Spelled) (ts : Ahead Spelled) → ends_in_mark b ≡ true → Passes (target labels) All (On b) ts
  unfolding target iri
  target_on b ts e = passes_either (behind_bind b (mark_on symbol.Start b) (λ _ m front k. on_give (b ++ front)))
      (passes_either (class_on b (λ t rest f is. of_label b f (token t rest) e (blank_target_bad names labels t rest f is)))
      (behind_bind b (class_on b (λ t rest f is. of_label b f (token t rest) e (iri_bad labels t rest f is))) (λ i m front k. on_give (b ++ front))))

  -- behind a mark of targets
  mark_ends : (a : Symbol) (b front : List Spelled) → within (a ∷ []) target_marks ≡ true → ((t : Spelled) × (front ≡ t ∷ []) × (is_among (a ∷ []) t ≡ true)) → ends_in_mark (b ++ front) ≡ true
  mark_ends a b front w (t, is, h) = ap (λ (g : List Spelled). ends_in_mark (b ++ g)) is ∙ one_end b t ∙ among (a ∷ []) target_marks t w h

  mark_stays : (a : Symbol) (b front : List Spelled) → outside (a ∷ []) target_marks ≡ true → ((t : Spelled) × (front ≡ t ∷ []) × (is_among (a ∷ []) t ≡ true)) → ends_in_mark (b ++ front) ≡ false
  mark_stays a b front w (t, is, h) = ap (λ (g : List Spelled). ends_in_mark (b ++ g)) is ∙ one_end b t ∙ no_next (a ∷ []) target_marks (token t finished) w h

  wish_on : (b : List Spelled) (ts : Ahead Spelled) → ends_in_mark b ≡ true → Passes (wish labels) All (On b) ts
  unfolding wish
  wish_on b ts e = passes_either
      (behind_bind b (mark_on symbol.Exclamation b) (λ _ m front k. behind_bind (b ++ front) (target_on (b ++ front) m (mark_ends symbol.Exclamation b front refl k)) (λ t n g u. on_give ((b ++ front) ++ g))))
      (behind_bind b (target_on b ts e) (λ t n g u. on_give (b ++ g)))

  asked_on : (b : List Spelled) (ts : Ahead Spelled) → Passes (asked labels) All (On b) ts
  unfolding asked
  asked_on b ts = passes_either (behind_bind b (mark_on symbol.AtStart b) (λ _ m front k. on_give (b ++ front)))
      (passes_either (behind_bind b (class_on b (λ t rest f is. of_at_name b f (token t rest) (at_name_bad labels t rest f is))) (λ i m front k. on_give (b ++ front)))
      (behind_bind b (mark_on symbol.At b) (λ _ m front k. wish_on (b ++ front) m (mark_ends symbol.At b front refl k))))

  selector_on : (b : List Spelled) (ts : Ahead Spelled) → ends_in_mark b ≡ false → Passes (selector nodes) All (On b) ts
  selector_on b ts e = passes_rule (selector_plain nodes ts) (λ front g. tt) (λ front f rest h. of_node b front f rest e h)

  item_on : (b : List Spelled) (ts : Ahead Spelled) → ends_in_mark b ≡ false → Passes (item nodes labels) All (On b) ts
  unfolding item
  item_on b ts e = behind_bind b (selector_on b ts e) (λ s m front k. behind_bind (b ++ front) (asked_on (b ++ front) m) (λ a n g u. on_give ((b ++ front) ++ g)))

  added_on : (b : List Spelled) (so : List Item) (ts : Ahead Spelled) → ends_in_mark b ≡ false → Passes (added nodes labels so) All (On b) ts
  unfolding added
  added_on b so ts e = behind_bind b (item_on b ts e) (λ x m front k. on_give (b ++ front))

  behind_on : (b : List Spelled) (so : List Item) (ts : Ahead Spelled) → Passes (behind nodes labels so) All (On b) ts
  unfolding behind
  behind_on b so ts = behind_bind b (mark_on symbol.Comma b) (λ _ m front k. added_on (b ++ front) so m (mark_stays symbol.Comma b front refl k))

  items_on : (ts : Ahead Spelled) → Passes (items nodes labels []) All (On []) ts
  unfolding items
  items_on ts = behind_bind [] (added_on [] [] ts refl) (λ xs m front k. passes_loop (is_symbol symbol.Comma) (behind nodes labels) Behind behind_on front xs m)

  at_end : (b : List Spelled) (ts : Ahead Spelled) (e : Fault × Ahead Spelled) → Path (Answer Spelled Fault (List Item)) (Err (Syntax, ts)) (Err e) →
      (front : List Spelled) × (ts ≡ prepend front e.1) × On b front e.0 e.1
  at_end b ts e is = let k = err_is (Syntax, ts) e is in ([], ap (λ (v : Fault × Ahead Spelled). v.1) k, subst (λ (v : Fault × Ahead Spelled). On b [] v.0 v.1) k (on_none b Syntax ts tt))

  finish_on : (b : List Spelled) (xs : List Item) (ts : Ahead Spelled) → Passes (finish Syntax xs) All (On b) ts
  finish_on b xs finished = record { good = λ y e. ([], ap (λ (v : List Item × Ahead Spelled). v.1) (ok_is (xs, finished) y e), tt); bad = λ e is. absurd (apart (xs, finished) e is) }
  finish_on b xs broken = record { good = λ y e. absurd (apart y (Syntax, broken) (sym e)); bad = λ e is. at_end b broken e is }
  finish_on b xs (token t ts) = record { good = λ y e. absurd (apart y (Syntax, token t ts) (sym e)); bad = λ e is. at_end b (token t ts) e is }

  -- a fault of the reader stands behind some tokens, and comes from no limit
  pub map_on : (ts : Ahead Spelled) → Passes (shape_map nodes labels) All (On []) ts
  unfolding shape_map all_items
  map_on ts = behind_bind [] (passes_either (items_on ts) (on_give [])) (λ xs m front k. finish_on front xs m)

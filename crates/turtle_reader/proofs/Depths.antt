-- How many brackets are open behind the tokens of a statement, and how many nodes may have begun: what there is where a limit is reached.
use Rattle.std.proofs.Common.{◌≡◌, ℕ, zero, suc, ◌+◌, ◌≤◌, Bool, true, false, cond, List, [], ◌∷◌, ◌++◌, Option, Some, None, length, Result, Ok, Err, refl, sym, subst, ◌∙◌, arith, count_by}
use Rattle.std.specs.Prelude.{nat_lt}
use Rattle.std.specs.Str.{chars}
use Rattle.std.proofs.lemmas.Bool.{ltb-true}
use Rattle.std.proofs.lemmas.List.{length-append}
use Rattle.std.proofs.lemmas.List.Sums.{sum_by-append}
use Rattle.rdf_terms.specs.Vocabulary.{rdf_lang_string, rdf_rest}
use Rattle.rdf_terms.specs.Texts.{same_text}
use Rattle.rdf_terms.specs.declared.terms.Term.{Term}
use Rattle.rdf_cursor.specs.Ahead.{Ahead, finished, token, prepend}
use Rattle.rdf_cursor.specs.Phrases.{Is}
use Rattle.rdf_cursor.specs.Readers.{◌>>=◌, give, refuse, one, either, loop}
use Rattle.rdf_cursor.proofs.Locality.{prepend-append}
use Rattle.rdf_lex.specs.Tokens.{Spelled}
use Rattle.term_tokens.specs.Meanings.{text_of}
use Rattle.rdf_cursor.specs.declared.stops.Fault.{Fault}
use Rattle.rdf_cursor.specs.declared.stops.Fault.TheVariants as faults
use Rattle.rdf_cursor.specs.declared.symbols.Symbol.{Symbol}
use Rattle.rdf_cursor.specs.declared.symbols.Symbol.TheVariants as symbol
use Rattle.turtle_reader.specs.Causes.{brackets, closing_brackets, max_depth, AreOpen, IsAtLimit}
use Rattle.turtle_reader.specs.Meanings.{max_anonymous, numbered}
use Rattle.term_tokens.specs.Terms.{resolved, joined, iri_ref_of, iri_of, lexical, string_of, typed, typed_by, typed_of, tagged_of, shorthand_of, prefix_of, names, tags, shorthands, blank_of}
use Rattle.turtle_reader.specs.Reading.{R, Terms, settled, next_node, iri_ref, iri, literal, resource, simple, verb, one_object, comma, objects, pair, semicolon, predicates, node, in_cell, member, next_member, cells, collection, object, subject, about_subject, listed, about_node, triples, ended, prefix_declaration, base_declaration, behind, statement}
use Rattle.rdf_cursor.specs.Marks.{mark}
use Rattle.turtle_reader.specs.States.{names_in, DocumentScope, added, anonymous, counted}
use Rattle.rdf_cursor.specs.Symbols.{is_symbol, is_among, of_symbol}
use Rattle.term_tokens.specs.Literals.{datatyped_by}
use Rattle.term_tokens.proofs.Literals.{iris, iri_begins, string_begins, tagged_begins, shorthand_begins, blank_begins}
use Rattle.term_tokens.proofs.Nexts.{within, outside, Next, nexts, no_next, first as first_of_mark, guarded_one}
use Rattle.rdf_cursor.proofs.Tells.{Tells, tells_give, tells_refuse, tells_one, tells_bind, tells_either, tells_loop}

-- one token more
counted_more : (p : Spelled → Bool) (front : List Spelled) (t : Spelled) (b : Bool) → p t ≡ b → count_by p (front ++ t ∷ []) ≡ count_by p front + cond b 1 0
counted_more p front t b e = sum_by-append (λ x. cond (p x) 1 0) front (t ∷ []) ∙ rw e (omega arith)

opened : (n : ℕ) (front : List Spelled) (t : Spelled) → is_among brackets t ≡ true → is_among closing_brackets t ≡ false → AreOpen n front → AreOpen (suc n) (front ++ t ∷ [])
opened n front t o c h = let a = counted_more (is_among brackets) front t true o in let b = counted_more (is_among closing_brackets) front t false c in omega (arith, a, b, h)

closed : (n : ℕ) (front : List Spelled) (t : Spelled) → is_among brackets t ≡ false → is_among closing_brackets t ≡ true → AreOpen (suc n) front → AreOpen n (front ++ t ∷ [])
closed n front t o c h = let a = counted_more (is_among brackets) front t false o in let b = counted_more (is_among closing_brackets) front t true c in omega (arith, a, b, h)

kept : (n : ℕ) (front : List Spelled) (t : Spelled) → is_among brackets t ≡ false → is_among closing_brackets t ≡ false → AreOpen n front → AreOpen n (front ++ t ∷ [])
kept n front t o c h = let a = counted_more (is_among brackets) front t false o in let b = counted_more (is_among closing_brackets) front t false c in omega (arith, a, b, h)

-- from a token alone no fault comes that counts
abbrev Plain : Fault → Type 0
Plain faults.Syntax = Unit {0}
Plain faults.Long = Unit {0}
Plain faults.Prefix = Unit {0}
Plain faults.Deep = ⊥
Plain faults.Full = ⊥

abbrev Shallow : {A : Type 0} → Result A Fault → Type 0
Shallow (Ok x) = Unit {0}
Shallow (Err f) = Plain f

shallow_err : {A : Type 0} (c : Result A Fault) (f : Fault) → Shallow c → c ≡ Err f → Plain f
shallow_err {A = A} c f h e = subst (λ (r : Result A Fault). Shallow r) e h

plain_limit : (v : DocumentScope) (f : Fault) (front : List Spelled) → Plain f → IsAtLimit v f front
plain_limit v faults.Syntax front h = tt
plain_limit v faults.Long front h = tt
plain_limit v faults.Prefix front h = tt
plain_limit v faults.Deep front h = absurd h
plain_limit v faults.Full front h = absurd h

chosen : {A : Type 0} (b : Bool) (c d : Result A Fault) → Shallow c → Shallow d → Shallow (cond b c d)
chosen true c d h k = h
chosen false c d h k = k

limited : {A : Type 0} (b : Bool) (x : A) → Shallow (cond b (Err faults.Long) (Ok x))
limited b x = chosen b (Err faults.Long) (Ok x) tt tt

resolves : (v : DocumentScope) (o : Option (List ℕ)) → Shallow (resolved true (names_in v) o)
resolves v None = tt
resolves v (Some text) = limited _ _

joins : (o p : Option (List ℕ)) → Shallow (joined true o p)
joins None p = tt
joins (Some local) None = tt
joins (Some local) (Some iri) = limited _ _

lexes : (o : Option (List ℕ)) → Shallow (lexical true o)
lexes None = tt
lexes (Some text) = limited _ _

types : (lex : List ℕ) (c : Result (List ℕ) Fault) → Shallow c → Shallow (typed_by lex c)
types lex (Ok iri) h = chosen (same_text (chars iri) rdf_lang_string) (Err faults.Syntax) (Ok (typed lex (chars iri))) tt tt
types lex (Err f) h = h

iri_ref_shallow : (v : DocumentScope) (t : Spelled) → Shallow (iri_ref_of true (names_in v) t)
unfolding iri_ref_of
iri_ref_shallow v t = chosen (is_symbol symbol.IriRef t) _ _ (resolves v (text_of t)) tt

iri_shallow : (v : DocumentScope) (t : Spelled) → Shallow (iri_of true (names_in v) t)
unfolding iri_of
iri_shallow v t = chosen (is_among names t) _ _ (joins (text_of t) (v.prefixes (prefix_of t))) (iri_ref_shallow v t)

blank_shallow : (t : Spelled) → Shallow (blank_of true t)
unfolding blank_of
blank_shallow t = chosen (is_symbol symbol.BlankLabel t) _ _ (limited _ _) tt

string_shallow : (t : Spelled) → Shallow (string_of true t)
unfolding string_of
string_shallow t = chosen (is_symbol symbol.Str t) _ _ (lexes (text_of t)) tt

typed_shallow : (v : DocumentScope) (lex : List ℕ) (t : Spelled) → Shallow (typed_of true (names_in v) lex t)
unfolding typed_of
typed_shallow v lex t = types lex (iri_of true (names_in v) t) (iri_shallow v t)

tagged_shallow : (lex : List ℕ) (t : Spelled) → Shallow (tagged_of lex t)
unfolding tagged_of
tagged_shallow lex t = chosen (is_among tags t) _ _ tt tt

shorthand_shallow : (t : Spelled) → Shallow (shorthand_of true t)
unfolding shorthand_of
shorthand_shallow t = chosen (is_among shorthands t) _ _ (limited _ _) tt

mark_shallow : (a : Symbol) (t : Spelled) → Shallow (of_symbol a t)
mark_shallow a t = chosen (is_symbol a t) (Ok t) (Err faults.Syntax) tt tt

-- with which token a class begins
iri_ref_begins : (v : DocumentScope) (x : List ℕ) (ts r : Ahead Spelled) → Is (iri_ref_of true (names_in v)) x ts r → Next (symbol.IriRef ∷ []) ts
unfolding iri_ref_of
iri_ref_begins v x ts r h = guarded_one symbol.IriRef (iri_ref_of true (names_in v)) (λ t. resolved true (names_in v) (text_of t)) (λ t. refl) x ts r h

typed_from : (lex : List ℕ) (c : Result (List ℕ) Fault) (x : Term) → typed_by lex c ≡ Ok x → (iri : List ℕ) × (c ≡ Ok iri)
typed_from lex (Ok iri) x e = (iri, refl)
typed_from lex (Err f) x e = absurd cc

typed_begins : (v : DocumentScope) (lex : List ℕ) (x : Term) (ts r : Ahead Spelled) → Is (typed_of true (names_in v) lex) x ts r → Next iris ts
unfolding typed_of
typed_begins v lex x ts r h = let c = typed_from lex (iri_of true (names_in v) h.0) x h.2 in iri_begins true (names_in v) c.0 ts r (h.0, h.1, c.1)

-- what lies ahead is reached with so many brackets open, and so many numbers may have been taken, of those from a scope's next on
record At (whole : Ahead Spelled) (first : DocumentScope) (n k : ℕ) (ts : Ahead Spelled) : Type 0 where
  pub front : List Spelled
  pub parts : whole ≡ prepend front ts
  pub nested : AreOpen n front
  pub numbers : k ≤ first.next + length front

-- a fault is reached, and the limit that it names
pub record Fails (whole : Ahead Spelled) (first : DocumentScope) (f : Fault) (ts : Ahead Spelled) : Type 0 where
  pub front : List Spelled
  pub parts : whole ≡ prepend front ts
  pub limit : IsAtLimit first f front

-- the next number behind a term, and one more, where a token has been passed that has none
abbrev next_in : Term × DocumentScope → ℕ
next_in y = y.1.next

abbrev spare_in : Term × DocumentScope → ℕ
spare_in y = suc y.1.next

module _ (whole : Ahead Spelled) (first : DocumentScope) where
  -- from so many open brackets and numbers a reader leads to so many
  abbrev Goes : {A : Type 0} → ℕ → ℕ → ℕ → (A → ℕ) → R A → Type 0
  Goes n k m after p = (ts : Ahead Spelled) → At whole first n k ts → Tells p (λ x r. At whole first m (after x) r) (Fails whole first) ts

  less : (n j k : ℕ) (ts : Ahead Spelled) → j ≤ k → At whole first n k ts → At whole first n j ts
  less n j k ts le a = let h = a.numbers in record { front = a.front; parts = a.parts; nested = a.nested; numbers = omega (arith, le, h) }

  eased : {A : Type 0} {n j k m : ℕ} {after : A → ℕ} {p : R A} → Goes n j m after p → j ≤ k → Goes n k m after p
  eased {n = n} {j = j} {k = k} h le ts a = h ts (less n j k ts le a)

  fails_at : (n k : ℕ) (f : Fault) (ts : Ahead Spelled) → Plain f → At whole first n k ts → Fails whole first f ts
  fails_at n k f ts h a = record { front = a.front; parts = a.parts; limit = plain_limit first f a.front h }

  passes : (n m k : ℕ) (t : Spelled) (r : Ahead Spelled) → ((front : List Spelled) → AreOpen n front → AreOpen m (front ++ t ∷ [])) → At whole first n k (token t r) → At whole first m (suc k) r
  passes n m k t r h a =
      let l = length-append a.front (t ∷ []) in
      let b = a.numbers in
      record {
        front = a.front ++ t ∷ [];
        parts = a.parts ∙ sym (prepend-append a.front (t ∷ []) r);
        nested = h a.front a.nested;
        numbers = omega (arith, l, b);
      }

  -- one token
  goes_one : {A : Type 0} (n m k : ℕ) (class : Spelled → Result A Fault) → ((t : Spelled) (x : A) → class t ≡ Ok x → (front : List Spelled) → AreOpen n front →
      AreOpen m (front ++ t ∷ [])) → ((t : Spelled) → Shallow (class t))
      → Goes n k m (λ _. suc k) (one faults.Syntax class)
  goes_one n m k class h shallow ts a = tells_one (fails_at n k faults.Syntax ts tt a)
      (λ t r x is e. passes n m k t r (h t x e) (subst (At whole first n k) is a)) (λ t r f is e. fails_at n k f (token t r) (shallow_err (class t) f (shallow t) e) (subst (At whole first n k) is a))

  goes_plain : {A : Type 0} (n k : ℕ) (ks : List Symbol) (class : Spelled → Result A Fault) → outside ks brackets ≡ true → outside ks closing_brackets ≡ true →
      ((x : A) (ts r : Ahead Spelled) → Is class x ts r → Next ks ts)
      → ((t : Spelled) → Shallow (class t)) → Goes n k n (λ _. suc k) (one faults.Syntax class)
  goes_plain n k ks class o c b shallow = goes_one n n k class
      (λ t x e front h. let is = b x (token t finished) finished (t, refl, e) in kept n front t (no_next ks brackets (token t finished) o is) (no_next ks closing_brackets (token t finished) c is) h) shallow

  goes_mark : (a : Symbol) (n k : ℕ) → outside (a ∷ []) brackets ≡ true → outside (a ∷ []) closing_brackets ≡ true → Goes n k n (λ _. suc k) (mark a)
  goes_mark a n k o c = goes_plain n k (a ∷ []) (of_symbol a) o c (λ w ts r h. first_of_mark a w ts r h) (mark_shallow a)

  goes_open : (a : Symbol) (n k : ℕ) → within (a ∷ []) brackets ≡ true → outside (a ∷ []) closing_brackets ≡ true → Goes n k (suc n) (λ _. suc k) (mark a)
  goes_open a n k o c = goes_one n (suc n) k (of_symbol a)
      (λ t x e front h. let is = first_of_mark a x (token t finished) finished (t, refl, e) in opened n front t (nexts (a ∷ []) brackets (token t finished) o is) (no_next (a ∷ []) closing_brackets (token t finished) c is) h) (mark_shallow a)

  goes_close : (a : Symbol) (n k : ℕ) → outside (a ∷ []) brackets ≡ true → within (a ∷ []) closing_brackets ≡ true → Goes (suc n) k n (λ _. suc k) (mark a)
  goes_close a n k o c = goes_one (suc n) n k (of_symbol a)
      (λ t x e front h. let is = first_of_mark a x (token t finished) finished (t, refl, e) in closed n front t (no_next (a ∷ []) brackets (token t finished) o is) (nexts (a ∷ []) closing_brackets (token t finished) c is) h) (mark_shallow a)

  -- forms
  gives : {A : Type 0} {n k : ℕ} {after : A → ℕ} {x : A} → after x ≤ k → Goes n k n after (give x)
  gives {n = n} {k = k} {after = after} {x = x} le ts a = tells_give (less n (after x) k ts le a)

  goes_bind : {A B : Type 0} {n k m l : ℕ} {mid : A → ℕ} {after : B → ℕ} {p : R A} {f : A → R B} → Goes n k m mid p → ((x : A) → Goes m (mid x) l after (f x)) → Goes n k l after (p >>= f)
  goes_bind h g ts a = tells_bind (h ts a) (λ x r b. g x r b)

  goes_either : {A : Type 0} {n k m : ℕ} {after : A → ℕ} {class : Spelled → Bool} {p q : R A} → Goes n k m after p → Goes n k m after q → Goes n k m after (either class p q)
  goes_either h g ts a = tells_either (λ _. h ts a) (λ _. g ts a)

  goes_loop : {S : Type 0} (n : ℕ) (taken : S → ℕ) (class : Spelled → Bool) (step : S → R S) → ((s : S) → Goes n (taken s) n taken (step s)) → (s : S) → Goes n (taken s) n taken (loop class step s)
  goes_loop n taken class step h s ts a = tells_loop class step (λ x r. At whole first n (taken x) r) (Fails whole first) (λ x r b. h x r b) s ts a

  -- a number is taken, behind a token that has none yet
  goes_settled : (n : ℕ) (v : DocumentScope) (b : Bool) → nat_lt max_anonymous v.next ≡ b → Goes n (suc v.next) n next_in (settled (cond b (Err faults.Full) (Ok (anonymous v.next, counted v))))
  goes_settled n v true e ts a =
      let l = ltb-true max_anonymous v.next e in
      let h = a.numbers in
      tells_refuse (record { front = a.front; parts = a.parts; limit = omega (arith, l, h) })
  goes_settled n v false e ts a = tells_give (less n (v.next + 1) (suc v.next) ts (omega arith) a)

  goes_next : (n : ℕ) (v : DocumentScope) → Goes n (suc v.next) n next_in (next_node true v)
  unfolding next_node numbered
  goes_next n v = goes_settled n v (nat_lt max_anonymous v.next) refl

  module _ (n k : ℕ) where
    goes_iri_ref : (v : DocumentScope) → Goes n k n (λ _. suc k) (iri_ref true v)
    unfolding iri_ref
    goes_iri_ref v = goes_plain n k (symbol.IriRef ∷ []) (iri_ref_of true (names_in v)) refl refl (iri_ref_begins v) (iri_ref_shallow v)

    goes_iri : (v : DocumentScope) → Goes n k n (λ _. suc k) (iri true v)
    unfolding iri
    goes_iri v = goes_plain n k iris (iri_of true (names_in v)) refl refl (iri_begins true (names_in v)) (iri_shallow v)

    goes_typed : (v : DocumentScope) (lex : List ℕ) → Goes n k n (λ _. suc k) (one faults.Syntax (typed_of true (names_in v) lex))
    goes_typed v lex = goes_plain n k iris (typed_of true (names_in v) lex) refl refl (typed_begins v lex) (typed_shallow v lex)

    goes_tagged : (lex : List ℕ) → Goes n k n (λ _. suc k) (one faults.Syntax (tagged_of lex))
    goes_tagged lex = goes_plain n k tags (tagged_of lex) refl refl (tagged_begins lex) (tagged_shallow lex)

    goes_datatyped : (v : DocumentScope) (lex : List ℕ) → Goes n k n (λ _. suc k) (datatyped_by (typed_of true (names_in v) lex))
    goes_datatyped v lex = goes_bind (goes_mark symbol.Carets n k refl refl) (λ _. eased (goes_typed v lex) (omega arith))

    goes_literal : (v : DocumentScope) → Goes n k n (λ _. suc k) (literal true v)
    unfolding literal
    goes_literal v = goes_bind (goes_plain n k (symbol.Str ∷ []) (string_of true) refl refl (string_begins true) string_shallow) (λ lex.
        goes_either (eased (goes_tagged lex) (omega arith)) (goes_either (eased (goes_datatyped v lex) (omega arith)) (gives (omega arith))))

    goes_resource : (v : DocumentScope) → Goes n k n (λ _. suc k) (resource true v)
    unfolding resource
    goes_resource v = goes_either (goes_plain n k (symbol.BlankLabel ∷ []) (blank_of true) refl refl (blank_begins true) blank_shallow) (goes_bind (goes_iri v) (λ i. gives (omega arith)))

    goes_simple : (v : DocumentScope) → Goes n k n (λ _. suc k) (simple true v)
    unfolding simple
    goes_simple v = goes_either (goes_literal v) (goes_either (goes_plain n k shorthands (shorthand_of true) refl refl (shorthand_begins true) shorthand_shallow) (goes_resource v))

    goes_verb : (v : DocumentScope) → Goes n k n (λ _. suc k) (verb true v)
    unfolding verb
    goes_verb v = goes_either (goes_bind (goes_mark symbol.A n k refl refl) (λ _. gives (omega arith))) (goes_iri v)

  -- an object leaves a token that has no number
  module _ (obj : Terms) (n : ℕ) (each : (v : DocumentScope) → Goes n v.next n spare_in (obj v)) where
    goes_one_object : (s : Term) (p : List ℕ) (v : DocumentScope) → Goes n v.next n (λ w. w.next) (one_object true obj s p v)
    unfolding one_object
    goes_one_object s p v = goes_bind (each v) (λ x. gives (omega arith))

    goes_comma : (s : Term) (p : List ℕ) (v : DocumentScope) → Goes n v.next n (λ w. w.next) (comma true obj s p v)
    unfolding comma
    goes_comma s p v = goes_bind (goes_mark symbol.Comma n v.next refl refl) (λ _. eased (goes_one_object s p v) (omega arith))

    goes_objects : (s : Term) (p : List ℕ) (v : DocumentScope) → Goes n v.next n (λ w. w.next) (objects true obj s p v)
    unfolding objects
    goes_objects s p v = goes_bind (goes_one_object s p v) (goes_loop n (λ w. w.next) _ (comma true obj s p) (goes_comma s p))

    goes_pair : (s : Term) (v : DocumentScope) → Goes n v.next n (λ w. w.next) (pair true obj s v)
    unfolding pair
    goes_pair s v = goes_bind (goes_verb n v.next v) (λ p. eased (goes_objects s p v) (omega arith))

    goes_semicolon : (s : Term) (v : DocumentScope) → Goes n v.next n (λ w. w.next) (semicolon true obj s v)
    unfolding semicolon
    goes_semicolon s v = goes_bind (goes_mark symbol.Semicolon n v.next refl refl) (λ _. goes_either (eased (goes_pair s v) (omega arith)) (gives (omega arith)))

    goes_predicates : (s : Term) (v : DocumentScope) → Goes n v.next n (λ w. w.next) (predicates true obj s v)
    unfolding predicates
    goes_predicates s v = goes_bind (goes_pair s v) (goes_loop n (λ w. w.next) _ (semicolon true obj s) (goes_semicolon s))

    goes_in_cell : (cell : Term) (v : DocumentScope) → Goes n v.next n spare_in (in_cell true obj cell v)
    unfolding in_cell
    goes_in_cell cell v = goes_bind (each v) (λ x. gives (omega arith))

    goes_member : (v : DocumentScope) → Goes n (suc v.next) n spare_in (member true obj v)
    unfolding member
    goes_member v = goes_bind (goes_next n v) (λ x. goes_in_cell x.0 x.1)

    goes_next_member : (a : Term × DocumentScope) → Goes n (suc a.1.next) n spare_in (next_member true obj a)
    unfolding next_member
    goes_next_member a = goes_bind (goes_next n a.1) (λ x. goes_in_cell x.0 (added a.0 rdf_rest x.0 x.1))

  module _ (obj : Terms) (n : ℕ) (each : (v : DocumentScope) → Goes (suc n) v.next (suc n) spare_in (obj v)) where
    goes_node : (v : DocumentScope) → Goes n v.next n spare_in (node true obj v)
    unfolding node
    goes_node v = goes_bind (goes_open symbol.OpenBracket n v.next refl refl) (λ _. goes_bind (goes_next (suc n) v) (λ x.
        goes_bind {mid = λ w. w.next} (goes_either (gives (omega arith)) (goes_predicates obj (suc n) each x.0 x.1))
        (λ w. goes_bind (goes_close symbol.CloseBracket n w.next refl refl) (λ _. gives (omega arith)))))

    goes_cells : (v : DocumentScope) → Goes (suc n) (suc v.next) n spare_in (cells true obj v)
    unfolding cells
    goes_cells v = goes_bind (goes_member obj (suc n) each v) (λ f. goes_bind (goes_loop (suc n) spare_in _ (next_member true obj) (goes_next_member obj (suc n) each) f) (λ l.
        goes_bind (goes_close symbol.CloseParenthesis n (suc l.1.next) refl refl) (λ _. gives (omega arith))))

    goes_collection : (v : DocumentScope) → Goes n v.next n spare_in (collection true obj v)
    unfolding collection
    goes_collection v = goes_bind (goes_open symbol.OpenParenthesis n v.next refl refl) (λ _.
        goes_either (goes_bind (goes_close symbol.CloseParenthesis n (suc v.next) refl refl) (λ _. gives (omega arith))) (goes_cells v))

  -- inside as many brackets as may be, one more is a fault
  too_deep : {A : Type 0} (n k : ℕ) (after : A → ℕ) → n ≡ max_depth → Goes n k n after (refuse {A = A} faults.Deep)
  too_deep n k after e ts a = tells_refuse (record { front = a.front; parts = a.parts; limit = subst (λ (m : ℕ). AreOpen m a.front) e a.nested })

  goes_term : (n : ℕ) (v : DocumentScope) → Goes n v.next n spare_in (simple true v >>= λ x. give (x, v))
  goes_term n v = goes_bind (goes_simple n v.next v) (λ x. gives (omega arith))

  goes_object : (d n : ℕ) → n + d ≡ max_depth → (v : DocumentScope) → Goes n v.next n spare_in (object true d v)
  unfolding object
  goes_object zero n e v = let is : n ≡ max_depth = omega (arith, e) in goes_either (too_deep n v.next _ is) (goes_either (too_deep n v.next _ is) (goes_term n v))
  goes_object (suc d) n e v = let is : suc n + d ≡ max_depth = omega (arith, e) in
      goes_either (goes_node (object true d) n (goes_object d (suc n) is) v) (goes_either (goes_collection (object true d) n (goes_object d (suc n) is) v) (goes_term n v))

  module _ (d : ℕ) (deepest : suc d ≡ max_depth) where
    goes_within : (v : DocumentScope) → Goes 1 v.next 1 spare_in (object true d v)
    goes_within v = goes_object d 1 (omega (arith, deepest)) v

    goes_outside : (v : DocumentScope) → Goes 0 v.next 0 spare_in (object true (suc d) v)
    goes_outside v = goes_object (suc d) 0 (omega (arith, deepest)) v

    goes_subject : (v : DocumentScope) → Goes 0 v.next 0 spare_in (subject true d v)
    unfolding subject
    goes_subject v = goes_either (goes_collection (object true d) 0 goes_within v) (goes_bind (goes_resource 0 v.next v) (λ x. gives (omega arith)))

    goes_about_subject : (v : DocumentScope) → Goes 0 v.next 0 (λ w. w.next) (about_subject true d v)
    unfolding about_subject
    goes_about_subject v = goes_bind (goes_subject v) (λ x. eased (goes_predicates (object true (suc d)) 0 goes_outside x.0 x.1) (omega arith))

    goes_listed : (s : Term) (v : DocumentScope) → Goes 1 v.next 0 (λ w. w.next) (listed true d s v)
    unfolding listed
    goes_listed s v = goes_bind (goes_predicates (object true d) 1 goes_within s v) (λ w. goes_bind (goes_close symbol.CloseBracket 0 w.next refl refl) (λ _.
        goes_either (eased (goes_predicates (object true (suc d)) 0 goes_outside s w) (omega arith)) (gives (omega arith))))

    goes_about_node : (v : DocumentScope) → Goes 0 v.next 0 (λ w. w.next) (about_node true d v)
    unfolding about_node
    goes_about_node v = goes_bind (goes_open symbol.OpenBracket 0 v.next refl refl) (λ _. goes_bind (goes_next 1 v) (λ x.
        goes_either (goes_bind (goes_close symbol.CloseBracket 0 x.1.next refl refl) (λ _. eased (goes_predicates (object true (suc d)) 0 goes_outside x.0 x.1) (omega arith))) (goes_listed x.0 x.1)))

    goes_triples : (v : DocumentScope) → Goes 0 v.next 0 (λ w. w.next) (triples true d v)
    unfolding triples
    goes_triples v = goes_either (goes_about_node v) (goes_about_subject v)

  abbrev Ends : (DocumentScope → R DocumentScope) → Type 0
  Ends p = (v : DocumentScope) → Goes 0 v.next 0 (λ w. w.next) (p v)

  goes_ended : (p : DocumentScope → R DocumentScope) → Ends p → Ends (ended true p)
  unfolding ended
  goes_ended p h v = goes_bind (h v) (λ w. goes_bind (goes_mark symbol.Dot 0 w.next refl refl) (λ _. gives (omega arith)))

  goes_prefix : Ends (prefix_declaration true)
  unfolding prefix_declaration
  goes_prefix v = goes_bind (goes_mark symbol.PnameNs 0 v.next refl refl) (λ t. goes_bind (goes_iri_ref 0 (suc v.next) v) (λ i. gives (omega arith)))

  goes_base : Ends (base_declaration true)
  unfolding base_declaration
  goes_base v = goes_bind (goes_iri_ref 0 v.next v) (λ i. gives (omega arith))

  goes_behind : (a : Symbol) (p : DocumentScope → R DocumentScope) → outside (a ∷ []) brackets ≡ true → outside (a ∷ []) closing_brackets ≡ true → Ends p → Ends (behind true a p)
  unfolding behind
  goes_behind a p o c h v = goes_bind (goes_mark a 0 v.next o c) (λ _. eased (h v) (omega arith))

  goes_statement : (d : ℕ) → suc d ≡ max_depth → Ends (statement true d)
  unfolding statement
  goes_statement d deepest v =
      goes_either (goes_behind _ _ refl refl (goes_ended _ goes_prefix) v) (goes_either (goes_behind _ _ refl refl (goes_ended _ goes_base) v)
      (goes_either (goes_behind _ _ refl refl goes_prefix v) (goes_either (goes_behind _ _ refl refl goes_base v) (goes_ended _ (goes_triples d deepest) v))))

-- the tokens of a statement before a fault, and the limit that they have come to
pub statement_fails : (d : ℕ) → suc d ≡ max_depth → (v : DocumentScope) (ts rest : Ahead Spelled) (f : Fault) → statement true d v ts ≡ Err (f, rest) → Fails ts v f rest
statement_fails d deepest v ts rest f e =
    (goes_statement ts v d deepest v ts (record { front = []; parts = refl; nested = refl; numbers = omega arith })).bad (f, rest) e

-- At a fault stands its cause, and where brackets nest too deep as many are open as may be: by the form of the reader.
use Rattle.std.proofs.Common.{◌≡◌, ◌+◌, ◌⊎◌, ℕ, zero, suc, Bool, true, false, cond, List, [], ◌∷◌, ◌++◌, Option, Some, None, Result, Ok, Err, refl, sym, ap, subst, ◌∙◌, inl, inr, arith, count_by}
use Rattle.std.proofs.lemmas.List.Sums.{sum_by-append}
use Rattle.rdf_cursor.specs.Ahead.{Ahead, finished, broken, token, prepend, count, next_is}
use Rattle.rdf_cursor.specs.Phrases.{Many, none, more}
use Rattle.rdf_cursor.specs.Readers.{Answer, and_then, ◌>>=◌, give, one, either, loop_within, loop, finish}
use Rattle.rdf_cursor.specs.Symbols.{is_symbol, is_among, is_any}
use Rattle.rdf_cursor.specs.declared.symbols.Symbol.{Symbol}
use Rattle.rdf_cursor.specs.declared.symbols.Symbol.TheVariants as symbol
use Rattle.rdf_cursor.proofs.Answers.{apart, err_is}
use Rattle.rdf_cursor.proofs.Fronts.{front_ok, both_fronts}
use Rattle.rdf_cursor.proofs.Locality.{prepend-append}
use Rattle.rdf_cursor.proofs.Loops.{local_loop}
use Rattle.rdf_cursor.proofs.Soundness.{meets_loop}
use Rattle.lists.proofs.Quantifiers.{all_append}
use Rattle.rdf_lex.specs.Tokens.{Spelled}
use Rattle.schema_documents.specs.declared.label.Label.{Label}
use Rattle.schema_documents.specs.Tree.{ShapeExpr, MaybeShapeExpr, TripleExpr, no_expr, one_expr}
use Rattle.term_tokens.specs.Scopes.{Scope}
use Rattle.term_tokens.proofs.Nexts.{within, outside, nexts, no_next, no_symbol, single}
use Rattle.shexc_constraints.specs.declared.faults.Fault.{Fault}
use Rattle.shexc_constraints.specs.declared.faults.Fault.TheVariants as fault
use Rattle.shexc_constraints.specs.Causes.{brackets, closing_brackets, directives, AreNone, IsCause}
use Rattle.shexc_constraints.specs.Reading.{iri, label}
use Rattle.shexc_constraints.specs.Stops.{R}
use Rattle.shexc_constraints.specs.Symbols.{of_symbol, mark}
use Rattle.shexc_constraints.proofs.Flat.{nesting, Flat, FlatClass, mark_flat, word_flat, iri_flat, label_flat, limit_flat}
use Rattle.shexc_constraints.proofs.Nexts.{fewer, first as first_of_mark}
use Rattle.shexc_constraints.proofs.Says as low
use Rattle.shexc_constraints.proofs.Says.{Says, ClassSays, says_one, says_give, says_refuse, says_bind, says_either, says_loop, mark_says, mark_fault, word_says, limit_says, iri_says, iri_ref_fault, label_says, says_iri, says_predicate, says_label, says_annotations, says_notes, says_reference, says_non_literal, says_literal_constraint}
use Rattle.rdf_cursor.proofs.Tells.{Tells, tells_give, tells_refuse, tells_one, tells_bind, tells_either, tells_loop, tells_so}
use Rattle.shexc_reader.specs.Grammar.{Statement}
use Rattle.shexc_reader.specs.Refusals.{IsLabelled, HasCauseWithin}
use Rattle.shexc_reader.specs.States.{State}
use Rattle.shexc_reader.specs.Symbols.{starts}
use Rattle.shexc_reader.specs.Trees.{Cardinality, empty_shape}
use Rattle.shexc_reader.specs.Reading.{Inside, opens, level, whole, base_directive, prefix_directive, import_directive, first_start, start_directive, body, declaration, statement, document, extra_behind, extras, qualifier, all_qualifiers, maybe_triple, shape_behind, a_shape, shape_or_reference, braced, joined_with, behind_constraint, constraint_first, literal_only, constraint_behind, shape_first, parenthesised, dot, atom, negated, and_behind, conjunction_from, conjunction, or_behind, disjunction_from, expression, most, limits, short, cardinality, further_from, further, dot_value, arc_value, cardinality_behind, direction, an_arc, grouped, unlabelled, inclusion, unary, semicolon, group, bar, alternatives}
use Rattle.shexc_reader.proofs.Places.{local_statement, consumes_statement}
use Rattle.shexc_reader.proofs.SoundLevels.{statement_meets}

-- nothing is told of a fault of syntax; of another one, its cause
abbrev pub Caused : ℕ → Scope → Fault → List Spelled → Ahead Spelled → Type 0
Caused d v f front rest = (f ≡ fault.Syntax) ⊎ ((t : Spelled) × (more : Ahead Spelled) × (rest ≡ token t more) × HasCauseWithin d v f front t)

-- so many brackets may still open behind the tokens, of so many that may be open
abbrev pub AreLeft : ℕ → ℕ → List Spelled → Type 0
AreLeft d n front = count_by (is_among brackets) front + n ≡ d + count_by (is_among closing_brackets) front

-- one token more
counted_more : (p : Spelled → Bool) (front : List Spelled) (t : Spelled) (b : Bool) → p t ≡ b → count_by p (front ++ t ∷ []) ≡ count_by p front + cond b 1 0
counted_more p front t b e = sum_by-append (λ x. cond (p x) 1 0) front (t ∷ []) ∙ rw e (omega arith)

opened : (d n : ℕ) (front : List Spelled) (t : Spelled) → is_among brackets t ≡ true → is_among closing_brackets t ≡ false → AreLeft d (suc n) front → AreLeft d n (front ++ t ∷ [])
opened d n front t o c h = let a = counted_more (is_among brackets) front t true o in let b = counted_more (is_among closing_brackets) front t false c in omega (arith, a, b, h)

closed_one : (d n : ℕ) (front : List Spelled) (t : Spelled) → is_among brackets t ≡ false → is_among closing_brackets t ≡ true → AreLeft d n front → AreLeft d (suc n) (front ++ t ∷ [])
closed_one d n front t o c h = let a = counted_more (is_among brackets) front t false o in let b = counted_more (is_among closing_brackets) front t true c in omega (arith, a, b, h)

-- tokens that open and close none
count_none : (js : List Symbol) → within js nesting ≡ true → (b : List Spelled) → AreNone nesting b → count_by (is_among js) b ≡ 0
count_none js w [] h = refl
count_none js w (t ∷ b) (h, hs) = let e : is_among js t ≡ false = fewer js nesting (token t finished) w h in rw e (count_none js w b hs)

kept : (d n : ℕ) (front b : List Spelled) → AreNone nesting b → AreLeft d n front → AreLeft d n (front ++ b)
kept d n front b h l =
    let x = sum_by-append (λ t. cond (is_among brackets t) 1 0) front b in let y = sum_by-append (λ t. cond (is_among closing_brackets t) 1 0) front b in
    let p = count_none brackets refl b h in let q = count_none closing_brackets refl b h in omega (arith, x, y, p, q, l)

-- nothing that is flat changes the scope
unchanged : (b : List Spelled) → AreNone nesting b → AreNone directives b
unchanged [] h = tt
unchanged (t ∷ b) (h, hs) = (fewer directives nesting (token t finished) refl h, unchanged b hs)

bracket_more : (front : List Spelled) (t : Spelled) (marks : List Symbol) → outside marks directives ≡ true → is_among marks t ≡ true → AreNone directives front → AreNone directives (front ++ t ∷ [])
bracket_more front t marks o i h = all_append (λ u. is_among directives u ≡ false) front (t ∷ []) h (no_next marks directives (token t finished) o i, tt)

-- what a constraint says of its fault
reasoned : (d : ℕ) (v : Scope) (f : Fault) (t : Spelled) (front : List Spelled) → AreNone directives front → IsCause v f front t → (f ≡ fault.Syntax) ⊎ HasCauseWithin d v f front t
reasoned d v fault.Syntax t front n h = inl refl
reasoned d v fault.External t front n h = absurd h
reasoned d v fault.Deep t front n h = absurd h
reasoned d v fault.Prefix t front n h = inr (h, n)
reasoned d v fault.FloatFacet t front n h = inr h
reasoned d v fault.FacetNumber t front n h = inr h
reasoned d v (fault.Pattern e) t front n h = inr h

-- a reader whose faults are all of syntax
record OfSyntax {A : Type 0} (p : R A) : Type 0 where
  pub tells : (ts : Ahead Spelled) → Tells p (λ x r. (front : List Spelled) × (ts ≡ prepend front r)) (λ f r. (f ≡ fault.Syntax) × ((front : List Spelled) × (ts ≡ prepend front r))) ts

syntax_one : {A : Type 0} {class : Spelled → Result A Fault} → ((t : Spelled) (f : Fault) → class t ≡ Err f → f ≡ fault.Syntax) → OfSyntax (one fault.Syntax class)
syntax_one h = record { tells = λ ts. tells_one (refl, ([], refl)) (λ t rest x is e. (t ∷ [], is)) (λ t rest f is e. (h t f e, ([], is))) }

syntax_give : {A : Type 0} (x : A) → OfSyntax (give x)
syntax_give x = record { tells = λ ts. tells_give ([], refl) }

syntax_bind : {A B : Type 0} {p : R A} {f : A → R B} → OfSyntax p → ((x : A) → OfSyntax (f x)) → OfSyntax (p >>= f)
syntax_bind a h = record {
  tells = λ ts. tells_bind (a.tells ts) (λ x r (b, is).
      let on : (c : List Spelled) (q : Ahead Spelled) → r ≡ prepend c q → ts ≡ prepend (b ++ c) q = λ c q e. is ∙ ap (prepend b) e ∙ sym (prepend-append b c q) in
      tells_so (λ y q (c, e). (b ++ c, on c q e)) (λ g q (s, (c, e)). (s, (b ++ c, on c q e))) ((h x).tells r));
}

-- From the beginning of a statement, in the scope of a state, where so many brackets may be open.
module _ (a : State) (d : ℕ) (start : Ahead Spelled) where
  abbrev v : Scope
  v = a.scope

  -- what lies ahead is reached where so many brackets may still open, in the same scope
  record At (n : ℕ) (ts : Ahead Spelled) : Type 0 where
    pub front : List Spelled
    pub parts : start ≡ prepend front ts
    pub left : AreLeft d n front
    pub same_scope : AreNone directives front

  -- a fault is reached, with its cause
  pub record Fails (f : Fault) (rest : Ahead Spelled) : Type 0 where
    pub front : List Spelled
    pub parts : start ≡ prepend front rest
    pub cause : Caused d v f front rest

  -- from where one thing is so a reader leads to where another is
  abbrev Goes : {A : Type 0} → (Ahead Spelled → Type 0) → (A → Ahead Spelled → Type 0) → R A → Type 0
  Goes before after p = (ts : Ahead Spelled) → before ts → Tells p after Fails ts

  syntax_at : (n : ℕ) (ts : Ahead Spelled) → At n ts → Fails fault.Syntax ts
  syntax_at n ts x = record { front = x.front; parts = x.parts; cause = inl refl }

  by_cause : (front : List Spelled) (f : Fault) (rest : Ahead Spelled) → start ≡ prepend front rest → AreNone directives front → low.Caused v f front rest → Fails f rest
  by_cause front f rest e n (inl is) = record { front = front; parts = e; cause = inl is }
  by_cause front f rest e n (inr (t, next, is, c)) = record { front = front; parts = e; cause = by (reasoned d v f t front n c) }
    where
      by : (f ≡ fault.Syntax) ⊎ HasCauseWithin d v f front t → Caused d v f front rest
      by (inl is_syntax) = inl is_syntax
      by (inr h) = inr (t, next, is, h)

  at_token : {n : ℕ} (ts : Ahead Spelled) (x : At n ts) (f : Fault) (t : Spelled) (rest : Ahead Spelled) → ts ≡ token t rest → low.Why v x.front t f → Fails f (token t rest)
  at_token ts x f t rest is why = by_cause x.front f (token t rest) (x.parts ∙ ap (prepend x.front) is) x.same_scope (by why)
    where
      by : low.Why v x.front t f → low.Caused v f x.front (token t rest)
      by (inl e) = inl e
      by (inr c) = inr (t, rest, refl, c)

  longer : (front b : List Spelled) (ts r : Ahead Spelled) → start ≡ prepend front ts → ts ≡ prepend b r → start ≡ prepend (front ++ b) r
  longer front b ts r e k = e ∙ ap (prepend front) k ∙ sym (prepend-append front b r)

  flat_on : (n : ℕ) (ts r : Ahead Spelled) → Flat ts r → At n ts → At n r
  flat_on n ts r (b, e, h) x = record {
    front = x.front ++ b;
    parts = longer x.front b ts r x.parts e;
    left = kept d n x.front b h x.left;
    same_scope = all_append (λ t. is_among directives t ≡ false) x.front b x.same_scope (unchanged b h);
  }

  flat_fails : (n : ℕ) (ts : Ahead Spelled) (f : Fault) (r : Ahead Spelled) (x : At n ts) → low.Fails v x.front ts f r → Fails f r
  flat_fails n ts f r x (b, e, h, c) = by_cause (x.front ++ b) f r (longer x.front b ts r x.parts e) (all_append (λ t. is_among directives t ≡ false) x.front b x.same_scope (unchanged b h)) c

  -- what passes no bracket
  flat : {A : Type 0} {n : ℕ} {p : R A} → Says v p → Goes (At n) (λ x. At n) p
  flat {n = n} h ts x = tells_so (λ y r k. flat_on n ts r k x) (λ f r k. flat_fails n ts f r x k) (h.tells x.front ts)

  -- forms
  gives : {A : Type 0} {before : Ahead Spelled → Type 0} {after : A → Ahead Spelled → Type 0} {x : A} → ((ts : Ahead Spelled) → before ts → after x ts) → Goes before after (give x)
  gives h ts y = tells_give (h ts y)

  goes_bind : {A B : Type 0} {before : Ahead Spelled → Type 0} {mid : A → Ahead Spelled → Type 0} {after : B → Ahead Spelled → Type 0} {p : R A} {f : A → R B} →
      Goes before mid p → ((x : A) → Goes (mid x) after (f x)) → Goes before after (p >>= f)
  goes_bind h g ts y = tells_bind (h ts y) (λ x r k. g x r k)

  goes_either : {A : Type 0} {before : Ahead Spelled → Type 0} {after : A → Ahead Spelled → Type 0} {class : Spelled → Bool} {p q : R A} → Goes before after p →
      Goes before after q → Goes before after (either class p q)
  goes_either h g ts y = tells_either (λ _. h ts y) (λ _. g ts y)

  goes_loop : {S : Type 0} (holds : S → Ahead Spelled → Type 0) (class : Spelled → Bool) (step : S → R S) → ((s : S) → Goes (holds s) holds (step s)) →
      (s : S) → Goes (holds s) holds (loop class step s)
  goes_loop holds class step h s ts y = tells_loop class step holds Fails (λ x r k. h x r k) s ts y

  -- a bracket that opens
  too_deep : (k : Symbol) → within (k ∷ []) brackets ≡ true → (ts : Ahead Spelled) → next_is (is_symbol k) ts ≡ true → At 0 ts → Fails fault.Deep ts
  too_deep k o finished i x = absurd cc
  too_deep k o broken i x = absurd cc
  too_deep k o (token t ts) i x = let l = x.left in record {
    front = x.front;
    parts = x.parts;
    cause = inr (t, ts, refl, (nexts (k ∷ []) brackets (token t ts) o (sym (single k (token t ts)) ∙ i), omega (arith, l)));
  }

  opens_on : (k : Symbol) (n : ℕ) → within (k ∷ []) brackets ≡ true → outside (k ∷ []) closing_brackets ≡ true → Goes (At (suc n)) (λ w. At n) (mark k)
  opens_on k n o c ts x = tells_one (syntax_at (suc n) ts x)
      (λ t rest w is e.
      let i = first_of_mark k w (token t finished) finished (t, refl, e) in
      record {
        front = x.front ++ t ∷ [];
        parts = longer x.front (t ∷ []) ts rest x.parts is;
        left = opened d n x.front t (nexts (k ∷ []) brackets (token t finished) o i) (no_next (k ∷ []) closing_brackets (token t finished) c i) x.left;
        same_scope = bracket_more x.front t brackets refl (nexts (k ∷ []) brackets (token t finished) o i) x.same_scope;
      })
      (λ t rest f is e. at_token ts x f t rest is (mark_says v k x.front t f e))

  opens_tells : (k : Symbol) (n : ℕ) → within (k ∷ []) brackets ≡ true → outside (k ∷ []) closing_brackets ≡ true → Goes (At n) (λ w r. (m : ℕ) × (n ≡ suc m) × At m r) (opens k n)
  unfolding opens
  opens_tells k zero o c ts x = tells_either (λ i. tells_refuse (too_deep k o ts i x)) (λ i. tells_refuse (syntax_at zero ts x))
  opens_tells k (suc n) o c ts x = tells_bind (opens_on k n o c ts x) (λ w r h. tells_give (n, refl, h))

  goes_opens : {B : Type 0} {n : ℕ} {after : B → Ahead Spelled → Type 0} (k : Symbol) (f : Unit {0} → R B) → within (k ∷ []) brackets ≡ true →
      outside (k ∷ []) closing_brackets ≡ true → ((m : ℕ) → n ≡ suc m → Goes (At m) after (f tt))
      → Goes (At n) after (opens k n >>= f)
  goes_opens {n = n} k f o c h ts x = tells_bind (opens_tells k n o c ts x) (λ u r y. h y.0 y.1 r y.2)

  -- one that closes
  goes_close : {n : ℕ} (k : Symbol) (m : ℕ) → n ≡ suc m → outside (k ∷ []) brackets ≡ true → within (k ∷ []) closing_brackets ≡ true → Goes (At m) (λ w. At n) (mark k)
  goes_close {n = n} k m is o c ts x = tells_one (syntax_at m ts x)
      (λ t rest w q e.
      let i = first_of_mark k w (token t finished) finished (t, refl, e) in
      subst (λ (j : ℕ). At j rest) (sym is) (record {
        front = x.front ++ t ∷ [];
        parts = longer x.front (t ∷ []) ts rest x.parts q;
        left = closed_one d m x.front t (no_next (k ∷ []) brackets (token t finished) o i) (nexts (k ∷ []) closing_brackets (token t finished) c i) x.left;
        same_scope = bracket_more x.front t closing_brackets refl (nexts (k ∷ []) closing_brackets (token t finished) c i) x.same_scope;
      }))
      (λ t rest f q e. at_token ts x f t rest q (mark_says v k x.front t f e))

  -- behind an expression in an arc with a flag: a brace was taken, and a number is next
  abbrev After : Bool → ℕ → Bool → Ahead Spelled → Type 0
  After true n flag ts = At n ts
  After false n false ts = At n ts
  After false n true ts = (m : ℕ) × (n ≡ suc m) × At m ts × (next_is (is_symbol symbol.Integer) ts ≡ true)

  unflagged : (inner : Bool) (n : ℕ) (ts : Ahead Spelled) → At n ts → After inner n false ts
  unflagged true n ts x = x
  unflagged false n ts x = x

  no_mark : (k : Symbol) → outside (symbol.Integer ∷ []) (k ∷ []) ≡ true → (ts rest : Ahead Spelled) (t w : Spelled) → ts ≡ token t rest →
      of_symbol k t ≡ Ok w → next_is (is_symbol symbol.Integer) ts ≡ true → ⊥
  no_mark k o ts rest t w is e i =
      let n : is_symbol k t ≡ false = no_symbol (symbol.Integer ∷ []) k (token t rest) o (sym (single symbol.Integer (token t rest))
      ∙ subst (λ (q : Ahead Spelled). next_is (is_symbol symbol.Integer) q ≡ true) is i) in
      by (is_symbol k t) n e
    where
      by : (b : Bool) → b ≡ false → Path (Result Spelled Fault) (cond b (Ok t) (Err fault.Syntax)) (Ok w) → ⊥
      by true p q = absurd cc
      by false p q = absurd (apart w fault.Syntax (sym q))

  goes_after : (inner : Bool) (n : ℕ) (flag : Bool) (k : Symbol) → outside (k ∷ []) nesting ≡ true → outside (symbol.Integer ∷ []) (k ∷ []) ≡ true → Goes (After inner n flag) (λ w. At n) (mark k)
  goes_after true n flag k o c ts x = flat (says_one (mark_says v k) (mark_flat k o)) ts x
  goes_after false n false k o c ts x = flat (says_one (mark_says v k) (mark_flat k o)) ts x
  goes_after false n true k o c ts (m, is, x, i) = tells_one (syntax_at m ts x)
      (λ t rest w q e. absurd (no_mark k c ts rest t w q e i))
      (λ t rest f q e. at_token ts x f t rest q (mark_says v k x.front t f e))

  flat_mark : (k : Symbol) → outside (k ∷ []) nesting ≡ true → Says v (mark k)
  flat_mark k o = says_one (mark_says v k) (mark_flat k o)

  -- what stands before the brace of a Shape
  says_extra_behind : (ps : List (List ℕ)) → Says v (extra_behind v ps)
  unfolding extra_behind
  says_extra_behind ps = says_bind _ _ (says_predicate v) (λ p. says_give v _)

  says_extras : (ps : List (List ℕ)) → Says v (extras v ps)
  unfolding extras
  says_extras ps = says_bind _ _ (flat_mark _ refl) (λ _. says_bind _ _ (says_extra_behind ps) (λ qs. says_loop _ _ says_extra_behind _))

  says_qualifier : (q : Bool × List (List ℕ)) → Says v (qualifier v q)
  unfolding qualifier
  says_qualifier q = says_either _ _ _ (says_bind _ _ (says_extras _) (λ ps. says_give v _)) (says_bind _ _ (flat_mark _ refl) (λ _. says_give v _))

  says_all_qualifiers : Says v (all_qualifiers v)
  unfolding all_qualifiers
  says_all_qualifiers = says_loop _ _ says_qualifier _

  -- what stands in brackets
  record GoesInside (m : ℕ) (inside : Inside) : Type 0 where
    pub expr : Goes (At m) (λ x. At m) inside.expr
    pub triple_expr : Goes (At m) (λ x. At m) inside.triple_expr

  module _ (n : ℕ) (inside : Inside) (inner : (m : ℕ) → n ≡ suc m → GoesInside m inside) where
    goes_maybe_triple : (m : ℕ) → n ≡ suc m → Goes (At m) (λ x. At m) (maybe_triple true v n inside)
    unfolding maybe_triple
    goes_maybe_triple m is = goes_either (gives (λ ts x. x)) (goes_bind ((inner m is).triple_expr) (λ t. gives (λ ts x. x)))

    goes_shape_behind : (m : ℕ) → n ≡ suc m → (q : Bool × List (List ℕ)) → Goes (At m) (λ x. At n) (shape_behind true v n inside q)
    unfolding shape_behind
    goes_shape_behind m is q = goes_bind (goes_maybe_triple m is) (λ t. goes_bind (goes_close symbol.CloseBrace m is refl refl) (λ _. gives (λ ts x. x)))

    goes_a_shape : (whole : Bool) → Goes (At n) (λ x. At n) (a_shape true v n inside whole)
    unfolding a_shape
    goes_a_shape whole = goes_bind (flat says_all_qualifiers)
        (λ q. goes_opens symbol.OpenBrace _ refl refl (λ m is. goes_bind (goes_shape_behind m is q) (λ s. goes_bind (flat (says_notes v whole)) (λ _. gives (λ ts x. x)))))

    goes_shape_or_reference : (whole : Bool) → Goes (At n) (λ x. At n) (shape_or_reference true v n inside whole)
    unfolding shape_or_reference
    goes_shape_or_reference whole = goes_either (flat (says_reference v)) (goes_a_shape whole)

    goes_braced : (c : ShapeExpr) → Goes (At n) (λ x. After false n x.1) (braced true v n inside c)
    unfolding braced
    goes_braced c = goes_opens symbol.OpenBrace _ refl refl (λ m is ts x.
        tells_either (λ i. tells_give (m, is, x, i)) (λ _. goes_bind {after = λ y. After false n y.1} (goes_shape_behind m is (false, [])) (λ s. gives (λ ts x. x)) ts x))

    goes_joined_with : (whole : Bool) (c : ShapeExpr) → Goes (At n) (λ x. After whole n x.1) (joined_with true v n inside whole c)
    unfolding joined_with
    goes_joined_with whole c = goes_bind (goes_shape_or_reference whole) (λ s. gives (λ ts x. unflagged whole n ts x))

    goes_behind_constraint : (whole : Bool) (c : ShapeExpr) → Goes (At n) (λ x. After whole n x.1) (behind_constraint true v n inside whole c)
    unfolding behind_constraint
    goes_behind_constraint true c = goes_either (goes_joined_with true c) (gives (λ ts x. x))
    goes_behind_constraint false c = goes_either (goes_braced c) (goes_either (goes_joined_with false c) (gives (λ ts x. x)))

    goes_constraint_first : (whole : Bool) → Goes (At n) (λ x. After whole n x.1) (constraint_first true v n inside whole)
    unfolding constraint_first
    goes_constraint_first whole = goes_bind (flat (says_non_literal true v)) (λ c. goes_bind (flat (says_notes v whole)) (λ _. goes_behind_constraint whole c))

    goes_literal_only : (whole : Bool) → Goes (At n) (λ x. After whole n x.1) (literal_only true v n inside whole)
    unfolding literal_only
    goes_literal_only whole = goes_bind (flat (says_literal_constraint true v)) (λ c. goes_bind (flat (says_notes v whole)) (λ _. gives (λ ts x. unflagged whole n ts x)))

    goes_constraint_behind : (whole : Bool) (c : ShapeExpr) → Goes (At n) (λ x. After whole n x.1) (constraint_behind true v n inside whole c)
    unfolding constraint_behind
    goes_constraint_behind whole c = goes_bind (flat (says_non_literal true v)) (λ e. goes_bind (flat (says_notes v whole)) (λ _. gives (λ ts x. unflagged whole n ts x)))

    goes_shape_first : (whole : Bool) → Goes (At n) (λ x. After whole n x.1) (shape_first true v n inside whole)
    unfolding shape_first
    goes_shape_first whole = goes_bind (goes_shape_or_reference whole) (λ s. goes_either (goes_constraint_behind whole s) (gives (λ ts x. unflagged whole n ts x)))

    goes_parenthesised : (whole : Bool) → Goes (At n) (λ x. After whole n x.1) (parenthesised true v n inside)
    unfolding parenthesised
    goes_parenthesised whole =
        goes_opens symbol.OpenParenthesis _ refl refl (λ m is. goes_bind ((inner m is).expr) (λ e. goes_bind (goes_close symbol.CloseParenthesis m is refl refl) (λ _. gives (λ ts x. unflagged whole n ts x))))

    goes_dot : (whole : Bool) → Goes (At n) (λ x. After whole n x.1) (dot true v n inside)
    unfolding dot
    goes_dot whole = goes_bind (flat (flat_mark _ refl)) (λ _. gives (λ ts x. unflagged whole n ts x))

    goes_atom : (whole : Bool) → Goes (At n) (λ x. After whole n x.1) (atom true v n inside whole)
    unfolding atom
    goes_atom whole = goes_either (goes_constraint_first whole) (goes_either (goes_literal_only whole) (goes_either (goes_shape_first whole) (goes_either (goes_parenthesised whole) (goes_dot whole))))

    goes_negated : (whole : Bool) → Goes (At n) (λ x. After whole n x.1) (negated true v n inside whole)
    unfolding negated
    goes_negated whole = goes_either (goes_bind (flat (flat_mark _ refl)) (λ _. goes_bind (goes_atom whole) (λ y. gives (λ ts x. x)))) (goes_atom whole)

    goes_and_behind : (whole : Bool) (s : List ShapeExpr × Bool) → Goes (After whole n s.1) (λ x. After whole n x.1) (and_behind true v n inside whole s)
    unfolding and_behind
    goes_and_behind whole s = goes_bind (goes_after whole n s.1 symbol.And refl refl) (λ _. goes_bind (goes_negated whole) (λ y. gives (λ ts x. x)))

    goes_conjunction_from : (whole : Bool) (y : ShapeExpr × Bool) → Goes (After whole n y.1) (λ x. After whole n x.1) (conjunction_from true v n inside whole y)
    unfolding conjunction_from
    goes_conjunction_from whole y = goes_bind (goes_loop (λ (s : List ShapeExpr × Bool). After whole n s.1) _ _ (goes_and_behind whole) (y.0 ∷ [], y.1)) (λ s. gives (λ ts x. x))

    goes_conjunction : (whole : Bool) → Goes (At n) (λ x. After whole n x.1) (conjunction true v n inside whole)
    unfolding conjunction
    goes_conjunction whole = goes_bind (goes_negated whole) (λ y. goes_conjunction_from whole y)

    goes_or_behind : (whole : Bool) (s : List ShapeExpr × Bool) → Goes (After whole n s.1) (λ x. After whole n x.1) (or_behind true v n inside whole s)
    unfolding or_behind
    goes_or_behind whole s = goes_bind (goes_after whole n s.1 symbol.Or refl refl) (λ _. goes_bind (goes_conjunction whole) (λ y. gives (λ ts x. x)))

    goes_disjunction_from : (whole : Bool) (y : ShapeExpr × Bool) → Goes (After whole n y.1) (λ x. After whole n x.1) (disjunction_from true v n inside whole y)
    unfolding disjunction_from
    goes_disjunction_from whole y = goes_bind (goes_loop (λ (s : List ShapeExpr × Bool). After whole n s.1) _ _ (goes_or_behind whole) (y.0 ∷ [], y.1)) (λ s. gives (λ ts x. x))

    goes_expression : (whole : Bool) → Goes (At n) (λ x. After whole n x.1) (expression true v n inside whole)
    unfolding expression
    goes_expression whole = goes_bind (goes_conjunction whole) (λ y. goes_disjunction_from whole y)

    says_most : (least : ℕ) → Says v (most true v n inside least)
    unfolding most
    says_most least = says_bind _ _ (flat_mark _ refl) (λ _. says_either _ _ _ (says_bind _ _ (flat_mark _ refl) (λ _. says_give v _))
        (says_either _ _ _ (says_bind _ _ (says_one (limit_says v _) (limit_flat _)) (λ m. says_give v _)) (says_give v _)))

    goes_limits : (m : ℕ) → n ≡ suc m → Goes (At m) (λ x. At n) (limits true v n inside)
    unfolding limits
    goes_limits m is = goes_bind (flat (says_one (limit_says v _) (limit_flat _)))
        (λ least. goes_bind (flat (says_either _ _ _ (says_most least) (says_give v _))) (λ b. goes_bind (goes_close symbol.CloseBrace m is refl refl) (λ _. gives (λ ts x. x))))

    goes_short : (k : Symbol) (c : Cardinality) → outside (k ∷ []) nesting ≡ true → Goes (At n) (λ x. At n) (short true v n inside k c)
    unfolding short
    goes_short k c o = goes_bind (flat (flat_mark k o)) (λ _. gives (λ ts x. x))

    goes_cardinality : Goes (At n) (λ x. At n) (cardinality true v n inside)
    unfolding cardinality
    goes_cardinality = goes_either (goes_short _ _ refl) (goes_either (goes_short _ _ refl) (goes_either (goes_short _ _ refl)
        (goes_either (goes_opens symbol.OpenBrace _ refl refl (λ m is. goes_bind (goes_limits m is) (λ c. gives (λ ts x. x)))) (gives (λ ts x. x)))))

    goes_further_from : (y : ShapeExpr × Bool) → Goes (After false n y.1) (λ x. After false n x.1) (further_from true v n inside y)
    unfolding further_from
    goes_further_from y = goes_bind (goes_conjunction_from false y) (λ z. goes_disjunction_from false z)

    goes_further : (y : ShapeExpr × Bool) → Goes (After false n y.1) (λ x. After false n x.1) (further true v n inside y)
    unfolding further
    goes_further y = goes_bind (goes_further_from y) (λ z. gives (λ ts x. x))

    goes_dot_value : Goes (At n) (λ x. After false n x.1) (dot_value true v n inside)
    unfolding dot_value
    goes_dot_value = goes_bind (flat (flat_mark _ refl)) (λ _. goes_either (goes_further (empty_shape, false)) (gives (λ ts x. x)))

    goes_arc_value : Goes (At n) (λ x. After false n x.1) (arc_value true v n inside)
    unfolding arc_value
    goes_arc_value = goes_either goes_dot_value (goes_bind (goes_expression false) (λ y. gives (λ ts x. x)))

    goes_cardinality_behind : (flag : Bool) → Goes (After false n flag) (λ x. At n) (cardinality_behind true v n inside flag)
    unfolding cardinality_behind
    goes_cardinality_behind true ts (m, is, x, i) = goes_bind (goes_limits m is) (λ c. gives (λ ts x. x)) ts x
    goes_cardinality_behind false ts x = goes_cardinality ts x

    says_direction : Says v (direction true v n inside)
    unfolding direction
    says_direction = says_either _ _ _ (says_bind _ _ (flat_mark _ refl) (λ _. says_give v _)) (says_give v _)

    goes_an_arc : (l : Option Label) → Goes (At n) (λ x. At n) (an_arc true v n inside l)
    unfolding an_arc
    goes_an_arc l = goes_bind (flat says_direction)
        (λ inverse. goes_bind (flat (says_predicate v)) (λ p. goes_bind goes_arc_value (λ y. goes_bind (goes_cardinality_behind y.1) (λ c. goes_bind (flat (says_annotations v)) (λ _. gives (λ ts x. x))))))

    goes_grouped : (l : Option Label) → Goes (At n) (λ x. At n) (grouped true v n inside l)
    unfolding grouped
    goes_grouped l = goes_opens symbol.OpenParenthesis _ refl refl (λ m is. goes_bind ((inner m is).triple_expr) (λ t. goes_bind (goes_close symbol.CloseParenthesis m is refl refl) (λ _.
        goes_bind goes_cardinality (λ c. goes_bind (flat (says_annotations v)) (λ _. gives (λ ts x. x))))))

    goes_unlabelled : (l : Option Label) → Goes (At n) (λ x. At n) (unlabelled true v n inside l)
    unfolding unlabelled
    goes_unlabelled l = goes_either (goes_grouped l) (goes_an_arc l)

    says_inclusion : Says v (inclusion true v n inside)
    unfolding inclusion
    says_inclusion = says_bind _ _ (flat_mark _ refl) (λ _. says_bind _ _ (says_label v) (λ l. says_give v _))

    goes_unary : Goes (At n) (λ x. At n) (unary true v n inside)
    unfolding unary
    goes_unary = goes_either (flat says_inclusion) (goes_either (goes_bind (flat (flat_mark _ refl)) (λ _. goes_bind (flat (says_label v)) (λ l. goes_unlabelled (Some l)))) (goes_unlabelled None))

    goes_semicolon : (s : List TripleExpr × Bool) → Goes (At n) (λ x. At n) (semicolon true v n inside s)
    unfolding semicolon
    goes_semicolon (us, true) = flat (says_refuse v)
    goes_semicolon (us, false) = goes_bind (flat (flat_mark _ refl)) (λ _. goes_either (goes_bind goes_unary (λ t. gives (λ ts x. x))) (gives (λ ts x. x)))

    goes_group : Goes (At n) (λ x. At n) (group true v n inside)
    unfolding group
    goes_group = goes_bind goes_unary (λ t. goes_bind (goes_loop (λ (s : List TripleExpr × Bool). At n) _ _ goes_semicolon (t ∷ [], false)) (λ s. gives (λ ts x. x)))

    goes_bar : (us : List TripleExpr) → Goes (At n) (λ x. At n) (bar true v n inside us)
    unfolding bar
    goes_bar us = goes_bind (flat (flat_mark _ refl)) (λ _. goes_bind goes_group (λ t. gives (λ ts x. x)))

    goes_alternatives : Goes (At n) (λ x. At n) (alternatives true v n inside)
    unfolding alternatives
    goes_alternatives = goes_bind goes_group (λ t. goes_bind (goes_loop (λ (us : List TripleExpr). At n) _ _ goes_bar (t ∷ [])) (λ us. gives (λ ts x. x)))

  -- expressions in which so many brackets may open at most
  same_less : (e m : ℕ) → suc e ≡ suc m → e ≡ m
  same_less e m is = omega (arith, is)

  goes_level : (e : ℕ) → GoesInside e (level true v (suc e))
  unfolding level
  goes_level zero = record {
    expr = goes_expression zero (level true v zero) (λ m is. absurd (omega (arith, is))) true;
    triple_expr = goes_alternatives zero (level true v zero) (λ m is. absurd (omega (arith, is)));
  }
  goes_level (suc e) =
      let below = goes_level e in
      let inner : (m : ℕ) → suc e ≡ suc m → GoesInside m (level true v (suc e)) = λ m is. subst (λ (k : ℕ). GoesInside k (level true v (suc e))) (same_less e m is) below in record {
        expr = goes_expression (suc e) (level true v (suc e)) inner true;
        triple_expr = goes_alternatives (suc e) (level true v (suc e)) inner;
      }

  -- statements
  goes_whole : Goes (At d) (λ x. At d) (whole true d v)
  unfolding whole
  goes_whole = goes_bind ((goes_level d).expr) (λ y. gives (λ ts x. x))

  goes_first : (e : MaybeShapeExpr) → Goes (At d) (λ x. At d) (first_start true d e)
  unfolding first_start
  goes_first no_expr = flat (says_one (word_says v starts) (word_flat starts refl))
  goes_first (one_expr e) = flat (says_refuse v)

  -- a declaration: behind its label stands EXTERNAL or an expression
  record Labelled (ts : Ahead Spelled) : Type 0 where
    pub t : Spelled
    pub parts : start ≡ token t ts
    pub labels : IsLabelled v (t ∷ [])
    pub flat : is_among nesting t ≡ false

  at_start : At d start
  at_start = record { front = []; parts = refl; left = omega arith; same_scope = tt }

  after_label : (ts : Ahead Spelled) → Labelled ts → At d ts
  after_label ts l = flat_on d start ts (l.t ∷ [], l.parts, (l.flat, tt)) at_start

  one_label : {A : Type 0} {class : Spelled → Result A Fault} → ClassSays v class → FlatClass class →
      ((t : Spelled) (x : A) → class t ≡ Ok x → IsLabelled v (t ∷ [])) → Tells (one fault.Syntax class) (λ x ts. Labelled ts) Fails start
  unfolding at_start
  one_label h k labels = tells_one (syntax_at d start at_start) (λ t rest x is e. record { t = t; parts = is; labels = labels t x e; flat = k t x e })
      (λ t rest f is e. at_token start at_start f t rest is (h [] t f e))

  label_tells : Tells (label v) (λ l ts. Labelled ts) Fails start
  unfolding label iri
  label_tells = tells_either (λ _. tells_bind (one_label (label_says v) (label_flat v) (λ t name e. (t, refl, inr (name, e)))) (λ name ts l. tells_give l))
      (λ _. tells_bind (one_label (iri_says v) (iri_flat v) (λ t i e. (t, refl, inl (i, e)))) (λ i ts l. tells_give l))

  external_at : (ts : Ahead Spelled) → next_is (is_symbol symbol.External) ts ≡ true → Labelled ts → Fails fault.External ts
  external_at finished i l = absurd cc
  external_at broken i l = absurd cc
  external_at (token t ts) i l = record { front = l.t ∷ []; parts = l.parts; cause = inr (t, ts, refl, (i, l.labels)) }

  body_tells : (ts : Ahead Spelled) → Labelled ts → Tells (body true d v) (λ e. At d) Fails ts
  unfolding body
  body_tells ts l = tells_either (λ i. tells_refuse (external_at ts i l)) (λ _. goes_whole ts (after_label ts l))

  -- a directive: its faults are all of syntax
  of_syntax : {A : Type 0} {p : R A} → OfSyntax p → Tells p (λ x ts. Unit {0}) Fails start
  of_syntax h = tells_so (λ x ts k. tt) (λ f ts (is, (front, parts)). record { front = front; parts = parts; cause = inl is }) (h.tells start)

  syntax_directives : OfSyntax (base_directive true d a) × OfSyntax (prefix_directive true d a)
  unfolding base_directive prefix_directive
  syntax_directives = (
    syntax_bind (syntax_one (mark_fault symbol.SparqlBase)) (λ w. syntax_bind (syntax_one (iri_ref_fault v)) (λ i. syntax_give _)),
    syntax_bind (syntax_one (mark_fault symbol.SparqlPrefix)) (λ w. syntax_bind (syntax_one (mark_fault symbol.PnameNs)) (λ t. syntax_bind (syntax_one (iri_ref_fault v)) (λ i. syntax_give _))),
  )

  goes_import : Goes (At d) (λ x. At d) (import_directive true d a)
  unfolding import_directive
  goes_import = flat (says_bind _ _ (flat_mark _ refl) (λ w. says_bind _ _ (says_iri v) (λ i. says_give v _)))

  goes_start : Goes (At d) (λ x. At d) (start_directive true d a)
  unfolding start_directive
  goes_start = goes_bind (goes_first a.start) (λ w. goes_bind (flat (flat_mark _ refl)) (λ t. goes_bind goes_whole (λ e. gives (λ ts x. x))))

  declaration_tells : Tells (declaration true d a) (λ x ts. Unit {0}) Fails start
  unfolding declaration
  declaration_tells = tells_bind label_tells (λ l ts x. tells_bind (body_tells ts x) (λ e r k. tells_give tt))

  told : {p : R State} → Goes (At d) (λ x. At d) p → Tells p (λ x ts. Unit {0}) Fails start
  told h = tells_so (λ x ts k. tt) (λ f ts k. k) (h start at_start)

  statement_tells : Tells (statement true d a) (λ x ts. Unit {0}) Fails start
  unfolding statement
  statement_tells = tells_either (λ _. of_syntax syntax_directives.0) (λ _. tells_either (λ _. of_syntax syntax_directives.1) (λ _. tells_either (λ _. told goes_import)
      (λ _. tells_either (λ _. told goes_start) (λ _. declaration_tells))))

statement_fails : (a : State) (d : ℕ) (ts rest : Ahead Spelled) (f : Fault) → statement true d a ts ≡ Err (f, rest) → Fails a d ts f rest
statement_fails a d ts rest f e = (statement_tells a d ts).bad (f, rest) e

module _ (d : ℕ) where
  -- where a document is at fault: statements lead to a state, and from there on the fault has its cause
  pub record Stopped (a : State) (ts : Ahead Spelled) (f : Fault) (rest : Ahead Spelled) : Type 0 where
    pub state : State
    pub mid : Ahead Spelled
    pub statements : Many (Statement true d) a state ts mid
    pub front : List Spelled
    pub passed : ts ≡ prepend front mid
    pub inside : List Spelled
    pub parts : mid ≡ prepend inside rest
    pub cause : Caused d state.scope f inside rest

  here_stopped : (a : State) (ts : Ahead Spelled) (e : Fault × Ahead Spelled) → statement true d a ts ≡ Err e → Stopped a ts e.0 e.1
  here_stopped a ts e is =
      let f = statement_fails a d ts e.1 e.0 is in
      record { state = a; mid = ts; statements = none; front = []; passed = refl; inside = f.front; parts = f.parts; cause = f.cause }

  later_stopped : (a x : State) (ts r : Ahead Spelled) (f : Fault) (rest : Ahead Spelled) → statement true d a ts ≡ Ok (x, r) → Stopped x r f rest → Stopped a ts f rest
  later_stopped a x ts r f rest is h =
      let p = both_fronts ts r h.mid (front_ok (statement true d a) ts (statement true d a ts) x r is (local_statement true d a ts)) (h.front, h.passed) in
      record {
        state = h.state;
        mid = h.mid;
        statements = more ((statement_meets true d a ts).holds (x, r) is) h.statements;
        front = p.0;
        passed = p.1;
        inside = h.inside;
        parts = h.parts;
        cause = h.cause;
      }

  turn_stopped : (go : State → Ahead Spelled → Answer Spelled Fault State) (a : State) (ts : Ahead Spelled) (b : Bool) (e : Fault × Ahead Spelled) (y : Answer Spelled Fault State)
      → ((x : State) (r : Ahead Spelled) → go x r ≡ Err e → Stopped x r e.0 e.1) → statement true d a ts ≡ y → cond b (and_then y go) (Ok (a, ts)) ≡ Err e → Stopped a ts e.0 e.1
  turn_stopped go a ts false e y ih s is = absurd (apart (a, ts) e is)
  turn_stopped go a ts true e (Err q) ih s is = here_stopped a ts e (s ∙ is)
  turn_stopped go a ts true e (Ok x) ih s is = later_stopped a x.0 ts x.1 e.0 e.1 s (ih x.0 x.1 is)

  loop_stopped : (n : ℕ) (a : State) (ts : Ahead Spelled) (e : Fault × Ahead Spelled) → loop_within n is_any (statement true d) a ts ≡ Err e → Stopped a ts e.0 e.1
  loop_stopped zero a ts e is = absurd (apart (a, ts) e is)
  loop_stopped (suc n) a ts e is = turn_stopped (loop_within n is_any (statement true d)) a ts (next_is is_any ts) e (statement true d a ts) (λ x r k. loop_stopped n x r e k) refl is

  last_fault : (b : State) (m : Ahead Spelled) (e : Fault × Ahead Spelled) → finish fault.Syntax b m ≡ Err e → (fault.Syntax, m) ≡ e
  last_fault b finished e is = absurd (apart (b, finished) e is)
  last_fault b broken e is = err_is (fault.Syntax, broken) e is
  last_fault b (token t ts) e is = err_is (fault.Syntax, token t ts) e is

  all_stopped : (a : State) (ts : Ahead Spelled) (y : Answer Spelled Fault State) (e : Fault × Ahead Spelled) → loop is_any (statement true d) a ts ≡ y →
      and_then y (finish fault.Syntax) ≡ Err e → Stopped a ts e.0 e.1
  unfolding loop
  all_stopped a ts (Err q) e s is = loop_stopped (count ts) a ts e (s ∙ is)
  all_stopped a ts (Ok x) e s is =
      let f = front_ok (loop is_any (statement true d) a) ts (loop is_any (statement true d) a ts) x.0 x.1 s (local_loop is_any (statement true d) (consumes_statement true d) (local_statement true d) a ts) in
      subst (λ (q : Fault × Ahead Spelled). Stopped a ts q.0 q.1) (last_fault x.0 x.1 e is) (record {
        state = x.0;
        mid = x.1;
        statements = (meets_loop is_any (statement true d) (Statement true d) (consumes_statement true d) (statement_meets true d) a ts).holds x s;
        front = f.0;
        passed = f.1;
        inside = [];
        parts = refl;
        cause = inl refl;
      })

  pub stopped : (a : State) (ts : Ahead Spelled) (f : Fault) (rest : Ahead Spelled) → document true d a ts ≡ Err (f, rest) → Stopped a ts f rest
  unfolding document
  stopped a ts f rest is = all_stopped a ts (loop is_any (statement true d) a ts) (f, rest) refl is

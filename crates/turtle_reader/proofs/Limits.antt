-- Without the limits a document is read in the same way, but for what passes them.
use Rattle.std.proofs.Common.{◌≡◌, ℕ, zero, suc, ◌≤◌, ◌+◌, Bool, true, false, cond, List, [], ◌++◌, Option, Some, None, length, refl, sym, ap, subst, ◌∙◌, arith, Result, Ok, Err, ◌⊎◌, inl, inr, encode_utf8_all}
use Rattle.std.specs.Prelude.{nat_lt, ◌&&◌}
use Rattle.iri_resolve.specs.Resolution.{resolved_text}
use Rattle.rdf_terms.specs.declared.terms.Term.{Term}
use Rattle.rdf_cursor.specs.Ahead.{Ahead, finished, prepend}
use Rattle.rdf_cursor.specs.Properties.{IsLocalAt, Agrees, AgreesAt, Blocked}
use Rattle.rdf_cursor.specs.Readers.{Answer, refuse}
use Rattle.rdf_cursor.proofs.Agreement.{ClassAgrees, agrees_give, agrees_one, agrees_bind, agrees_either, agrees_finish, agrees_loop}
use Rattle.rdf_cursor.proofs.Answers.{apart, ok_is, err_is}
use Rattle.rdf_lex.specs.Tokens.{Spelled}
use Rattle.term_tokens.specs.Meanings.{text_of}
use Rattle.graph_index.specs.declared.loading.TermTriple.{TermTriple}
use Rattle.rdf_cursor.specs.declared.stops.Fault.{Fault}
use Rattle.rdf_cursor.specs.declared.stops.Fault.TheVariants as faults
use Rattle.rdf_cursor.specs.declared.symbols.Symbol.{Symbol}
use Rattle.rdf_cursor.specs.declared.symbols.Symbol.TheVariants as symbol
use Rattle.turtle_reader.specs.Documents.{inner_depth}
use Rattle.turtle_reader.specs.Grammar.{Document}
use Rattle.term_tokens.specs.Terms.{max_text, resolved, joined, iri_ref_of, iri_of, lexical, string_of, typed_of, shorthand_of, prefix_of, names, shorthands, blank_of}
use Rattle.term_tokens.proofs.Agreeing.{typed_by_agrees, tagged_agrees, agrees_mark}
use Rattle.turtle_reader.specs.Meanings.{max_anonymous, numbered}
use Rattle.turtle_reader.specs.Reading.{R, settled, next_node, iri_ref, iri, literal, resource, simple, verb, one_object, comma, objects, pair, semicolon, predicates, node, in_cell, member, next_member, cells, collection, object, subject, about_subject, listed, about_node, triples, ended, prefix_declaration, base_declaration, behind, statement, further, document}
use Rattle.turtle_reader.specs.States.{names_in, DocumentScope, anonymous, counted}
use Rattle.rdf_cursor.specs.Symbols.{is_symbol, is_among, is_any}
use Rattle.turtle_reader.proofs.Complete.{document_read}
use Rattle.turtle_reader.proofs.Sound.{document_meets}
use Rattle.turtle_reader.proofs.Places.{local_object, consumes_object, consumes_comma, consumes_semicolon, consumes_next_member, consumes_further, local_document}

-- faults that have nothing to do with the limits, and the others
abbrev pub Common : Fault → Type 0
Common faults.Syntax = Unit {0}
Common faults.Prefix = Unit {0}
Common faults.Deep = ⊥
Common faults.Long = ⊥
Common faults.Full = ⊥

abbrev pub IsLimit : Fault → Ahead Spelled → Type 0
IsLimit faults.Syntax ts = ⊥
IsLimit faults.Prefix ts = ⊥
IsLimit faults.Deep ts = Unit {0}
IsLimit faults.Long ts = Unit {0}
IsLimit faults.Full ts = Unit {0}

abbrev Agree : {A : Type 0} → Spelled → Result A Fault → Result A Fault → Type 0
Agree t c d = ClassAgrees Common IsLimit t c d

abbrev Same : {A : Type 0} → R A → R A → Type 0
Same p q = Agrees Common IsLimit p q

limited_agrees : {A : Type 0} (t : Spelled) (x : A) (b : Bool) → Agree t (cond b (Err faults.Long) (Ok x)) (Ok x)
limited_agrees t x true = inr (λ ts. tt)
limited_agrees t x false = refl

syntax_agrees : {A : Type 0} (t : Spelled) → Agree {A = A} t (Err faults.Syntax) (Err faults.Syntax)
syntax_agrees t = inl (tt, refl)

cond_agrees : {A : Type 0} (t : Spelled) (b : Bool) (c d e f : Result A Fault) → Agree t c d → Agree t e f → Agree t (cond b c e) (cond b d f)
cond_agrees t true c d e f a h = a
cond_agrees t false c d e f a h = h

-- with the limits, or without them from one depth to another
module _ (j : Bool) where
  resolved_agrees : (t : Spelled) (v : DocumentScope) (o : Option (List ℕ)) → Agree t (resolved j (names_in v) o) (resolved false (names_in v) o)
  resolved_agrees t v None = syntax_agrees t
  resolved_agrees t v (Some text) = let iri = resolved_text v.base (encode_utf8_all text) in limited_agrees t iri (j && nat_lt max_text (length iri))

  joined_agrees : (t : Spelled) (o p : Option (List ℕ)) → Agree t (joined j o p) (joined false o p)
  joined_agrees t None p = syntax_agrees t
  joined_agrees t (Some local) None = inl (tt, refl)
  joined_agrees t (Some local) (Some iri) = let whole = iri ++ encode_utf8_all local in limited_agrees t whole (j && nat_lt max_text (length whole))

  iri_ref_agrees : (v : DocumentScope) (t : Spelled) → Agree t (iri_ref_of j (names_in v) t) (iri_ref_of false (names_in v) t)
  unfolding iri_ref_of
  iri_ref_agrees v t = cond_agrees t (is_symbol symbol.IriRef t) _ _ _ _ (resolved_agrees t v (text_of t)) (syntax_agrees t)

  iri_agrees : (v : DocumentScope) (t : Spelled) → Agree t (iri_of j (names_in v) t) (iri_of false (names_in v) t)
  unfolding iri_of
  iri_agrees v t = cond_agrees t (is_among names t) _ _ _ _ (joined_agrees t (text_of t) (v.prefixes (prefix_of t))) (iri_ref_agrees v t)

  blank_agrees : (t : Spelled) → Agree t (blank_of j t) (blank_of false t)
  unfolding blank_of
  blank_agrees t = cond_agrees t (is_symbol symbol.BlankLabel t) _ _ _ _ (limited_agrees t _ _) (syntax_agrees t)

  lexical_agrees : (t : Spelled) (o : Option (List ℕ)) → Agree t (lexical j o) (lexical false o)
  lexical_agrees t None = syntax_agrees t
  lexical_agrees t (Some text) = limited_agrees t text (j && nat_lt max_text (length (encode_utf8_all text)))

  string_agrees : (t : Spelled) → Agree t (string_of j t) (string_of false t)
  unfolding string_of
  string_agrees t = cond_agrees t (is_symbol symbol.Str t) _ _ _ _ (lexical_agrees t (text_of t)) (syntax_agrees t)

  typed_of_agrees : (v : DocumentScope) (lex : List ℕ) (t : Spelled) → Agree t (typed_of j (names_in v) lex t) (typed_of false (names_in v) lex t)
  unfolding typed_of
  typed_of_agrees v lex t = typed_by_agrees Common IsLimit tt t lex (iri_of j (names_in v) t) (iri_of false (names_in v) t) (iri_agrees v t)

  shorthand_agrees : (t : Spelled) → Agree t (shorthand_of j t) (shorthand_of false t)
  unfolding shorthand_of
  shorthand_agrees t = cond_agrees t (is_among shorthands t) _ _ _ _ (limited_agrees t _ _) (syntax_agrees t)

  settled_agrees : {A : Type 0} (x : A) (b : Bool) → Same (settled (cond b (Err faults.Full) (Ok x))) (settled (Ok x))
  settled_agrees x true ts = inr tt
  settled_agrees x false ts = refl

  same_next : (v : DocumentScope) → Same (next_node j v) (next_node false v)
  unfolding next_node numbered
  same_next v = settled_agrees (anonymous v.next, counted v) (j && nat_lt max_anonymous v.next)

  same_iri_ref : (v : DocumentScope) → Same (iri_ref j v) (iri_ref false v)
  unfolding iri_ref
  same_iri_ref v = agrees_one Common IsLimit faults.Syntax _ _ tt (iri_ref_agrees v)

  same_iri : (v : DocumentScope) → Same (iri j v) (iri false v)
  unfolding iri
  same_iri v = agrees_one Common IsLimit faults.Syntax _ _ tt (iri_agrees v)

  same_literal : (v : DocumentScope) → Same (literal j v) (literal false v)
  unfolding literal
  same_literal v = agrees_bind Common IsLimit _ _ _ _ (agrees_one Common IsLimit faults.Syntax _ _ tt string_agrees) (λ lex.
      agrees_either Common IsLimit _ _ _ _ _ (agrees_one Common IsLimit faults.Syntax _ _ tt (tagged_agrees Common IsLimit tt lex))
      (agrees_either Common IsLimit _ _ _ _ _ (agrees_bind Common IsLimit _ _ _ _ (agrees_mark Common IsLimit tt symbol.Carets) (λ _. agrees_one Common IsLimit faults.Syntax _ _ tt (typed_of_agrees v lex))) (agrees_give Common IsLimit _)))

  same_resource : (v : DocumentScope) → Same (resource j v) (resource false v)
  unfolding resource
  same_resource v = agrees_either Common IsLimit _ _ _ _ _ (agrees_one Common IsLimit faults.Syntax _ _ tt blank_agrees)
      (agrees_bind Common IsLimit _ _ _ _ (same_iri v) (λ i. agrees_give Common IsLimit _))

  same_simple : (v : DocumentScope) → Same (simple j v) (simple false v)
  unfolding simple
  same_simple v = agrees_either Common IsLimit _ _ _ _ _ (same_literal v) (agrees_either Common IsLimit _ _ _ _ _ (agrees_one Common IsLimit faults.Syntax _ _ tt shorthand_agrees) (same_resource v))

  same_verb : (v : DocumentScope) → Same (verb j v) (verb false v)
  unfolding verb
  same_verb v = agrees_either Common IsLimit _ _ _ _ _ (agrees_bind Common IsLimit _ _ _ _ (agrees_mark Common IsLimit tt symbol.A) (λ _. agrees_give Common IsLimit _)) (same_iri v)

  module _ (d e : ℕ) (each : (v : DocumentScope) → Same (object j d v) (object false e v)) where
    same_one : (s : Term) (p : List ℕ) (v : DocumentScope) → Same (one_object j (object j d) s p v) (one_object false (object false e) s p v)
    unfolding one_object
    same_one s p v = agrees_bind Common IsLimit _ _ _ _ (each v) (λ x. agrees_give Common IsLimit _)

    same_comma : (s : Term) (p : List ℕ) (v : DocumentScope) → Same (comma j (object j d) s p v) (comma false (object false e) s p v)
    unfolding comma
    same_comma s p v = agrees_bind Common IsLimit _ _ _ _ (agrees_mark Common IsLimit tt symbol.Comma) (λ _. same_one s p v)

    same_objects : (s : Term) (p : List ℕ) (v : DocumentScope) → Same (objects j (object j d) s p v) (objects false (object false e) s p v)
    unfolding objects
    same_objects s p v = agrees_bind Common IsLimit _ _ _ _ (same_one s p v) (λ u. agrees_loop Common IsLimit _ _ _
        (consumes_comma j (object j d) (local_object j d) (consumes_object j d) s p) (consumes_comma false (object false e) (local_object false e) (consumes_object false e) s p) (same_comma s p) u)

    same_pair : (s : Term) (v : DocumentScope) → Same (pair j (object j d) s v) (pair false (object false e) s v)
    unfolding pair
    same_pair s v = agrees_bind Common IsLimit _ _ _ _ (same_verb v) (λ p. same_objects s p v)

    same_semicolon : (s : Term) (v : DocumentScope) → Same (semicolon j (object j d) s v) (semicolon false (object false e) s v)
    unfolding semicolon
    same_semicolon s v = agrees_bind Common IsLimit _ _ _ _ (agrees_mark Common IsLimit tt symbol.Semicolon)
        (λ _. agrees_either Common IsLimit _ _ _ _ _ (same_pair s v) (agrees_give Common IsLimit _))

    same_predicates : (s : Term) (v : DocumentScope) → Same (predicates j (object j d) s v) (predicates false (object false e) s v)
    unfolding predicates
    same_predicates s v = agrees_bind Common IsLimit _ _ _ _ (same_pair s v) (λ u. agrees_loop Common IsLimit _ _ _
        (consumes_semicolon j (object j d) (local_object j d) (consumes_object j d) s)
        (consumes_semicolon false (object false e) (local_object false e) (consumes_object false e) s) (same_semicolon s) u)

    same_node : (v : DocumentScope) → Same (node j (object j d) v) (node false (object false e) v)
    unfolding node
    same_node v = agrees_bind Common IsLimit _ _ _ _ (agrees_mark Common IsLimit tt symbol.OpenBracket) (λ _. agrees_bind Common IsLimit _ _ _ _ (same_next v) (λ x.
        agrees_bind Common IsLimit _ _ _ _ (agrees_either Common IsLimit _ _ _ _ _ (agrees_give Common IsLimit _) (same_predicates _ _)) (λ w.
        agrees_bind Common IsLimit _ _ _ _ (agrees_mark Common IsLimit tt symbol.CloseBracket) (λ _. agrees_give Common IsLimit _))))

    same_in_cell : (cell : Term) (v : DocumentScope) → Same (in_cell j (object j d) cell v) (in_cell false (object false e) cell v)
    unfolding in_cell
    same_in_cell cell v = agrees_bind Common IsLimit _ _ _ _ (each v) (λ x. agrees_give Common IsLimit _)

    same_member : (v : DocumentScope) → Same (member j (object j d) v) (member false (object false e) v)
    unfolding member
    same_member v = agrees_bind Common IsLimit _ _ _ _ (same_next v) (λ x. same_in_cell _ _)

    same_next_member : (a : Term × DocumentScope) → Same (next_member j (object j d) a) (next_member false (object false e) a)
    unfolding next_member
    same_next_member a = agrees_bind Common IsLimit _ _ _ _ (same_next a.1) (λ x. same_in_cell _ _)

    same_cells : (v : DocumentScope) → Same (cells j (object j d) v) (cells false (object false e) v)
    unfolding cells
    same_cells v = agrees_bind Common IsLimit _ _ _ _ (same_member v) (λ f. agrees_bind Common IsLimit _ _ _ _ (agrees_loop Common IsLimit _ _ _
        (consumes_next_member j (object j d) (local_object j d) (consumes_object j d))
        (consumes_next_member false (object false e) (local_object false e) (consumes_object false e)) same_next_member f) (λ l.
        agrees_bind Common IsLimit _ _ _ _ (agrees_mark Common IsLimit tt symbol.CloseParenthesis) (λ _. agrees_give Common IsLimit _)))

    same_collection : (v : DocumentScope) → Same (collection j (object j d) v) (collection false (object false e) v)
    unfolding collection
    same_collection v = agrees_bind Common IsLimit _ _ _ _ (agrees_mark Common IsLimit tt symbol.OpenParenthesis) (λ _.
        agrees_either Common IsLimit _ _ _ _ _ (agrees_bind Common IsLimit _ _ _ _ (agrees_mark Common IsLimit tt symbol.CloseParenthesis) (λ _. agrees_give Common IsLimit _)) (same_cells v))

  deep_agrees : {A : Type 0} (p : R A) → Same (refuse faults.Deep) p
  deep_agrees p ts = inr tt

  same_object : (d e : ℕ) → d ≤ e → (v : DocumentScope) → Same (object j d v) (object false e v)
  unfolding object
  same_object zero zero le v = agrees_either Common IsLimit _ _ _ _ _ (deep_agrees _)
      (agrees_either Common IsLimit _ _ _ _ _ (deep_agrees _) (agrees_bind Common IsLimit _ _ _ _ (same_simple v) (λ x. agrees_give Common IsLimit _)))
  same_object zero (suc e) le v = agrees_either Common IsLimit _ _ _ _ _ (deep_agrees _)
      (agrees_either Common IsLimit _ _ _ _ _ (deep_agrees _) (agrees_bind Common IsLimit _ _ _ _ (same_simple v) (λ x. agrees_give Common IsLimit _)))
  same_object (suc d) zero le v = absurd (omega arith)
  same_object (suc d) (suc e) le v =
      agrees_either Common IsLimit _ _ _ _ _ (same_node d e (λ u. same_object d e (omega arith) u) v)
      (agrees_either Common IsLimit _ _ _ _ _ (same_collection d e (λ u. same_object d e (omega arith) u) v) (agrees_bind Common IsLimit _ _ _ _ (same_simple v) (λ x. agrees_give Common IsLimit _)))

  same_ended : (p q : DocumentScope → R DocumentScope) → ((v : DocumentScope) → Same (p v) (q v)) → (v : DocumentScope) → Same (ended j p v) (ended false q v)
  unfolding ended
  same_ended p q h v = agrees_bind Common IsLimit _ _ _ _ (h v) (λ w. agrees_bind Common IsLimit _ _ _ _ (agrees_mark Common IsLimit tt symbol.Dot) (λ _. agrees_give Common IsLimit _))

  same_behind : (a : Symbol) (p q : DocumentScope → R DocumentScope) → ((v : DocumentScope) → Same (p v) (q v)) → (v : DocumentScope) → Same (behind j a p v) (behind false a q v)
  unfolding behind
  same_behind a p q h v = agrees_bind Common IsLimit _ _ _ _ (agrees_mark Common IsLimit tt a) (λ _. h v)

  same_prefix : (v : DocumentScope) → Same (prefix_declaration j v) (prefix_declaration false v)
  unfolding prefix_declaration
  same_prefix v = agrees_bind Common IsLimit _ _ _ _ (agrees_mark Common IsLimit tt symbol.PnameNs) (λ t. agrees_bind Common IsLimit _ _ _ _ (same_iri_ref v) (λ i. agrees_give Common IsLimit _))

  same_base : (v : DocumentScope) → Same (base_declaration j v) (base_declaration false v)
  unfolding base_declaration
  same_base v = agrees_bind Common IsLimit _ _ _ _ (same_iri_ref v) (λ i. agrees_give Common IsLimit _)

  module _ (d e : ℕ) (le : d ≤ e) where
    same_within : (s : Term) (v : DocumentScope) → Same (predicates j (object j d) s v) (predicates false (object false e) s v)
    same_within s v = same_predicates d e (same_object d e le) s v

    same_outside : (s : Term) (v : DocumentScope) → Same (predicates j (object j (suc d)) s v) (predicates false (object false (suc e)) s v)
    same_outside s v = same_predicates (suc d) (suc e) (same_object (suc d) (suc e) (omega arith)) s v

    same_subject : (v : DocumentScope) → Same (subject j d v) (subject false e v)
    unfolding subject
    same_subject v = agrees_either Common IsLimit _ _ _ _ _ (same_collection d e (same_object d e le) v) (agrees_bind Common IsLimit _ _ _ _ (same_resource v) (λ x. agrees_give Common IsLimit _))

    same_about_subject : (v : DocumentScope) → Same (about_subject j d v) (about_subject false e v)
    unfolding about_subject
    same_about_subject v = agrees_bind Common IsLimit _ _ _ _ (same_subject v) (λ x. same_outside _ _)

    same_listed : (s : Term) (v : DocumentScope) → Same (listed j d s v) (listed false e s v)
    unfolding listed
    same_listed s v = agrees_bind Common IsLimit _ _ _ _ (same_within s v) (λ w. agrees_bind Common IsLimit _ _ _ _ (agrees_mark Common IsLimit tt symbol.CloseBracket) (λ _.
        agrees_either Common IsLimit _ _ _ _ _ (same_outside _ _) (agrees_give Common IsLimit _)))

    same_about_node : (v : DocumentScope) → Same (about_node j d v) (about_node false e v)
    unfolding about_node
    same_about_node v = agrees_bind Common IsLimit _ _ _ _ (agrees_mark Common IsLimit tt symbol.OpenBracket) (λ _. agrees_bind Common IsLimit _ _ _ _ (same_next v) (λ x.
        agrees_either Common IsLimit _ _ _ _ _ (agrees_bind Common IsLimit _ _ _ _ (agrees_mark Common IsLimit tt symbol.CloseBracket) (λ _. same_outside _ _)) (same_listed _ _)))

    same_triples : (v : DocumentScope) → Same (triples j d v) (triples false e v)
    unfolding triples
    same_triples v = agrees_either Common IsLimit _ _ _ _ _ (same_about_node v) (same_about_subject v)

    same_statement : (v : DocumentScope) → Same (statement j d v) (statement false e v)
    unfolding statement
    same_statement v =
        agrees_either Common IsLimit _ _ _ _ _ (same_behind _ _ _ (same_ended _ _ same_prefix) v) (agrees_either Common IsLimit _ _ _ _ _ (same_behind _ _ _ (same_ended _ _ same_base) v)
        (agrees_either Common IsLimit _ _ _ _ _ (same_behind _ _ _ same_prefix v) (agrees_either Common IsLimit _ _ _ _ _ (same_behind _ _ _ same_base v) (same_ended _ _ same_triples v))))

    same_further : (a : DocumentScope × List TermTriple) → Same (further j d a) (further false e a)
    unfolding further
    same_further a = agrees_bind Common IsLimit _ _ _ _ (same_statement a.0) (λ w. agrees_give Common IsLimit _)

    pub same_document : (v : DocumentScope) → Same (document j d v) (document false e v)
    unfolding document
    same_document v = agrees_bind Common IsLimit _ _ _ _ (agrees_loop Common IsLimit is_any (further j d) (further false e) (consumes_further j d) (consumes_further false e) same_further (v, []))
        (λ x. agrees_finish Common IsLimit faults.Syntax x tt)

-- a fault that has nothing to do with the limits is one of every document
not_limit : (f : Fault) (ts : Ahead Spelled) → Common f → IsLimit f ts → ⊥
not_limit faults.Syntax ts c l = l
not_limit faults.Prefix ts c l = l
not_limit faults.Deep ts c l = c
not_limit faults.Long ts c l = c
not_limit faults.Full ts c l = c

abbrev pub AnyDocument : DocumentScope → DocumentScope × List TermTriple → Ahead Spelled → Type 0
AnyDocument v x ts = (d : ℕ) × (inner_depth ≤ d) × Document false d v x ts

no_any : (v : DocumentScope) (ts other : Ahead Spelled) (f : Fault) → Common f → document true inner_depth v ts ≡ Err (f, other) → (x : DocumentScope × List TermTriple) → ¬ AnyDocument v x ts
no_any v ts other f c e x (d, le, doc) =
    by (subst (λ (a : Answer Spelled Fault (DocumentScope × List TermTriple)). AgreesAt Common IsLimit a (document false d v ts)) e (same_document true inner_depth d le v ts))
  where
    by : (Common f × (document false d v ts ≡ Err (f, other))) ⊎ IsLimit f other → ⊥
    by (inl (k, g)) = apart (x, finished) (f, other) (sym (document_read false d v x ts doc) ∙ g)
    by (inr l) = not_limit f other c l

blocked_at : (v : DocumentScope) (ts : Ahead Spelled) (a : Answer Spelled Fault (DocumentScope × List TermTriple)) (f : Fault) (rest : Ahead Spelled) → Common f → a ≡ Err (f, rest)
    → IsLocalAt (document true inner_depth v) ts a → Blocked (AnyDocument v) ts rest
blocked_at v ts (Ok y) f rest c e l = absurd cc
blocked_at v ts (Err y) f rest c e l =
    let same : y ≡ (f, rest) = err_is y (f, rest) e in
    let k : Common y.0 = subst (λ (z : Fault × Ahead Spelled). Common z.0) (sym same) c in
    subst (λ (z : Fault × Ahead Spelled). Blocked (AnyDocument v) ts z.1) same (record {
      front = l.0;
      parts = l.1;
      none = λ x other h s. no_any v (prepend l.0 other) other y.0 k (l.2 other h) x s;
    })

pub blocked_any : (v : DocumentScope) (ts : Ahead Spelled) (f : Fault) (rest : Ahead Spelled) → Common f → document true inner_depth v ts ≡ Err (f, rest) → Blocked (AnyDocument v) ts rest
blocked_any v ts f rest c e = blocked_at v ts (document true inner_depth v ts) f rest c e (local_document true inner_depth v ts)

-- with or without the limits, a document is read at any greater depth without them
read_deeper : (j : Bool) (d e : ℕ) → d ≤ e → (v : DocumentScope) (x : DocumentScope × List TermTriple) (ts : Ahead Spelled) → Document j d v x ts → document false e v ts ≡ Ok (x, finished)
read_deeper j d e le v x ts h =
    subst (λ (a : Answer Spelled Fault (DocumentScope × List TermTriple)). AgreesAt Common IsLimit a (document false e v ts)) (document_read j d v x ts h) (same_document j d e le v ts)

-- what lies ahead is one document at most
pub one_any : (v : DocumentScope) (x y : DocumentScope × List TermTriple) (ts : Ahead Spelled) → AnyDocument v x ts → AnyDocument v y ts → x ≡ y
one_any v x y ts (d, l, h) (e, m, k) =
    let a = read_deeper false d (d + e) (omega arith) v x ts h in
    let b = read_deeper false e (d + e) (omega arith) v y ts k in
    ap (λ (z : (DocumentScope × List TermTriple) × Ahead Spelled). z.0) (ok_is (x, finished) (y, finished) (sym a ∙ b))

-- a document within the limits is one
pub any_of_limited : (v : DocumentScope) (x : DocumentScope × List TermTriple) (ts : Ahead Spelled) → Document true inner_depth v x ts → AnyDocument v x ts
any_of_limited v x ts h =
    (inner_depth, omega arith, (document_meets false inner_depth v ts).holds (x, finished) (read_deeper true inner_depth inner_depth (omega arith) v x ts h))

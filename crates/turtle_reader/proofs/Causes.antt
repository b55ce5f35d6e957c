-- What each fault came from: the next token, in the base and the prefixes of the statement.
use Rattle.std.proofs.Common.{◌≡◌, ◌<◌, Bool, true, false, cond, ℕ, zero, suc, List, [], ◌∷◌, ◌++◌, Option, Some, None, length, Result, Ok, Err, refl, sym, subst, ◌∙◌, encode_utf8_all}
use Rattle.std.specs.Prelude.{nat_lt}
use Rattle.std.specs.List.{after_first}
use Rattle.std.specs.Str.{chars}
use Rattle.std.proofs.lemmas.Bool.{ltb-true}
use Rattle.iri_resolve.specs.Resolution.{resolved_text}
use Rattle.rdf_terms.specs.Vocabulary.{rdf_lang_string, rdf_rest}
use Rattle.rdf_terms.specs.Texts.{same_text}
use Rattle.rdf_terms.specs.declared.terms.Term.{Term}
use Rattle.rdf_cursor.specs.Ahead.{Ahead, finished, token}
use Rattle.rdf_cursor.specs.Readers.{one}
use Rattle.rdf_cursor.proofs.Answers.{apart, err_is}
use Rattle.rdf_lex.specs.Tokens.{Spelled}
use Rattle.term_tokens.specs.Meanings.{text_of}
use Rattle.rdf_cursor.specs.declared.stops.Fault.{Fault}
use Rattle.rdf_cursor.specs.declared.stops.Fault.TheVariants as faults
use Rattle.rdf_cursor.specs.declared.symbols.Symbol.{Symbol}
use Rattle.rdf_cursor.specs.declared.symbols.Symbol.TheVariants as symbol
use Rattle.turtle_reader.specs.Causes.{bare, brackets, IsLong, by_iri, by_label, by_string, by_number, Causes}
use Rattle.term_tokens.specs.Terms.{max_text, is_colon, resolved, joined, iri_ref_of, iri_of, lexical, string_of, typed, typed_by, typed_of, tagged_of, shorthand_of, prefix_of, names, tags, shorthands, blank_of}
use Rattle.turtle_reader.specs.Meanings.{max_anonymous, numbered}
use Rattle.turtle_reader.specs.Reading.{R, Terms, settled, next_node, iri_ref, iri, literal, resource, simple, verb, one_object, comma, objects, pair, semicolon, predicates, node, in_cell, member, next_member, cells, collection, object, subject, about_subject, listed, about_node, triples, ended, prefix_declaration, base_declaration, behind, statement}
use Rattle.rdf_cursor.specs.Marks.{mark}
use Rattle.turtle_reader.specs.States.{names_in, DocumentScope, added, anonymous, counted}
use Rattle.rdf_cursor.specs.Symbols.{is_symbol, is_among}
use Rattle.term_tokens.proofs.Nexts.{nexts, no_next, first_of}
use Rattle.rdf_cursor.proofs.Tells.{Tells, tells_give, tells_refuse, tells_one, tells_bind, tells_either, tells_loop}

-- classes
syntax_only : (v : DocumentScope) (t : Spelled) (rest : Ahead Spelled) (f : Fault) → faults.Syntax ≡ f → Causes v f (token t rest)
syntax_only v t rest f e = subst (λ (g : Fault). Causes v g (token t rest)) e tt

limited_cause : {A : Type 0} (v : DocumentScope) (t : Spelled) (rest : Ahead Spelled) (bytes : List ℕ) (x : A) (b : Bool) (f : Fault) →
    nat_lt max_text (length bytes) ≡ b → (max_text < length bytes → IsLong v t) → cond b (Err faults.Long) (Ok x) ≡ Err f → Causes v f (token t rest)
limited_cause v t rest bytes x true f l long e = subst (λ (g : Fault). Causes v g (token t rest)) (err_is faults.Long f e) (t, rest, refl, long (ltb-true max_text (length bytes) l))
limited_cause v t rest bytes x false f l long e = absurd (apart x f e)

cond_cause : {A : Type 0} (v : DocumentScope) (t : Spelled) (rest : Ahead Spelled) (b c : Bool) (x : Result A Fault) (f : Fault) → b ≡ c →
    (b ≡ true → x ≡ Err f → Causes v f (token t rest)) → cond c x (Err faults.Syntax) ≡ Err f → Causes v f (token t rest)
cond_cause v t rest b true x f is h e = h is e
cond_cause v t rest b false x f is h e = syntax_only v t rest f (err_is faults.Syntax f e)

module _ (v : DocumentScope) where
  abbrev Kept : DocumentScope → Type 0
  Kept w = bare w ≡ bare v

  abbrev P : Fault → Ahead Spelled → Type 0
  P f ts = Causes (bare v) f ts

  class_tells : {A : Type 0} {class : Spelled → Result A Fault} {ts : Ahead Spelled} →
      ((t : Spelled) (rest : Ahead Spelled) (f : Fault) → class t ≡ Err f → P f (token t rest)) → Tells (one faults.Syntax class) (λ _ r. Unit {0}) P ts
  class_tells h = tells_one tt (λ t rest x is e. tt) (λ t rest f is e. h t rest f e)

  resolved_cause : (t : Spelled) (rest : Ahead Spelled) (f : Fault) (o : Option (List ℕ)) → text_of t ≡ o →
      ((iri : List ℕ) → resolved false (names_in v) o ≡ Ok iri → max_text < length iri → IsLong (bare v) t) → resolved true (names_in v) o ≡ Err f → P f (token t rest)
  resolved_cause t rest f None e long is = syntax_only (bare v) t rest f (err_is faults.Syntax f is)
  resolved_cause t rest f (Some text) e long is =
      let iri = resolved_text v.base (encode_utf8_all text) in limited_cause (bare v) t rest iri iri (nat_lt max_text (length iri)) f refl (long iri refl) is

  cond_true : {A : Type 0} (b : Bool) (x y : A) → b ≡ true → cond b x y ≡ x
  cond_true b x y e = rw e refl

  cond_false : {A : Type 0} (b : Bool) (x y : A) → b ≡ false → cond b x y ≡ y
  cond_false b x y e = rw e refl

  iri_ref_cause : (t : Spelled) (rest : Ahead Spelled) (f : Fault) → is_among names t ≡ false → iri_ref_of true (names_in v) t ≡ Err f → P f (token t rest)
  unfolding iri_ref_of iri_of
  iri_ref_cause t rest f n e =
      cond_cause (bare v) t rest (is_symbol symbol.IriRef t) (is_symbol symbol.IriRef t) (resolved true (names_in v) (text_of t)) f refl
      (λ is k. resolved_cause t rest f (text_of t) refl
      (λ iri got l. by_iri iri (cond_false (is_among names t) _ _ n ∙ cond_true (is_symbol symbol.IriRef t) _ _ is ∙ got) l) k) e

  joined_cause : (t : Spelled) (rest : Ahead Spelled) (f : Fault) (o p : Option (List ℕ)) → is_among names t ≡ true → p ≡ v.prefixes (prefix_of t)
      → ((iri : List ℕ) → joined false o p ≡ Ok iri → max_text < length iri → IsLong (bare v) t) → joined true o p ≡ Err f → P f (token t rest)
  joined_cause t rest f None p n e long is = syntax_only (bare v) t rest f (err_is faults.Syntax f is)
  joined_cause t rest f (Some local) None n e long is = subst (λ (g : Fault). P g (token t rest)) (err_is faults.Prefix f is) (t, rest, refl, n, sym e)
  joined_cause t rest f (Some local) (Some iri) n e long is =
      let whole = iri ++ encode_utf8_all local in limited_cause (bare v) t rest whole whole (nat_lt max_text (length whole)) f refl (long whole refl) is

  iri_by_cause : (t : Spelled) (rest : Ahead Spelled) (f : Fault) (b : Bool) → is_among names t ≡ b →
      cond b (joined true (text_of t) (v.prefixes (prefix_of t))) (iri_ref_of true (names_in v) t) ≡ Err f → P f (token t rest)
  unfolding iri_of
  iri_by_cause t rest f true n e = joined_cause t rest f (text_of t) (v.prefixes (prefix_of t)) n refl (λ iri got l. by_iri iri (cond_true (is_among names t) _ _ n ∙ got) l) e
  iri_by_cause t rest f false n e = iri_ref_cause t rest f n e

  iri_cause : (t : Spelled) (rest : Ahead Spelled) (f : Fault) → iri_of true (names_in v) t ≡ Err f → P f (token t rest)
  unfolding iri_of
  iri_cause t rest f e = iri_by_cause t rest f (is_among names t) refl e

  ref_by_cause : (t : Spelled) (rest : Ahead Spelled) (f : Fault) (b : Bool) → is_symbol symbol.IriRef t ≡ b → iri_ref_of true (names_in v) t ≡ Err f → P f (token t rest)
  unfolding iri_ref_of
  ref_by_cause t rest f false n e = syntax_only (bare v) t rest f (err_is faults.Syntax f (sym (cond_false (is_symbol symbol.IriRef t) _ _ n) ∙ e))
  ref_by_cause t rest f true n e = iri_ref_cause t rest f (not_name t n) e
    where
      not_name : (t : Spelled) → is_symbol symbol.IriRef t ≡ true → is_among names t ≡ false
      not_name t h = no_next (symbol.IriRef ∷ []) names (token t finished) refl (first_of symbol.IriRef (token t finished) h)

  ref_cause : (t : Spelled) (rest : Ahead Spelled) (f : Fault) → iri_ref_of true (names_in v) t ≡ Err f → P f (token t rest)
  ref_cause t rest f e = ref_by_cause t rest f (is_symbol symbol.IriRef t) refl e

  blank_cause : (t : Spelled) (rest : Ahead Spelled) (f : Fault) → blank_of true t ≡ Err f → P f (token t rest)
  unfolding blank_of
  blank_cause t rest f e = cond_cause (bare v) t rest (is_symbol symbol.BlankLabel t) (is_symbol symbol.BlankLabel t) _ f refl
      (λ is k. limited_cause (bare v) t rest (after_first is_colon t.text) _ (nat_lt max_text (length (after_first is_colon t.text))) f refl (λ l. by_label is l) k) e

  lexical_cause : (t : Spelled) (rest : Ahead Spelled) (f : Fault) (o : Option (List ℕ)) → is_symbol symbol.Str t ≡ true → text_of t ≡ o → lexical true o ≡ Err f → P f (token t rest)
  lexical_cause t rest f None n e is = syntax_only (bare v) t rest f (err_is faults.Syntax f is)
  lexical_cause t rest f (Some text) n e is = limited_cause (bare v) t rest (encode_utf8_all text) text (nat_lt max_text (length (encode_utf8_all text))) f refl (λ l. by_string n text e l) is

  string_cause : (t : Spelled) (rest : Ahead Spelled) (f : Fault) → string_of true t ≡ Err f → P f (token t rest)
  unfolding string_of
  string_cause t rest f e = cond_cause (bare v) t rest (is_symbol symbol.Str t) (is_symbol symbol.Str t) _ f refl (λ is k. lexical_cause t rest f (text_of t) is refl k) e

  typed_by_cause : (t : Spelled) (rest : Ahead Spelled) (f : Fault) (lex : List ℕ) (c : Result (List ℕ) Fault) → iri_of true (names_in v) t ≡ c → typed_by lex c ≡ Err f → P f (token t rest)
  typed_by_cause t rest f lex (Err d) e is = subst (λ (g : Fault). P g (token t rest)) (err_is d f is) (iri_cause t rest d e)
  typed_by_cause t rest f lex (Ok iri) e is = by (same_text (chars iri) rdf_lang_string) is
    where
      by : (b : Bool) → cond b (Err faults.Syntax) (Ok (typed lex (chars iri))) ≡ Err f → P f (token t rest)
      by true k = syntax_only (bare v) t rest f (err_is faults.Syntax f k)
      by false k = absurd (apart (typed lex (chars iri)) f k)

  typed_cause : (lex : List ℕ) (t : Spelled) (rest : Ahead Spelled) (f : Fault) → typed_of true (names_in v) lex t ≡ Err f → P f (token t rest)
  unfolding typed_of
  typed_cause lex t rest f e = typed_by_cause t rest f lex (iri_of true (names_in v) t) refl e

  ok_cause : {A : Type 0} (t : Spelled) (rest : Ahead Spelled) (f : Fault) (b : Bool) (x : A) → cond b (Ok x) (Err faults.Syntax) ≡ Err f → P f (token t rest)
  ok_cause t rest f true x e = absurd (apart x f e)
  ok_cause t rest f false x e = syntax_only (bare v) t rest f (err_is faults.Syntax f e)

  tagged_cause : (lex : List ℕ) (t : Spelled) (rest : Ahead Spelled) (f : Fault) → tagged_of lex t ≡ Err f → P f (token t rest)
  unfolding tagged_of
  tagged_cause lex t rest f e = ok_cause t rest f (is_among tags t) _ e

  shorthand_cause : (t : Spelled) (rest : Ahead Spelled) (f : Fault) → shorthand_of true t ≡ Err f → P f (token t rest)
  unfolding shorthand_of
  shorthand_cause t rest f e = cond_cause (bare v) t rest (is_among shorthands t) (is_among shorthands t) _ f refl
      (λ is k. limited_cause (bare v) t rest t.text _ (nat_lt max_text (length t.text)) f refl (λ l. by_number is l) k) e

  mark_tells : (a : Symbol) (ts : Ahead Spelled) → Tells (mark a) (λ _ r. Unit {0}) P ts
  mark_tells a ts = class_tells (λ t rest f e. ok_cause t rest f (is_symbol a t) t e)

  settled_tells : (b : Bool) (x : Term × DocumentScope) (ts : Ahead Spelled) → Kept x.1 → Tells (settled (cond b (Err faults.Full) (Ok x))) (λ y r. Kept y.1) P ts
  settled_tells true x ts h = tells_refuse tt
  settled_tells false x ts h = tells_give h

  next_tells : (ts : Ahead Spelled) → Tells (next_node true v) (λ y r. Kept y.1) P ts
  unfolding next_node numbered
  next_tells ts = settled_tells (nat_lt max_anonymous v.next) (anonymous v.next, counted v) ts refl

  iri_tells : (ts : Ahead Spelled) → Tells (iri true v) (λ _ r. Unit {0}) P ts
  unfolding iri
  iri_tells ts = class_tells iri_cause

  literal_tells : (ts : Ahead Spelled) → Tells (literal true v) (λ _ r. Unit {0}) P ts
  unfolding literal
  literal_tells ts = tells_bind (class_tells string_cause) (λ lex m q. tells_either (λ _. class_tells (tagged_cause lex))
      (λ _. tells_either (λ _. tells_bind (mark_tells symbol.Carets m) (λ w n u. class_tells (typed_cause lex))) (λ _. tells_give tt)))

  resource_tells : (ts : Ahead Spelled) → Tells (resource true v) (λ _ r. Unit {0}) P ts
  unfolding resource
  resource_tells ts = tells_either (λ _. class_tells blank_cause) (λ _. tells_bind (iri_tells ts) (λ i m q. tells_give tt))

  simple_tells : (ts : Ahead Spelled) → Tells (simple true v) (λ _ r. Unit {0}) P ts
  unfolding simple
  simple_tells ts = tells_either (λ _. literal_tells ts) (λ _. tells_either (λ _. class_tells shorthand_cause) (λ _. resource_tells ts))

  verb_tells : (ts : Ahead Spelled) → Tells (verb true v) (λ _ r. Unit {0}) P ts
  unfolding verb
  verb_tells ts = tells_either (λ _. tells_bind (mark_tells symbol.A ts) (λ w m u. tells_give tt)) (λ _. iri_tells ts)

-- from the scope that stays
kept_moved : {A : Type 0} (p : R (A × DocumentScope)) (v w : DocumentScope) (ts : Ahead Spelled) → bare w ≡ bare v →
    Tells p (λ y r. bare y.1 ≡ bare w) (λ f r. Causes (bare w) f r) ts → Tells p (λ y r. bare y.1 ≡ bare v) (λ f r. Causes (bare v) f r) ts
kept_moved p v w ts e t = subst (λ (u : DocumentScope). Tells p (λ y r. bare y.1 ≡ u) (λ f r. Causes u f r) ts) e t

stay : (p : R DocumentScope) (v w : DocumentScope) (ts : Ahead Spelled) → bare w ≡ bare v → Tells p (λ y r. bare y ≡ bare w) (λ f r. Causes (bare w) f r) ts →
    Tells p (λ y r. bare y ≡ bare v) (λ f r. Causes (bare v) f r) ts
stay p v w ts e t = subst (λ (u : DocumentScope). Tells p (λ y r. bare y ≡ u) (λ f r. Causes u f r) ts) e t

any_value : {A : Type 0} {p : R A} {Q : A → Ahead Spelled → Type 0} {P : Fault → Ahead Spelled → Type 0} {ts : Ahead Spelled} → Tells p Q P ts → Tells p (λ _ r. Unit {0}) P ts
any_value a = record { good = λ y e. tt; bad = λ e is. a.bad e is }

abbrev Goes : R DocumentScope → DocumentScope → Ahead Spelled → Type 0
Goes p v ts = Tells p (λ w r. bare w ≡ bare v) (λ f r. Causes (bare v) f r) ts

abbrev Finds : R (Term × DocumentScope) → DocumentScope → Ahead Spelled → Type 0
Finds p v ts = Tells p (λ y r. bare y.1 ≡ bare v) (λ f r. Causes (bare v) f r) ts

module _ (obj : Terms) (each : (v : DocumentScope) (ts : Ahead Spelled) → Finds (obj v) v ts) where
  one_tells : (s : Term) (p : List ℕ) (v : DocumentScope) (ts : Ahead Spelled) → Goes (one_object true obj s p v) v ts
  unfolding one_object
  one_tells s p v ts = tells_bind (each v ts) (λ x m q. tells_give q)

  comma_tells : (s : Term) (p : List ℕ) (v : DocumentScope) (ts : Ahead Spelled) → Goes (comma true obj s p v) v ts
  unfolding comma
  comma_tells s p v ts = tells_bind (mark_tells v symbol.Comma ts) (λ w m u. one_tells s p v m)

  objects_tells : (s : Term) (p : List ℕ) (v : DocumentScope) (ts : Ahead Spelled) → Goes (objects true obj s p v) v ts
  unfolding objects
  objects_tells s p v ts = tells_bind (one_tells s p v ts) (λ u m q. tells_loop _ (comma true obj s p) _ _ (λ w r k. stay _ v w r k (comma_tells s p w r)) u m q)

  pair_tells : (s : Term) (v : DocumentScope) (ts : Ahead Spelled) → Goes (pair true obj s v) v ts
  unfolding pair
  pair_tells s v ts = tells_bind (verb_tells v ts) (λ p m u. objects_tells s p v m)

  semicolon_tells : (s : Term) (v : DocumentScope) (ts : Ahead Spelled) → Goes (semicolon true obj s v) v ts
  unfolding semicolon
  semicolon_tells s v ts = tells_bind (mark_tells v symbol.Semicolon ts) (λ w m u. tells_either (λ _. pair_tells s v m) (λ _. tells_give refl))

  predicates_tells : (s : Term) (v : DocumentScope) (ts : Ahead Spelled) → Goes (predicates true obj s v) v ts
  unfolding predicates
  predicates_tells s v ts = tells_bind (pair_tells s v ts) (λ u m q. tells_loop _ (semicolon true obj s) _ _ (λ w r k. stay _ v w r k (semicolon_tells s w r)) u m q)

  node_tells : (v : DocumentScope) (ts : Ahead Spelled) → Finds (node true obj v) v ts
  unfolding node
  node_tells v ts = tells_bind (mark_tells v symbol.OpenBracket ts) (λ w m u. tells_bind (next_tells v m) (λ x n q.
      tells_bind {Q = λ y r. bare y ≡ bare v} (tells_either (λ _. tells_give q) (λ _. stay _ v x.1 n q (predicates_tells x.0 x.1 n)))
      (λ y l k. tells_bind (mark_tells v symbol.CloseBracket l) (λ z r i. tells_give k))))

  cell_tells : (cell : Term) (v : DocumentScope) (ts : Ahead Spelled) → Finds (in_cell true obj cell v) v ts
  unfolding in_cell
  cell_tells cell v ts = tells_bind (each v ts) (λ x m q. tells_give q)

  member_tells : (v : DocumentScope) (ts : Ahead Spelled) → Finds (member true obj v) v ts
  unfolding member
  member_tells v ts = tells_bind (next_tells v ts) (λ x m q. kept_moved _ v x.1 m q (cell_tells x.0 x.1 m))

  next_member_tells : (a : Term × DocumentScope) (ts : Ahead Spelled) → Finds (next_member true obj a) a.1 ts
  unfolding next_member
  next_member_tells a ts = tells_bind (next_tells a.1 ts) (λ x m q. kept_moved _ a.1 (added a.0 rdf_rest x.0 x.1) m q (cell_tells x.0 (added a.0 rdf_rest x.0 x.1) m))

  cells_tells : (v : DocumentScope) (ts : Ahead Spelled) → Finds (cells true obj v) v ts
  unfolding cells
  cells_tells v ts = tells_bind (member_tells v ts) (λ f m q. tells_bind (tells_loop _ (next_member true obj) (λ a r. bare a.1 ≡
      bare v) _ (λ a r k. kept_moved _ v a.1 r k (next_member_tells a r)) f m q) (λ l n k.
      tells_bind (mark_tells v symbol.CloseParenthesis n) (λ z r i. tells_give k)))

  collection_tells : (v : DocumentScope) (ts : Ahead Spelled) → Finds (collection true obj v) v ts
  unfolding collection
  collection_tells v ts = tells_bind (mark_tells v symbol.OpenParenthesis ts)
      (λ w m u. tells_either (λ _. tells_bind (mark_tells v symbol.CloseParenthesis m) (λ z r i. tells_give refl)) (λ _. cells_tells v m))

object_tells : (d : ℕ) (v : DocumentScope) (ts : Ahead Spelled) → Finds (object true d v) v ts
unfolding object
object_tells zero v ts = tells_either (λ n. tells_refuse (nexts (symbol.OpenBracket ∷ []) brackets ts refl (first_of symbol.OpenBracket ts n)))
    (λ _. tells_either (λ n. tells_refuse (nexts (symbol.OpenParenthesis ∷ []) brackets ts refl (first_of symbol.OpenParenthesis ts n))) (λ _. tells_bind (simple_tells v ts) (λ x m u. tells_give refl)))
object_tells (suc d) v ts = tells_either (λ _. node_tells (object true d) (object_tells d) v ts)
    (λ _. tells_either (λ _. collection_tells (object true d) (object_tells d) v ts) (λ _. tells_bind (simple_tells v ts) (λ x m u. tells_give refl)))

module _ (d : ℕ) where
  within_tells : (s : Term) (v : DocumentScope) (ts : Ahead Spelled) → Goes (predicates true (object true d) s v) v ts
  within_tells s v ts = predicates_tells (object true d) (object_tells d) s v ts

  outside_tells : (s : Term) (v : DocumentScope) (ts : Ahead Spelled) → Goes (predicates true (object true (suc d)) s v) v ts
  outside_tells s v ts = predicates_tells (object true (suc d)) (object_tells (suc d)) s v ts

  subject_tells : (v : DocumentScope) (ts : Ahead Spelled) → Finds (subject true d v) v ts
  unfolding subject
  subject_tells v ts = tells_either (λ _. collection_tells (object true d) (object_tells d) v ts) (λ _. tells_bind (resource_tells v ts) (λ x m u. tells_give refl))

  about_subject_tells : (v : DocumentScope) (ts : Ahead Spelled) → Goes (about_subject true d v) v ts
  unfolding about_subject
  about_subject_tells v ts = tells_bind (subject_tells v ts) (λ x m q. stay _ v x.1 m q (outside_tells x.0 x.1 m))

  listed_tells : (s : Term) (v : DocumentScope) (ts : Ahead Spelled) → Goes (listed true d s v) v ts
  unfolding listed
  listed_tells s v ts = tells_bind (within_tells s v ts)
      (λ w m q. tells_bind (mark_tells v symbol.CloseBracket m) (λ z n u. tells_either (λ _. stay _ v w n q (outside_tells s w n)) (λ _. tells_give q)))

  about_node_tells : (v : DocumentScope) (ts : Ahead Spelled) → Goes (about_node true d v) v ts
  unfolding about_node
  about_node_tells v ts = tells_bind (mark_tells v symbol.OpenBracket ts) (λ z m u. tells_bind (next_tells v m) (λ x n q.
      tells_either (λ _. tells_bind (mark_tells v symbol.CloseBracket n) (λ y l i. stay _ v x.1 l q (outside_tells x.0 x.1 l))) (λ _. stay _ v x.1 n q (listed_tells x.0 x.1 n))))

  triples_tells : (v : DocumentScope) (ts : Ahead Spelled) → Goes (triples true d v) v ts
  unfolding triples
  triples_tells v ts = tells_either (λ _. about_node_tells v ts) (λ _. about_subject_tells v ts)

abbrev Ends : R DocumentScope → DocumentScope → Ahead Spelled → Type 0
Ends p v ts = Tells p (λ w r. Unit {0}) (λ f r. Causes (bare v) f r) ts

ended_tells : (p : DocumentScope → R DocumentScope) (v : DocumentScope) (ts : Ahead Spelled) → Ends (p v) v ts → Ends (ended true p v) v ts
unfolding ended
ended_tells p v ts h = tells_bind h (λ w m u. tells_bind (mark_tells v symbol.Dot m) (λ z r i. tells_give tt))

prefix_tells : (v : DocumentScope) (ts : Ahead Spelled) → Ends (prefix_declaration true v) v ts
unfolding prefix_declaration iri_ref
prefix_tells v ts = tells_bind (mark_tells v symbol.PnameNs ts) (λ t m u. tells_bind (class_tells v (ref_cause v)) (λ i r k. tells_give tt))

base_tells : (v : DocumentScope) (ts : Ahead Spelled) → Ends (base_declaration true v) v ts
unfolding base_declaration iri_ref
base_tells v ts = tells_bind (class_tells v (ref_cause v)) (λ i r k. tells_give tt)

behind_tells : (a : Symbol) (p : DocumentScope → R DocumentScope) (v : DocumentScope) (ts : Ahead Spelled) → ((m : Ahead Spelled) → Ends (p v) v m) → Ends (behind true a p v) v ts
unfolding behind
behind_tells a p v ts h = tells_bind (mark_tells v a ts) (λ z m u. h m)

pub statement_tells : (d : ℕ) (v : DocumentScope) (ts : Ahead Spelled) → Ends (statement true d v) v ts
unfolding statement
statement_tells d v ts =
    tells_either (λ _. behind_tells _ _ v ts (λ m. ended_tells _ v m (prefix_tells v m))) (λ _. tells_either (λ _. behind_tells _ _ v ts (λ m. ended_tells _ v m (base_tells v m)))
    (λ _. tells_either (λ _. behind_tells _ _ v ts (λ m. prefix_tells v m)) (λ _. tells_either (λ _. behind_tells _ _ v ts (λ m. base_tells v m)) (λ _. ended_tells _ v ts (any_value (triples_tells d v ts))))))

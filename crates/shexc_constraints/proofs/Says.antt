-- At a fault stands its cause, and before it no bracket whose depth is bounded is passed and no word that changes the scope: by the form of the reader.
use Rattle.std.proofs.Common.{◌≡◌, ◌⊎◌, ℕ, Bool, true, false, cond, ◌&&◌, ◌||◌, List, [], ◌∷◌, ◌++◌, Option, Some, None, Result, Ok, Err, refl, sym, ap, subst, ◌∙◌, inl, inr}
use Rattle.std.specs.Prelude.{not, nat_eq, nat_le}
use Rattle.std.specs.Str.{chars}
use Rattle.std.proofs.lemmas.List.{append-nil, append_assoc}
use Rattle.lists.proofs.Quantifiers.{all_append}
use Rattle.rdf_cursor.specs.Ahead.{Ahead, finished, token, prepend}
use Rattle.rdf_cursor.proofs.Locality.{prepend-append}
use Rattle.rdf_cursor.specs.Readers.{Reader, ◌>>=◌, give, refuse, one, either, loop}
use Rattle.rdf_cursor.specs.Symbols.{symbol_of, same_symbol, is_symbol, is_among}
use Rattle.rdf_cursor.specs.declared.stops.Fault as any
use Rattle.rdf_cursor.specs.declared.stops.Fault.TheVariants as plain
use Rattle.rdf_cursor.specs.declared.symbols.Symbol.{Symbol}
use Rattle.rdf_cursor.specs.declared.symbols.Symbol.TheVariants as symbol
use Rattle.rdf_lex.specs.Tokens.{Spelled}
use Rattle.rdf_terms.specs.Texts.{same_text}
use Rattle.rdf_terms.specs.Vocabulary.{rdf_lang_string}
use Rattle.node_constraint.specs.declared.facet.Facet.{Facet}
use Rattle.node_constraint.specs.declared.make_error.MakeError.{MakeError}
use Rattle.node_constraint.specs.declared.make_error.MakeError.TheVariants as errors
use Rattle.node_constraint.specs.Making.{Causes}
use Rattle.node_constraint.proofs.Judging.{Judged, judged}
use Rattle.value_sets.specs.declared.value.Except.{Except}
use Rattle.value_sets.specs.declared.value.Value.{Value}
use Rattle.xs_pattern.specs.declared.pattern_error.PatternError.{PatternError}
use Rattle.xs_pattern.specs.declared.pattern_error.PatternError.TheVariants as refusal
use Rattle.term_tokens.specs.Meanings.{text_of}
use Rattle.term_tokens.specs.Scopes.{Scope}
use Rattle.term_tokens.specs.Terms as terms
use Rattle.term_tokens.specs.Terms.{names, prefix_of}
use Rattle.shexc_constraints.specs.declared.faults.Fault.{Fault}
use Rattle.shexc_constraints.specs.declared.faults.Fault.TheVariants as fault
use Rattle.shexc_constraints.specs.Causes.{prefixed, counted_words, facet_symbols, AreAll, AreNone, EndsWith, IsFacetAt, IsDatatypeOf, IsDatatype, IsCause}
use Rattle.shexc_constraints.specs.Facets.{is_given, fresh_word, made_by, counted_facet, range_facet, counted_of, ranged_of, refused_pattern, refused_by, alone, judged_by, judged_facet, admitted}
use Rattle.shexc_constraints.specs.Meanings.{iri_ref_of, iri_of, at_name_of, label_of, string_of, typed_of, tagged_of, shorthand_of, tag_of, whole_number, is_minus, unsigned, count_of, facet_number_of, range_number_of, limit_from, limit_of}
use Rattle.shexc_constraints.specs.Patterns.{Parts, pattern_of, pattern_by}
use Rattle.shexc_constraints.specs.Stops.{R, fault_by, raised}
use Rattle.shexc_constraints.specs.Symbols.{of_symbol, of_word, lengths, digit_counts, ranges, numbers, node_kinds}
use Rattle.shexc_constraints.proofs.Flat.{nesting, Flat, flat_then, OfFacets, facets_then, facets_are_flat, FlatClass, FacetClass, mark_flat, word_flat, iri_flat, at_name_flat, label_flat, string_flat, tagged_flat, shorthand_flat, typed_flat, tag_flat, counted_class, ranged_class, pattern_class, admitted_class, fresh_is}
use Rattle.rdf_cursor.proofs.Tells.{Tells, tells_give, tells_refuse, tells_one, tells_bind, tells_either, tells_loop, tells_so}
use Rattle.term_tokens.proofs.Nexts.{within, nexts}
use Rattle.shexc_constraints.specs.Reading.{iri, predicate, label, datatyped, suffix, literal, object, annotation, annotations, notes, reference, a_facet, counted, ranged, text_facet, number_facet, facet, text_facets_behind, number_facets_behind, facets_behind, lexical_form, iri_text, tag, stem_or_exact, exclusion, exclusions, stemmed, excluded, iri_value, literal_value, tag_value, any_tag, wildcard, value, value_behind, value_set, of_kind, of_texts, non_literal, any_literal, of_datatype, of_values, of_numbers, literal_constraint}

-- nothing is told of a fault of syntax; of another one, what its token is behind those of the statement
abbrev pub Why : Scope → List Spelled → Spelled → Fault → Type 0
Why v before t f = (f ≡ fault.Syntax) ⊎ IsCause v f before t

abbrev pub Caused : Scope → Fault → List Spelled → Ahead Spelled → Type 0
Caused v f before rest = (f ≡ fault.Syntax) ⊎ ((t : Spelled) × (more : Ahead Spelled) × (rest ≡ token t more) × IsCause v f before t)

-- past tokens that are flat a fault with its cause is reached
abbrev pub Fails : Scope → List Spelled → Ahead Spelled → Fault → Ahead Spelled → Type 0
Fails v before ts f r = (front : List Spelled) × (ts ≡ prepend front r) × AreNone nesting front × Caused v f (before ++ front) r

-- at a fault stands its cause, and neither before it nor before a value a token is passed that is not flat
pub record Says (v : Scope) {A : Type 0} (p : Reader Spelled Fault A) : Type 0 where
  pub tells : (before : List Spelled) (ts : Ahead Spelled) → Tells p (λ x r. Flat ts r) (Fails v before ts) ts

-- a class says of a token why it is at fault
abbrev pub ClassSays : Scope → {A : Type 0} → (Spelled → Result A Fault) → Type 0
ClassSays v class = (before : List Spelled) (t : Spelled) (f : Fault) → class t ≡ Err f → Why v before t f

nothing_passed : (ts : Ahead Spelled) → Flat ts ts
nothing_passed ts = ([], refl, tt)

fails_here : (v : Scope) (before : List Spelled) (ts : Ahead Spelled) (f : Fault) → Caused v f before ts → Fails v before ts f ts
fails_here v before ts f c = ([], refl, tt, subst (λ (bs : List Spelled). Caused v f bs ts) (sym (append-nil before)) c)

syntax_here : (v : Scope) (before : List Spelled) (ts : Ahead Spelled) → Fails v before ts fault.Syntax ts
syntax_here v before ts = fails_here v before ts fault.Syntax (inl refl)

fails_at : (v : Scope) (before : List Spelled) (ts rest : Ahead Spelled) (t : Spelled) (f : Fault) → ts ≡ token t rest → Why v before t f → Fails v before ts f (token t rest)
fails_at v before ts rest t f is why = subst (λ (q : Ahead Spelled). Fails v before q f (token t rest)) (sym is) (fails_here v before (token t rest) f (by why))
  where
    by : Why v before t f → Caused v f before (token t rest)
    by (inl e) = inl e
    by (inr c) = inr (t, rest, refl, c)

-- past more tokens
fails_behind : (v : Scope) (before front : List Spelled) (ts r : Ahead Spelled) (f : Fault) (q : Ahead Spelled) → ts ≡ prepend front r → AreNone nesting front →
    Fails v (before ++ front) r f q → Fails v before ts f q
fails_behind v before front ts r f q is h (more, e, k, c) = (
  front ++ more,
  is ∙ ap (prepend front) e ∙ sym (prepend-append front more q),
  all_append (λ t. is_among nesting t ≡
      false) front more h k,
  subst (λ (bs : List Spelled). Caused v f bs q) (append_assoc before front more) c,
)

token_passed : (ts rest : Ahead Spelled) (t : Spelled) → ts ≡ token t rest → is_among nesting t ≡ false → Flat ts rest
token_passed ts rest t is n = (t ∷ [], is, (n, tt))

tells_class : {A : Type 0} (v : Scope) {class : Spelled → Result A Fault} (before : List Spelled) (ts : Ahead Spelled) → ClassSays v class → {Q : A → Ahead Spelled → Type 0}
    → ((t : Spelled) (rest : Ahead Spelled) (x : A) → ts ≡ token t rest → class t ≡ Ok x → Q x rest) → Tells (one fault.Syntax class) Q (Fails v before ts) ts
tells_class v before ts h g = tells_one (syntax_here v before ts) g (λ t rest f is e. fails_at v before ts rest t f is (h before t f e))

pub says_one : {A : Type 0} {v : Scope} {class : Spelled → Result A Fault} → ClassSays v class → FlatClass class → Says v (one fault.Syntax class)
says_one {v = v} h k = record { tells = λ before ts. tells_class v before ts h (λ t rest x is e. token_passed ts rest t is (k t x e)) }

pub says_give : {A : Type 0} (v : Scope) (x : A) → Says v (give x)
says_give v x = record { tells = λ before ts. tells_give (nothing_passed ts) }

pub says_refuse : {A : Type 0} (v : Scope) → Says v {A = A} (refuse fault.Syntax)
says_refuse v = record { tells = λ before ts. tells_refuse (syntax_here v before ts) }

-- behind some tokens
behind : {A : Type 0} (v : Scope) (p : Reader Spelled Fault A) → Says v p → (before : List Spelled) (ts r : Ahead Spelled) → Flat ts r → Tells p (λ x q. Flat ts q) (Fails v before ts) r
behind v p a before ts r (b, is, h) = tells_so (λ x q k. flat_then ts r q (b, is, h) k) (λ f q k. fails_behind v before b ts r f q is h k) (a.tells (before ++ b) r)

pub says_bind : {A B : Type 0} {v : Scope} (p : Reader Spelled Fault A) (f : A → Reader Spelled Fault B) → Says v p → ((x : A) → Says v (f x)) → Says v (p >>= f)
says_bind {v = v} p f a h = record { tells = λ before ts. tells_bind (a.tells before ts) (λ x r k. behind v (f x) (h x) before ts r k) }

pub says_either : {A : Type 0} {v : Scope} (class : Spelled → Bool) (p q : Reader Spelled Fault A) → Says v p → Says v q → Says v (either class p q)
says_either {v = v} class p q a h = record { tells = λ before ts. tells_either (λ _. a.tells before ts) (λ _. h.tells before ts) }

pub says_loop : {S : Type 0} {v : Scope} (class : Spelled → Bool) (step : S → Reader Spelled Fault S) → ((s : S) → Says v (step s)) → (s : S) → Says v (loop class step s)
says_loop {v = v} class step h s =
    record { tells = λ before ts. tells_loop class step (λ x r. Flat ts r) (Fails v before ts) (λ x r k. behind v (step x) (h x) before ts r k) s ts (nothing_passed ts) }

-- the classes of single tokens
ok_err : {A : Type 0} (x : A) (f : Fault) → Path (Result A Fault) (Ok x) (Err f) → ⊥
ok_err x f e = cc

same_err : {A : Type 0} (f g : Fault) → Path (Result A Fault) (Err f) (Err g) → f ≡ g
same_err f g e = cc

-- a test, and a fault of syntax where it fails
tested : {A : Type 0} (v : Scope) (before : List Spelled) (t : Spelled) (b : Bool) (c : Result A Fault) (f : Fault) →
    (b ≡ true → c ≡ Err f → Why v before t f) → cond b c (Err fault.Syntax) ≡ Err f → Why v before t f
tested v before t true c f h e = h refl e
tested v before t false c f h e = inl (sym (same_err fault.Syntax f e))

simple : {A : Type 0} (v : Scope) (before : List Spelled) (t : Spelled) (b : Bool) (x : A) (f : Fault) → cond b (Ok x) (Err fault.Syntax) ≡ Err f → Why v before t f
simple v before t b x f e = tested v before t b (Ok x) f (λ k i. absurd (ok_err x f i)) e

pub mark_says : (v : Scope) (a : Symbol) → ClassSays v (of_symbol a)
mark_says v a before t f e = simple v before t (is_symbol a t) t f e

pub mark_fault : (a : Symbol) (t : Spelled) (f : Fault) → of_symbol a t ≡ Err f → f ≡ fault.Syntax
mark_fault a t f e = by (is_symbol a t) e
  where
    by : (b : Bool) → Path (Result Spelled Fault) (cond b (Ok t) (Err fault.Syntax)) (Err f) → f ≡ fault.Syntax
    by true i = absurd (ok_err t f i)
    by false i = sym (same_err fault.Syntax f i)

pub word_says : (v : Scope) (words : List Symbol) → ClassSays v (of_word words)
word_says v words before t f e = simple v before t (is_among words t) (symbol_of t.kind t.text) f e

pub fresh_says : (v : Scope) (words : List Symbol) (fs : List Facet) → ClassSays v (fresh_word words fs)
fresh_says v words fs before t f e = simple v before t (is_among words t && not (is_given (symbol_of t.kind t.text) fs)) (symbol_of t.kind t.text) f e

tag_says : (v : Scope) → ClassSays v tag_of
unfolding tag_of
tag_says v before t f e = simple v before t (is_among terms.tags t) _ f e

from_limit : (v : Scope) (before : List Spelled) (t : Spelled) (least : ℕ) (o : Option ℕ) (f : Fault) → limit_from least o ≡ Err f → Why v before t f
from_limit v before t least None f e = inl (sym (same_err fault.Syntax f e))
from_limit v before t least (Some n) f e = simple v before t (nat_le least n) n f e

pub limit_says : (v : Scope) (least : ℕ) → ClassSays v (limit_of least)
unfolding limit_of
limit_says v least before t f e = tested v before t (is_symbol symbol.Integer t) (limit_from least (count_of t.text)) f (λ b i. from_limit v before t least (count_of t.text) f i) e

-- tokens that stand for the same in every language: an undeclared prefix alone is no fault of syntax
abbrev Plain : Scope → Spelled → {A : Type 0} → Result A any.Fault → Type 0
Plain v t {A = A} c = (f : any.Fault) → c ≡ Err f → (f ≡ plain.Syntax) ⊎ ((f ≡ plain.Prefix) × ((is_among prefixed t ≡ true) × (v.prefixes (prefix_of t) ≡ None)))

raised_by : {A : Type 0} (v : Scope) (before : List Spelled) (t : Spelled) (c : Result A any.Fault) (f : Fault) → Plain v t c → raised c ≡ Err f → Why v before t f
raised_by v before t (Ok x) f h e = absurd (ok_err x f e)
raised_by v before t (Err g) f h e = by (h g refl)
  where
    is : fault_by g ≡ f
    is = same_err (fault_by g) f e

    by : (g ≡ plain.Syntax) ⊎ ((g ≡ plain.Prefix) × ((is_among prefixed t ≡ true) × (v.prefixes (prefix_of t) ≡ None))) → Why v before t f
    by (inl s) = inl (sym is ∙ ap fault_by s)
    by (inr (s, cause)) = inr (subst (λ (q : Fault). IsCause v q before t) (sym (ap fault_by s) ∙ is) cause)

plain_err : {A : Type 0} (f g : any.Fault) → Path (Result A any.Fault) (Err f) (Err g) → f ≡ g
plain_err f g e = cc

plain_ok : {A : Type 0} (x : A) (g : any.Fault) → Path (Result A any.Fault) (Ok x) (Err g) → ⊥
plain_ok x g e = cc

plain_tested : {A : Type 0} (v : Scope) (t : Spelled) (b : Bool) (c d : Result A any.Fault) → (b ≡ true → Plain v t c) → Plain v t d → Plain v t (cond b c d)
plain_tested v t true c d h k = h refl
plain_tested v t false c d h k = k

plain_syntax : {A : Type 0} (v : Scope) (t : Spelled) → Plain v t {A = A} (Err plain.Syntax)
plain_syntax v t f e = inl (sym (plain_err plain.Syntax f e))

plain_fine : {A : Type 0} (v : Scope) (t : Spelled) (x : A) → Plain v t (Ok x)
plain_fine v t x f e = absurd (plain_ok x f e)

resolves : (v : Scope) (t : Spelled) (o : Option (List ℕ)) → Plain v t (terms.resolved false v o)
resolves v t None = plain_syntax v t
resolves v t (Some text) = plain_fine v t _

joins : (v : Scope) (t : Spelled) (local o : Option (List ℕ)) → o ≡ v.prefixes (prefix_of t) → is_among prefixed t ≡ true → Plain v t (terms.joined false local o)
joins v t None o is among = plain_syntax v t
joins v t (Some local) None is among = λ f e. inr (sym (plain_err plain.Prefix f e), (among, sym is))
joins v t (Some local) (Some i) is among = plain_fine v t _

lexes : (v : Scope) (t : Spelled) (o : Option (List ℕ)) → Plain v t (terms.lexical false o)
lexes v t None = plain_syntax v t
lexes v t (Some text) = plain_fine v t _

more_bits : (a b c : Bool) → (a || (b || false)) ≡ true → (a || (b || (c || false))) ≡ true
more_bits true b c e = refl
more_bits false true c e = refl
more_bits false false c e = absurd cc

last_bits : (a b c : Bool) → c ≡ true → (a || (b || (c || false))) ≡ true
last_bits true b c e = refl
last_bits false true c e = refl
last_bits false false c e = rw e refl

names_prefixed : (t : Spelled) → is_among names t ≡ true → is_among prefixed t ≡ true
unfolding is_among
names_prefixed t e = let s = symbol_of t.kind t.text in more_bits (same_symbol s symbol.PnameNs) (same_symbol s symbol.PnameLn) (same_symbol s symbol.AtName) e

at_prefixed : (t : Spelled) → is_symbol symbol.AtName t ≡ true → is_among prefixed t ≡ true
unfolding is_among is_symbol
at_prefixed t e = let s = symbol_of t.kind t.text in last_bits (same_symbol s symbol.PnameNs) (same_symbol s symbol.PnameLn) (same_symbol s symbol.AtName) e

plain_ref : (v : Scope) (t : Spelled) → Plain v t (terms.iri_ref_of false v t)
unfolding terms.iri_ref_of
plain_ref v t = plain_tested v t (is_symbol symbol.IriRef t) _ _ (λ b. resolves v t (text_of t)) (plain_syntax v t)

plain_iri : (v : Scope) (t : Spelled) → Plain v t (terms.iri_of false v t)
unfolding terms.iri_of
plain_iri v t = plain_tested v t (is_among names t) _ _ (λ b. joins v t (text_of t) (v.prefixes (prefix_of t)) refl (names_prefixed t b)) (plain_ref v t)

plain_at : (v : Scope) (t : Spelled) → Plain v t (terms.at_name_of false v t)
unfolding terms.at_name_of
plain_at v t = plain_tested v t (is_symbol symbol.AtName t) _ _ (λ b. joins v t (text_of t) (v.prefixes (prefix_of t)) refl (at_prefixed t b)) (plain_syntax v t)

plain_label : (v : Scope) (t : Spelled) → Plain v t (terms.label_of false t)
unfolding terms.label_of
plain_label v t = plain_tested v t (is_symbol symbol.BlankLabel t) _ _ (λ b. plain_fine v t _) (plain_syntax v t)

plain_string : (v : Scope) (t : Spelled) → Plain v t (terms.string_of false t)
unfolding terms.string_of
plain_string v t = plain_tested v t (is_symbol symbol.Str t) _ _ (λ b. lexes v t (text_of t)) (plain_syntax v t)

plain_tagged : (v : Scope) (lex : List ℕ) (t : Spelled) → Plain v t (terms.tagged_of lex t)
unfolding terms.tagged_of
plain_tagged v lex t = plain_tested v t (is_among terms.tags t) _ _ (λ b. plain_fine v t _) (plain_syntax v t)

plain_shorthand : (v : Scope) (t : Spelled) → Plain v t (terms.shorthand_of false t)
unfolding terms.shorthand_of
plain_shorthand v t = plain_tested v t (is_among terms.shorthands t) _ _ (λ b. plain_fine v t _) (plain_syntax v t)

types : (v : Scope) (t : Spelled) (lex : List ℕ) (c : Result (List ℕ) any.Fault) → Plain v t c → Plain v t (terms.typed_by lex c)
types v t lex (Ok i) h = plain_tested v t (same_text (chars i) rdf_lang_string) _ _ (λ b. plain_syntax v t) (plain_fine v t _)
types v t lex (Err g) h = λ f e. let k = h g refl in subst (λ (q : any.Fault). (q ≡ plain.Syntax) ⊎
    ((q ≡ plain.Prefix) × ((is_among prefixed t ≡ true) × (v.prefixes (prefix_of t) ≡ None)))) (plain_err g f e) k

plain_typed : (v : Scope) (lex : List ℕ) (t : Spelled) → Plain v t (terms.typed_of false v lex t)
unfolding terms.typed_of
plain_typed v lex t = types v t lex (terms.iri_of false v t) (plain_iri v t)

ref_fault : (v : Scope) (b : Bool) (o : Option (List ℕ)) (f : Fault) → raised (cond b (terms.resolved false v o) (Err plain.Syntax)) ≡ Err f → f ≡ fault.Syntax
ref_fault v true None f e = sym (same_err fault.Syntax f e)
ref_fault v true (Some text) f e = absurd (ok_err _ f e)
ref_fault v false o f e = sym (same_err fault.Syntax f e)

pub iri_ref_fault : (v : Scope) (t : Spelled) (f : Fault) → iri_ref_of v t ≡ Err f → f ≡ fault.Syntax
unfolding iri_ref_of terms.iri_ref_of
iri_ref_fault v t f e = ref_fault v (is_symbol symbol.IriRef t) (text_of t) f e

pub iri_says : (v : Scope) → ClassSays v (iri_of v)
unfolding iri_of
iri_says v before t f e = raised_by v before t (terms.iri_of false v t) f (plain_iri v t) e

at_name_says : (v : Scope) → ClassSays v (at_name_of v)
unfolding at_name_of
at_name_says v before t f e = raised_by v before t (terms.at_name_of false v t) f (plain_at v t) e

pub label_says : (v : Scope) → ClassSays v label_of
unfolding label_of
label_says v before t f e = raised_by v before t (terms.label_of false t) f (plain_label v t) e

string_says : (v : Scope) → ClassSays v string_of
unfolding string_of
string_says v before t f e = raised_by v before t (terms.string_of false t) f (plain_string v t) e

typed_says : (v : Scope) (lex : List ℕ) → ClassSays v (typed_of v lex)
unfolding typed_of
typed_says v lex before t f e = raised_by v before t (terms.typed_of false v lex t) f (plain_typed v lex t) e

tagged_says : (v : Scope) (lex : List ℕ) → ClassSays v (tagged_of lex)
unfolding tagged_of
tagged_says v lex before t f e = raised_by v before t (terms.tagged_of lex t) f (plain_tagged v lex t) e

shorthand_says : (v : Scope) → ClassSays v shorthand_of
unfolding shorthand_of
shorthand_says v before t f e = raised_by v before t (terms.shorthand_of false t) f (plain_shorthand v t) e

-- the numbers of facets
whole_says : (v : Scope) (t : Spelled) (minus : Bool) (o : Option ℕ) (f : Fault) → whole_number minus o ≡ Err f → f ≡ fault.FacetNumber
whole_says v t minus None f e = sym (same_err fault.FacetNumber f e)
whole_says v t minus (Some n) f e = by (minus && not (nat_eq n 0)) e
  where
    by : (b : Bool) → cond b (Err fault.FacetNumber) (Ok n) ≡ Err f → f ≡ fault.FacetNumber
    by true i = sym (same_err fault.FacetNumber f i)
    by false i = absurd (ok_err n f i)

number_test : (b : Bool) (c : Result ℕ Fault) (f : Fault) → (c ≡ Err f → f ≡ fault.FacetNumber) → cond b c (Err fault.Syntax) ≡ Err f → (f ≡ fault.Syntax) ⊎ (f ≡ fault.FacetNumber)
number_test true c f h e = inr (h e)
number_test false c f h e = inl (sym (same_err fault.Syntax f e))

number_by : (v : Scope) (t : Spelled) (f : Fault) → facet_number_of t ≡ Err f → (f ≡ fault.Syntax) ⊎ (f ≡ fault.FacetNumber)
unfolding facet_number_of
number_by v t f e = number_test (is_symbol symbol.Integer t) _ f (λ k. whole_says v t (is_minus t.text) (count_of (unsigned t.text)) f k) e

made_err : {A : Type 0} (make : A → Facet) (c : Result A Fault) (f : Fault) → made_by make c ≡ Err f → c ≡ Err f
made_err make (Ok x) f e = absurd (ok_err (make x) f e)
made_err make (Err g) f e = ap (λ (q : Fault). Err q) (same_err g f e)

counted_says : (v : Scope) (before : List Spelled) (w : Spelled) → EndsWith counted_words before w → (s : Symbol) (t : Spelled) (f : Fault) → counted_of s t ≡ Err f → Why v before t f
counted_says v before w ends s t f e =
    let c = made_err (counted_facet s) (facet_number_of t) f e in
    elim (number_by v t f c) [
      | inl is ↦ inl is
      | inr is ↦ inr (subst (λ (q : Fault). IsCause v q before t) (sym is) (inl (w, ends, c ∙ ap (λ (q : Fault). Err q) is)))
    ]

ranged_says : (v : Scope) (s : Symbol) → ClassSays v (ranged_of s)
unfolding range_number_of
ranged_says v s before t f e = simple v before t (is_among numbers t) (chars t.text) f (made_err (range_facet s) (range_number_of t) f e)

by_pattern : (v : Scope) (before : List Spelled) (t : Spelled) (o : Option Parts) (f : Fault) → pattern_by o ≡ Err f → Why v before t f
by_pattern v before t None f e = inl (sym (same_err fault.Syntax f e))
by_pattern v before t (Some x) f e = absurd (ok_err _ f e)

pattern_says : (v : Scope) (fs : List Facet) → ClassSays v (pattern_of fs)
unfolding pattern_of
pattern_says v fs before t f e = tested v before t (is_symbol symbol.Pattern t && not (is_given symbol.Pattern fs)) _ f (λ b i. by_pattern v before t _ f i) e

-- a facet that is judged
module _ (v : Scope) (before : List Spelled) (t : Spelled) (datatype : Option (List ℕ)) (d : IsDatatype v before datatype) where
  pattern_refused : (bounded : Bool) (g : Facet) (e : PatternError) (f : Fault) → IsFacetAt before t g → Causes datatype (g ∷ []) (errors.Pattern e) →
      refused_pattern bounded g e ≡ Err f → IsCause v f before t
  pattern_refused true g e f at c is = subst (λ (q : Fault). IsCause v q before t) (same_err (fault.Pattern e) f is) (g, at, c.1.1)
  pattern_refused false g refusal.Large f at c is = absurd (ok_err g f is)
  pattern_refused false g refusal.Flag f at c is = subst (λ (q : Fault). IsCause v q before t) (same_err (fault.Pattern refusal.Flag) f is) (g, at, c.1.1)
  pattern_refused false g refusal.Syntax f at c is = subst (λ (q : Fault). IsCause v q before t) (same_err (fault.Pattern refusal.Syntax) f is) (g, at, c.1.1)
  pattern_refused false g refusal.Memory f at c is = subst (λ (q : Fault). IsCause v q before t) (same_err (fault.Pattern refusal.Memory) f is) (g, at, c.1.1)

  facet_refused : (bounded : Bool) (g : Facet) (e : MakeError) (f : Fault) → IsFacetAt before t g → Causes datatype (g ∷ []) e → refused_by bounded g e ≡ Err f → Why v before t f
  facet_refused bounded g errors.FloatFacet f at c is = inr (subst (λ (q : Fault). IsCause v q before t) (same_err fault.FloatFacet f is) (datatype, g, d, at, c))
  facet_refused bounded g errors.FacetNumber f at c is = inr (subst (λ (q : Fault). IsCause v q before t) (same_err fault.FacetNumber f is) (inr (g, at, c.1)))
  facet_refused bounded g (errors.Pattern e) f at c is = inr (pattern_refused bounded g e f at c is)
  facet_refused bounded g errors.Memory f at c is = inl (sym (same_err fault.Syntax f is))

  judged_says : (bounded : Bool) (g : Facet) (f : Fault) (j : Judged (alone datatype g)) → IsFacetAt before t g → judged_by bounded datatype g j ≡ Err f → Why v before t f
  judged_says bounded g f (inl s) at is = absurd (ok_err g f is)
  judged_says bounded g f (inr (e, c, n)) at is = facet_refused bounded g e f at c is

  admitted_says : (bounded : Bool) (c : Result Facet Fault) (f : Fault) → ((g : Facet) → c ≡ Ok g → IsFacetAt before t g) → (c ≡ Err f → Why v before t f) →
      admitted bounded datatype c ≡ Err f → Why v before t f
  unfolding judged_facet
  admitted_says bounded (Ok g) f at h is = judged_says bounded g f (judged (alone datatype g)) (at g refl) is
  admitted_says bounded (Err e) f at h is = h (ap (λ (q : Fault). Err q) (same_err e f is))

-- behind facets the datatype is the same
datatype_behind : (v : Scope) (before facets : List Spelled) (datatype : Option (List ℕ)) → IsDatatype v before datatype → AreAll facet_symbols facets → IsDatatype v (before ++ facets) datatype
datatype_behind v before facets None d h = tt
datatype_behind v before facets (Some i) d h = record {
  front = d.front;
  t = d.t;
  facets = d.facets ++ facets;
  parts = ap (λ (ts : List Spelled). ts ++ facets) d.parts ∙ append_assoc d.front (d.t ∷ d.facets) facets;
  are_facets = all_append (λ t. is_among facet_symbols t ≡ true) d.facets facets d.are_facets h;
  iri = d.iri;
  stands_for = d.stands_for;
  is = d.is;
}

-- where the datatype stands before it, a reader passes tokens of facets alone, and at a fault stands its cause
pub record SaysFacets (v : Scope) (datatype : Option (List ℕ)) {A : Type 0} (p : Reader Spelled Fault A) : Type 0 where
  pub tells : (before : List Spelled) (ts : Ahead Spelled) → IsDatatype v before datatype → Tells p (λ x r. OfFacets ts r) (Fails v before ts) ts

-- behind some of them
facets_behind_them : {A : Type 0} (v : Scope) (datatype : Option (List ℕ)) (p : Reader Spelled Fault A) → SaysFacets v datatype p →
    (before : List Spelled) (ts r : Ahead Spelled) → IsDatatype v before datatype → OfFacets ts r
    → Tells p (λ x q. OfFacets ts q) (Fails v before ts) r
facets_behind_them v datatype p a before ts r d (b, is, h) =
    tells_so (λ x q k. facets_then ts r q (b, is, h) k) (λ f q k. fails_behind v before b ts r f q is (facets_are_flat b h) k) (a.tells (before ++ b) r (datatype_behind v before b datatype d h))

facets_bind : {A B : Type 0} {v : Scope} {datatype : Option (List ℕ)} {p : Reader Spelled Fault A} {f : A → Reader Spelled Fault B} → SaysFacets v datatype p →
    ((x : A) → SaysFacets v datatype (f x)) → SaysFacets v datatype (p >>= f)
facets_bind {v = v} {datatype = datatype} {f = f} a h = record { tells = λ before ts d. tells_bind (a.tells before ts d) (λ x r k. facets_behind_them v datatype (f x) (h x) before ts r d k) }

facets_either : {A : Type 0} {v : Scope} {datatype : Option (List ℕ)} {class : Spelled → Bool} {p q : Reader Spelled Fault A} → SaysFacets v datatype p →
    SaysFacets v datatype q → SaysFacets v datatype (either class p q)
facets_either a h = record { tells = λ before ts d. tells_either (λ _. a.tells before ts d) (λ _. h.tells before ts d) }

facets_loop : {S : Type 0} {v : Scope} {datatype : Option (List ℕ)} (class : Spelled → Bool) (step : S → Reader Spelled Fault S) →
    ((s : S) → SaysFacets v datatype (step s)) → (s : S) → SaysFacets v datatype (loop class step s)
facets_loop {v = v} {datatype = datatype} class step h s = record {
  tells = λ before ts d. tells_loop class step (λ x r. OfFacets ts r) (Fails v before ts) (λ x r k. facets_behind_them v datatype (step x) (h x) before ts r d k) s ts ([], refl, tt);
}

-- without a datatype
no_datatype : {A : Type 0} {v : Scope} {p : Reader Spelled Fault A} → SaysFacets v None p → Says v p
no_datatype a = record { tells = λ before ts. tells_so (λ x r k. (k.0, k.1, facets_are_flat k.0 k.2)) (λ f r k. k) (a.tells before ts tt) }

-- a token that is a facet
a_facet_tells : (v : Scope) (bounded : Bool) (datatype : Option (List ℕ)) (before : List Spelled) (ts : Ahead Spelled) → IsDatatype v before datatype →
    (class : Spelled → Result Facet Fault) → ((t : Spelled) (g : Facet) → class t ≡ Ok g → IsFacetAt before t g)
    → ((t : Spelled) (f : Fault) → class t ≡ Err f → Why v before t f) → FacetClass class → (fs : List Facet) → Tells (a_facet bounded datatype class fs) (λ x r. OfFacets ts r) (Fails v before ts) ts
unfolding a_facet
a_facet_tells v bounded datatype before ts d class at h k fs =
    tells_bind {Q = λ g r. OfFacets ts r} (tells_one (syntax_here v before ts) (λ t rest g is e. (t ∷ [], is, (admitted_class bounded datatype class k t g e, tt)))
    (λ t rest f is e. fails_at v before ts rest t f is (admitted_says v before t datatype d bounded (class t) f (λ g i. at t g i) (λ i. h t f i) e)))
    (λ g r q. tells_give q)

-- the word of a facet and its number
word_tells : (v : Scope) (datatype : Option (List ℕ)) (words : List Symbol) → within words facet_symbols ≡ true → (fs : List Facet) (number : Symbol → Reader Spelled Fault (List Facet))
    → ((before : List Spelled) (w : Spelled) (ts : Ahead Spelled) → IsDatatype v before datatype → EndsWith words before w →
    Tells (number (symbol_of w.kind w.text)) (λ x r. OfFacets ts r) (Fails v before ts) ts)
    → SaysFacets v datatype (one fault.Syntax (fresh_word words fs) >>= number)
word_tells v datatype words among fs number h = record {
  tells = λ before ts d. tells_bind {Q = λ s r. (w : Spelled) × (ts ≡ token w r) × (is_among words w ≡ true) × (symbol_of w.kind w.text ≡ s)}
      (tells_class v before ts (fresh_says v words fs) (λ t rest s is e. let f = fresh_is words fs t s e in (t, is, f.0, f.1)))
      (λ s r (w, is, i, same).
      let facet : AreAll facet_symbols (w ∷ []) = (nexts words facet_symbols (token w finished) among i, tt) in
      subst (λ (k : Symbol). Tells (number k) (λ x q. OfFacets ts q) (Fails v before ts) r) same
      (tells_so (λ x q k. facets_then ts r q (w ∷ [], is, facet) k) (λ f q k. fails_behind v before (w ∷ []) ts r f q is (facets_are_flat (w ∷ []) facet) k)
      (h (before ++ w ∷ []) w r (datatype_behind v before (w ∷ []) datatype d facet) (before, refl, i))));
}

ends_among : (words others : List Symbol) (before : List Spelled) (w : Spelled) → within words others ≡ true → EndsWith words before w → EndsWith others before w
ends_among words others before w h (front, parts, i) = (front, parts, nexts words others (token w finished) h i)

pub says_iri : (v : Scope) → Says v (iri v)
unfolding iri
says_iri v = says_one (iri_says v) (iri_flat v)

pub says_predicate : (v : Scope) → Says v (predicate v)
unfolding predicate
says_predicate v = says_either _ _ _ (says_bind _ _ (says_one (mark_says v _) (mark_flat _ refl)) (λ _. says_give v _)) (says_iri v)

pub says_label : (v : Scope) → Says v (label v)
unfolding label
says_label v = says_either _ _ _ (says_bind _ _ (says_one (label_says v) (label_flat v)) (λ x. says_give v _)) (says_bind _ _ (says_iri v) (λ i. says_give v _))

pub says_datatyped : (v : Scope) (lex : List ℕ) → Says v (datatyped v lex)
unfolding datatyped
says_datatyped v lex = says_bind _ _ (says_one (mark_says v _) (mark_flat _ refl)) (λ _. says_one (typed_says v lex) (typed_flat v lex))

pub says_suffix : (v : Scope) (lex : List ℕ) → Says v (suffix v lex)
unfolding suffix
says_suffix v lex = says_either _ _ _ (says_one (tagged_says v lex) (tagged_flat v lex)) (says_either _ _ _ (says_datatyped v lex) (says_give v _))

pub says_literal : (v : Scope) → Says v (literal v)
unfolding literal
says_literal v = says_either _ _ _ (says_bind _ _ (says_one (string_says v) (string_flat v)) (λ x. says_suffix v x)) (says_one (shorthand_says v) (shorthand_flat v))

pub says_object : (v : Scope) → Says v (object v)
unfolding object
says_object v = says_either _ _ _ (says_bind _ _ (says_iri v) (λ i. says_give v _)) (says_literal v)

pub says_annotation : (v : Scope) → Says v (annotation v)
unfolding annotation
says_annotation v = says_bind _ _ (says_one (mark_says v _) (mark_flat _ refl)) (λ _. says_bind _ _ (says_predicate v) (λ _. says_bind _ _ (says_object v) (λ _. says_give v _)))

pub says_annotations : (v : Scope) → Says v (annotations v)
unfolding annotations
says_annotations v = says_loop _ _ (λ _. says_annotation v) tt

pub says_notes : (v : Scope) (whole : Bool) → Says v (notes v whole)
unfolding notes
says_notes v true = says_annotations v
says_notes v false = says_give v _

pub says_reference : (v : Scope) → Says v (reference v)
unfolding reference
says_reference v = says_either _ _ _ (says_bind _ _ (says_one (at_name_says v) (at_name_flat v)) (λ i. says_give v _))
    (says_bind _ _ (says_one (mark_says v _) (mark_flat _ refl)) (λ _. says_bind _ _ (says_label v) (λ l. says_give v _)))

module _ (v : Scope) (bounded : Bool) (datatype : Option (List ℕ)) where
  says_counted : (words : List Symbol) → within words facet_symbols ≡ true → within words counted_words ≡ true → (fs : List Facet) → SaysFacets v datatype (counted bounded datatype words fs)
  unfolding counted
  says_counted words among are fs = word_tells v datatype words among fs (λ s. a_facet bounded datatype (counted_of s) fs) (λ before w ts d ends.
      let s = symbol_of w.kind w.text in let counts = ends_among words counted_words before w are ends in
      a_facet_tells v bounded datatype before ts d (counted_of s) (λ t g e. inr (w, inl (counts, e))) (λ t f e. counted_says v before w counts s t f e) (counted_class s) fs)

  says_ranged : (fs : List Facet) → SaysFacets v datatype (ranged bounded datatype fs)
  unfolding ranged
  says_ranged fs = word_tells v datatype ranges refl fs (λ s. a_facet bounded datatype (ranged_of s) fs) (λ before w ts d ends.
      let s = symbol_of w.kind w.text in
      a_facet_tells v bounded datatype before ts d (ranged_of s) (λ t g e. inr (w, inr (ends, e))) (λ t f e. ranged_says v s before t f e) (ranged_class s) fs)

  says_pattern : (fs : List Facet) → SaysFacets v datatype (a_facet bounded datatype (pattern_of fs) fs)
  says_pattern fs = record { tells = λ before ts d. a_facet_tells v bounded datatype before ts d (pattern_of fs) (λ t g e. inl (fs, e)) (λ t f e. pattern_says v fs before t f e) (pattern_class fs) fs }

  says_text_facet : (fs : List Facet) → SaysFacets v datatype (text_facet bounded datatype fs)
  unfolding text_facet
  says_text_facet fs = facets_either (says_pattern fs) (says_counted lengths refl refl fs)

  says_number_facet : (fs : List Facet) → SaysFacets v datatype (number_facet bounded datatype fs)
  unfolding number_facet
  says_number_facet fs = facets_either (says_counted digit_counts refl refl fs) (says_ranged fs)

  says_facet : (fs : List Facet) → SaysFacets v datatype (facet bounded datatype fs)
  unfolding facet
  says_facet fs = facets_either (says_text_facet fs) (says_number_facet fs)

  says_text_facets_behind : (fs : List Facet) → SaysFacets v datatype (text_facets_behind bounded datatype fs)
  unfolding text_facets_behind
  says_text_facets_behind fs = facets_loop _ _ says_text_facet fs

  says_number_facets_behind : (fs : List Facet) → SaysFacets v datatype (number_facets_behind bounded datatype fs)
  unfolding number_facets_behind
  says_number_facets_behind fs = facets_loop _ _ says_number_facet fs

  says_facets_behind : (fs : List Facet) → SaysFacets v datatype (facets_behind bounded datatype fs)
  unfolding facets_behind
  says_facets_behind fs = facets_loop _ _ says_facet fs

pub says_lexical_form : (v : Scope) → Says v (lexical_form v)
unfolding lexical_form
says_lexical_form v = says_bind _ _ (says_literal v) (λ x. says_give v _)

pub says_iri_text : (v : Scope) → Says v (iri_text v)
unfolding iri_text
says_iri_text v = says_bind _ _ (says_iri v) (λ x. says_give v _)

pub says_tag : (v : Scope) → Says v (tag v)
unfolding tag
says_tag v = says_one (tag_says v) tag_flat

pub says_stem_or_exact : (v : Scope) (p : R (List ℕ)) (told : Says v p) (xs : List Except) → Says v (stem_or_exact v p xs)
unfolding stem_or_exact
says_stem_or_exact v p told xs = says_bind _ _ (told) (λ x. says_either _ _ _ (says_bind _ _ (says_one (mark_says v _) (mark_flat _ refl)) (λ _. says_give v _)) (says_give v _))

pub says_exclusion : (v : Scope) (p : R (List ℕ)) (told : Says v p) (xs : List Except) → Says v (exclusion v p xs)
unfolding exclusion
says_exclusion v p told xs = says_bind _ _ (says_one (mark_says v _) (mark_flat _ refl)) (λ _. says_stem_or_exact v p told xs)

pub says_exclusions : (v : Scope) (p : R (List ℕ)) (told : Says v p) (xs : List Except) → Says v (exclusions v p xs)
unfolding exclusions
says_exclusions v p told xs = says_loop _ _ (says_exclusion v p told) _

pub says_stemmed : (v : Scope) (p : R (List ℕ)) (told : Says v p) (stem : List ℕ → Value) (range : Option (List ℕ) → List Except → Value) (text : List ℕ) → Says v (stemmed v p stem range text)
unfolding stemmed
says_stemmed v p told stem range text = says_bind _ _ (says_one (mark_says v _) (mark_flat _ refl)) (λ _. says_bind _ _ (says_exclusions v p told _) (λ xs. says_give v _))

pub says_excluded : (v : Scope) (p : R (List ℕ)) (told : Says v p) (range : Option (List ℕ) → List Except → Value) → Says v (excluded v p range)
unfolding excluded
says_excluded v p told range = says_bind _ _ (says_stem_or_exact v p told _) (λ x. says_bind _ _ (says_exclusions v p told _) (λ xs. says_give v _))

pub says_iri_value : (v : Scope) → Says v (iri_value v)
unfolding iri_value
says_iri_value v = says_bind _ _ (says_iri v) (λ i. says_either _ _ _ (says_stemmed v (iri_text v) (says_iri_text v) _ _ _) (says_give v _))

pub says_literal_value : (v : Scope) → Says v (literal_value v)
unfolding literal_value
says_literal_value v = says_bind _ _ (says_literal v) (λ i. says_either _ _ _ (says_stemmed v (lexical_form v) (says_lexical_form v) _ _ _) (says_give v _))

pub says_tag_value : (v : Scope) → Says v (tag_value v)
unfolding tag_value
says_tag_value v = says_bind _ _ (says_tag v) (λ i. says_either _ _ _ (says_stemmed v (tag v) (says_tag v) _ _ _) (says_give v _))

pub says_any_tag : (v : Scope) → Says v (any_tag v)
unfolding any_tag
says_any_tag v = says_bind _ _ (says_one (mark_says v _) (mark_flat _ refl)) (λ _. says_stemmed v (tag v) (says_tag v) _ _ _)

pub says_wildcard : (v : Scope) → Says v (wildcard v)
unfolding wildcard
says_wildcard v = says_bind _ _ (says_one (mark_says v _) (mark_flat _ refl))
    (λ _. says_bind _ _ (says_one (mark_says v _) (mark_flat _ refl)) (λ _. says_either _ _ _ (says_excluded v (iri_text v) (says_iri_text v) _) (says_either _ _ _ (says_excluded v (tag v) (says_tag v) _) (says_excluded v (lexical_form v) (says_lexical_form v) _))))

pub says_value : (v : Scope) → Says v (value v)
unfolding value
says_value v = says_either _ _ _ (says_wildcard v) (says_either _ _ _ (says_iri_value v) (says_either _ _ _ (says_tag_value v) (says_either _ _ _ (says_any_tag v) (says_literal_value v))))

pub says_value_behind : (v : Scope) (xs : List Value) → Says v (value_behind v xs)
unfolding value_behind
says_value_behind v xs = says_bind _ _ (says_value v) (λ x. says_give v _)

pub says_value_set : (v : Scope) → Says v (value_set v)
unfolding value_set
says_value_set v = says_bind _ _ (says_one (mark_says v _) (mark_flat _ refl))
    (λ _. says_bind _ _ (says_loop _ _ (says_value_behind v) _) (λ xs. says_bind _ _ (says_one (mark_says v _) (mark_flat _ refl)) (λ _. says_give v _)))

pub says_of_kind : (bounded : Bool) (v : Scope) → Says v (of_kind bounded v)
unfolding of_kind
says_of_kind bounded v = says_bind _ _ (says_one (word_says v node_kinds) (word_flat node_kinds refl))
    (λ s. says_bind _ _ (no_datatype (says_text_facets_behind v bounded None _)) (λ fs. says_give v _))

pub says_of_texts : (bounded : Bool) (v : Scope) → Says v (of_texts bounded v)
unfolding of_texts
says_of_texts bounded v = says_bind _ _ (no_datatype (says_text_facet v bounded None _)) (λ f. says_bind _ _ (no_datatype (says_text_facets_behind v bounded None _)) (λ fs. says_give v _))

pub says_non_literal : (bounded : Bool) (v : Scope) → Says v (non_literal bounded v)
unfolding non_literal
says_non_literal bounded v = says_either _ _ _ (says_of_kind bounded v) (says_of_texts bounded v)

pub says_any_literal : (bounded : Bool) (v : Scope) → Says v (any_literal bounded v)
unfolding any_literal
says_any_literal bounded v = says_bind _ _ (says_one (mark_says v _) (mark_flat _ refl)) (λ _. says_bind _ _ (no_datatype (says_facets_behind v bounded None _)) (λ fs. says_give v _))

pub says_of_values : (bounded : Bool) (v : Scope) → Says v (of_values bounded v)
unfolding of_values
says_of_values bounded v = says_bind _ _ (says_value_set v) (λ i. says_bind _ _ (no_datatype (says_facets_behind v bounded None _)) (λ fs. says_give v _))

pub says_of_numbers : (bounded : Bool) (v : Scope) → Says v (of_numbers bounded v)
unfolding of_numbers
says_of_numbers bounded v = says_bind _ _ (no_datatype (says_number_facet v bounded None _)) (λ f. says_bind _ _ (no_datatype (says_number_facets_behind v bounded None _)) (λ fs. says_give v _))

pub says_of_datatype : (bounded : Bool) (v : Scope) → Says v (of_datatype bounded v)
unfolding of_datatype iri
says_of_datatype bounded v = record {
  tells = λ before ts. tells_bind {Q = λ i r. (t : Spelled) × (ts ≡ token t r) × (iri_of v t ≡ Ok i)} (tells_class v before ts (iri_says v) (λ t rest i is e. (t, is, e)))
      (λ i r (t, is, e).
      let flat : AreNone nesting (t ∷ []) = (iri_flat v t i e, tt) in
      let datatype : IsDatatypeOf v (before ++ t ∷ []) (chars i) = record { front = before; t = t; facets = []; parts = refl; are_facets = tt; iri = i; stands_for = e; is = refl } in
      tells_bind {Q = λ fs q. Flat ts q}
      (tells_so (λ fs q k. flat_then ts r q (t ∷ [], is, flat) (k.0, k.1, facets_are_flat k.0 k.2)) (λ f q k. fails_behind v before (t ∷ []) ts r f q is flat k)
      ((says_facets_behind v bounded (Some (chars i)) []).tells (before ++ t ∷ []) r datatype))
      (λ fs q k. tells_give k));
}

pub says_literal_constraint : (bounded : Bool) (v : Scope) → Says v (literal_constraint bounded v)
unfolding literal_constraint
says_literal_constraint bounded v = says_either _ _ _ (says_any_literal bounded v)
    (says_either _ _ _ (says_of_datatype bounded v) (says_either _ _ _ (says_of_values bounded v) (says_of_numbers bounded v)))

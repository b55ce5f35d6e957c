-- Tokens of which none opens or closes a bracket whose depth is bounded or changes the scope, and the classes that take no other.
use Rattle.std.proofs.Common.{◌≡◌, ℕ, Bool, true, false, cond, ◌&&◌, List, [], ◌∷◌, ◌++◌, Option, Result, Ok, Err, refl, sym, ap, ◌∙◌}
use Rattle.std.specs.Prelude.{not}
use Rattle.rdf_cursor.specs.Ahead.{Ahead, finished, token, prepend}
use Rattle.rdf_cursor.specs.Phrases.{Is}
use Rattle.rdf_cursor.specs.Symbols.{symbol_of, is_among}
use Rattle.rdf_cursor.specs.declared.symbols.Symbol.{Symbol}
use Rattle.rdf_cursor.specs.declared.symbols.Symbol.TheVariants as symbol
use Rattle.rdf_cursor.specs.declared.stops.Fault as any
use Rattle.rdf_cursor.proofs.Locality.{prepend-append}
use Rattle.lists.proofs.Quantifiers.{all_append}
use Rattle.rdf_lex.specs.Tokens.{Spelled}
use Rattle.rdf_terms.specs.declared.terms.Term.{Term}
use Rattle.node_constraint.specs.declared.facet.Facet.{Facet}
use Rattle.term_tokens.specs.Scopes.{Scope}
use Rattle.term_tokens.specs.Terms as terms
use Rattle.term_tokens.specs.Terms.{tags, shorthands}
use Rattle.term_tokens.proofs.Nexts.{within, outside, Next, nexts, no_next}
use Rattle.term_tokens.proofs.Nexts as low
use Rattle.shexc_constraints.specs.declared.faults.Fault.{Fault}
use Rattle.shexc_constraints.specs.declared.faults.Fault.TheVariants as fault
use Rattle.shexc_constraints.specs.Causes.{brackets, closing_brackets, directives, facet_symbols, AreAll, AreNone}
use Rattle.shexc_constraints.specs.Facets.{is_given, fresh_word, made_by, counted_facet, range_facet, counted_of, ranged_of, admitted}
use Rattle.shexc_constraints.specs.Meanings.{iri_ref_of, iri_of, at_name_of, label_of, string_of, typed_of, tagged_of, shorthand_of, tag_of, facet_number_of, range_number_of, limit_of}
use Rattle.shexc_constraints.specs.Patterns.{pattern_of}
use Rattle.shexc_constraints.specs.Stops.{raised}
use Rattle.shexc_constraints.specs.Symbols.{of_symbol, of_word, iris, numbers}
use Rattle.shexc_constraints.proofs.Complete.{iri_begins, blank_begins, string_begins, tagged_begins, shorthand_begins, at_name_begins, word_begins, pattern_begins}
use Rattle.shexc_constraints.proofs.Nexts.{first, guarded, guarded_one}
use Rattle.shexc_constraints.proofs.Raised.{lowered}

abbrev pub nesting : List Symbol
nesting = brackets ++ closing_brackets ++ directives

-- only such tokens are passed
abbrev pub Flat : Ahead Spelled → Ahead Spelled → Type 0
Flat ts r = (front : List Spelled) × (ts ≡ prepend front r) × AreNone nesting front

pub flat_then : (ts m r : Ahead Spelled) → Flat ts m → Flat m r → Flat ts r
flat_then ts m r (a, e, h) (b, f, k) = (a ++ b, e ∙ ap (prepend a) f ∙ sym (prepend-append a b r), all_append (λ t. is_among nesting t ≡ false) a b h k)

-- only tokens of facets are passed
abbrev pub OfFacets : Ahead Spelled → Ahead Spelled → Type 0
OfFacets ts r = (front : List Spelled) × (ts ≡ prepend front r) × AreAll facet_symbols front

pub facets_then : (ts m r : Ahead Spelled) → OfFacets ts m → OfFacets m r → OfFacets ts r
facets_then ts m r (a, e, h) (b, f, k) = (a ++ b, e ∙ ap (prepend a) f ∙ sym (prepend-append a b r), all_append (λ t. is_among facet_symbols t ≡ true) a b h k)

pub facets_are_flat : (ts : List Spelled) → AreAll facet_symbols ts → AreNone nesting ts
facets_are_flat [] h = tt
facets_are_flat (t ∷ ts) (h, hs) = (no_next facet_symbols nesting (token t finished) refl h, facets_are_flat ts hs)

-- classes of single tokens
abbrev pub FlatClass : {A : Type 0} → (Spelled → Result A Fault) → Type 0
FlatClass {A = A} class = (t : Spelled) (x : A) → class t ≡ Ok x → is_among nesting t ≡ false

flat_by : {A : Type 0} (ks : List Symbol) (class : Spelled → Result A Fault) → outside ks nesting ≡ true → ((x : A) (ts r : Ahead Spelled) → Is class x ts r → Next ks ts) → FlatClass class
flat_by ks class o b t x e = no_next ks nesting (token t finished) o (b x (token t finished) finished (t, refl, e))

pub mark_flat : (a : Symbol) → outside (a ∷ []) nesting ≡ true → FlatClass (of_symbol a)
mark_flat a o t x e = flat_by (a ∷ []) (of_symbol a) o (first a) t x e

pub word_flat : (words : List Symbol) → outside words nesting ≡ true → FlatClass (of_word words)
word_flat words o t x e = flat_by words (of_word words) o (word_begins words) t x e

ref_begins : (v : Scope) (x : List ℕ) (ts r : Ahead Spelled) → Is (iri_ref_of v) x ts r → Next (symbol.IriRef ∷ []) ts
unfolding iri_ref_of terms.iri_ref_of
ref_begins v x ts r h = low.guarded_one symbol.IriRef (terms.iri_ref_of false v) _ (λ t. refl) x ts r (lowered (terms.iri_ref_of false v) x ts r h)

pub iri_flat : (v : Scope) → FlatClass (iri_of v)
iri_flat v t x e = flat_by iris (iri_of v) refl (iri_begins v) t x e

pub at_name_flat : (v : Scope) → FlatClass (at_name_of v)
at_name_flat v t x e = flat_by (symbol.AtName ∷ []) (at_name_of v) refl (at_name_begins v) t x e

pub label_flat : (v : Scope) → FlatClass label_of
label_flat v t x e = flat_by (symbol.BlankLabel ∷ []) label_of refl (blank_begins v) t x e

pub string_flat : (v : Scope) → FlatClass string_of
string_flat v t x e = flat_by (symbol.Str ∷ []) string_of refl (string_begins v) t x e

pub tagged_flat : (v : Scope) (lex : List ℕ) → FlatClass (tagged_of lex)
tagged_flat v lex t x e = flat_by tags (tagged_of lex) refl (tagged_begins v lex) t x e

pub shorthand_flat : (v : Scope) → FlatClass shorthand_of
shorthand_flat v t x e = flat_by shorthands shorthand_of refl (shorthand_begins v) t x e

-- behind `^^` an IRI
typed_from : (lex : List ℕ) (c : Result (List ℕ) any.Fault) (x : Term) → terms.typed_by lex c ≡ Ok x → (i : List ℕ) × (c ≡ Ok i)
typed_from lex (Ok i) x e = (i, refl)
typed_from lex (Err f) x e = absurd cc

typed_begins : (v : Scope) (lex : List ℕ) (x : Term) (ts r : Ahead Spelled) → Is (typed_of v lex) x ts r → Next iris ts
unfolding typed_of terms.typed_of iri_of
typed_begins v lex x ts r h =
    let l = lowered (terms.typed_of false v lex) x ts r h in
    let c = typed_from lex (terms.iri_of false v l.0) x l.2 in
    iri_begins v c.0 ts r (l.0, l.1, ap raised c.1)

pub typed_flat : (v : Scope) (lex : List ℕ) → FlatClass (typed_of v lex)
typed_flat v lex t x e = flat_by iris (typed_of v lex) refl (typed_begins v lex) t x e

tag_begins : (x : List ℕ) (ts r : Ahead Spelled) → Is tag_of x ts r → Next tags ts
unfolding tag_of
tag_begins x ts r h = guarded tags tag_of _ (λ t. refl) x ts r h

pub tag_flat : FlatClass tag_of
tag_flat t x e = flat_by tags tag_of refl tag_begins t x e

limit_begins : (least : ℕ) (x : ℕ) (ts r : Ahead Spelled) → Is (limit_of least) x ts r → Next (symbol.Integer ∷ []) ts
unfolding limit_of
limit_begins least x ts r h = guarded_one symbol.Integer (limit_of least) _ (λ t. refl) x ts r h

pub limit_flat : (least : ℕ) → FlatClass (limit_of least)
limit_flat least t x e = flat_by (symbol.Integer ∷ []) (limit_of least) refl (limit_begins least) t x e

-- facets: the classes that take tokens of facets alone
abbrev pub FacetClass : {A : Type 0} → (Spelled → Result A Fault) → Type 0
FacetClass {A = A} class = (t : Spelled) (x : A) → class t ≡ Ok x → is_among facet_symbols t ≡ true

facet_by : {A : Type 0} (ks : List Symbol) (class : Spelled → Result A Fault) → within ks facet_symbols ≡ true → ((x : A) (ts r : Ahead Spelled) → Is class x ts r → Next ks ts) → FacetClass class
facet_by ks class w b t x e = nexts ks facet_symbols (token t finished) w (b x (token t finished) finished (t, refl, e))

made_from : {A : Type 0} (make : A → Facet) (c : Result A Fault) (f : Facet) → made_by make c ≡ Ok f → (x : A) × (c ≡ Ok x)
made_from make (Ok x) f e = (x, refl)
made_from make (Err g) f e = absurd cc

number_begins : (x : ℕ) (ts r : Ahead Spelled) → Is facet_number_of x ts r → Next (symbol.Integer ∷ []) ts
unfolding facet_number_of
number_begins x ts r h = guarded_one symbol.Integer facet_number_of _ (λ t. refl) x ts r h

pub counted_class : (s : Symbol) → FacetClass (counted_of s)
counted_class s t f e = let m = made_from (counted_facet s) (facet_number_of t) f e in facet_by (symbol.Integer ∷ []) facet_number_of refl number_begins t m.0 m.1

range_begins : (x : List ℕ) (ts r : Ahead Spelled) → Is range_number_of x ts r → Next numbers ts
unfolding range_number_of
range_begins x ts r h = guarded numbers range_number_of _ (λ t. refl) x ts r h

pub ranged_class : (s : Symbol) → FacetClass (ranged_of s)
ranged_class s t f e = let m = made_from (range_facet s) (range_number_of t) f e in facet_by numbers range_number_of refl range_begins t m.0 m.1

pub pattern_class : (fs : List Facet) → FacetClass (pattern_of fs)
pattern_class fs t f e = facet_by (symbol.Pattern ∷ []) (pattern_of fs) refl (pattern_begins fs) t f e

admitted_from : (bounded : Bool) (datatype : Option (List ℕ)) (c : Result Facet Fault) (f : Facet) → admitted bounded datatype c ≡ Ok f → (x : Facet) × (c ≡ Ok x)
admitted_from bounded datatype (Ok x) f e = (x, refl)
admitted_from bounded datatype (Err g) f e = absurd cc

pub admitted_class : (bounded : Bool) (datatype : Option (List ℕ)) (class : Spelled → Result Facet Fault) → FacetClass class → FacetClass (λ t. admitted bounded datatype (class t))
admitted_class bounded datatype class h t f e = let m = admitted_from bounded datatype (class t) f e in h t m.0 m.1

-- a word of a facet, which is the symbol that the class gives
fresh_by : (b : Bool) (s x : Symbol) → cond b (Ok s) (Err fault.Syntax) ≡ Ok x → (b ≡ true) × (s ≡ x)
fresh_by true s x e = (refl, cc)
fresh_by false s x e = absurd cc

pub fresh_is : (words : List Symbol) (fs : List Facet) (t : Spelled) (x : Symbol) → fresh_word words fs t ≡ Ok x → (is_among words t ≡ true) × (symbol_of t.kind t.text ≡ x)
fresh_is words fs t x e =
    let b = fresh_by (is_among words t && not (is_given (symbol_of t.kind t.text) fs)) (symbol_of t.kind t.text) x e in
    (both_first (is_among words t) (not (is_given (symbol_of t.kind t.text) fs)) b.0, b.1)
  where
    both_first : (b c : Bool) → (b && c) ≡ true → b ≡ true
    both_first true c h = refl
    both_first false c h = absurd cc

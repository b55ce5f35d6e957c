-- What is spelled is read: names, literals, annotations, facets.
use Rattle.std.proofs.Common.{Option, ◌≡◌, ℕ, Bool, true, false, cond, List, [], ◌∷◌, ◌++◌, Result, Ok, Err, refl, ◌∙◌, inl, inr, ◌&&◌}
use Rattle.std.specs.Prelude.{not}
use Rattle.rdf_cursor.specs.Ahead.{Ahead, next_is}
use Rattle.rdf_cursor.specs.Phrases.{Is, Many}
use Rattle.rdf_cursor.specs.Symbols.{symbol_of, is_symbol, is_among}
use Rattle.shexc_constraints.specs.Symbols.{iris, predicates, lengths, digit_counts, ranges, text_facets, number_facets, all_facets, references, of_word}
use Rattle.shexc_constraints.specs.Facets.{fresh_word, is_given, counted_of, ranged_of, admitted}
use Rattle.term_tokens.specs.Terms.{shorthands, tags}
use Rattle.term_tokens.specs.Scopes.{Scope}
use Rattle.shexc_constraints.specs.Meanings.{iri_of, at_name_of, string_of, typed_of, tagged_of, shorthand_of, label_of}
use Rattle.shexc_constraints.specs.Patterns.{pattern_of}
use Rattle.shexc_constraints.specs.Reading.{iri, predicate, label, datatyped, suffix, literal, object, annotation, annotations, notes, reference, counted, ranged, text_facet, number_facet, facet, text_facets_behind, number_facets_behind, facets_behind, a_facet}
use Rattle.term_tokens.proofs.Nexts.{Next, nexts, no_next, no_symbol, first_of, single}
use Rattle.shexc_constraints.proofs.Nexts.{took, Never, fewer, never, not_symbol, begins, first, guarded}
use Rattle.shexc_constraints.proofs.Places.{consumes_annotation, consumes_text_facet, consumes_number_facet, consumes_facet}
use Rattle.rdf_cursor.proofs.Completeness.{one_read, loop_read}
use Rattle.rdf_lex.specs.Tokens.{Spelled}
use Rattle.rdf_terms.specs.declared.terms.Term.{Term}
use Rattle.node_constraint.specs.declared.facet.Facet.{Facet}
use Rattle.schema_documents.specs.declared.label.Label.{Label}
use Rattle.schema_documents.specs.Tree.{ShapeExpr}
use Rattle.rdf_cursor.specs.declared.symbols.Symbol.{Symbol}
use Rattle.rdf_cursor.specs.declared.symbols.Symbol.TheVariants as symbol
use Rattle.shexc_constraints.specs.declared.faults.Fault.{Fault}
use Rattle.shexc_constraints.specs.declared.faults.Fault.TheVariants.{Syntax}
use Rattle.shexc_constraints.specs.Grammar as g
use Rattle.term_tokens.specs.Terms as any_of
use Rattle.term_tokens.proofs.Literals as any
use Rattle.term_tokens.proofs.Nexts as low
use Rattle.shexc_constraints.proofs.Raised.{lowered}
use Rattle.shexc_constraints.proofs.Admitted.{is_admitted}

-- what begins
abbrev pub literals : List Symbol
literals = symbol.Str ∷ shorthands

abbrev pub objects : List Symbol
objects = literals ++ iris

abbrev pub labels : List Symbol
labels = symbol.BlankLabel ∷ iris

-- what does not follow: behind a literal; behind annotations
abbrev pub typing : List Symbol
typing = symbol.Carets ∷ []

abbrev pub noting : List Symbol
noting = symbol.Slashes ∷ typing

both_bits : {A : Type 0} (a b : Bool) (x : Result A Fault) (f : Fault) (z : A) → cond (a && b) x (Err f) ≡ Ok z → a ≡ true
both_bits true b x f z e = refl
both_bits false b x f z e = absurd cc

module _ (v : Scope) where
  pub iri_begins : (x : List ℕ) (ts r : Ahead Spelled) → Is (iri_of v) x ts r → Next iris ts
  unfolding iri_of
  iri_begins x ts r h = nexts any.iris iris ts refl (any.iri_begins false v x ts r (lowered (any_of.iri_of false v) x ts r h))

  pub iri_read : (x : List ℕ) (ts r : Ahead Spelled) → Is (iri_of v) x ts r → iri v ts ≡ Ok (x, r)
  unfolding iri
  iri_read x ts r h = one_read Syntax (iri_of v) x ts r h

  pub predicate_read : (p : List ℕ) (ts r : Ahead Spelled) → g.Predicate v p ts r → (predicate v ts ≡ Ok (p, r)) × Next predicates ts
  unfolding predicate
  predicate_read p ts r (inl (e, (w, h))) = (rw (begins symbol.A w ts r h, took symbol.A w ts r h, e) refl, nexts (symbol.A ∷ []) predicates ts refl (first symbol.A w ts r h))
  predicate_read p ts r (inr h) = let n = iri_begins p ts r h in (rw (no_symbol iris symbol.A ts refl n, iri_read p ts r h) refl, nexts iris predicates ts refl n)

  pub blank_begins : (x : List ℕ) (ts r : Ahead Spelled) → Is label_of x ts r → Next (symbol.BlankLabel ∷ []) ts
  unfolding label_of any_of.label_of
  blank_begins x ts r h = low.guarded_one symbol.BlankLabel (any_of.label_of false) _ (λ t. refl) x ts r (lowered (any_of.label_of false) x ts r h)

  pub label_read : (l : Label) (ts r : Ahead Spelled) → g.AnyLabel v l ts r → (label v ts ≡ Ok (l, r)) × Next labels ts
  unfolding label
  label_read l ts r (inl (i, e, h)) = let n = iri_begins i ts r h in (rw (no_symbol iris symbol.BlankLabel ts refl n, iri_read i ts r h, e) refl, nexts iris labels ts refl n)
  label_read l ts r (inr (x, e, h)) =
      let n = blank_begins x ts r h in (rw (single symbol.BlankLabel ts ∙ n, one_read Syntax label_of x ts r h, e) refl, nexts (symbol.BlankLabel ∷ []) labels ts refl n)

  -- literals
  pub string_begins : (x : List ℕ) (ts r : Ahead Spelled) → Is string_of x ts r → Next (symbol.Str ∷ []) ts
  unfolding string_of
  string_begins x ts r h = any.string_begins false x ts r (lowered (any_of.string_of false) x ts r h)

  pub tagged_begins : (lex : List ℕ) (x : Term) (ts r : Ahead Spelled) → Is (tagged_of lex) x ts r → Next tags ts
  unfolding tagged_of
  tagged_begins lex x ts r h = any.tagged_begins lex x ts r (lowered (any_of.tagged_of lex) x ts r h)

  pub shorthand_begins : (x : Term) (ts r : Ahead Spelled) → Is shorthand_of x ts r → Next shorthands ts
  unfolding shorthand_of
  shorthand_begins x ts r h = any.shorthand_begins false x ts r (lowered (any_of.shorthand_of false) x ts r h)

  suffix_read : (lex : List ℕ) (x : Term) (ts r : Ahead Spelled) → g.Suffix v lex x ts r → Never typing r → suffix v lex ts ≡ Ok (x, r)
  unfolding suffix datatyped
  suffix_read lex x ts r (inl h) f = rw (tagged_begins lex x ts r h, one_read Syntax (tagged_of lex) x ts r h) refl
  suffix_read lex x ts r (inr (inl (m, (w, c), h))) f =
      rw (no_next (symbol.Carets ∷ []) tags ts refl (first symbol.Carets w ts m c), begins symbol.Carets w ts m c, took symbol.Carets w ts m c, one_read Syntax (typed_of v lex) x m r h) refl
  suffix_read lex x ts r (inr (inr (e, n, same))) f = rw (n, same, not_symbol typing symbol.Carets r refl f, e) refl

  pub literal_read : (x : Term) (ts r : Ahead Spelled) → g.Literal v x ts r → Never typing r → (literal v ts ≡ Ok (x, r)) × Next literals ts
  unfolding literal
  literal_read x ts r (inl (lex, (m, s, h))) f =
      let n = string_begins lex ts m s in (rw (single symbol.Str ts ∙ n, one_read Syntax string_of lex ts m s) (suffix_read lex x m r h f), nexts (symbol.Str ∷ []) literals ts refl n)
  literal_read x ts r (inr h) f =
      let n = shorthand_begins x ts r h in (rw (no_symbol shorthands symbol.Str ts refl n, one_read Syntax shorthand_of x ts r h) refl, nexts shorthands literals ts refl n)

  pub literal_begins : (x : Term) (ts r : Ahead Spelled) → g.Literal v x ts r → Next literals ts
  literal_begins x ts r (inl (lex, (m, s, h))) = nexts (symbol.Str ∷ []) literals ts refl (string_begins lex ts m s)
  literal_begins x ts r (inr h) = nexts shorthands literals ts refl (shorthand_begins x ts r h)

  pub object_read : (x : Term) (ts r : Ahead Spelled) → g.Object v x ts r → Never typing r → (object v ts ≡ Ok (x, r)) × Next objects ts
  unfolding object
  object_read x ts r (inl (i, e, h)) f = let n = iri_begins i ts r h in (rw (n, iri_read i ts r h, e) refl, nexts iris objects ts refl n)
  object_read x ts r (inr h) f = let a = literal_read x ts r h f in (rw (no_next literals iris ts refl a.1) a.0, nexts literals objects ts refl a.1)

  -- annotations
  annotation_read : (ts r : Ahead Spelled) → g.Annotation v ts r → Never typing r → annotation v ts ≡ Ok (tt, r)
  unfolding annotation
  annotation_read ts r (p, x, (m, (w, c), (n, h, i))) f = let a = predicate_read p m n h in let b = object_read x n r i f in rw (took symbol.Slashes w ts m c, a.0, b.0) refl

  annotation_starts : (ts r : Ahead Spelled) → g.Annotation v ts r → next_is (is_symbol symbol.Slashes) ts ≡ true
  annotation_starts ts r (p, x, (m, (w, c), h)) = begins symbol.Slashes w ts m c

  untyped : (ts : Ahead Spelled) → next_is (is_symbol symbol.Slashes) ts ≡ true → Never typing ts
  untyped ts h = never (symbol.Slashes ∷ []) typing ts refl (first_of symbol.Slashes ts h)

  pub annotations_read : (ts r : Ahead Spelled) → g.Each (g.Annotation v) ts r → Never noting r → annotations v ts ≡ Ok (tt, r)
  unfolding annotations
  annotations_read ts r h f =
      loop_read (is_symbol symbol.Slashes) (λ (u : Unit {0}). annotation v) (λ (a b : Unit {0}) ts r. g.Annotation v ts r) (Never typing) (λ u. consumes_annotation v)
      (λ a b ts m o k. annotation_read ts m o k) (λ a b ts m o. annotation_starts ts m o) untyped tt tt ts r h (fewer typing noting r refl f) (not_symbol noting symbol.Slashes r refl f)

  pub notes_read : (whole : Bool) (ts r : Ahead Spelled) → g.Notes v whole ts r → Never noting r → notes v whole ts ≡ Ok (tt, r)
  unfolding notes
  notes_read true ts r h f = annotations_read ts r h f
  notes_read false ts r h f = rw h refl

  -- references
  pub at_name_begins : (i : List ℕ) (ts r : Ahead Spelled) → Is (at_name_of v) i ts r → Next (symbol.AtName ∷ []) ts
  unfolding at_name_of any_of.at_name_of
  at_name_begins i ts r h = low.guarded_one symbol.AtName (any_of.at_name_of false v) _ (λ t. refl) i ts r (lowered (any_of.at_name_of false v) i ts r h)

  pub reference_read : (e : ShapeExpr) (ts r : Ahead Spelled) → g.Reference v e ts r → (reference v ts ≡ Ok (e, r)) × Next references ts
  unfolding reference
  reference_read e ts r (l, q, inl (m, (w, c), h)) =
      let n = first symbol.At w ts m c in
      (rw (no_symbol (symbol.At ∷ []) symbol.AtName ts refl n, took symbol.At w ts m c, (label_read l m r h).0, q) refl, nexts (symbol.At ∷ []) references ts refl n)
  reference_read e ts r (l, q, inr (i, k, h)) =
      let n = at_name_begins i ts r h in
      (rw (single symbol.AtName ts ∙ n, one_read Syntax (at_name_of v) i ts r h, k, q) refl, nexts (symbol.AtName ∷ []) references ts refl n)

-- words
pub fresh_begins : (words : List Symbol) (fs : List Facet) (s : Symbol) (ts r : Ahead Spelled) → Is (fresh_word words fs) s ts r → Next words ts
fresh_begins words fs s ts r h =
    rw h.1 (both_bits (is_among words h.0) (not (is_given (symbol_of h.0.kind h.0.text) fs)) (Ok (symbol_of h.0.kind h.0.text)) Syntax s h.2)

pub word_begins : (words : List Symbol) (s : Symbol) (ts r : Ahead Spelled) → Is (of_word words) s ts r → Next words ts
word_begins words s ts r h = guarded words (of_word words) _ (λ t. refl) s ts r h

pub pattern_begins : (fs : List Facet) (f : Facet) (ts r : Ahead Spelled) → Is (pattern_of fs) f ts r → Next (symbol.Pattern ∷ []) ts
unfolding pattern_of
pattern_begins fs f ts r h = first_of symbol.Pattern ts (rw h.1 (both_bits (is_symbol symbol.Pattern h.0) (not (is_given symbol.Pattern fs)) _ Syntax f h.2))

abbrev Anything : Ahead Spelled → Type 0
Anything ts = Unit {0}

-- facets
module _ (bounded : Bool) (datatype : Option (List ℕ)) where
  a_facet_read : (class : Spelled → Result Facet Fault) (fs gs : List Facet) (ts r : Ahead Spelled) → g.AFacet bounded datatype class fs gs ts r → a_facet bounded datatype class fs ts ≡ Ok (gs, r)
  unfolding a_facet
  a_facet_read class fs gs ts r (f, e, a, h) = rw (one_read Syntax (λ t. admitted bounded datatype (class t)) f ts r (is_admitted bounded datatype class f ts r a h), e) refl

  counted_read : (words : List Symbol) (fs gs : List Facet) (ts r : Ahead Spelled) → g.Counted bounded datatype words fs gs ts r → (counted bounded datatype words fs ts ≡ Ok (gs, r)) × Next words ts
  unfolding counted
  counted_read words fs gs ts r (s, (m, c, h)) = (rw (one_read Syntax (fresh_word words fs) s ts m c) (a_facet_read (counted_of s) fs gs m r h), fresh_begins words fs s ts m c)

  pub text_facet_read : (fs gs : List Facet) (ts r : Ahead Spelled) → g.TextFacet bounded datatype fs gs ts r → (text_facet bounded datatype fs ts ≡ Ok (gs, r)) × Next text_facets ts
  unfolding text_facet
  text_facet_read fs gs ts r (inl h) =
      let n = pattern_begins fs h.0 ts r h.3 in (rw (single symbol.Pattern ts ∙ n) (a_facet_read (pattern_of fs) fs gs ts r h), nexts (symbol.Pattern ∷ []) text_facets ts refl n)
  text_facet_read fs gs ts r (inr h) = let a = counted_read lengths fs gs ts r h in (rw (no_symbol lengths symbol.Pattern ts refl a.1) a.0, nexts lengths text_facets ts refl a.1)

  pub number_facet_read : (fs gs : List Facet) (ts r : Ahead Spelled) → g.NumberFacet bounded datatype fs gs ts r → (number_facet bounded datatype fs ts ≡ Ok (gs, r)) × Next number_facets ts
  unfolding number_facet ranged
  number_facet_read fs gs ts r (inl (s, (m, c, h))) =
      let n = fresh_begins ranges fs s ts m c in
      (rw (no_next ranges digit_counts ts refl n, one_read Syntax (fresh_word ranges fs) s ts m c) (a_facet_read (ranged_of s) fs gs m r h), nexts ranges number_facets ts refl n)
  number_facet_read fs gs ts r (inr h) = let a = counted_read digit_counts fs gs ts r h in (rw a.1 a.0, nexts digit_counts number_facets ts refl a.1)

  pub facet_read : (fs gs : List Facet) (ts r : Ahead Spelled) → g.AnyFacet bounded datatype fs gs ts r → (facet bounded datatype fs ts ≡ Ok (gs, r)) × Next all_facets ts
  unfolding facet
  facet_read fs gs ts r (inl h) = let a = text_facet_read fs gs ts r h in (rw a.1 a.0, nexts text_facets all_facets ts refl a.1)
  facet_read fs gs ts r (inr h) = let a = number_facet_read fs gs ts r h in (rw (no_next number_facets text_facets ts refl a.1) a.0, nexts number_facets all_facets ts refl a.1)

  pub text_facets_read : (fs gs : List Facet) (ts r : Ahead Spelled) → Many (g.TextFacet bounded datatype) fs gs ts r → Never text_facets r → text_facets_behind bounded datatype fs ts ≡ Ok (gs, r)
  unfolding text_facets_behind
  text_facets_read fs gs ts r h f =
      loop_read (is_among text_facets) (text_facet bounded datatype) (g.TextFacet bounded datatype) Anything (consumes_text_facet bounded datatype)
      (λ a b ts m o k. (text_facet_read a b ts m o).0) (λ a b ts m o. (text_facet_read a b ts m o).1) (λ m n. tt)
      fs gs ts r h tt f

  pub number_facets_read : (fs gs : List Facet) (ts r : Ahead Spelled) → Many (g.NumberFacet bounded datatype) fs gs ts r → Never number_facets r →
      number_facets_behind bounded datatype fs ts ≡ Ok (gs, r)
  unfolding number_facets_behind
  number_facets_read fs gs ts r h f =
      loop_read (is_among number_facets) (number_facet bounded datatype) (g.NumberFacet bounded datatype) Anything (consumes_number_facet bounded datatype)
      (λ a b ts m o k. (number_facet_read a b ts m o).0) (λ a b ts m o. (number_facet_read a b ts m o).1) (λ m n. tt)
      fs gs ts r h tt f

  pub facets_read : (fs gs : List Facet) (ts r : Ahead Spelled) → Many (g.AnyFacet bounded datatype) fs gs ts r → Never all_facets r → facets_behind bounded datatype fs ts ≡ Ok (gs, r)
  unfolding facets_behind
  facets_read fs gs ts r h f =
      loop_read (is_among all_facets) (facet bounded datatype) (g.AnyFacet bounded datatype) Anything (consumes_facet bounded datatype)
      (λ a b ts m o k. (facet_read a b ts m o).0) (λ a b ts m o. (facet_read a b ts m o).1) (λ m n. tt)
      fs gs ts r h tt f

-- What is spelled is read: values and constraints.
use Rattle.std.proofs.Common.{◌≡◌, ℕ, Bool, true, false, List, [], ◌∷◌, ◌++◌, Option, Some, None, Ok, refl, ◌∙◌, inl, inr}
use Rattle.std.specs.Str.{chars}
use Rattle.rdf_cursor.specs.Ahead.{Ahead, next_is}
use Rattle.rdf_cursor.specs.Phrases.{Phrase, Is, Many}
use Rattle.rdf_cursor.specs.Properties.{IsLocal, Consumes}
use Rattle.rdf_cursor.specs.Symbols.{is_symbol, is_other}
use Rattle.shexc_constraints.specs.Symbols.{of_symbol, iris, text_facets, number_facets, all_facets, node_kinds, non_literals, literal_constraints, Mark, of_word}
use Rattle.term_tokens.specs.Terms.{tags}
use Rattle.term_tokens.specs.Scopes.{Scope}
use Rattle.shexc_constraints.specs.Meanings.{tag_of}
use Rattle.shexc_constraints.specs.Values.{stem_or_range}
use Rattle.shexc_constraints.specs.Stops.{R}
use Rattle.shexc_constraints.specs.Reading.{lexical_form, iri_text, tag, stem_or_exact, exclusion, exclusions, stemmed, iri_value, literal_value, tag_value, any_tag, excluded, wildcard, value, value_behind, value_set, of_kind, of_texts, non_literal, any_literal, of_datatype, of_values, of_numbers, literal_constraint}
use Rattle.term_tokens.proofs.Nexts.{Next, nexts, no_next, no_symbol, first_of, single, other_next, same_next}
use Rattle.shexc_constraints.proofs.Nexts.{Never, fewer, never, not_symbol, begins, first, guarded, took}
use Rattle.shexc_constraints.proofs.Places.{local_iri_text, consumes_iri_text, local_lexical_form, consumes_lexical_form, local_tag, consumes_tag, consumes_exclusion, consumes_value_behind}
use Rattle.shexc_constraints.proofs.Complete.{typing, literals, iri_begins, iri_read, literal_read, literal_begins, text_facet_read, number_facet_read, text_facets_read, number_facets_read, facets_read, word_begins}
use Rattle.rdf_cursor.proofs.Completeness.{one_read, loop_read, many_follows, elements_read}
use Rattle.rdf_lex.specs.Tokens.{Spelled}
use Rattle.value_sets.specs.declared.value.Except.{Except}
use Rattle.value_sets.specs.declared.value.Value.{Value}
use Rattle.value_sets.specs.declared.value.Value.TheVariants as values
use Rattle.schema_documents.specs.Tree.{ShapeExpr}
use Rattle.rdf_cursor.specs.declared.symbols.Symbol.{Symbol}
use Rattle.rdf_cursor.specs.declared.symbols.Symbol.TheVariants as symbol
use Rattle.shexc_constraints.specs.declared.faults.Fault.TheVariants.{Syntax}
use Rattle.shexc_constraints.specs.Grammar as g

-- what does not follow: behind a text without `~`, and behind exclusions
abbrev pub exact : List Symbol
exact = symbol.Tilde ∷ typing

abbrev pub excluding : List Symbol
excluding = symbol.Minus ∷ exact

-- what a value begins with
abbrev pub value_starts : List Symbol
value_starts = symbol.Dot ∷ symbol.At ∷ tags ++ literals ++ iris

module _ (v : Scope) where
  iri_text_read : (text : List ℕ) (ts r : Ahead Spelled) → g.IriText v text ts r → Never typing r → iri_text v ts ≡ Ok (text, r)
  unfolding iri_text
  iri_text_read text ts r (i, e, h) f = rw (iri_read v i ts r h, e) refl

  lexical_form_read : (lex : List ℕ) (ts r : Ahead Spelled) → g.LexicalForm v lex ts r → Never typing r → lexical_form v ts ≡ Ok (lex, r)
  unfolding lexical_form
  lexical_form_read lex ts r (x, e, h) f = rw ((literal_read v x ts r h f).0, e) refl

  tag_read : (text : List ℕ) (ts r : Ahead Spelled) → g.Tag v text ts r → Never typing r → tag v ts ≡ Ok (text, r)
  unfolding tag
  tag_read text ts r h f = one_read Syntax tag_of text ts r h

  tag_begins : (text : List ℕ) (ts r : Ahead Spelled) → Is tag_of text ts r → Next tags ts
  unfolding tag_of
  tag_begins text ts r h = guarded tags tag_of _ (λ t. refl) text ts r h

  module _ (p : R (List ℕ)) (P : List ℕ → Phrase Spelled) (local : IsLocal p) (takes : Consumes p)
      (reads : (text : List ℕ) (ts r : Ahead Spelled) → P text ts r → Never typing r → p ts ≡ Ok (text, r)) where
    stem_or_exact_read : (xs ys : List Except) (ts r : Ahead Spelled) → g.Adds (g.Excluded v P) xs ys ts r → Never exact r → stem_or_exact v p xs ts ≡ Ok (ys, r)
    unfolding stem_or_exact
    stem_or_exact_read xs ys ts r (x, e, (text, inl (q, (m, h, (w, c))))) f =
        rw (reads text ts m h (never (symbol.Tilde ∷ []) typing m refl (first symbol.Tilde w m r c)), begins symbol.Tilde w m r c, took symbol.Tilde w m r c, q, e) refl
    stem_or_exact_read xs ys ts r (x, e, (text, inr (q, h))) f = rw (reads text ts r h (fewer typing exact r refl f), not_symbol exact symbol.Tilde r refl f, q, e) refl

    exclusion_read : (xs ys : List Except) (ts r : Ahead Spelled) → g.Adds (g.Exclusion v P) xs ys ts r → Never exact r → exclusion v p xs ts ≡ Ok (ys, r)
    unfolding exclusion
    exclusion_read xs ys ts r (x, e, (m, (w, c), h)) f = rw (took symbol.Minus w ts m c) (stem_or_exact_read xs ys m r (x, e, h) f)

    exclusion_starts : (xs ys : List Except) (ts r : Ahead Spelled) → g.Adds (g.Exclusion v P) xs ys ts r → next_is (is_symbol symbol.Minus) ts ≡ true
    exclusion_starts xs ys ts r (x, e, (m, (w, c), h)) = begins symbol.Minus w ts m c

    before_minus : (ts : Ahead Spelled) → next_is (is_symbol symbol.Minus) ts ≡ true → Never exact ts
    before_minus ts h = never (symbol.Minus ∷ []) exact ts refl (first_of symbol.Minus ts h)

    exclusions_read : (xs ys : List Except) (ts r : Ahead Spelled) → Many (g.Adds (g.Exclusion v P)) xs ys ts r → Never excluding r → exclusions v p xs ts ≡ Ok (ys, r)
    unfolding exclusions
    exclusions_read xs ys ts r h f =
        loop_read (is_symbol symbol.Minus) (exclusion v p) (g.Adds (g.Exclusion v P)) (Never exact) (consumes_exclusion v p local takes) exclusion_read exclusion_starts before_minus xs ys ts r h
        (fewer exact excluding r refl f) (not_symbol excluding symbol.Minus r refl f)

    -- what is ahead behind a text
    stemmed_read : (stem : List ℕ → Value) (range : Option (List ℕ) → List Except →
        Value) (text : List ℕ) (xs : List Except) (x : Value) (m n r : Ahead Spelled) → stem_or_range stem range text xs ≡ x → Mark symbol.Tilde m n
        → Many (g.Adds (g.Exclusion v P)) [] xs n r → Never excluding r → stemmed v p stem range text m ≡ Ok (x, r)
    unfolding stemmed
    stemmed_read stem range text xs x m n r e (w, c) h f = rw (took symbol.Tilde w m n c, exclusions_read [] xs n r h f, e) refl

    excluded_read : (range : Option (List ℕ) → List Except → Value) (xs ys : List Except) (x : Value) (n k r : Ahead Spelled) → range None ys ≡ x →
        g.Adds (g.Excluded v P) [] xs n k → Many (g.Adds (g.Exclusion v P)) xs ys k r
        → Never excluding r → excluded v p range n ≡ Ok (x, r)
    unfolding excluded
    excluded_read range xs ys x n k r e h others f =
        let k1 : Never exact k = many_follows (is_symbol symbol.Minus) (g.Adds (g.Exclusion v P)) (Never exact) exclusion_starts before_minus xs ys k r others (fewer exact excluding r refl f) in
        rw (stem_or_exact_read [] xs n k h k1, exclusions_read xs ys k r others f, e) refl

  abbrev Reads : Value → Ahead Spelled → Ahead Spelled → Type 0
  Reads x ts r = (value v ts ≡ Ok (x, r)) × Next value_starts ts

  by_iri : (x : Value) (ts r : Ahead Spelled) → Next iris ts → iri_value v ts ≡ Ok (x, r) → Reads x ts r
  unfolding value
  by_iri x ts r n e = (rw (no_symbol iris symbol.Dot ts refl n, n) e, nexts iris value_starts ts refl n)

  by_tag : (x : Value) (ts r : Ahead Spelled) → Next tags ts → tag_value v ts ≡ Ok (x, r) → Reads x ts r
  unfolding value
  by_tag x ts r n e = (rw (no_symbol tags symbol.Dot ts refl n, no_next tags iris ts refl n, n) e, nexts tags value_starts ts refl n)

  by_literal : (x : Value) (ts r : Ahead Spelled) → Next literals ts → literal_value v ts ≡ Ok (x, r) → Reads x ts r
  unfolding value
  by_literal x ts r n e =
      (rw (no_symbol literals symbol.Dot ts refl n, no_next literals iris ts refl n, no_next literals tags ts refl n, no_symbol literals symbol.At ts refl n) e, nexts literals value_starts ts refl n)

  by_dot : (x : Value) (w u : Spelled) (ts m n r : Ahead Spelled) → Is (of_symbol symbol.Dot) w ts m → Is (of_symbol symbol.Minus) u m n → wildcard v ts ≡ Ok (x, r) → Reads x ts r
  unfolding value
  by_dot x w u ts m n r c d e = (rw (begins symbol.Dot w ts m c) e, nexts (symbol.Dot ∷ []) value_starts ts refl (first symbol.Dot w ts m c))

  -- behind a text that no `~` follows, and that one follows
  untilded : (r : Ahead Spelled) → Never excluding r → next_is (is_symbol symbol.Tilde) r ≡ false
  untilded r f = not_symbol excluding symbol.Tilde r refl f

  untyped : (w : Spelled) (m n : Ahead Spelled) → Is (of_symbol symbol.Tilde) w m n → Never typing m
  untyped w m n c = never (symbol.Tilde ∷ []) typing m refl (first symbol.Tilde w m n c)

  -- what texts begin with
  form_begins : (lex : List ℕ) (ts r : Ahead Spelled) → g.LexicalForm v lex ts r → Never typing r → Next literals ts
  form_begins lex ts r (x, e, h) f = literal_begins v x ts r h

  typing_behind : (P : List ℕ → Phrase Spelled) (xs ys : List Except) (k r : Ahead Spelled) → Many (g.Adds (g.Exclusion v P)) xs ys k r → Never excluding r → Never typing k
  typing_behind P xs ys k r others f =
      many_follows (is_symbol symbol.Minus) (g.Adds (g.Exclusion v P)) (Never typing) (λ s x ts m o. begins symbol.Minus o.2.1.0 ts o.2.0 o.2.1.1)
      (λ m h. never (symbol.Minus ∷ []) typing m refl (first_of symbol.Minus m h)) xs ys k r others (fewer typing excluding r refl f)

  -- behind `.` and `-`
  text_begins : (P : List ℕ → Phrase Spelled) (starts : List Symbol) → ((text : List ℕ) (ts r : Ahead Spelled) → P text ts r → Never typing r → Next starts ts)
      → (xs : List Except) (n k : Ahead Spelled) → g.Adds (g.Excluded v P) [] xs n k → Never typing k → Next starts n
  text_begins P starts h xs n k (x, e, (text, inl (q, (m, t, (w, c))))) f = h text n m t (untyped w m k c)
  text_begins P starts h xs n k (x, e, (text, inr (q, t))) f = h text n k t f

  pub value_read : (x : Value) (ts r : Ahead Spelled) → g.OneValue v x ts r → Never excluding r → Reads x ts r
  unfolding iri_value literal_value tag_value any_tag wildcard value
  value_read x ts r (inl (y, e, inl (i, q, h))) f = by_iri x ts r (iri_begins v i ts r h) (rw (iri_read v i ts r h, untilded r f, q, e) refl)
  value_read x ts r (inl (y, e, inr h)) f =
      let a = literal_read v y ts r h (fewer typing excluding r refl f) in by_literal x ts r a.1 (rw (a.0, untilded r f, e) refl)
  value_read x ts r (inr (inl (text, e, h))) f = by_tag x ts r (tag_begins text ts r h) (rw (tag_read text ts r h (fewer typing excluding r refl f), untilded r f, e) refl)
  value_read x ts r (inr (inr (inl (text, xs, e, (m, (i, q, h), (n, (w, c), others)))))) f =
      by_iri x ts r (iri_begins v i ts m h)
      (rw (iri_read v i ts m h, begins symbol.Tilde w m n c, q) (stemmed_read (iri_text v) (g.IriText v) (local_iri_text v) (consumes_iri_text v) iri_text_read values.IriStem values.IriRange text xs x m n r e (w, c) others f))
  value_read x ts r (inr (inr (inr (inl (text, xs, e, (m, (y, q, h), (n, (w, c), others))))))) f =
      let a = literal_read v y ts m h (untyped w m n c) in
      by_literal x ts r a.1
      (rw (a.0, begins symbol.Tilde w m n c, q) (stemmed_read (lexical_form v) (g.LexicalForm v) (local_lexical_form v) (consumes_lexical_form v) lexical_form_read values.LitStem values.LitRange text xs x m n r e (w, c) others f))
  value_read x ts r (inr (inr (inr (inr (inl (text, xs, e, (m, h, (n, (w, c), others)))))))) f =
      by_tag x ts r (tag_begins text ts m h)
      (rw (tag_read text ts m h (untyped w m n c), begins symbol.Tilde w m n c) (stemmed_read (tag v) (g.Tag v) (local_tag v) (consumes_tag v) tag_read values.LangStem values.LangRange text xs x m n r e (w, c) others f))
  value_read x ts r (inr (inr (inr (inr (inr (inl (xs, e, (m, (u, d), (n, (w, c), others))))))))) f =
      let k = first symbol.At u ts m d in (
        rw (no_symbol (symbol.At ∷ []) symbol.Dot ts refl k, no_next (symbol.At ∷ []) iris ts refl k, no_next (symbol.At ∷ []) tags ts refl k, begins symbol.At u ts m d, took symbol.At u ts m d)
            (stemmed_read (tag v) (g.Tag v) (local_tag v) (consumes_tag v) tag_read values.LangStem values.LangRange [] xs x m n r e (w, c) others f),
        nexts (symbol.At ∷ []) value_starts ts refl k,
      )
  value_read x ts r (inr (inr (inr (inr (inr (inr (inl (ys, e, (m, (w, c), (xs, (k, (y, q, (n, (u, d), t)), others))))))))))) f =
      let b = text_begins (g.IriText v) iris (λ text a b i z. iri_begins v i.0 a b i.2) xs n k (y, q, t) (typing_behind (g.IriText v) xs ys k r others f) in
      by_dot x w u ts m n r c d (rw (took symbol.Dot w ts m c, took symbol.Minus u m n d, b)
      (excluded_read (iri_text v) (g.IriText v) (local_iri_text v) (consumes_iri_text v) iri_text_read values.IriRange xs ys x n k r e (y, q, t) others f))
  value_read x ts r (inr (inr (inr (inr (inr (inr (inr (inl (ys, e, (m, (w, c), (xs, (k, (y, q, (n, (u, d), t)), others)))))))))))) f =
      let b = text_begins (g.LexicalForm v) literals form_begins xs n k (y, q, t) (typing_behind (g.LexicalForm v) xs ys k r others f) in
      by_dot x w u ts m n r c d (rw (took symbol.Dot w ts m c, took symbol.Minus u m n d, no_next literals iris n refl b, no_next literals tags n refl b)
      (excluded_read (lexical_form v) (g.LexicalForm v) (local_lexical_form v) (consumes_lexical_form v) lexical_form_read values.LitRange xs ys x n k r e (y, q, t) others f))
  value_read x ts r (inr (inr (inr (inr (inr (inr (inr (inr (ys, e, (m, (w, c), (xs, (k, (y, q, (n, (u, d), t)), others)))))))))))) f =
      let b = text_begins (g.Tag v) tags (λ text a b i z. tag_begins text a b i) xs n k (y, q, t) (typing_behind (g.Tag v) xs ys k r others f) in
      by_dot x w u ts m n r c d (rw (took symbol.Dot w ts m c, took symbol.Minus u m n d, no_next tags iris n refl b, b)
      (excluded_read (tag v) (g.Tag v) (local_tag v) (consumes_tag v) tag_read values.LangRange xs ys x n k r e (y, q, t) others f))

  value_behind_read : (xs ys : List Value) (ts r : Ahead Spelled) → g.Adds (g.OneValue v) xs ys ts r → Never excluding r → value_behind v xs ts ≡ Ok (ys, r)
  unfolding value_behind
  value_behind_read xs ys ts r (x, e, h) f = rw ((value_read x ts r h f).0, e) refl

  one_begins : (x : Value) (ts r : Ahead Spelled) → g.OneValue v x ts r → Next value_starts ts
  one_begins x ts r (inl (y, e, inl (i, q, h))) = nexts iris value_starts ts refl (iri_begins v i ts r h)
  one_begins x ts r (inl (y, e, inr h)) = nexts literals value_starts ts refl (literal_begins v y ts r h)
  one_begins x ts r (inr (inl (text, e, h))) = nexts tags value_starts ts refl (tag_begins text ts r h)
  one_begins x ts r (inr (inr (inl (text, xs, e, (m, (i, q, h), others))))) = nexts iris value_starts ts refl (iri_begins v i ts m h)
  one_begins x ts r (inr (inr (inr (inl (text, xs, e, (m, (y, q, h), others)))))) = nexts literals value_starts ts refl (literal_begins v y ts m h)
  one_begins x ts r (inr (inr (inr (inr (inl (text, xs, e, (m, h, others))))))) = nexts tags value_starts ts refl (tag_begins text ts m h)
  one_begins x ts r (inr (inr (inr (inr (inr (inl (xs, e, (m, (u, d), others)))))))) = nexts (symbol.At ∷ []) value_starts ts refl (first symbol.At u ts m d)
  one_begins x ts r (inr (inr (inr (inr (inr (inr (inl (ys, e, (m, (w, c), others))))))))) = nexts (symbol.Dot ∷ []) value_starts ts refl (first symbol.Dot w ts m c)
  one_begins x ts r (inr (inr (inr (inr (inr (inr (inr (inl (ys, e, (m, (w, c), others)))))))))) = nexts (symbol.Dot ∷ []) value_starts ts refl (first symbol.Dot w ts m c)
  one_begins x ts r (inr (inr (inr (inr (inr (inr (inr (inr (ys, e, (m, (w, c), others)))))))))) = nexts (symbol.Dot ∷ []) value_starts ts refl (first symbol.Dot w ts m c)

  value_goes : (xs ys : List Value) (ts r : Ahead Spelled) → g.Adds (g.OneValue v) xs ys ts r → next_is (is_other symbol.CloseBracket) ts ≡ true
  value_goes xs ys ts r (x, e, h) = other_next symbol.CloseBracket value_starts ts refl (one_begins x ts r h)

  value_then : (xs ys : List Value) (ts r : Ahead Spelled) → g.Adds (g.OneValue v) xs ys ts r → Never excluding ts
  value_then xs ys ts r (x, e, h) = never value_starts excluding ts refl (one_begins x ts r h)

  pub value_set_read : (xs : List Value) (ts r : Ahead Spelled) → g.ValueSet v xs ts r → (value_set v ts ≡ Ok (xs, r)) × Next (symbol.OpenBracket ∷ []) ts
  unfolding value_set
  value_set_read xs ts r (m, (w, c), (n, h, (u, d))) = (
    rw (
      took symbol.OpenBracket w ts m c,
      elements_read (is_other symbol.CloseBracket) (value_behind v) (g.Adds (g.OneValue v)) (Never excluding) (consumes_value_behind v) value_behind_read value_goes value_then [] xs m n h
          (never (symbol.CloseBracket ∷ []) excluding n refl (first symbol.CloseBracket u n r d)) (same_next symbol.CloseBracket n (begins symbol.CloseBracket u n r d)),
      took symbol.CloseBracket u n r d,
    ) refl,
    first symbol.OpenBracket w ts m c,
  )

-- constraints
module _ (bounded : Bool) (v : Scope) where
  pub non_literal_read : (e : ShapeExpr) (ts r : Ahead Spelled) → g.NonLiteral bounded v e ts r → Never text_facets r → (non_literal bounded v ts ≡ Ok (e, r)) × Next non_literals ts
  unfolding non_literal of_kind of_texts
  non_literal_read e ts r (inl (s, fs, k, (m, c, h))) f =
      let n = word_begins node_kinds s ts m c in
      (rw (n, one_read Syntax (of_word node_kinds) s ts m c, text_facets_read bounded None [] fs m r h f, k) refl, nexts node_kinds non_literals ts refl n)
  non_literal_read e ts r (inr (fs, gs, k, (m, h, i))) f =
      let a = text_facet_read bounded None [] fs ts m h in
      (rw (no_next text_facets node_kinds ts refl a.1, a.0, text_facets_read bounded None fs gs m r i f, k) refl, nexts text_facets non_literals ts refl a.1)

  pub literal_constraint_read : (e : ShapeExpr) (ts r : Ahead Spelled) → g.LiteralConstraint bounded v e ts r → Never all_facets r →
      (literal_constraint bounded v ts ≡ Ok (e, r)) × Next literal_constraints ts
  unfolding literal_constraint any_literal of_datatype of_values of_numbers
  literal_constraint_read e ts r (inl (fs, k, (m, (w, c), h))) f =
      (rw (begins symbol.Literal w ts m c, took symbol.Literal w ts m c, facets_read bounded None [] fs m r h f, k) refl, nexts (symbol.Literal ∷ []) literal_constraints ts refl (first symbol.Literal w ts m c))
  literal_constraint_read e ts r (inr (inl (i, fs, k, (m, c, h)))) f =
      let n = iri_begins v i ts m c in
      (rw (no_symbol iris symbol.Literal ts refl n, n, iri_read v i ts m c, facets_read bounded (Some (chars i)) [] fs m r h f, k) refl, nexts iris literal_constraints ts refl n)
  literal_constraint_read e ts r (inr (inr (inl (xs, fs, k, (m, c, h))))) f =
      let a = value_set_read v xs ts m c in (
        rw (
          no_symbol (symbol.OpenBracket ∷ []) symbol.Literal ts refl a.1,
          no_next (symbol.OpenBracket ∷ []) iris ts refl a.1,
          single symbol.OpenBracket ts
              ∙ a.1,
          a.0,
          facets_read bounded None [] fs m r h f,
          k,
        ) refl,
        nexts (symbol.OpenBracket ∷ []) literal_constraints ts refl a.1,
      )
  literal_constraint_read e ts r (inr (inr (inr (fs, gs, k, (m, h, i))))) f =
      let a = number_facet_read bounded None [] fs ts m h in (
        rw (no_symbol number_facets symbol.Literal ts refl a.1, no_next number_facets iris ts refl a.1, no_symbol number_facets symbol.OpenBracket ts refl a.1, a.0, number_facets_read bounded None fs gs m r i (fewer number_facets all_facets r refl f), k) refl,
        nexts number_facets literal_constraints ts refl a.1,
      )

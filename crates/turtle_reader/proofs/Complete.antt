-- What is spelled is read.
use Rattle.std.proofs.Common.{◌≡◌, ℕ, zero, suc, Bool, true, false, List, [], ◌∷◌, Ok, refl, ◌∙◌, inl, inr}
use Rattle.rdf_cursor.specs.Ahead.{Ahead, finished, next_is}
use Rattle.rdf_cursor.specs.Phrases.{Is, Many}
use Rattle.rdf_cursor.specs.Readers.{loop}
use Rattle.rdf_cursor.proofs.Completeness.{one_read, took, loop_read, many_follows, elements_follow, elements_read}
use Rattle.rdf_lex.specs.Tokens.{Spelled}
use Rattle.rdf_terms.specs.declared.terms.Term.{Term}
use Rattle.graph_index.specs.declared.loading.TermTriple.{TermTriple}
use Rattle.rdf_cursor.specs.declared.stops.Fault.TheVariants.{Syntax}
use Rattle.rdf_cursor.specs.declared.symbols.Symbol.{Symbol}
use Rattle.rdf_cursor.specs.declared.symbols.Symbol.TheVariants as symbol
use Rattle.term_tokens.specs.Terms.{iri_ref_of, iri_of, string_of, typed_of, tagged_of, shorthand_of, tags, shorthands, blank_of}
use Rattle.turtle_reader.specs.Meanings.{verbs}
use Rattle.turtle_reader.specs.Reading.{R, next_node, iri_ref, iri, literal, resource, simple, verb, one_object, comma, objects, pair, semicolon, predicates, node, in_cell, member, next_member, cells, collection, object, subject, about_subject, listed, about_node, triples, ended, prefix_declaration, base_declaration, behind, statement, further, document}
use Rattle.turtle_reader.specs.States.{names_in, DocumentScope, added}
use Rattle.rdf_cursor.specs.Symbols.{is_symbol, is_other, is_among, is_any, of_symbol}
use Rattle.rdf_terms.specs.Vocabulary.{rdf_rest}
use Rattle.turtle_reader.specs.Grammar as g
use Rattle.term_tokens.proofs.Literals as any
use Rattle.term_tokens.proofs.Literals.{iris, iri_begins}
use Rattle.term_tokens.proofs.Nexts.{Next, nexts, no_next, no_symbol, begins, first, first_of, single, other_next, same_next, any_next}
use Rattle.turtle_reader.proofs.Places.{local_object, consumes_object, consumes_comma, consumes_semicolon, consumes_next_member, consumes_further}

-- what follows
abbrev closing : List Symbol
closing = symbol.Dot ∷ symbol.CloseBracket ∷ []

abbrev after_objects : List Symbol
after_objects = symbol.Semicolon ∷ closing

-- what begins
abbrev resources : List Symbol
resources = symbol.BlankLabel ∷ iris

abbrev simples : List Symbol
simples = symbol.Str ∷ symbol.Integer ∷ symbol.Decimal ∷ symbol.Double ∷ symbol.True ∷ symbol.False ∷ resources

abbrev starts : List Symbol
starts = symbol.OpenBracket ∷ symbol.OpenParenthesis ∷ simples

abbrev after_object : List Symbol
after_object = symbol.CloseParenthesis ∷ symbol.Comma ∷ symbol.Semicolon ∷ symbol.Dot ∷ symbol.CloseBracket ∷ starts

abbrev subjects : List Symbol
subjects = symbol.OpenParenthesis ∷ resources

abbrev statements : List Symbol
statements = symbol.OpenBracket ∷ subjects

module _ (k : Bool) where
  iri_read : (v : DocumentScope) (x : List ℕ) (ts r : Ahead Spelled) → Is (iri_of k (names_in v)) x ts r → iri k v ts ≡ Ok (x, r)
  unfolding iri
  iri_read v x ts r h = one_read Syntax (iri_of k (names_in v)) x ts r h

  iri_ref_read : (v : DocumentScope) (x : List ℕ) (ts r : Ahead Spelled) → Is (iri_ref_of k (names_in v)) x ts r → iri_ref k v ts ≡ Ok (x, r)
  unfolding iri_ref
  iri_ref_read v x ts r h = one_read Syntax (iri_ref_of k (names_in v)) x ts r h

  next_read : (v : DocumentScope) (x : Term) (u : DocumentScope) (ts : Ahead Spelled) → g.IsNext k v x u → next_node k v ts ≡ Ok ((x, u), ts)
  unfolding next_node
  next_read v x u ts e = rw e refl

  literal_read : (v : DocumentScope) (x : Term) (ts r : Ahead Spelled) → g.Literal k v x ts r → Next after_object r → literal k v ts ≡ Ok (x, r)
  unfolding literal
  literal_read v x ts r h f =
      any.literal_read tags (string_of k) tagged_of (typed_of k (names_in v)) refl any.tagged_begins x ts r h (no_next after_object tags r refl f) (no_symbol after_object symbol.Carets r refl f)

  resource_read : (v : DocumentScope) (x : Term) (ts r : Ahead Spelled) → g.Resource k v x ts r → resource k v ts ≡ Ok (x, r)
  unfolding resource
  resource_read v x ts r (inl (i, e, h)) = rw (no_symbol iris symbol.BlankLabel ts refl (iri_begins k (names_in v) i ts r h), iri_read v i ts r h, e) refl
  resource_read v x ts r (inr h) = rw (single symbol.BlankLabel ts ∙ any.blank_begins k x ts r h, one_read Syntax (blank_of k) x ts r h) refl

  resource_begins : (v : DocumentScope) (x : Term) (ts r : Ahead Spelled) → g.Resource k v x ts r → Next resources ts
  resource_begins v x ts r (inl (i, e, h)) = nexts iris resources ts refl (iri_begins k (names_in v) i ts r h)
  resource_begins v x ts r (inr h) = nexts (symbol.BlankLabel ∷ []) resources ts refl (any.blank_begins k x ts r h)

  simple_read : (v : DocumentScope) (x : Term) (ts r : Ahead Spelled) → g.Simple k v x ts r → Next after_object r → simple k v ts ≡ Ok (x, r)
  unfolding simple
  simple_read v x ts r (inl (lex, (m, s, h))) f = rw (single symbol.Str ts ∙ any.string_begins k lex ts m s) (literal_read v x ts r (lex, (m, s, h)) f)
  simple_read v x ts r (inr (inl h)) f =
      let n = any.shorthand_begins k x ts r h in rw (no_symbol shorthands symbol.Str ts refl n, n, one_read Syntax (shorthand_of k) x ts r h) refl
  simple_read v x ts r (inr (inr h)) f =
      let n = resource_begins v x ts r h in rw (no_symbol resources symbol.Str ts refl n, no_next resources shorthands ts refl n) (resource_read v x ts r h)

  simple_begins : (v : DocumentScope) (x : Term) (ts r : Ahead Spelled) → g.Simple k v x ts r → Next simples ts
  simple_begins v x ts r (inl (lex, (m, s, h))) = nexts (symbol.Str ∷ []) simples ts refl (any.string_begins k lex ts m s)
  simple_begins v x ts r (inr (inl h)) = nexts shorthands simples ts refl (any.shorthand_begins k x ts r h)
  simple_begins v x ts r (inr (inr h)) = nexts resources simples ts refl (resource_begins v x ts r h)

  verb_read : (v : DocumentScope) (p : List ℕ) (ts r : Ahead Spelled) → g.Verb k v p ts r → (verb k v ts ≡ Ok (p, r)) × Next verbs ts
  unfolding verb
  verb_read v p ts r (inl (e, (w, h))) = (rw (begins symbol.A w ts r h, took symbol.A w ts r h, e) refl, nexts (symbol.A ∷ []) verbs ts refl (first symbol.A w ts r h))
  verb_read v p ts r (inr h) =
      let n = iri_begins k (names_in v) p ts r h in (rw (no_symbol iris symbol.A ts refl n, iri_read v p ts r h) refl, nexts iris verbs ts refl n)

  module _ (d : ℕ) (start : (v : DocumentScope) (x : Term) (w : DocumentScope) (ts r : Ahead Spelled) → g.Object k d v x w ts r → Next starts ts)
      (each : (v : DocumentScope) (x : Term) (w : DocumentScope) (ts r : Ahead Spelled) → g.Object k d v x w ts r → Next after_object r → object k d v ts ≡ Ok ((x, w), r)) where
    one_reads : (s : Term) (p : List ℕ) (v w : DocumentScope) (ts r : Ahead Spelled) → g.OneObject k (g.Object k d) s p v w ts r → Next after_object r → one_object k (object k d) s p v ts ≡ Ok (w, r)
    unfolding one_object
    one_reads s p v w ts r (x, u, e, h) f = rw (each v x u ts r h f, e) refl

    comma_reads : (s : Term) (p : List ℕ) (v w : DocumentScope) (ts r : Ahead Spelled) → g.Another k (g.Object k d) s p v w ts r → Next after_object r → comma k (object k d) s p v ts ≡ Ok (w, r)
    unfolding comma
    comma_reads s p v w ts r (m, (z, c), h) f = rw (took symbol.Comma z ts m c, one_reads s p v w m r h f) refl

    comma_starts : (s : Term) (p : List ℕ) (v w : DocumentScope) (ts r : Ahead Spelled) → g.Another k (g.Object k d) s p v w ts r → next_is (is_symbol symbol.Comma) ts ≡ true
    comma_starts s p v w ts r (m, (z, c), h) = begins symbol.Comma z ts m c

    comma_then : (ts : Ahead Spelled) → next_is (is_symbol symbol.Comma) ts ≡ true → Next after_object ts
    comma_then ts h = nexts (symbol.Comma ∷ []) after_object ts refl (first_of symbol.Comma ts h)

    objects_read : (s : Term) (p : List ℕ) (v w : DocumentScope) (ts r : Ahead Spelled) → g.Objects k (g.Object k d) s p v w ts r → Next after_objects r → objects k (object k d) s p v ts ≡ Ok (w, r)
    unfolding objects
    objects_read s p v w ts r (u, (m, h, i)) f =
        let g1 : Next after_object r = nexts after_objects after_object r refl f in
        let m1 : Next after_object m = many_follows (is_symbol symbol.Comma) (g.Another k (g.Object k d) s p) (Next after_object) (comma_starts s p) comma_then u w m r i g1 in
        rw (one_reads s p v u ts m h m1)
        (loop_read (is_symbol symbol.Comma) (comma k (object k d) s p) (g.Another k (g.Object k d) s p) (Next after_object) (consumes_comma k (object k d) (local_object k d) (consumes_object k d) s p)
        (comma_reads s p) (comma_starts s p) comma_then u w m r i g1 (no_symbol after_objects symbol.Comma r refl f))

    pair_read : (s : Term) (v w : DocumentScope) (ts r : Ahead Spelled) → g.Pair k (g.Object k d) s v w ts r → Next after_objects r → (pair k (object k d) s v ts ≡ Ok (w, r)) × Next verbs ts
    unfolding pair
    pair_read s v w ts r (p, (m, h, i)) f = let a = verb_read v p ts m h in (rw (a.0, objects_read s p v w m r i f) refl, a.1)

    semicolon_reads : (s : Term) (v w : DocumentScope) (ts r : Ahead Spelled) → g.Further k (g.Object k d) s v w ts r → Next after_objects r → semicolon k (object k d) s v ts ≡ Ok (w, r)
    unfolding semicolon
    semicolon_reads s v w ts r (m, (z, c), inl h) f = let a = pair_read s v w m r h f in rw (took symbol.Semicolon z ts m c, a.1, a.0) refl
    semicolon_reads s v w ts r (m, (z, c), inr (e, i)) f =
        let n : next_is (is_among verbs) m ≡ false = rw i (no_next after_objects verbs r refl f) in rw (took symbol.Semicolon z ts m c, n, e, i) refl

    semicolon_starts : (s : Term) (v w : DocumentScope) (ts r : Ahead Spelled) → g.Further k (g.Object k d) s v w ts r → next_is (is_symbol symbol.Semicolon) ts ≡ true
    semicolon_starts s v w ts r (m, (z, c), h) = begins symbol.Semicolon z ts m c

    semicolon_then : (ts : Ahead Spelled) → next_is (is_symbol symbol.Semicolon) ts ≡ true → Next after_objects ts
    semicolon_then ts h = nexts (symbol.Semicolon ∷ []) after_objects ts refl (first_of symbol.Semicolon ts h)

    predicates_read : (s : Term) (v w : DocumentScope) (ts r : Ahead Spelled) → g.Predicates k (g.Object k d) s v w ts r → Next closing r →
        (predicates k (object k d) s v ts ≡ Ok (w, r)) × Next verbs ts
    unfolding predicates
    predicates_read s v w ts r (u, (m, h, i)) f =
        let g1 : Next after_objects r = nexts closing after_objects r refl f in
        let m1 : Next after_objects m = many_follows (is_symbol symbol.Semicolon) (g.Further k (g.Object k d) s) (Next after_objects) (semicolon_starts s) semicolon_then u w m r i g1 in
        let a = pair_read s v u ts m h m1 in (
          rw a.0 (loop_read (is_symbol symbol.Semicolon) (semicolon k (object k d) s) (g.Further k (g.Object k d) s) (Next after_objects) (consumes_semicolon k (object k d) (local_object k d) (consumes_object k d) s)
              (semicolon_reads s) (semicolon_starts s) semicolon_then u w m r i g1 (no_symbol closing symbol.Semicolon r refl f)),
          a.1,
        )

    node_read : (v : DocumentScope) (x : Term) (w : DocumentScope) (ts r : Ahead Spelled) → g.Node k (g.Object k d) v x w ts r → node k (object k d) v ts ≡ Ok ((x, w), r)
    unfolding node
    node_read v x w ts r (u, n, (m, (z, o), (q, inl (c, i), (y, l)))) =
        rw (took symbol.OpenBracket z ts m o, next_read v x u m n, i, begins symbol.CloseBracket y q r l, took symbol.CloseBracket y q r l, c) refl
    node_read v x w ts r (u, n, (m, (z, o), (q, inr h, (y, l)))) =
        let a = predicates_read x u w m q h (nexts (symbol.CloseBracket ∷ []) closing q refl (first symbol.CloseBracket y q r l)) in
        rw (took symbol.OpenBracket z ts m o, next_read v x u m n, no_symbol verbs symbol.CloseBracket m refl a.1, a.0, took symbol.CloseBracket y q r l) refl

    cell_read : (cell : Term) (v w : DocumentScope) (ts r : Ahead Spelled) → g.InCell k (g.Object k d) cell v w ts r → Next after_object r → in_cell k (object k d) cell v ts ≡ Ok ((cell, w), r)
    unfolding in_cell
    cell_read cell v w ts r (y, u, e, h) f = rw (each v y u ts r h f, e) refl

    member_read : (v : DocumentScope) (x : Term) (w : DocumentScope) (ts r : Ahead Spelled) → g.Member k (g.Object k d) v x w ts r → Next after_object r → member k (object k d) v ts ≡ Ok ((x, w), r)
    unfolding member
    member_read v x w ts r (u, n, h) f = rw (next_read v x u ts n) (cell_read x u w ts r h f)

    following_read : (a b : Term × DocumentScope) (ts r : Ahead Spelled) → g.Following k (g.Object k d) a b ts r → Next after_object r → next_member k (object k d) a ts ≡ Ok (b, r)
    unfolding next_member
    following_read a b ts r (u, n, h) f = rw (next_read a.1 b.0 u ts n) (cell_read b.0 (added a.0 rdf_rest b.0 u) b.1 ts r h f)

    following_begins : (a b : Term × DocumentScope) (ts r : Ahead Spelled) → g.Following k (g.Object k d) a b ts r → Next starts ts
    following_begins a b ts r (u, n, (y, w, e, h)) = start _ y w ts r h

    following_starts : (a b : Term × DocumentScope) (ts r : Ahead Spelled) → g.Following k (g.Object k d) a b ts r → next_is (is_other symbol.CloseParenthesis) ts ≡ true
    following_starts a b ts r h = other_next symbol.CloseParenthesis starts ts refl (following_begins a b ts r h)

    following_then : (a b : Term × DocumentScope) (ts r : Ahead Spelled) → g.Following k (g.Object k d) a b ts r → Next after_object ts
    following_then a b ts r h = nexts starts after_object ts refl (following_begins a b ts r h)

    member_begins : (v : DocumentScope) (x : Term) (w : DocumentScope) (ts r : Ahead Spelled) → g.Member k (g.Object k d) v x w ts r → Next starts ts
    member_begins v x w ts r (u, n, (y, q, e, h)) = start _ y q ts r h

    cells_read : (v : DocumentScope) (x : Term) (w : DocumentScope) (ts r : Ahead Spelled) → g.Cells k (g.Object k d) v x w ts r → (cells k (object k d) v ts ≡ Ok ((x, w), r)) × Next starts ts
    unfolding cells
    cells_read v x w ts r (f, l, e, a, (m, h, (n, i, (z, c)))) =
        let g1 : Next after_object n = nexts (symbol.CloseParenthesis ∷ []) after_object n refl (first symbol.CloseParenthesis z n r c) in
        let m1 : Next after_object m = elements_follow (g.Following k (g.Object k d)) (Next after_object) following_then f l m n i g1 in (
          rw (
            member_read v f.0 f.1 ts m h m1,
            elements_read (is_other symbol.CloseParenthesis) (next_member k (object k d)) (g.Following k (g.Object k d)) (Next after_object)
                (consumes_next_member k (object k d) (local_object k d) (consumes_object k d)) following_read following_starts following_then f l m n i g1
                (same_next symbol.CloseParenthesis n (begins symbol.CloseParenthesis z n r c)),
            took symbol.CloseParenthesis z n r c,
            e,
            a,
          ) refl,
          member_begins v f.0 f.1 ts m h,
        )

    collection_read : (v : DocumentScope) (x : Term) (w : DocumentScope) (ts r : Ahead Spelled) → g.Collection k (g.Object k d) v x w ts r → collection k (object k d) v ts ≡ Ok ((x, w), r)
    unfolding collection
    collection_read v x w ts r (m, (z, o), inl (e, a, (y, c))) = rw (took symbol.OpenParenthesis z ts m o, begins symbol.CloseParenthesis y m r c, took symbol.CloseParenthesis y m r c, e, a) refl
    collection_read v x w ts r (m, (z, o), inr h) =
        let a = cells_read v x w m r h in rw (took symbol.OpenParenthesis z ts m o, no_symbol starts symbol.CloseParenthesis m refl a.1, a.0) refl

  object_begins : (d : ℕ) (v : DocumentScope) (x : Term) (w : DocumentScope) (ts r : Ahead Spelled) → g.Object k d v x w ts r → Next starts ts
  unfolding g.Object
  object_begins zero v x w ts r (e, h) = nexts simples starts ts refl (simple_begins v x ts r h)
  object_begins (suc d) v x w ts r (inl (e, h)) = nexts simples starts ts refl (simple_begins v x ts r h)
  object_begins (suc d) v x w ts r (inr (inl (u, n, (m, (z, o), i)))) = nexts (symbol.OpenBracket ∷ []) starts ts refl (first symbol.OpenBracket z ts m o)
  object_begins (suc d) v x w ts r (inr (inr (m, (z, o), i))) = nexts (symbol.OpenParenthesis ∷ []) starts ts refl (first symbol.OpenParenthesis z ts m o)

  object_read : (d : ℕ) (v : DocumentScope) (x : Term) (w : DocumentScope) (ts r : Ahead Spelled) → g.Object k d v x w ts r → Next after_object r → object k d v ts ≡ Ok ((x, w), r)
  unfolding object g.Object
  object_read zero v x w ts r (e, h) f =
      let n = simple_begins v x ts r h in rw (no_symbol simples symbol.OpenBracket ts refl n, no_symbol simples symbol.OpenParenthesis ts refl n, simple_read v x ts r h f, e) refl
  object_read (suc d) v x w ts r (inl (e, h)) f =
      let n = simple_begins v x ts r h in rw (no_symbol simples symbol.OpenBracket ts refl n, no_symbol simples symbol.OpenParenthesis ts refl n, simple_read v x ts r h f, e) refl
  object_read (suc d) v x w ts r (inr (inl (u, n, (m, (z, o), i)))) f = rw (begins symbol.OpenBracket z ts m o) (node_read d (object_begins d) (object_read d) v x w ts r (u, n, (m, (z, o), i)))
  object_read (suc d) v x w ts r (inr (inr (m, (z, o), i))) f =
      rw (no_symbol (symbol.OpenParenthesis ∷ []) symbol.OpenBracket ts refl (first symbol.OpenParenthesis z ts m o), begins symbol.OpenParenthesis z ts m o)
      (collection_read d (object_begins d) (object_read d) v x w ts r (m, (z, o), i))

  module _ (d : ℕ) where
    within_read : (s : Term) (v w : DocumentScope) (ts r : Ahead Spelled) → g.Predicates k (g.Object k d) s v w ts r → Next closing r → (predicates k (object k d) s v ts ≡ Ok (w, r)) × Next verbs ts
    within_read s v w ts r h f = predicates_read d (object_begins d) (object_read d) s v w ts r h f

    outside_read : (s : Term) (v w : DocumentScope) (ts r : Ahead Spelled) → g.Predicates k (g.Object k (suc d)) s v w ts r → Next closing r →
        (predicates k (object k (suc d)) s v ts ≡ Ok (w, r)) × Next verbs ts
    outside_read s v w ts r h f = predicates_read (suc d) (object_begins (suc d)) (object_read (suc d)) s v w ts r h f

    subject_read : (v : DocumentScope) (x : Term) (w : DocumentScope) (ts r : Ahead Spelled) → g.Subject k d v x w ts r → (subject k d v ts ≡ Ok ((x, w), r)) × Next subjects ts
    unfolding subject
    subject_read v x w ts r (inl (e, h)) =
        let n = resource_begins v x ts r h in (rw (no_symbol resources symbol.OpenParenthesis ts refl n, resource_read v x ts r h, e) refl, nexts resources subjects ts refl n)
    subject_read v x w ts r (inr (m, (z, o), i)) =
        (rw (begins symbol.OpenParenthesis z ts m o) (collection_read d (object_begins d) (object_read d) v x w ts r (m, (z, o), i)), nexts (symbol.OpenParenthesis ∷ []) subjects ts refl (first symbol.OpenParenthesis z ts m o))

    about_subject_read : (v w : DocumentScope) (ts r : Ahead Spelled) → g.AboutSubject k d v w ts r → Next closing r → (about_subject k d v ts ≡ Ok (w, r)) × Next subjects ts
    unfolding about_subject
    about_subject_read v w ts r (s, u, (m, h, i)) f =
        let a = subject_read v s u ts m h in let b = outside_read s u w m r i f in (rw (a.0, b.0) refl, a.1)

    listed_read : (s : Term) (v w : DocumentScope) (ts r : Ahead Spelled) → g.Listed k d s v w ts r → Next (symbol.Dot ∷ []) r → (listed k d s v ts ≡ Ok (w, r)) × Next verbs ts
    unfolding listed
    listed_read s v w ts r (u, (m, h, (n, (z, c), inl i))) f =
        let a = within_read s v u ts m h (nexts (symbol.CloseBracket ∷ []) closing m refl (first symbol.CloseBracket z m n c)) in
        let b = outside_read s u w n r i (nexts (symbol.Dot ∷ []) closing r refl f) in
        (rw (a.0, took symbol.CloseBracket z m n c, b.1, b.0) refl, a.1)
    listed_read s v w ts r (u, (m, h, (n, (z, c), inr (e, i)))) f =
        let a = within_read s v u ts m h (nexts (symbol.CloseBracket ∷ []) closing m refl (first symbol.CloseBracket z m n c)) in
        let b : next_is (is_among verbs) n ≡ false = rw i (no_next (symbol.Dot ∷ []) verbs r refl f) in
        (rw (a.0, took symbol.CloseBracket z m n c, b, e, i) refl, a.1)

    about_node_read : (v w : DocumentScope) (ts r : Ahead Spelled) → g.AboutNode k d v w ts r → Next (symbol.Dot ∷ []) r → about_node k d v ts ≡ Ok (w, r)
    unfolding about_node
    about_node_read v w ts r (s, u, n, (m, (z, o), inl (q, (y, c), i))) f =
        let b = outside_read s u w q r i (nexts (symbol.Dot ∷ []) closing r refl f) in
        rw (took symbol.OpenBracket z ts m o, next_read v s u m n, begins symbol.CloseBracket y m q c, took symbol.CloseBracket y m q c, b.0) refl
    about_node_read v w ts r (s, u, n, (m, (z, o), inr h)) f =
        let a = listed_read s u w m r h f in
        rw (took symbol.OpenBracket z ts m o, next_read v s u m n, no_symbol verbs symbol.CloseBracket m refl a.1, a.0) refl

    triples_read : (v w : DocumentScope) (ts r : Ahead Spelled) → g.Triples k d v w ts r → Next (symbol.Dot ∷ []) r → (triples k d v ts ≡ Ok (w, r)) × Next statements ts
    unfolding triples
    triples_read v w ts r (inl h) f =
        let a = about_subject_read v w ts r h (nexts (symbol.Dot ∷ []) closing r refl f) in (rw (no_symbol subjects symbol.OpenBracket ts refl a.1) a.0, nexts subjects statements ts refl a.1)
    triples_read v w ts r (inr (s, u, n, (m, (z, o), h))) f =
        (rw (begins symbol.OpenBracket z ts m o) (about_node_read v w ts r (s, u, n, (m, (z, o), h)) f), nexts (symbol.OpenBracket ∷ []) statements ts refl (first symbol.OpenBracket z ts m o))

  prefix_read : (v w : DocumentScope) (ts r : Ahead Spelled) → g.PrefixDeclaration k v w ts r → prefix_declaration k v ts ≡ Ok (w, r)
  unfolding prefix_declaration
  prefix_read v w ts r (t, i, e, (m, h, j)) = rw (took symbol.PnameNs t ts m h, iri_ref_read v i m r j, e) refl

  base_read : (v w : DocumentScope) (ts r : Ahead Spelled) → g.BaseDeclaration k v w ts r → base_declaration k v ts ≡ Ok (w, r)
  unfolding base_declaration
  base_read v w ts r (i, e, j) = rw (iri_ref_read v i ts r j, e) refl

  ended_read : (p : DocumentScope → R DocumentScope) (v w : DocumentScope) (ts m r : Ahead Spelled) (z : Spelled) → p v ts ≡ Ok (w, m) → Is (of_symbol symbol.Dot) z m r → ended k p v ts ≡ Ok (w, r)
  unfolding ended
  ended_read p v w ts m r z e c = rw (e, took symbol.Dot z m r c) refl

  behind_read : (a : Symbol) (p : DocumentScope → R DocumentScope) (v w : DocumentScope) (ts m r : Ahead Spelled) (z : Spelled) → Is (of_symbol a) z ts m →
      p v m ≡ Ok (w, r) → behind k a p v ts ≡ Ok (w, r)
  unfolding behind
  behind_read a p v w ts m r z c e = rw (took a z ts m c, e) refl

  module _ (d : ℕ) where
    statement_read : (v w : DocumentScope) (ts r : Ahead Spelled) → g.Statement k d v w ts r → (statement k d v ts ≡ Ok (w, r)) × (next_is is_any ts ≡ true)
    unfolding statement
    statement_read v w ts r (inl (inl (m, (z, c), (n, h, (y, e))))) =
        (rw (begins symbol.AtPrefix z ts m c) (behind_read symbol.AtPrefix _ v w ts m r z c (ended_read _ v w m n r y (prefix_read v w m n h) e)), any_next (symbol.AtPrefix ∷ []) ts (first symbol.AtPrefix z ts m c))
    statement_read v w ts r (inl (inr (inl (m, (z, c), (n, h, (y, e)))))) =
        let f = first symbol.AtBase z ts m c in
        (rw (no_symbol (symbol.AtBase ∷ []) symbol.AtPrefix ts refl f, begins symbol.AtBase z ts m c) (behind_read symbol.AtBase _ v w ts m r z c (ended_read _ v w m n r y (base_read v w m n h) e)), any_next (symbol.AtBase ∷ []) ts f)
    statement_read v w ts r (inl (inr (inr (inl (m, (z, c), h))))) =
        let f = first symbol.SparqlPrefix z ts m c in (
          rw (no_symbol (symbol.SparqlPrefix ∷ []) symbol.AtPrefix ts refl f, no_symbol (symbol.SparqlPrefix ∷ []) symbol.AtBase ts refl f, begins symbol.SparqlPrefix z ts m c)
              (behind_read symbol.SparqlPrefix _ v w ts m r z c (prefix_read v w m r h)),
          any_next (symbol.SparqlPrefix ∷ []) ts f,
        )
    statement_read v w ts r (inl (inr (inr (inr (m, (z, c), h))))) =
        let f = first symbol.SparqlBase z ts m c in (
          rw (no_symbol (symbol.SparqlBase ∷ []) symbol.AtPrefix ts refl f, no_symbol (symbol.SparqlBase ∷ []) symbol.AtBase ts refl f, no_symbol (symbol.SparqlBase ∷ []) symbol.SparqlPrefix ts refl f, begins symbol.SparqlBase z ts m c)
              (behind_read symbol.SparqlBase _ v w ts m r z c (base_read v w m r h)),
          any_next (symbol.SparqlBase ∷ []) ts f,
        )
    statement_read v w ts r (inr (m, h, (z, c))) =
        let a = triples_read d v w ts m h (first symbol.Dot z m r c) in (
          rw (no_symbol statements symbol.AtPrefix ts refl a.1, no_symbol statements symbol.AtBase ts refl a.1, no_symbol statements symbol.SparqlPrefix ts refl a.1, no_symbol statements symbol.SparqlBase ts refl a.1)
              (ended_read _ v w ts m r z a.0 c),
          any_next statements ts a.1,
        )

    pub further_read : (a b : DocumentScope × List TermTriple) (ts r : Ahead Spelled) → g.Behind k d a b ts r → Unit {0} → further k d a ts ≡ Ok (b, r)
    unfolding further
    further_read a b ts r (w, e, i, h) f = let s = statement_read a.0 w ts r h in rw (s.0, e, i) refl

    further_starts : (a b : DocumentScope × List TermTriple) (ts r : Ahead Spelled) → g.Behind k d a b ts r → next_is is_any ts ≡ true
    further_starts a b ts r (w, e, i, h) = (statement_read a.0 w ts r h).1

    pub further_loop_read : (a b : DocumentScope × List TermTriple) (ts : Ahead Spelled) → Many (g.Behind k d) a b ts finished → loop is_any (further k d) a ts ≡ Ok (b, finished)
    further_loop_read a b ts h =
        loop_read is_any (further k d) (g.Behind k d) (λ r. Unit {0}) (consumes_further k d) further_read further_starts (λ m n. tt) a b ts finished h tt refl

    pub document_read : (v : DocumentScope) (x : DocumentScope × List TermTriple) (ts : Ahead Spelled) → g.Document k d v x ts → document k d v ts ≡ Ok (x, finished)
    unfolding document
    document_read v x ts h = rw (further_loop_read (v, []) x ts h) refl

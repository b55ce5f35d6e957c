-- What is spelled is read.
use Rattle.std.proofs.Common.{◌≡◌, ℕ, Bool, true, List, [], ◌∷◌, ◌++◌, Ok, refl, sym, ap, ◌∙◌, inl, inr, append_assoc}
use Rattle.std.proofs.lemmas.List.{append-nil}
use Rattle.rdf_terms.specs.declared.terms.Term.{Term}
use Rattle.rdf_cursor.specs.Ahead.{Ahead, finished, next_is}
use Rattle.rdf_cursor.specs.Marks.{Mark}
use Rattle.rdf_cursor.specs.Phrases.{Is, ◌⨾◌}
use Rattle.rdf_cursor.specs.Readers.{Answer, and_then, loop}
use Rattle.rdf_cursor.proofs.Completeness.{one_read, took}
use Rattle.rdf_cursor.proofs.Loops.{loop_more, loop_stop}
use Rattle.rdf_lex.specs.Tokens.{Spelled}
use Rattle.rdf_cursor.specs.Symbols.{is_any}
use Rattle.rdf_cursor.specs.declared.stops.Fault.{Fault}
use Rattle.rdf_cursor.specs.declared.stops.Fault.TheVariants.{Syntax}
use Rattle.rdf_cursor.specs.declared.symbols.Symbol.{Symbol}
use Rattle.rdf_cursor.specs.declared.symbols.Symbol.TheVariants as symbol
use Rattle.graph_index.specs.declared.loading.TermTriple.{TermTriple}
use Rattle.term_tokens.specs.Terms.{absolute_of, blank_of, short_string_of, absolute_typed_of, tagged_of, tags}
use Rattle.term_tokens.proofs.Literals.{short_string_begins, absolute_begins, tagged_begins, blank_begins, literal_read}
use Rattle.term_tokens.proofs.Nexts.{Next, nexts, no_next, no_symbol, begins, first, single, any_next}
use Rattle.nt_reader.specs.Grammar as g
use Rattle.nt_reader.specs.Grammar.{LineEnd, Lines, no_lines, blank_line, line}
use Rattle.nt_reader.specs.Reading as r
use Rattle.nt_reader.proofs.Places.{consumes_line_behind}

-- what a subject begins with
abbrev subjects : List Symbol
subjects = symbol.BlankLabel ∷ symbol.IriRef ∷ []

line_end_read : (ts rest : Ahead Spelled) → LineEnd ts rest → r.line_end ts ≡ Ok (tt, rest)
unfolding r.line_end
line_end_read ts rest (inl (w, h)) = rw (begins symbol.Line w ts rest h, took symbol.Line w ts rest h) refl
line_end_read ts rest (inr (e, f)) = rw (e, f) refl

module _ (k : Bool) where
  iri_read : (i : List ℕ) (ts rest : Ahead Spelled) → Is (absolute_of k) i ts rest → r.iri k ts ≡ Ok (i, rest)
  unfolding r.iri
  iri_read i ts rest h = one_read Syntax (absolute_of k) i ts rest h

  subject_read : (x : Term) (ts rest : Ahead Spelled) → g.Subject k x ts rest → r.subject k ts ≡ Ok (x, rest)
  unfolding r.subject
  subject_read x ts rest (inl (i, e, h)) = rw (no_symbol (symbol.IriRef ∷ []) symbol.BlankLabel ts refl (absolute_begins k i ts rest h), iri_read i ts rest h, e) refl
  subject_read x ts rest (inr h) = rw (single symbol.BlankLabel ts ∙ blank_begins k x ts rest h, one_read Syntax (blank_of k) x ts rest h) refl

  subject_begins : (x : Term) (ts rest : Ahead Spelled) → g.Subject k x ts rest → Next subjects ts
  subject_begins x ts rest (inl (i, e, h)) = nexts (symbol.IriRef ∷ []) subjects ts refl (absolute_begins k i ts rest h)
  subject_begins x ts rest (inr h) = nexts (symbol.BlankLabel ∷ []) subjects ts refl (blank_begins k x ts rest h)

  predicate_read : (p : Term) (ts rest : Ahead Spelled) → g.Predicate k p ts rest → r.predicate k ts ≡ Ok (p, rest)
  unfolding r.predicate
  predicate_read p ts rest (i, e, h) = rw (iri_read i ts rest h, e) refl

  object_read : (x : Term) (ts rest : Ahead Spelled) → g.Object k x ts rest → Next (symbol.Dot ∷ []) rest → r.object k ts ≡ Ok (x, rest)
  unfolding r.object r.literal
  object_read x ts rest (inl (lex, (m, s, h))) f =
      rw (single symbol.Str ts ∙ short_string_begins k lex ts m s)
      (literal_read tags (short_string_of k) tagged_of (absolute_typed_of k) refl tagged_begins x ts rest (lex, (m, s, h)) (no_next (symbol.Dot ∷ []) tags rest refl f) (no_symbol (symbol.Dot ∷ []) symbol.Carets rest refl f))
  object_read x ts rest (inr h) f = rw (no_symbol subjects symbol.Str ts refl (subject_begins x ts rest h)) (subject_read x ts rest h)

  statement_read : (x : TermTriple) (ts rest : Ahead Spelled) → g.Statement k x ts rest → r.statement k ts ≡ Ok (x, rest)
  unfolding r.statement
  statement_read x ts rest (m, a, (n, b, (l, c, (w, d)))) =
      rw (subject_read x.subject ts m a, predicate_read x.predicate m n b, object_read x.object n l c (first symbol.Dot w l rest d), took symbol.Dot w l rest d) refl

  blank_read : (ts rest : Ahead Spelled) → Mark symbol.Line ts rest → r.line k ts ≡ Ok ([], rest)
  unfolding r.line
  blank_read ts rest (w, h) = rw (begins symbol.Line w ts rest h, took symbol.Line w ts rest h) refl

  line_read : (x : TermTriple) (ts rest : Ahead Spelled) → (g.Statement k x ⨾ LineEnd) ts rest → r.line k ts ≡ Ok (x ∷ [], rest)
  unfolding r.line
  line_read x ts rest (mid, s, e) = rw (no_symbol subjects symbol.Line ts refl (subject_begins x.subject ts s.0 s.1), statement_read x ts mid s, line_end_read mid rest e) refl

  behind_read : (before xs : List TermTriple) (ts rest : Ahead Spelled) → r.line k ts ≡ Ok (xs, rest) → r.line_behind k before ts ≡ Ok (before ++ xs, rest)
  unfolding r.line_behind
  behind_read before xs ts rest e = rw e refl

  -- one turn of the loop
  turn : (before more : List TermTriple) (ts rest : Ahead Spelled) → next_is is_any ts ≡ true → r.line_behind k before ts ≡ Ok (more, rest) →
      loop is_any (r.line_behind k) before ts ≡ loop is_any (r.line_behind k) more rest
  turn before more ts rest n e = loop_more is_any (r.line_behind k) (consumes_line_behind k) before ts n
      ∙ ap (λ (a : Answer Spelled Fault (List TermTriple)). and_then a (loop is_any (r.line_behind k))) e

  lines_read : (xs before : List TermTriple) (ts rest : Ahead Spelled) → rest ≡ finished → Lines k xs ts rest → loop is_any (r.line_behind k) before ts ≡ Ok (before ++ xs, finished)
  lines_read xs before ts rest e no_lines =
      loop_stop is_any (r.line_behind k) (consumes_line_behind k) before ts (ap (next_is is_any) e) ∙ ap (λ (v : Ahead Spelled). Ok (before, v)) e
      ∙ ap (λ (v : List TermTriple). Ok (v, finished)) (sym (append-nil before))
  lines_read xs before ts rest e (blank_line {mid = mid} (w, h) more) =
      turn before (before ++ []) ts mid (any_next (symbol.Line ∷ []) ts (first symbol.Line w ts mid h)) (behind_read before [] ts mid (blank_read ts mid (w, h)))
      ∙ lines_read xs (before ++ []) mid rest e more ∙ ap (λ (v : List TermTriple). Ok (v ++ xs, finished)) (append-nil before)
  lines_read xs before ts rest e (line {x = x} {xs = ys} {mid = mid} h more) =
      turn before (before ++ x ∷ []) ts mid (any_next subjects ts (subject_begins x.subject ts h.1.0 h.1.1)) (behind_read before (x ∷ []) ts mid (line_read x ts mid h))
      ∙ lines_read ys (before ++ x ∷ []) mid rest e more ∙ ap (λ (v : List TermTriple). Ok (v, finished)) (append_assoc before (x ∷ []) ys)

  pub document_read : (xs : List TermTriple) (ts : Ahead Spelled) → Lines k xs ts finished → r.document k ts ≡ Ok (xs, finished)
  unfolding r.document
  document_read xs ts h = rw (lines_read xs [] ts finished refl h) refl

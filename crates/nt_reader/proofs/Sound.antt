-- What is read is spelled so.
use Rattle.std.proofs.Common.{◌≡◌, Bool, List, [], ◌∷◌, ◌++◌, refl, sym, subst, inl, inr, ◌⊎◌}
use Rattle.rdf_cursor.specs.Ahead.{Ahead}
use Rattle.rdf_cursor.specs.Marks.{Mark}
use Rattle.rdf_cursor.specs.Phrases.{◌⨾◌}
use Rattle.rdf_cursor.proofs.Soundness.{Meets, meets_give, meets_one, meets_bind, meets_either, meets_finish, meets_rule}
use Rattle.rdf_lex.specs.Tokens.{Spelled}
use Rattle.rdf_cursor.specs.declared.symbols.Symbol.TheVariants as symbol
use Rattle.graph_index.specs.declared.loading.TermTriple.{TermTriple}
use Rattle.term_tokens.specs.Terms.{absolute_of, blank_of, short_string_of, absolute_typed_of, tagged_of, tags}
use Rattle.term_tokens.proofs.Literals as any
use Rattle.nt_reader.specs.Grammar as g
use Rattle.nt_reader.specs.Grammar.{LineEnd, Lines, no_lines, blank_line, line}
use Rattle.nt_reader.specs.Reading as r

line_end_meets : (ts : Ahead Spelled) → Meets r.line_end (λ x rest. LineEnd ts rest) ts
unfolding r.line_end
line_end_meets ts = meets_either (meets_bind (meets_one (λ w rest h. meets_give (inl (w, h))))) (meets_finish (λ e. inr (e, e)))

module _ (k : Bool) where
  subject_meets : (ts : Ahead Spelled) → Meets (r.subject k) (λ x rest. g.Subject k x ts rest) ts
  unfolding r.subject r.iri
  subject_meets ts = any.resource_meets (r.iri k) (absolute_of k) (blank_of k) ts (meets_one (λ i rest h. h))

  predicate_meets : (ts : Ahead Spelled) → Meets (r.predicate k) (λ p rest. g.Predicate k p ts rest) ts
  unfolding r.predicate r.iri
  predicate_meets ts = meets_bind (meets_one (λ i rest h. meets_give (i, refl, h)))

  literal_meets : (ts : Ahead Spelled) → Meets (r.literal k) (λ x rest. g.Literal k x ts rest) ts
  unfolding r.literal
  literal_meets ts = any.literal_meets tags (short_string_of k) tagged_of (absolute_typed_of k) ts

  object_meets : (ts : Ahead Spelled) → Meets (r.object k) (λ x rest. g.Object k x ts rest) ts
  unfolding r.object
  object_meets ts = meets_either (meets_rule (literal_meets ts) (λ x rest h. inl h)) (meets_rule (subject_meets ts) (λ x rest h. inr h))

  statement_meets : (ts : Ahead Spelled) → Meets (r.statement k) (λ x rest. g.Statement k x ts rest) ts
  unfolding r.statement
  statement_meets ts = meets_bind (meets_rule (subject_meets ts) (λ s m a. meets_bind (meets_rule (predicate_meets m) (λ p n b. meets_bind (meets_rule (object_meets n) (λ o l c.
      meets_bind (meets_one (λ w rest d. meets_give (m, a, (n, b, (l, c, (w, d))))))))))))

  -- one line, with at most one triple
  abbrev pub OneLine : List TermTriple → Ahead Spelled → Ahead Spelled → Type 0
  OneLine xs ts rest = ((xs ≡ []) × Mark symbol.Line ts rest) ⊎ ((x : TermTriple) × (xs ≡ x ∷ []) × (g.Statement k x ⨾ LineEnd) ts rest)

  pub line_meets : (ts : Ahead Spelled) → Meets (r.line k) (λ xs rest. OneLine xs ts rest) ts
  unfolding r.line
  line_meets ts = meets_either (meets_bind (meets_one (λ w rest h. meets_give (inl (refl, (w, h))))))
      (meets_bind (meets_rule (statement_meets ts) (λ t mid s. meets_bind (meets_rule (line_end_meets mid) (λ x rest e. meets_give (inr (t, refl, (mid, s, e))))))))

  -- lines, and a line more
  one_line : (xs : List TermTriple) (ts rest : Ahead Spelled) → OneLine xs ts rest → Lines k xs ts rest
  one_line xs ts rest (inl (e, h)) = subst (λ (v : List TermTriple). Lines k v ts rest) (sym e) (blank_line h no_lines)
  one_line xs ts rest (inr (x, e, h)) = subst (λ (v : List TermTriple). Lines k v ts rest) (sym e) (line h no_lines)

  pub lines_more : (before xs : List TermTriple) (ts mid rest : Ahead Spelled) → Lines k before ts mid → OneLine xs mid rest → Lines k (before ++ xs) ts rest
  lines_more before xs ts mid rest no_lines h = one_line xs ts rest h
  lines_more before xs ts mid rest (blank_line {mid = m} b more) h = blank_line b (lines_more before xs m mid rest more h)
  lines_more before xs ts mid rest (line {xs = ys} {mid = m} b more) h = line b (lines_more ys xs m mid rest more h)

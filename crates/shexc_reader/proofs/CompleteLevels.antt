-- What is spelled is read: expressions at each depth, statements, documents.
use Rattle.std.proofs.Common.{◌++◌, ◌≡◌, ◌∙◌, Bool, true, false, ℕ, zero, suc, List, [], ◌∷◌, Ok, Err, refl, inl, inr}
use Rattle.rdf_cursor.specs.Ahead.{Ahead, finished, next_is}
use Rattle.rdf_cursor.specs.Phrases.{Is, Many, none, more}
use Rattle.rdf_cursor.specs.Readers.{loop}
use Rattle.rdf_cursor.specs.Symbols.{is_symbol, is_any}
use Rattle.shexc_constraints.specs.Grammar.{AnyLabel}
use Rattle.shexc_constraints.specs.Symbols.{of_word}
use Rattle.term_tokens.specs.Scopes.{Scope}
use Rattle.shexc_constraints.specs.Meanings.{iri_ref_of}
use Rattle.shexc_reader.specs.States.{State}
use Rattle.shexc_reader.specs.Reading.{level, whole, base_directive, prefix_directive, import_directive, first_start, start_directive, body, declaration, statement, document}
use Rattle.shexc_reader.proofs.Places.{local_level, consumes_statement}
use Rattle.term_tokens.proofs.Nexts.{Next, nexts, no_symbol, any_next, no_next}
use Rattle.shexc_constraints.proofs.Nexts.{Never, never, begins, first, took}
use Rattle.shexc_constraints.proofs.Complete.{labels, iri_read, label_read, word_begins}
use Rattle.shexc_reader.proofs.CompleteShapes.{AreComplete}
use Rattle.shexc_reader.proofs.CompleteAtoms.{atoms}
use Rattle.shexc_reader.proofs.CompleteExprs.{atom_begins}
use Rattle.shexc_reader.proofs.CompleteGroups.{joining, whole_read, here_complete}
use Rattle.rdf_cursor.proofs.Completeness.{one_read, elements_follow, elements_read}
use Rattle.rdf_cursor.proofs.Loops.{loop_more}
use Rattle.rdf_lex.specs.Tokens.{Spelled}
use Rattle.schema_documents.specs.declared.label.Label.{Label}
use Rattle.schema_documents.specs.Tree.{ShapeExpr, MaybeShapeExpr, no_expr}
use Rattle.rdf_cursor.specs.declared.symbols.Symbol.{Symbol}
use Rattle.rdf_cursor.specs.declared.symbols.Symbol.TheVariants as symbol
use Rattle.shexc_constraints.specs.declared.faults.Fault.TheVariants.{External, Syntax}
use Rattle.shexc_reader.specs.Grammar as g
use Rattle.shexc_reader.specs.Symbols.{starts}

pub level_complete : (bounded : Bool) (v : Scope) (d : ℕ) → AreComplete (level bounded v d) (g.Level bounded v d)
unfolding level g.Level
level_complete bounded v zero = record { expr = λ e ts r h f. absurd h; triple_expr = λ t ts r h f. absurd h; triple_begins = λ t ts r h. absurd h }
level_complete bounded v (suc d) = here_complete bounded v d (level bounded v d) (g.Level bounded v d) (level_complete bounded v d) (local_level bounded v d)

-- what a statement begins with
abbrev pub statements : List Symbol
statements = symbol.SparqlBase ∷ symbol.SparqlPrefix ∷ symbol.Import ∷ starts ++ labels

module _ (bounded : Bool) (d : ℕ) where
  -- what goes on with an expression
  abbrev pub going : Scope → List Symbol
  going v = joining bounded v d (level bounded v d) (g.Level bounded v d) (level_complete bounded v d) (local_level bounded v d)

  expr_read : (v : Scope) (e : ShapeExpr) (ts r : Ahead Spelled) → g.Whole bounded d v e ts r → Never (going v) r → whole bounded d v ts ≡ Ok (e, r)
  unfolding whole level g.Level
  expr_read v e ts r h f = rw (whole_read bounded v d (level bounded v d) (g.Level bounded v d) (level_complete bounded v d) (local_level bounded v d) e ts r h f) refl

  kept : (v : Scope) (e : ShapeExpr) (ts r : Ahead Spelled) → g.Negated bounded v d (g.Level bounded v d) true e ts r → next_is (is_symbol symbol.External) ts ≡ false
  kept v e ts r (inl h) =
      no_symbol (atoms bounded v d (level bounded v d) (g.Level bounded v d) (level_complete bounded v d)) symbol.External ts refl (atom_begins bounded v d (level bounded v d) (g.Level bounded v d) (level_complete bounded v d) true e ts r h)
  kept v e ts r (inr (a, is, (m, (w, c), h))) = no_symbol (symbol.Not ∷ []) symbol.External ts refl (first symbol.Not w ts m c)

  not_external : (v : Scope) (e : ShapeExpr) (ts r : Ahead Spelled) → g.Whole bounded d v e ts r → next_is (is_symbol symbol.External) ts ≡ false
  unfolding g.Level
  not_external v e ts r (es, is, (xs, (m, (x, one, (fs, js, (ys, (k, (y, two, h), i)))), j))) = kept v y ts k h

  body_read : (v : Scope) (e : ShapeExpr) (ts r : Ahead Spelled) → g.Whole bounded d v e ts r → Never (going v) r → body bounded d v ts ≡ Ok (e, r)
  unfolding body
  body_read v e ts r h f = rw (not_external v e ts r h) (expr_read v e ts r h f)

  start_read : (a : MaybeShapeExpr) (w : Symbol) (ts m : Ahead Spelled) → a ≡ no_expr → Is (of_word starts) w ts m → first_start bounded d a ts ≡ Ok (w, m)
  unfolding first_start
  start_read a w ts m e c = rw e (one_read Syntax (of_word starts) w ts m c)

  statement_read : (a b : State) (ts r : Ahead Spelled) → g.Statement bounded d a b ts r → Never (going a.scope) r → statement bounded d a ts ≡ Ok (b, r)
  unfolding statement base_directive prefix_directive import_directive start_directive declaration
  statement_read a b ts r (inl (i, e, (m, (w, c), h))) f = rw (begins symbol.SparqlBase w ts m c, took symbol.SparqlBase w ts m c, one_read Syntax (iri_ref_of a.scope) i m r h, e) refl
  statement_read a b ts r (inr (inl (t, i, e, (m, (w, c), (k, p, h))))) f =
      rw (no_symbol (symbol.SparqlPrefix ∷ []) symbol.SparqlBase ts refl (first symbol.SparqlPrefix w ts m c), begins symbol.SparqlPrefix w ts m c, took symbol.SparqlPrefix w ts m c, took symbol.PnameNs t m k p, one_read Syntax (iri_ref_of a.scope) i k r h, e) refl
  statement_read a b ts r (inr (inr (inl (i, e, (m, (w, c), h))))) f =
      let n = first symbol.Import w ts m c in
      rw (no_symbol (symbol.Import ∷ []) symbol.SparqlBase ts refl n, no_symbol (symbol.Import ∷ []) symbol.SparqlPrefix ts refl n, begins symbol.Import w ts m c, took symbol.Import w ts m c, iri_read a.scope i m r h, e) refl
  statement_read a b ts r (inr (inr (inr (inl (e, unset, is, (m, (w, c), (k, (u, p), h))))))) f =
      let n = word_begins starts w ts m c in
      rw (
        no_symbol starts symbol.SparqlBase ts refl n,
        no_symbol starts symbol.SparqlPrefix ts refl n,
        no_symbol starts symbol.Import ts refl n,
        n,
        start_read a.start w ts m unset c,
        took symbol.Equals u m k p,
        expr_read a.scope e k r h f,
        is,
      ) refl
  statement_read a b ts r (inr (inr (inr (inr (l, e, is, (m, h, i)))))) f =
      let n = label_read a.scope l ts m h in
      rw (
        no_symbol labels symbol.SparqlBase ts refl n.1,
        no_symbol labels symbol.SparqlPrefix ts refl n.1,
        no_symbol labels symbol.Import ts refl n.1,
        no_next labels starts ts refl n.1,
        n.0,
        body_read a.scope e m r i f,
        is,
      ) refl

  statement_begins : (a b : State) (ts r : Ahead Spelled) → g.Statement bounded d a b ts r → Next statements ts
  statement_begins a b ts r (inl (i, e, (m, (w, c), h))) = nexts (symbol.SparqlBase ∷ []) statements ts refl (first symbol.SparqlBase w ts m c)
  statement_begins a b ts r (inr (inl (t, i, e, (m, (w, c), h)))) = nexts (symbol.SparqlPrefix ∷ []) statements ts refl (first symbol.SparqlPrefix w ts m c)
  statement_begins a b ts r (inr (inr (inl (i, e, (m, (w, c), h))))) = nexts (symbol.Import ∷ []) statements ts refl (first symbol.Import w ts m c)
  statement_begins a b ts r (inr (inr (inr (inl (e, unset, is, (m, (w, c), h)))))) = nexts starts statements ts refl (word_begins starts w ts m c)
  statement_begins a b ts r (inr (inr (inr (inr (l, e, is, (m, h, i)))))) = nexts labels statements ts refl (label_read a.scope l ts m h).1

  -- statements lead to the label of a declaration
  pub statements_read : (a b : State) (ts m : Ahead Spelled) → Many (g.Statement bounded d) a b ts m → Next labels m → loop is_any (statement bounded d) a ts ≡ loop is_any (statement bounded d) b m
  statements_read a b ts m none n = refl
  statements_read a b ts m (more {x = x} {mid = k} o rest) n =
      let begun = elements_follow (g.Statement bounded d) (Next statements) (λ s y us v p. statement_begins s y us v p) x b k m rest (nexts labels statements m refl n) in
      loop_more is_any (statement bounded d) (consumes_statement bounded d) a ts (any_next statements ts (statement_begins a x ts k o))
      ∙ rw (statement_read a x ts k o (never statements (going a.scope) k refl begun)) (statements_read x b k m rest n)

  -- at a declaration of which EXTERNAL is the expression the reader stops
  external_refused : (a : State) (l : Label) (ts m : Ahead Spelled) → AnyLabel a.scope l ts m → next_is (is_symbol symbol.External) m ≡ true → statement bounded d a ts ≡ Err (External, m)
  unfolding statement declaration body
  external_refused a l ts m h i =
      let n = label_read a.scope l ts m h in
      rw (
        no_symbol labels symbol.SparqlBase ts refl n.1,
        no_symbol labels symbol.SparqlPrefix ts refl n.1,
        no_symbol labels symbol.Import ts refl n.1,
        no_next labels starts ts refl n.1,
        n.0,
        i,
      ) refl

  pub external_stops : (a b : State) (l : Label) (ts m r : Ahead Spelled) → Many (g.Statement bounded d) a b ts m → AnyLabel b.scope l m r →
      next_is (is_symbol symbol.External) r ≡ true → document bounded d a ts ≡ Err (External, r)
  unfolding document
  external_stops a b l ts m r h k i =
      let n = (label_read b.scope l m r k).1 in
      rw (statements_read a b ts m h n, loop_more is_any (statement bounded d) (consumes_statement bounded d) b m (any_next labels m n), external_refused b l m r k i) refl

  pub document_read : (a b : State) (ts : Ahead Spelled) → g.ShExC bounded d a b ts → document bounded d a ts ≡ Ok (b, finished)
  unfolding document
  document_read a b ts h =
      rw (elements_read is_any (statement bounded d) (g.Statement bounded d) (Never (going a.scope)) (consumes_statement bounded d) (λ s x ts m o f. statement_read s x ts m o f) (λ s x ts m o. any_next statements ts (statement_begins s x ts m o))
      (λ s x ts m o. never statements (going a.scope) ts refl (statement_begins s x ts m o)) a b ts finished h refl refl) refl

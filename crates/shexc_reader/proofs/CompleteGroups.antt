-- What is spelled is read: arcs and triple expressions.
use Rattle.std.proofs.Common.{◌≡◌, ◌⊎◌, Bool, true, false, ℕ, List, [], ◌∷◌, Option, Ok, refl, sym, ap, subst, inl, inr, ◌∙◌}
use Rattle.rdf_cursor.specs.Ahead.{Ahead, next_is}
use Rattle.rdf_cursor.specs.Phrases.{Phrase, Is, Many, none, more, ◌⨾◌}
use Rattle.rdf_cursor.specs.Readers.{Answer, loop}
use Rattle.rdf_cursor.specs.Symbols.{is_symbol, is_among}
use Rattle.shexc_constraints.specs.Symbols.{of_symbol, predicates, non_literals, literal_constraints, Mark}
use Rattle.shexc_reader.specs.Symbols.{connectives, units, shapes_or_references}
use Rattle.term_tokens.specs.Scopes.{Scope}
use Rattle.shexc_reader.specs.Trees.{Cardinality, empty_shape}
use Rattle.shexc_reader.specs.Reading.{Inside, atom, dot, negated, conjunction, expression, further_from, further, dot_value, arc_value, an_arc, grouped, unlabelled, inclusion, unary, semicolon, group, bar, alternatives}
use Rattle.shexc_reader.proofs.Places.{AreLocal, consumes_semicolon, consumes_bar}
use Rattle.term_tokens.proofs.Nexts.{Next, nexts, no_next, no_symbol, first_of}
use Rattle.shexc_constraints.proofs.Nexts.{Never, fewer, never, not_symbol, begins, first, took}
use Rattle.shexc_constraints.proofs.Complete.{predicate_read, label_read, annotations_read, noting}
use Rattle.shexc_reader.proofs.CompleteShapes.{AreComplete, opens_read, closers}
use Rattle.shexc_reader.proofs.CompleteAtoms.{After, marked, extending_whole}
use Rattle.shexc_reader.proofs.CompleteExprs.{expression_read}
use Rattle.shexc_reader.proofs.CompleteArcs.{ends, noted, valued, annotated, cardinality_read, cardinality_behind_read, value_ends, value_ready, direction_read}
use Rattle.rdf_cursor.proofs.Completeness.{loop_read, many_follows}
use Rattle.rdf_cursor.proofs.Loops.{loop_more, loop_stop}
use Rattle.rdf_lex.specs.Tokens.{Spelled}
use Rattle.schema_documents.specs.declared.label.Label.{Label}
use Rattle.schema_documents.specs.Tree.{ShapeExpr, MaybeShapeExpr, TripleExpr, one_expr}
use Rattle.rdf_cursor.specs.declared.symbols.Symbol.{Symbol}
use Rattle.rdf_cursor.specs.declared.symbols.Symbol.TheVariants as symbol
use Rattle.shexc_constraints.specs.declared.faults.Fault.{Fault}
use Rattle.shexc_reader.specs.Grammar as g
use Rattle.shexc_constraints.specs.Grammar as low

-- behind a group
abbrev pub grouping : List Symbol
grouping = symbol.Bar ∷ closers

module _ (bounded : Bool) (v : Scope) (n : ℕ) (inside : Inside) (spelled : g.Inside) (complete : AreComplete inside spelled) (local : AreLocal inside) where
  -- what is read of an arc's value, by what is read of its value alone
  abbrev ValueRead : Type 0
  ValueRead = (o : Option Cardinality) (value : MaybeShapeExpr) (ts c k : Ahead Spelled) → g.ArcValue bounded v n spelled value ts c → g.MaybeCardinality bounded v n spelled o c k → Next noted k
      → (b : Bool) × (q : Ahead Spelled) × (arc_value bounded v n inside ts ≡ Ok ((value, b), q)) × After bounded v n inside spelled complete false b c q

  module _ (value_read : ValueRead) where
    an_arc_read : (l : Option Label) (t : TripleExpr) (ts r : Ahead Spelled) → g.Arc bounded v n spelled l t ts r → Next ends r → an_arc bounded v n inside l ts ≡ Ok (t, r)
    unfolding an_arc
    an_arc_read l t ts r (inverse, p, value, o, is, (a, d, (b, pr, (c, av, (k, card, notes))))) f =
        let at_notes = annotated v k r notes f in
        let path = predicate_read v p a b pr in
        let (flag, q, reads, after) = value_read o value b c k av card at_notes in
        rw (
          direction_read bounded v n inside spelled complete inverse ts a d path.1,
          path.0,
          reads,
          cardinality_behind_read bounded v n inside spelled complete flag o c q k after card at_notes,
          annotations_read v k r notes (never ends noting r refl f),
          is,
        ) refl

    grouped_read : (l : Option Label) (t : TripleExpr) (ts r : Ahead Spelled) → g.Bracketed bounded v n spelled l t ts r → Next ends r → grouped bounded v n inside l ts ≡ Ok (t, r)
    unfolding grouped
    grouped_read l t ts r (u, o, is, (a, (z, (w, c)), (b, h, (m, (x, d), (k, card, notes))))) f =
        rw (
          opens_read symbol.OpenParenthesis n ts a z (w, c),
          complete.triple_expr u a b h (nexts (symbol.CloseParenthesis ∷ []) closers b refl (first symbol.CloseParenthesis x b m d)),
          took symbol.CloseParenthesis x b m d,
          cardinality_read bounded v n inside spelled complete o m k card (annotated v k r notes f),
          annotations_read v k r notes (never ends noting r refl f),
          is,
        ) refl

    abbrev arcs : List Symbol
    arcs = symbol.Caret ∷ predicates

    arc_begins : (l : Option Label) (t : TripleExpr) (ts r : Ahead Spelled) → g.Arc bounded v n spelled l t ts r → Next arcs ts
    arc_begins l t ts r (inverse, p, value, o, is, (a, inl (e, (w, c)), h)) = nexts (symbol.Caret ∷ []) arcs ts refl (first symbol.Caret w ts a c)
    arc_begins l t ts r (inverse, p, value, o, is, (a, inr (e, same), (b, pr, h))) = nexts predicates arcs ts refl (subst (Next predicates) (sym same) (predicate_read v p a b pr).1)

    unlabelled_read : (l : Option Label) (t : TripleExpr) (ts r : Ahead Spelled) → (g.Arc bounded v n spelled l t ts r ⊎ g.Bracketed bounded v n spelled l t ts r) → Next ends r
        → (unlabelled bounded v n inside l ts ≡ Ok (t, r)) × Next (symbol.OpenParenthesis ∷ arcs) ts
    unfolding unlabelled
    unlabelled_read l t ts r (inl h) f =
        let s = arc_begins l t ts r h in (rw (no_symbol arcs symbol.OpenParenthesis ts refl s) (an_arc_read l t ts r h f), nexts arcs (symbol.OpenParenthesis ∷ arcs) ts refl s)
    unlabelled_read l t ts r (inr (u, o, is, (a, (z, (w, c)), h))) f = (
      rw (begins symbol.OpenParenthesis w ts a c) (grouped_read l t ts r (u, o, is, (a, (z, (w, c)), h)) f),
      nexts (symbol.OpenParenthesis ∷ []) (symbol.OpenParenthesis ∷ arcs) ts refl (first symbol.OpenParenthesis w ts a c),
    )

    unary_read : (t : TripleExpr) (ts r : Ahead Spelled) → g.Unary bounded v n spelled t ts r → Next ends r → unary bounded v n inside ts ≡ Ok (t, r)
    unfolding unary inclusion
    unary_read t ts r (inl (o, (m, inl (e, same), h))) f =
        let a = unlabelled_read o t m r h f in
        rw (same, no_symbol (symbol.OpenParenthesis ∷ arcs) symbol.Ampersand m refl a.1, no_symbol (symbol.OpenParenthesis ∷ arcs) symbol.Dollar m refl a.1, e) a.0
    unary_read t ts r (inl (o, (m, inr (l, e, (j, (w, c), i)), h))) f =
        let d = first symbol.Dollar w ts j c in
        rw (no_symbol (symbol.Dollar ∷ []) symbol.Ampersand ts refl d, begins symbol.Dollar w ts j c, took symbol.Dollar w ts j c, (label_read v l j m i).0, e) (unlabelled_read o t m r h f).0
    unary_read t ts r (inr (l, is, (m, (w, c), h))) f = rw (begins symbol.Ampersand w ts m c, took symbol.Ampersand w ts m c, (label_read v l m r h).0, is) refl

    -- what a triple expression begins with; without what follows
    bracketed_begins : (l : Option Label) (t : TripleExpr) (ts r : Ahead Spelled) → g.Bracketed bounded v n spelled l t ts r → Next units ts
    bracketed_begins l t ts r (u, o, is, (a, (z, (w, c)), h)) = nexts (symbol.OpenParenthesis ∷ []) units ts refl (first symbol.OpenParenthesis w ts a c)

    either_begins : (l : Option Label) (t : TripleExpr) (ts r : Ahead Spelled) → (g.Arc bounded v n spelled l t ts r ⊎ g.Bracketed bounded v n spelled l t ts r) → Next units ts
    either_begins l t ts r (inl h) = nexts arcs units ts refl (arc_begins l t ts r h)
    either_begins l t ts r (inr h) = bracketed_begins l t ts r h

    unary_begins : (t : TripleExpr) (ts r : Ahead Spelled) → g.Unary bounded v n spelled t ts r → Next units ts
    unary_begins t ts r (inl (o, (m, inl (e, same), h))) = subst (Next units) (sym same) (either_begins o t m r h)
    unary_begins t ts r (inl (o, (m, inr (l, e, (j, (w, c), i)), h))) = nexts (symbol.Dollar ∷ []) units ts refl (first symbol.Dollar w ts j c)
    unary_begins t ts r (inr (l, is, (m, (w, c), h))) = nexts (symbol.Ampersand ∷ []) units ts refl (first symbol.Ampersand w ts m c)

    -- a group: members, and perhaps a last `;`
    abbrev Step : List TripleExpr → List TripleExpr → Phrase Spelled
    Step us vs = Mark symbol.Semicolon ⨾ low.Adds (g.Unary bounded v n spelled) us vs

    step_read : (us vs : List TripleExpr) (ts r : Ahead Spelled) → Step us vs ts r → Next ends r → semicolon bounded v n inside (us, false) ts ≡ Ok ((vs, false), r)
    unfolding semicolon
    step_read us vs ts r (m, (w, c), (t, e, h)) f = rw (took symbol.Semicolon w ts m c, unary_begins t m r h, unary_read t m r h f, e) refl

    last_read : (us : List TripleExpr) (ts r : Ahead Spelled) → Mark symbol.Semicolon ts r → Next grouping r → semicolon bounded v n inside (us, false) ts ≡ Ok ((us, true), r)
    unfolding semicolon
    last_read us ts r (w, c) f = rw (took symbol.Semicolon w ts r c, no_next grouping units r refl f) refl

    -- behind members
    semicolon_next : (us vs : List TripleExpr) (ts r : Ahead Spelled) → Step us vs ts r → next_is (is_symbol symbol.Semicolon) ts ≡ true
    semicolon_next us vs ts r (m, (w, c), h) = begins symbol.Semicolon w ts m c

    members_end : (m r : Ahead Spelled) → g.Maybe (Mark symbol.Semicolon) m r → Next grouping r → Next ends m
    members_end m r (inl (w, c)) f = nexts (symbol.Semicolon ∷ []) ends m refl (first symbol.Semicolon w m r c)
    members_end m r (inr same) f = nexts grouping ends m refl (subst (Next grouping) (sym same) f)

    semicolons_end : (us vs : List TripleExpr) (ts m : Ahead Spelled) → Many Step us vs ts m → Next ends m → Next ends ts
    semicolons_end us vs ts m h f =
        many_follows (is_symbol symbol.Semicolon) Step (Next ends) semicolon_next (λ m n. nexts (symbol.Semicolon ∷ []) ends m refl (first_of symbol.Semicolon m n)) us vs ts m h f

    semicolons_read : (us vs : List TripleExpr) (ts m r : Ahead Spelled) → Many Step us vs ts m → g.Maybe (Mark symbol.Semicolon) m r → Next grouping r
        → (b : Bool) × (loop (is_symbol symbol.Semicolon) (semicolon bounded v n inside) (us, false) ts ≡ Ok ((vs, b), r))
    semicolons_read us vs ts m r none (inl (w, c)) f = (
      true,
      loop_more (is_symbol symbol.Semicolon) (semicolon bounded v n inside) (consumes_semicolon bounded v n inside local) (us, false) ts (begins symbol.Semicolon w ts r c)
          ∙ rw (last_read us ts r (w, c) f)
          (loop_stop (is_symbol symbol.Semicolon) (semicolon bounded v n inside) (consumes_semicolon bounded v n inside local) (us, true) r (no_symbol grouping symbol.Semicolon r refl f)),
    )
    semicolons_read us vs ts m r none (inr same) f =
        (false, rw same (loop_stop (is_symbol symbol.Semicolon) (semicolon bounded v n inside) (consumes_semicolon bounded v n inside local) (us, false) r (no_symbol grouping symbol.Semicolon r refl f)))
    semicolons_read us vs ts m r (more {x = xs} {mid = k} o rest) last f =
        let (b, all) = semicolons_read xs vs k m r rest last f in (
          b,
          loop_more (is_symbol symbol.Semicolon) (semicolon bounded v n inside) (consumes_semicolon bounded v n inside local) (us, false) ts (semicolon_next us xs ts k o)
              ∙ rw (step_read us xs ts k o (semicolons_end xs vs k m rest (members_end m r last f))) all,
        )

    group_read : (t : TripleExpr) (ts r : Ahead Spelled) → g.Group bounded v n spelled t ts r → Next grouping r → group bounded v n inside ts ≡ Ok (t, r)
    unfolding group
    group_read t ts r (us, is, (k, (xs, (m, (u, one, h), others)), last)) f =
        let rest = subst (λ (z : List TripleExpr). Many Step z us m k) (sym one) others in
        let (b, all) = semicolons_read (u ∷ []) us m k r rest last f in
        rw (unary_read u ts m h (semicolons_end (u ∷ []) us m k rest (members_end k r last f)), all, is) refl

    group_begins : (t : TripleExpr) (ts r : Ahead Spelled) → g.Group bounded v n spelled t ts r → Next units ts
    group_begins t ts r (us, is, (k, (xs, (m, (u, one, h), others)), last)) = unary_begins u ts m h

    -- alternatives
    bar_read : (us vs : List TripleExpr) (ts r : Ahead Spelled) → (Mark symbol.Bar ⨾ low.Adds (g.Group bounded v n spelled) us vs) ts r → Next grouping r → bar bounded v n inside us ts ≡ Ok (vs, r)
    unfolding bar
    bar_read us vs ts r (m, (w, c), (t, e, h)) f = rw (took symbol.Bar w ts m c, group_read t m r h f, e) refl

    bar_next : (us vs : List TripleExpr) (ts r : Ahead Spelled) → (Mark symbol.Bar ⨾ low.Adds (g.Group bounded v n spelled) us vs) ts r → next_is (is_symbol symbol.Bar) ts ≡ true
    bar_next us vs ts r (m, (w, c), h) = begins symbol.Bar w ts m c

    bar_then : (ts : Ahead Spelled) → next_is (is_symbol symbol.Bar) ts ≡ true → Next grouping ts
    bar_then ts e = nexts (symbol.Bar ∷ []) grouping ts refl (first_of symbol.Bar ts e)

    pub alternatives_read : (t : TripleExpr) (ts r : Ahead Spelled) → g.Alternatives bounded v n spelled t ts r → Next closers r → alternatives bounded v n inside ts ≡ Ok (t, r)
    unfolding alternatives
    alternatives_read t ts r (us, is, (xs, (m, (u, one, h), others))) f =
        let rest = subst (λ (z : List TripleExpr). Many (λ us vs. Mark symbol.Bar ⨾ low.Adds (g.Group bounded v n spelled) us vs) z us m r) (sym one) others in
        let after = nexts closers grouping r refl f in
        rw (
          group_read u ts m h (many_follows (is_symbol symbol.Bar) (λ us vs. Mark symbol.Bar ⨾ low.Adds (g.Group bounded v n spelled) us vs) (Next grouping) bar_next bar_then (u ∷ []) us m r rest after),
          loop_read (is_symbol symbol.Bar) (bar bounded v n inside) (λ us vs. Mark symbol.Bar ⨾ low.Adds (g.Group bounded v n spelled) us vs) (Next grouping)
              (consumes_bar bounded v n inside local) bar_read bar_next bar_then (u ∷ []) us m r rest after
              (no_symbol closers symbol.Bar r refl f),
          is,
        ) refl

    pub alternatives_begin : (t : TripleExpr) (ts r : Ahead Spelled) → g.Alternatives bounded v n spelled t ts r → Next units ts
    alternatives_begin t ts r (us, is, (xs, (m, (u, one, h), others))) = group_begins u ts m h

  -- the value of an arc: behind `.` as behind the atom `.`
  dotted : (w : Spelled) (ts m : Ahead Spelled) → Is (of_symbol symbol.Dot) w ts m → expression bounded v n inside false ts ≡ further_from bounded v n inside (empty_shape, false) m
  unfolding expression conjunction negated atom dot further_from
  dotted w ts m c =
      let d = first symbol.Dot w ts m c in
      rw (
        no_symbol (symbol.Dot ∷ []) symbol.Not ts refl d,
        no_next (symbol.Dot ∷ []) non_literals ts refl d,
        no_next (symbol.Dot ∷ []) literal_constraints ts refl d,
        no_next (symbol.Dot ∷ []) shapes_or_references ts refl d,
        no_symbol (symbol.Dot ∷ []) symbol.OpenParenthesis ts refl d,
        took symbol.Dot w ts m c,
      ) refl

  by_first : (dot_next b : Bool) (e : ShapeExpr) (value : MaybeShapeExpr) (ts q : Ahead Spelled) → next_is (is_symbol symbol.Dot) ts ≡ dot_next →
      ((m : Ahead Spelled) → Mark symbol.Dot ts m → next_is (is_among connectives) m ≡ true)
      → expression bounded v n inside false ts ≡ Ok ((e, b), q) → one_expr e ≡ value → arc_value bounded v n inside ts ≡ Ok ((value, b), q)
  unfolding arc_value dot_value further
  by_first true b e value ts q d behind reads is =
      let (m, (w, c)) = marked symbol.Dot ts d in rw (d, took symbol.Dot w ts m c, behind m (w, c), sym (dotted w ts m c) ∙ reads, is) refl
  by_first false b e value ts q d behind reads is = rw (d, reads, is) refl

  arc_value_read : ValueRead
  unfolding arc_value dot_value
  arc_value_read o value ts c k (inl (e, (w, d))) card f =
      (false, c, rw (begins symbol.Dot w ts c d, took symbol.Dot w ts c d, no_next valued connectives c refl (value_ends bounded v n inside spelled complete o c k card f), e) refl, refl)
  arc_value_read o value ts c k (inr (e, is, behind, h)) card f =
      let at_end = value_ends bounded v n inside spelled complete o c k card f in
      let (b, q, reads, after) =
      expression_read bounded v n inside spelled complete local false e ts c h (value_ready bounded v n inside spelled complete o c k card f, no_symbol valued symbol.And c refl at_end)
      (no_symbol valued symbol.Or c refl at_end) in
      (b, q, by_first (next_is (is_symbol symbol.Dot) ts) b e value ts q refl behind reads is, after)

  -- what a whole expression leaves
  flat : (e : ShapeExpr) (x : Answer Spelled Fault (ShapeExpr × Bool)) (b : Bool) (r q : Ahead Spelled) → After bounded v n inside spelled complete true b r q →
      x ≡ Ok ((e, b), q) → x ≡ Ok ((e, false), r)
  flat e x false r q same is = is ∙ ap (λ (z : Ahead Spelled). Ok ((e, false), z)) (sym same)
  flat e x true r q same is = absurd same

  -- behind a whole expression
  abbrev pub joining : List Symbol
  joining = symbol.And ∷ symbol.Or ∷ extending_whole

  pub whole_read : (e : ShapeExpr) (ts r : Ahead Spelled) → g.Expression bounded v n spelled true e ts r → Never joining r → expression bounded v n inside true ts ≡ Ok ((e, false), r)
  whole_read e ts r h f =
      let (b, q, reads, after) =
      expression_read bounded v n inside spelled complete local true e ts r h (fewer extending_whole joining r refl f, not_symbol joining symbol.And r refl f)
      (not_symbol joining symbol.Or r refl f) in
      flat e (expression bounded v n inside true ts) b r q after reads

  pub here_complete : AreComplete (record { expr = expression bounded v n inside true; triple_expr = alternatives bounded v n inside }) (g.here bounded v n spelled)
  here_complete = record {
    expr = λ e ts r h f. whole_read e ts r h (never (symbol.CloseParenthesis ∷ []) joining r refl f);
    triple_expr = λ t ts r h f. alternatives_read arc_value_read t ts r h f;
    triple_begins = λ t ts r h. alternatives_begin arc_value_read t ts r h;
  }

-- What the ends of the lines say of the bytes.
use Rattle.std.proofs.Common.{◌≡◌, ℕ, Bool, true, false, List, [], ◌∷◌, ◌++◌, Ok, Err, refl, sym, ap, subst, ◌∙◌, ◌⊎◌, inl, inr, append_assoc}
use Rattle.std.specs.Str.{IsUtf8}
use Rattle.std.proofs.lemmas.List.{append-nil}
use Rattle.lists.specs.Distinct.{AreDistinct}
use Rattle.rdf_terms.specs.declared.terms.Term.{Term}
use Rattle.rdf_terms.specs.declared.terms.Triple.{Triple}
use Rattle.graph_index.specs.declared.read_error.ReadError.{ReadError}
use Rattle.rdf_cursor.specs.Ahead.{Ahead, finished, token, prepend}
use Rattle.rdf_cursor.specs.Phrases.{◌⨾◌}
use Rattle.rdf_cursor.specs.Properties.{AgreesAt}
use Rattle.rdf_cursor.specs.Readers.{Answer, loop, finish}
use Rattle.rdf_cursor.proofs.Answers.{then_ok, apart, ok_is}
use Rattle.rdf_cursor.proofs.Blocking.{blocked}
use Rattle.rdf_cursor.proofs.Fronts.{Front, front_ok, front_err, both_fronts}
use Rattle.rdf_cursor.proofs.Loops.{loop_rule}
use Rattle.rdf_cursor.proofs.Soundness.{finish_sound}
use Rattle.rdf_lex.specs.declared.kinds.Mode.TheVariants.{NTriples}
use Rattle.rdf_lex.specs.Tokens.{Spelled}
use Rattle.rdf_cursor.specs.Cursors.{Source}
use Rattle.rdf_cursor.specs.Lent.{Stands}
use Rattle.rdf_cursor.specs.Places.{IsFaultPlace}
use Rattle.rdf_cursor.specs.Streams.{stream_from}
use Rattle.rdf_cursor.specs.Symbols.{is_any}
use Rattle.rdf_cursor.specs.declared.stops.Fault.{Fault}
use Rattle.rdf_cursor.specs.declared.stops.Fault.TheVariants as faults
use Rattle.rdf_cursor.proofs.Places.{fault_place, first_at}
use Rattle.rdf_cursor.proofs.Streams.{to_tokens, from_tokens, found, start}
use Rattle.graph_index.specs.declared.loading.TermTriple.{TermTriple}
use Rattle.graph_index.specs.Loading.{Loads, IsWithin}
use Rattle.graph_index.proofs.Loaded.{loads_one, no_room_behind}
use Rattle.data_loading.specs.declared.refusal.Refusal.{Refusal}
use Rattle.data_loading.specs.declared.refusal.Refusal.TheVariants as refusal
use Rattle.nt_reader.specs.Endings.{IsLongAt, IsOverfull, Explains, ReadsTo}
use Rattle.nt_reader.specs.Grammar.{Subject, Object, Statement, LineEnd, Lines, no_lines, blank_line, line, Spells, IsDocument, IsAnyDocument}
use Rattle.nt_reader.specs.Reading as r
use Rattle.nt_reader.specs.Steps.{Fills, Ends}
use Rattle.data_loading.specs.Refusals.{error_of}
use Rattle.nt_reader.proofs.Complete.{document_read}
use Rattle.nt_reader.proofs.Limits.{Common, LongNext, same_document}
use Rattle.nt_reader.proofs.Places.{local_document, consumes_line_behind}

-- the tokens of lines
subject_front : (x : Term) (ts rest : Ahead Spelled) → Subject true x ts rest → Front ts rest
subject_front x ts rest (inl (i, e, (t, f, h))) = (t ∷ [], f)
subject_front x ts rest (inr (t, f, h)) = (t ∷ [], f)

object_front : (x : Term) (ts rest : Ahead Spelled) → Object true x ts rest → Front ts rest
object_front x ts rest (inl (lex, (m, (t, f, h), inl (e, same)))) = (t ∷ [], f ∙ ap (token t) same)
object_front x ts rest (inl (lex, (m, (t, f, h), inr (inl (u, g, i))))) = (t ∷ u ∷ [], f ∙ ap (token t) g)
object_front x ts rest (inl (lex, (m, (t, f, h), inr (inr (n, (w, (u, g, i)), (v, k, j)))))) = (t ∷ u ∷ v ∷ [], f ∙ ap (token t) (g ∙ ap (token u) k))
object_front x ts rest (inr h) = subject_front x ts rest h

end_front : (ts rest : Ahead Spelled) → LineEnd ts rest → Front ts rest
end_front ts rest (inl (w, (t, f, h))) = (t ∷ [], f)
end_front ts rest (inr (f, g)) = ([], f ∙ sym g)

line_front : (x : TermTriple) (ts rest : Ahead Spelled) → (Statement true x ⨾ LineEnd) ts rest → Front ts rest
line_front x ts rest (mid, (m, a, (n, (i, e, (p, f, b)), (l, c, (w, (t, g, d))))), h) =
    both_fronts ts m rest (subject_front x.subject ts m a)
    (both_fronts m n rest (p ∷ [], f) (both_fronts n l rest (object_front x.object n l c) (both_fronts l mid rest (t ∷ [], g) (end_front mid rest h))))

lines_front : (xs : List TermTriple) (ts rest : Ahead Spelled) → Lines true xs ts rest → Front ts rest
lines_front xs ts rest no_lines = ([], refl)
lines_front xs ts rest (blank_line {mid = mid} (w, (t, e, h)) more) = both_fronts ts mid rest (t ∷ [], e) (lines_front xs mid rest more)
lines_front xs ts rest (line {x = x} {xs = ys} {mid = mid} h more) = both_fronts ts mid rest (line_front x ts mid h) (lines_front ys mid rest more)

read_short : (xs : List TermTriple) (ts : Ahead Spelled) → Lines true xs ts finished → r.document true ts ≡ Ok (xs, finished)
read_short xs ts h = document_read true xs ts h

read_any : (xs : List TermTriple) (ts : Ahead Spelled) → Lines false xs ts finished → r.document false ts ≡ Ok (xs, finished)
read_any xs ts h = document_read false xs ts h

-- a loop keeps what it has
one_more : (s x : List TermTriple) (ts rest : Ahead Spelled) → r.line_behind true s ts ≡ Ok (x, rest) → (zs : List TermTriple) × (x ≡ s ++ zs)
unfolding r.line_behind
one_more s x ts rest e =
    let c = then_ok (r.line true ts) (λ xs rest. Ok (s ++ xs, rest)) (x, rest) e in
    (c.0.0, ap (λ (v : List TermTriple × Ahead Spelled). v.0) (sym (ok_is (s ++ c.0.0, c.0.1) (x, rest) c.2)))

begins_so : (s : List TermTriple) (ts : Ahead Spelled) (y : List TermTriple × Ahead Spelled) → loop is_any (r.line_behind true) s ts ≡ Ok y → (zs : List TermTriple) × (y.0 ≡ s ++ zs)
begins_so s ts y e =
    loop_rule is_any (r.line_behind true) (consumes_line_behind true) (λ s ts. (zs : List TermTriple) × (y.0 ≡ s ++ zs)) y s ts
    (λ s ts n k. ([], ap (λ (v : List TermTriple × Ahead Spelled). v.0) (sym k) ∙ sym (append-nil s)))
    (λ s ts x rest n k p. let o = one_more s x ts rest k in (o.0 ++ p.0, p.1 ∙ ap (λ (v : List TermTriple). v ++ p.0) o.1 ∙ append_assoc s o.0 p.0))
    e

loop_of : (xs : List TermTriple) (ts : Ahead Spelled) → r.document true ts ≡ Ok (xs, finished) → (y : List TermTriple × Ahead Spelled) × (loop is_any (r.line_behind true) [] ts ≡ Ok y) × (y.0 ≡ xs)
unfolding r.document
loop_of xs ts e =
    let c = then_ok (loop is_any (r.line_behind true) [] ts) (λ xs. finish faults.Syntax xs) (xs, finished) e in
    let f = finish_sound faults.Syntax c.0.0 c.0.1 (xs, finished) c.2 in
    (c.0, c.1, ap (λ (v : List TermTriple × Ahead Spelled). v.0) f.0)

module _ (source : List ℕ) (u : IsUtf8 source) where
  abbrev ahead : Ahead Spelled
  ahead = stream_from NTriples source 0

  pub found_document : (xs : List TermTriple) → Lines true xs ahead finished → IsDocument source xs
  found_document xs h =
      let f = front_ok (r.document true) ahead (r.document true ahead) xs finished (read_short xs ahead h) (local_document true ahead) in
      (f.0, u, to_tokens NTriples source u f.0 f.1, subst (λ (v : Ahead Spelled). Lines true xs v finished) f.1 h)

  agreed : (f : Fault) (rest : Ahead Spelled) → r.document true ahead ≡ Err (f, rest) → (Common f × (r.document false ahead ≡ Err (f, rest))) ⊎ LongNext f rest
  agreed f rest e = subst (λ (a : Answer Spelled Fault (List TermTriple)). AgreesAt Common LongNext a (r.document false ahead)) e (same_document ahead)

  not_long : faults.Syntax ≡ faults.Long → ⊥
  not_long e = cc

  not_syntax : faults.Long ≡ faults.Syntax → ⊥
  not_syntax e = cc

  syntax_place : (rest : Ahead Spelled) (at : ℕ) → r.document true ahead ≡ Err (faults.Syntax, rest) → Stands NTriples source rest at → IsFaultPlace (Spells false) NTriples source at
  syntax_place rest at e s = by (agreed faults.Syntax rest e)
    where
      by : (Common faults.Syntax × (r.document false ahead ≡ Err (faults.Syntax, rest))) ⊎ LongNext faults.Syntax rest → IsFaultPlace (Spells false) NTriples source at
      by (inl (c, f)) =
          fault_place NTriples source u (λ xs ts. Lines false xs ts finished) rest at (blocked (r.document false) (λ xs ts. Lines false xs ts finished) (local_document false) read_any ahead faults.Syntax rest f) s
      by (inr (f, l)) = absurd (not_long f)

  long_place : (rest : Ahead Spelled) (at : ℕ) → r.document true ahead ≡ Err (faults.Long, rest) → Stands NTriples source rest at → IsLongAt source at
  long_place rest at e s = by (agreed faults.Long rest e)
    where
      by : (Common faults.Long × (r.document false ahead ≡ Err (faults.Long, rest))) ⊎ LongNext faults.Long rest → IsLongAt source at
      by (inl (c, f)) = absurd (not_syntax c)
      by (inr (f, (t, behind, is, l))) =
          let front = front_err (r.document true) ahead (r.document true ahead) faults.Long rest e (local_document true ahead) in
          let first = first_at NTriples source u t behind at front.0 (front.1 ∙ ap (prepend front.0) is) (subst (λ (v : Ahead Spelled). Stands NTriples source v at) is s) in
          record { front = front.0; from = first.0; t = t; passed = first.1; first = first.2; long = l }

  no_prefix : (rest : Ahead Spelled) → r.document true ahead ≡ Err (faults.Prefix, rest) → ⊥
  no_prefix rest e = by (agreed faults.Prefix rest e)
    where
      by : (Common faults.Prefix × (r.document false ahead ≡ Err (faults.Prefix, rest))) ⊎ LongNext faults.Prefix rest → ⊥
      by (inl (c, f)) = cc
      by (inr (f, l)) = cc

  no_deep : (rest : Ahead Spelled) → r.document true ahead ≡ Err (faults.Deep, rest) → ⊥
  no_deep rest e = by (agreed faults.Deep rest e)
    where
      by : (Common faults.Deep × (r.document false ahead ≡ Err (faults.Deep, rest))) ⊎ LongNext faults.Deep rest → ⊥
      by (inl (c, f)) = cc
      by (inr (f, l)) = cc

  no_number : (rest : Ahead Spelled) → r.document true ahead ≡ Err (faults.Full, rest) → ⊥
  no_number rest e = by (agreed faults.Full rest e)
    where
      by : (Common faults.Full × (r.document false ahead ≡ Err (faults.Full, rest))) ⊎ LongNext faults.Full rest → ⊥
      by (inl (c, f)) = cc
      by (inr (f, l)) = cc

  overfull : (terms : List Term) (graph : List Triple) (rest : Ahead Spelled) → Fills ahead terms graph rest → IsOverfull source terms graph
  overfull terms graph rest f =
      let front = lines_front (f.before ++ f.last ∷ []) ahead rest f.lines in
      let to = found NTriples source u 0 front.0 rest (start NTriples source u) front.1 in
      record {
        before = f.before;
        last = f.last;
        front = front.0;
        to = to.to;
        rest = rest;
        passed = to.passed;
        lines = subst (λ (v : Ahead Spelled). Lines true (f.before ++ f.last ∷ []) v rest) front.1 f.lines;
        mid_terms = f.mid_terms;
        mid_graph = f.mid_graph;
        loaded = f.loaded;
        no_room = f.no_room;
      }

  pub explains : (e : Refusal) (at : ℕ) (rest : Ahead Spelled) (terms new_terms : List Term) (graph new_graph : List Triple) →
      Ends (Err e) ahead rest terms graph new_terms new_graph → Stands NTriples source rest at
      → Explains (error_of e at) source terms graph
  explains refusal.Memory at rest terms new_terms graph new_graph h s = tt
  explains refusal.Full at rest terms new_terms graph new_graph h s = overfull terms graph rest h
  explains (refusal.Fault faults.Syntax) at rest terms new_terms graph new_graph h s = syntax_place rest at h s
  explains (refusal.Fault faults.Prefix) at rest terms new_terms graph new_graph h s = absurd (no_prefix rest h)
  explains (refusal.Fault faults.Deep) at rest terms new_terms graph new_graph h s = absurd (no_deep rest h)
  explains (refusal.Fault faults.Long) at rest terms new_terms graph new_graph h s = long_place rest at h s
  explains (refusal.Fault faults.Full) at rest terms new_terms graph new_graph h s = absurd (no_number rest h)

  document_is_read : (xs : List TermTriple) → IsDocument source xs → r.document true ahead ≡ Ok (xs, finished)
  document_is_read xs (ts, utf8, tokens, h) = read_short xs ahead (subst (λ (v : Ahead Spelled). Lines true xs v finished) (sym (from_tokens NTriples source u ts tokens)) h)

  any_is_read : (xs : List TermTriple) → IsAnyDocument source xs → r.document false ahead ≡ Ok (xs, finished)
  any_is_read xs (ts, utf8, tokens, h) = read_any xs ahead (subst (λ (v : Ahead Spelled). Lines false xs v finished) (sym (from_tokens NTriples source u ts tokens)) h)

  same_read : (check : Bool) (xs ys : List TermTriple) → r.document check ahead ≡ Ok (xs, finished) → r.document check ahead ≡ Ok (ys, finished) → xs ≡ ys
  same_read check xs ys e f = ap (λ (v : List TermTriple × Ahead Spelled). v.0) (ok_is (xs, finished) (ys, finished) (sym e ∙ f))

  pub one_document : (xs ys : List TermTriple) → IsAnyDocument source xs → IsAnyDocument source ys → xs ≡ ys
  one_document xs ys h k = same_read false xs ys (any_is_read xs h) (any_is_read ys k)

  pub one_short_document : (xs ys : List TermTriple) → IsDocument source xs → IsDocument source ys → xs ≡ ys
  one_short_document xs ys h k = same_read true xs ys (document_is_read xs h) (document_is_read ys k)

  not_full : (terms tt_terms : List Term) (graph tt_graph : List Triple) (rest : Ahead Spelled) (xs : List TermTriple) → AreDistinct terms →
      IsDocument source xs → Loads terms graph xs tt_terms tt_graph → IsWithin tt_terms tt_graph
      → Fills ahead terms graph rest → ⊥
  not_full terms tt_terms graph tt_graph rest xs dis doc loads within f =
      let l = loop_of xs ahead (document_is_read xs doc) in
      let b = begins_so (f.before ++ f.last ∷ []) rest l.0 (f.goes ∙ l.1) in
      let same : xs ≡ f.before ++ f.last ∷ b.0 = sym l.2 ∙ b.1 ∙ append_assoc f.before (f.last ∷ []) b.0 in
      no_room_behind terms f.mid_terms tt_terms graph f.mid_graph tt_graph f.before b.0 f.last dis f.loaded f.no_room (subst (λ (v : List TermTriple). Loads terms graph v tt_terms tt_graph) same loads) within

  pub reads_ok : (terms new_terms tt_terms : List Term) (graph new_graph tt_graph : List Triple) (rest : Ahead Spelled) (xs : List TermTriple) →
      AreDistinct terms → IsDocument source xs → Loads terms graph xs tt_terms tt_graph
      → Ends (Ok tt) ahead rest terms graph new_terms new_graph → (new_terms ≡ tt_terms) × (new_graph ≡ tt_graph)
  reads_ok terms new_terms tt_terms graph new_graph tt_graph rest xs dis doc loads (ys, lines, own) =
      let same = same_read true ys xs (read_short ys ahead lines) (document_is_read xs doc) in
      loads_one terms new_terms tt_terms graph new_graph tt_graph xs dis (subst (λ (v : List TermTriple). Loads terms graph v new_terms new_graph) same own) loads

  no_fault : (xs : List TermTriple) (f : Fault) (rest : Ahead Spelled) → IsDocument source xs → r.document true ahead ≡ Err (f, rest) → ⊥
  no_fault xs f rest doc e = apart (xs, finished) (f, rest) (sym (document_is_read xs doc) ∙ e)

  pub reads_err : (e : Refusal) (at : ℕ) (terms new_terms tt_terms left_terms : List Term) (graph new_graph tt_graph left_graph : List Triple) (rest : Ahead Spelled) (xs : List TermTriple) →
      AreDistinct terms → IsDocument source xs
      → Loads terms graph xs tt_terms tt_graph → IsWithin tt_terms tt_graph → Ends (Err e) ahead rest terms graph new_terms new_graph →
      ReadsTo (Err (error_of e at)) tt_terms tt_graph left_terms left_graph
  reads_err refusal.Memory at terms new_terms tt_terms left_terms graph new_graph tt_graph left_graph rest xs dis doc loads within h = tt
  reads_err refusal.Full at terms new_terms tt_terms left_terms graph new_graph tt_graph left_graph rest xs dis doc loads within h =
      not_full terms tt_terms graph tt_graph rest xs dis doc loads within h
  reads_err (refusal.Fault faults.Syntax) at terms new_terms tt_terms left_terms graph new_graph tt_graph left_graph rest xs dis doc loads within h = no_fault xs faults.Syntax rest doc h
  reads_err (refusal.Fault faults.Prefix) at terms new_terms tt_terms left_terms graph new_graph tt_graph left_graph rest xs dis doc loads within h = no_fault xs faults.Prefix rest doc h
  reads_err (refusal.Fault faults.Deep) at terms new_terms tt_terms left_terms graph new_graph tt_graph left_graph rest xs dis doc loads within h = no_fault xs faults.Deep rest doc h
  reads_err (refusal.Fault faults.Long) at terms new_terms tt_terms left_terms graph new_graph tt_graph left_graph rest xs dis doc loads within h = no_fault xs faults.Long rest doc h
  reads_err (refusal.Fault faults.Full) at terms new_terms tt_terms left_terms graph new_graph tt_graph left_graph rest xs dis doc loads within h = no_fault xs faults.Full rest doc h

-- from what lies ahead of a reader of lines at first
module _ (source : List ℕ) (u : IsUtf8 source) (first : Ahead Spelled) (begins : first ≡ stream_from NTriples source 0) where
  pub found_from : (rest : Ahead Spelled) (terms new_terms : List Term) (graph new_graph : List Triple) → Ends (Ok tt) first rest terms graph new_terms new_graph
      → (xs : List TermTriple) × IsDocument source xs × Loads terms graph xs new_terms new_graph
  found_from rest terms new_terms graph new_graph (xs, lines, loads) = (xs, found_document source u xs (subst (λ (v : Ahead Spelled). Lines true xs v finished) begins lines), loads)

  pub ok_from : (rest : Ahead Spelled) (terms new_terms tt_terms : List Term) (graph new_graph tt_graph : List Triple) (xs : List TermTriple) →
      AreDistinct terms → IsDocument source xs → Loads terms graph xs tt_terms tt_graph
      → Ends (Ok tt) first rest terms graph new_terms new_graph → (new_terms ≡ tt_terms) × (new_graph ≡ tt_graph)
  ok_from rest terms new_terms tt_terms graph new_graph tt_graph xs dis doc loads h =
      reads_ok source u terms new_terms tt_terms graph new_graph tt_graph rest xs dis doc loads (subst (λ (v : Ahead Spelled). Ends (Ok tt) v rest terms graph new_terms new_graph) begins h)

  pub err_from : (e : Refusal) (r : ReadError) (at : ℕ) (rest : Ahead Spelled) (terms new_terms tt_terms left_terms : List Term) (graph new_graph tt_graph left_graph : List Triple)
      (xs : List TermTriple) → AreDistinct terms → IsDocument source xs
      → Loads terms graph xs tt_terms tt_graph → IsWithin tt_terms tt_graph → Ends (Err e) first rest terms graph new_terms new_graph → r ≡ error_of e at →
      ReadsTo (Err r) tt_terms tt_graph left_terms left_graph
  err_from e r at rest terms new_terms tt_terms left_terms graph new_graph tt_graph left_graph xs dis doc loads within h is =
      subst (λ (v : ReadError). ReadsTo (Err v) tt_terms tt_graph left_terms left_graph) (sym is)
      (reads_err source u e at terms new_terms tt_terms left_terms graph new_graph tt_graph left_graph rest xs dis doc loads within (subst (λ (v : Ahead Spelled). Ends (Err e) v rest terms graph new_terms new_graph) begins h))

  pub cause_from : (e : Refusal) (r : ReadError) (at : ℕ) (rest : Ahead Spelled) (text : Source) (terms new_terms : List Term) (graph new_graph : List Triple) →
      Ends (Err e) first rest terms graph new_terms new_graph
      → text ≡ record { mode = NTriples; text = source } → Stands text.mode text.text rest at → r ≡ error_of e at → Explains r source terms graph
  cause_from e r at rest text terms new_terms graph new_graph h same s is =
      subst (λ (v : ReadError). Explains v source terms graph) (sym is)
      (explains source u e at rest terms new_terms graph new_graph (subst (λ (v : Ahead Spelled). Ends (Err e) v rest terms graph new_terms new_graph) begins h) (subst (λ (v : Source). Stands v.mode v.text rest at) same s))

-- What the ends of the statements say of the bytes.
use Rattle.std.proofs.Common.{◌≡◌, ℕ, true, List, [], ◌∷◌, ◌++◌, Result, Ok, Err, refl, sym, ap, subst, ◌∙◌, inl, inr, append_assoc}
use Rattle.std.specs.Str.{IsUtf8}
use Rattle.std.proofs.lemmas.List.{append-nil}
use Rattle.lists.specs.Distinct.{AreDistinct}
use Rattle.rdf_terms.specs.declared.terms.Term.{Term}
use Rattle.rdf_terms.specs.declared.terms.Triple.{Triple}
use Rattle.graph_index.specs.declared.read_error.ReadError.{ReadError}
use Rattle.rdf_cursor.specs.Ahead.{Ahead, finished, prepend}
use Rattle.rdf_cursor.specs.Phrases.{Many, none, more}
use Rattle.rdf_cursor.proofs.Answers.{apart, ok_is}
use Rattle.rdf_cursor.proofs.Blocking.{blocked}
use Rattle.rdf_cursor.proofs.Fronts.{Front, front_ok, both_fronts}
use Rattle.rdf_cursor.proofs.Locality.{prepend-append}
use Rattle.rdf_cursor.proofs.Soundness.{meets_loop}
use Rattle.rdf_lex.specs.declared.kinds.Mode.TheVariants.{Turtle}
use Rattle.rdf_lex.specs.declared.prefixes.Prefixes.{Prefixes}
use Rattle.rdf_lex.specs.Tokens.{Spelled}
use Rattle.rdf_cursor.specs.Cursors.{Source}
use Rattle.rdf_cursor.specs.Lent.{Stands}
use Rattle.rdf_cursor.specs.Places.{IsFaultPlace}
use Rattle.rdf_cursor.specs.Streams.{stream_from}
use Rattle.rdf_cursor.proofs.Places.{fault_place, stands_at}
use Rattle.rdf_cursor.proofs.Streams.{to_tokens, from_tokens, found, start}
use Rattle.graph_index.specs.declared.loading.TermTriple.{TermTriple}
use Rattle.graph_index.specs.Loading.{Loads, IsWithin}
use Rattle.graph_index.proofs.Loaded.{loads_one, no_room_behind}
use Rattle.rdf_cursor.specs.declared.stops.Fault.{Fault}
use Rattle.rdf_cursor.specs.declared.stops.Fault.TheVariants as faults
use Rattle.data_loading.specs.declared.refusal.Refusal.{Refusal}
use Rattle.data_loading.specs.declared.refusal.Refusal.TheVariants as refusal
use Rattle.turtle_reader.specs.Documents.{inner_depth, IsDocument, IsAnyDocument, SpellsAny, IsLimitPlace, IsOverfull, IsCausedAt, AreLast, Explains, ReadsTo, IsRead}
use Rattle.turtle_reader.specs.Grammar.{Behind, Document}
use Rattle.turtle_reader.specs.Reading as r
use Rattle.turtle_reader.specs.States.{DocumentScope}
use Rattle.turtle_reader.specs.States as states
use Rattle.turtle_reader.specs.Steps.{Overflows, Stopped, Ends}
use Rattle.data_loading.specs.Refusals.{error_of}
use Rattle.rdf_cursor.specs.Symbols.{is_any}
use Rattle.turtle_reader.proofs.Complete.{document_read, further_read, further_loop_read}
use Rattle.turtle_reader.proofs.Limits.{Common, AnyDocument, blocked_any, one_any, any_of_limited}
use Rattle.turtle_reader.proofs.Places.{local_document, local_further, consumes_further}
use Rattle.turtle_reader.proofs.Sound.{further_meets}

-- the tokens that statements pass
many_front : (a b : DocumentScope × List TermTriple) (ts rest : Ahead Spelled) → Many (Behind true inner_depth) a b ts rest → Front ts rest
many_front a b ts rest none = ([], refl)
many_front a b ts rest (more {x = x} {mid = mid} o others) =
    both_fronts ts mid rest
    (front_ok (r.further true inner_depth a) ts (r.further true inner_depth a ts) x mid (further_read true inner_depth a x ts mid o tt) (local_further true inner_depth a ts))
    (many_front x b mid rest others)

-- statements keep the triples of those before
many_keeps : (a b : DocumentScope × List TermTriple) (ts rest : Ahead Spelled) → Many (Behind true inner_depth) a b ts rest → (zs : List TermTriple) × (b.1 ≡ a.1 ++ zs)
many_keeps a b ts rest none = ([], sym (append-nil a.1))
many_keeps a b ts rest (more {x = x} {mid = mid} (w, e, i, h) others) =
    let k = many_keeps x b mid rest others in
    (w.triples ++ k.0, k.1 ∙ ap (λ (v : List TermTriple). v ++ k.0) (sym i) ∙ append_assoc a.1 w.triples k.0)

module _ (base source : List ℕ) (u : IsUtf8 source) where
  abbrev ahead : Ahead Spelled
  ahead = stream_from Turtle source 0

  abbrev v : DocumentScope
  v = states.start base

  found_document : (x : DocumentScope × List TermTriple) → Document true inner_depth v x ahead → IsDocument base source x
  found_document x h =
      let f = many_front (v, []) x ahead finished h in
      (f.0, u, to_tokens Turtle source u f.0 f.1, subst (λ (ts : Ahead Spelled). Document true inner_depth v x ts) f.1 h)

  document_ahead : (x : DocumentScope × List TermTriple) → IsDocument base source x → Document true inner_depth v x ahead
  document_ahead x (ts, utf8, tokens, h) = subst (λ (ts : Ahead Spelled). Document true inner_depth v x ts) (sym (from_tokens Turtle source u ts tokens)) h

  any_place : (f : Fault) (rest : Ahead Spelled) (at : ℕ) → Common f → r.document true inner_depth v ahead ≡ Err (f, rest) → Stands Turtle source rest at →
      IsFaultPlace (SpellsAny base) Turtle source at
  any_place f rest at c e s = fault_place Turtle source u (AnyDocument v) rest at (blocked_any v ahead f rest c e) s

  limit_place : (f : Fault) (rest : Ahead Spelled) (at : ℕ) → r.document true inner_depth v ahead ≡ Err (f, rest) → Stands Turtle source rest at → IsLimitPlace base source at
  limit_place f rest at e s =
      fault_place Turtle source u (Document true inner_depth v) rest at
      (blocked (r.document true inner_depth v) (Document true inner_depth v) (local_document true inner_depth v) (document_read true inner_depth v) ahead f rest e) s

  overfull : (terms : List Term) (graph : List Triple) → Overflows v ahead terms graph → IsOverfull base source terms graph
  overfull terms graph o =
      let front = many_front (v, []) (o.scope, o.so_far) ahead o.rest o.statements in
      let to = found Turtle source u 0 front.0 o.rest (start Turtle source u) front.1 in
      record {
        before = o.fills.before;
        last = o.fills.last;
        behind = o.fills.behind;
        front = front.0;
        to = to.to;
        rest = o.rest;
        scope = o.scope;
        passed = to.passed;
        statements = subst (λ (ts : List TermTriple). Many (Behind true inner_depth) (v, []) (o.scope, ts) (prepend front.0 o.rest) o.rest) o.fills.parts
            (subst (λ (ts : Ahead Spelled). Many (Behind true inner_depth) (v, []) (o.scope, o.so_far) ts o.rest) front.1 o.statements);
        mid_terms = o.fills.mid_terms;
        mid_graph = o.fills.mid_graph;
        loaded = o.fills.loaded;
        no_room = o.fills.no_room;
      }

  caused : (f : Fault) (rest : Ahead Spelled) (at : ℕ) → Stopped v ahead f rest → Stands Turtle source rest at → IsCausedAt base source f at
  caused f rest at h s =
      let front = many_front (v, []) (h.scope, h.so_far) ahead h.mid h.statements in
      let whole : ahead ≡ prepend (front.0 ++ h.inside) rest = front.1 ∙ ap (prepend front.0) h.parts ∙ sym (prepend-append front.0 h.inside rest) in
      let (from, passed, stands) = stands_at Turtle source u rest at (front.0 ++ h.inside) whole s in
      record {
        scope = h.scope;
        so_far = h.so_far;
        front = front.0;
        inside = h.inside;
        rest = rest;
        from = from;
        passed = passed;
        statements = subst (λ (m : Ahead Spelled). Many (Behind true inner_depth) (v, []) (h.scope, h.so_far) (prepend front.0 m) m) h.parts
            (subst (λ (ts : Ahead Spelled). Many (Behind true inner_depth) (v, []) (h.scope, h.so_far) ts h.mid) front.1 h.statements);
        stands = stands;
        cause = h.cause;
        limit = h.limit;
      }

  pub explains : (e : Refusal) (at : ℕ) (w : DocumentScope) (rest : Ahead Spelled) (terms new_terms : List Term) (graph new_graph : List Triple) →
      Ends (Err e) v ahead w rest terms graph new_terms new_graph → Stands Turtle source rest at
      → Explains base (error_of e at) source terms graph
  explains refusal.Memory at w rest terms new_terms graph new_graph h s = tt
  explains refusal.Full at w rest terms new_terms graph new_graph h s = inl (overfull terms graph h)
  explains (refusal.Fault faults.Syntax) at w rest terms new_terms graph new_graph h s = any_place faults.Syntax rest at tt h.refused s
  explains (refusal.Fault faults.Prefix) at w rest terms new_terms graph new_graph h s = (any_place faults.Prefix rest at tt h.refused s, caused faults.Prefix rest at h s)
  explains (refusal.Fault faults.Deep) at w rest terms new_terms graph new_graph h s = (at, limit_place faults.Deep rest at h.refused s, caused faults.Deep rest at h s)
  explains (refusal.Fault faults.Long) at w rest terms new_terms graph new_graph h s = (limit_place faults.Long rest at h.refused s, caused faults.Long rest at h s)
  explains (refusal.Fault faults.Full) at w rest terms new_terms graph new_graph h s = inr (at, limit_place faults.Full rest at h.refused s, caused faults.Full rest at h s)

  not_full : (terms a : List Term) (graph b : List Triple) (x : DocumentScope × List TermTriple) → AreDistinct terms → IsDocument base source x →
      Loads terms graph x.1 a b → IsWithin a b → Overflows v ahead terms graph → ⊥
  not_full terms a graph b x dis doc loads within o =
      let all = further_loop_read true inner_depth (v, []) x ahead (document_ahead x doc) in
      let rest = (meets_loop is_any (r.further true inner_depth) (Behind true inner_depth) (consumes_further true inner_depth) (further_meets true inner_depth) (o.scope, o.so_far) o.rest).holds (x, finished) (o.goes ∙ all) in
      let k = many_keeps (o.scope, o.so_far) x o.rest finished rest in
      let same : x.1 ≡ o.fills.before ++ o.fills.last ∷ (o.fills.behind ++ k.0) =
      k.1 ∙ ap (λ (ts : List TermTriple). ts ++ k.0) o.fills.parts ∙ append_assoc o.fills.before (o.fills.last ∷ o.fills.behind) k.0 in
      no_room_behind terms o.fills.mid_terms a graph o.fills.mid_graph b o.fills.before (o.fills.behind ++ k.0) o.fills.last dis o.fills.loaded o.fills.no_room
      (subst (λ (ts : List TermTriple). Loads terms graph ts a b) same loads) within

  same_document : (x y : DocumentScope × List TermTriple) → Document true inner_depth v x ahead → IsDocument base source y → x ≡ y
  same_document x y h doc =
      ap (λ (z : (DocumentScope × List TermTriple) × Ahead Spelled). z.0) (ok_is (x, finished) (y, finished) (sym (document_read true inner_depth v x ahead h)
      ∙ document_read true inner_depth v y ahead (document_ahead y doc)))

  no_fault : (x : DocumentScope × List TermTriple) (f : Fault) (rest : Ahead Spelled) → IsDocument base source x → r.document true inner_depth v ahead ≡ Err (f, rest) → ⊥
  no_fault x f rest doc e = apart (x, finished) (f, rest) (sym (document_read true inner_depth v x ahead (document_ahead x doc)) ∙ e)

  pub reads_err : (e : Refusal) (at : ℕ) (w z : DocumentScope) (rest : Ahead Spelled) (terms new_terms a left_terms : List Term) (graph new_graph b left_graph : List Triple) (ts : List TermTriple) →
      AreDistinct terms → IsDocument base source (z, ts)
      → Loads terms graph ts a b → IsWithin a b → Ends (Err e) v ahead w rest terms graph new_terms new_graph → ReadsTo (Err (error_of e at)) z a b left_terms left_graph
  reads_err refusal.Memory at w z rest terms new_terms a left_terms graph new_graph b left_graph ts dis doc loads within h = tt
  reads_err refusal.Full at w z rest terms new_terms a left_terms graph new_graph b left_graph ts dis doc loads within h = not_full terms a graph b (z, ts) dis doc loads within h
  reads_err (refusal.Fault faults.Syntax) at w z rest terms new_terms a left_terms graph new_graph b left_graph ts dis doc loads within h = no_fault (z, ts) faults.Syntax rest doc h.refused
  reads_err (refusal.Fault faults.Prefix) at w z rest terms new_terms a left_terms graph new_graph b left_graph ts dis doc loads within h = no_fault (z, ts) faults.Prefix rest doc h.refused
  reads_err (refusal.Fault faults.Deep) at w z rest terms new_terms a left_terms graph new_graph b left_graph ts dis doc loads within h = no_fault (z, ts) faults.Deep rest doc h.refused
  reads_err (refusal.Fault faults.Long) at w z rest terms new_terms a left_terms graph new_graph b left_graph ts dis doc loads within h = no_fault (z, ts) faults.Long rest doc h.refused
  reads_err (refusal.Fault faults.Full) at w z rest terms new_terms a left_terms graph new_graph b left_graph ts dis doc loads within h = no_fault (z, ts) faults.Full rest doc h.refused

  pub reads_ok : (p : Prefixes) (w z : DocumentScope) (rest : Ahead Spelled) (terms new_terms a : List Term) (graph new_graph b : List Triple) (ts : List TermTriple) → AreDistinct terms →
      IsDocument base source (z, ts) → Loads terms graph ts a b
      → Ends (Ok tt) v ahead w rest terms graph new_terms new_graph → AreLast p w → ReadsTo (Ok p) z a b new_terms new_graph
  reads_ok p w z rest terms new_terms a graph new_graph b ts dis doc loads (us, h, own) last =
      let same = same_document (w, us) (z, ts) h doc in
      let one = loads_one terms new_terms a graph new_graph b ts dis (subst (λ (x : DocumentScope × List TermTriple). Loads terms graph x.1 new_terms new_graph) same own) loads in
      (subst (λ (x : DocumentScope × List TermTriple). AreLast p x.0) same last, one.0, one.1)

  pub is_read : (p : Prefixes) (w : DocumentScope) (rest : Ahead Spelled) (terms new_terms : List Term) (graph new_graph : List Triple) →
      Ends (Ok tt) v ahead w rest terms graph new_terms new_graph → AreLast p w
      → IsRead base source p terms graph new_terms new_graph
  is_read p w rest terms new_terms graph new_graph (ts, h, own) last = record { scope = w; triples = ts; document = found_document (w, ts) h; loaded = own; last = last }

  -- the laws of documents
  any_ahead : (x : DocumentScope × List TermTriple) → IsAnyDocument base source x → AnyDocument v x ahead
  any_ahead x (ts, utf8, tokens, h) = subst (λ (ts : Ahead Spelled). AnyDocument v x ts) (sym (from_tokens Turtle source u ts tokens)) h

  pub one_document : (x y : DocumentScope × List TermTriple) → IsAnyDocument base source x → IsAnyDocument base source y → x ≡ y
  one_document x y h k = one_any v x y ahead (any_ahead x h) (any_ahead y k)

  pub any_document : (x : DocumentScope × List TermTriple) → IsDocument base source x → IsAnyDocument base source x
  any_document x (ts, utf8, tokens, h) = (ts, utf8, tokens, any_of_limited v x (prepend ts finished) h)

-- from what lies ahead of the tokens at first, and the scope at first
module _ (base source : List ℕ) (u : IsUtf8 source) (first : Ahead Spelled) (begins : first ≡ stream_from Turtle source 0) (at_first : DocumentScope) (starts : at_first ≡ states.start base) where
  moved : (res : Result (Unit {0}) Refusal) (w : DocumentScope) (rest : Ahead Spelled) (terms new_terms : List Term) (graph new_graph : List Triple) →
      Ends res at_first first w rest terms graph new_terms new_graph
      → Ends res (states.start base) (stream_from Turtle source 0) w rest terms graph new_terms new_graph
  moved res w rest terms new_terms graph new_graph h =
      subst (λ (ts : Ahead Spelled). Ends res (states.start base) ts w rest terms graph new_terms new_graph) begins
      (subst (λ (s : DocumentScope). Ends res s first w rest terms graph new_terms new_graph) starts h)

  pub found_from : (p : Prefixes) (w : DocumentScope) (rest : Ahead Spelled) (terms new_terms : List Term) (graph new_graph : List Triple) →
      Ends (Ok tt) at_first first w rest terms graph new_terms new_graph → AreLast p w
      → IsRead base source p terms graph new_terms new_graph
  found_from p w rest terms new_terms graph new_graph h last = is_read base source u p w rest terms new_terms graph new_graph (moved (Ok tt) w rest terms new_terms graph new_graph h) last

  pub ok_from : (p : Prefixes) (w z : DocumentScope) (rest : Ahead Spelled) (terms new_terms a : List Term) (graph new_graph b : List Triple) (ts : List TermTriple) → AreDistinct terms →
      IsDocument base source (z, ts) → Loads terms graph ts a b
      → Ends (Ok tt) at_first first w rest terms graph new_terms new_graph → AreLast p w → ReadsTo (Ok p) z a b new_terms new_graph
  ok_from p w z rest terms new_terms a graph new_graph b ts dis doc loads h last =
      reads_ok base source u p w z rest terms new_terms a graph new_graph b ts dis doc loads (moved (Ok tt) w rest terms new_terms graph new_graph h) last

  pub err_from : (e : Refusal) (x : ReadError) (at : ℕ) (w z : DocumentScope) (rest : Ahead Spelled) (terms new_terms a left_terms : List Term) (graph new_graph b left_graph : List Triple)
      (ts : List TermTriple) → AreDistinct terms → IsDocument base source (z, ts)
      → Loads terms graph ts a b → IsWithin a b → Ends (Err e) at_first first w rest terms graph new_terms new_graph → x ≡ error_of e at → ReadsTo (Err x) z a b left_terms left_graph
  err_from e x at w z rest terms new_terms a left_terms graph new_graph b left_graph ts dis doc loads within h is =
      subst (λ (y : ReadError). ReadsTo (Err y) z a b left_terms left_graph) (sym is)
      (reads_err base source u e at w z rest terms new_terms a left_terms graph new_graph b left_graph ts dis doc loads within (moved (Err e) w rest terms new_terms graph new_graph h))

  pub cause_from : (e : Refusal) (x : ReadError) (at : ℕ) (w : DocumentScope) (rest : Ahead Spelled) (text : Source) (terms new_terms : List Term) (graph new_graph : List Triple) →
      Ends (Err e) at_first first w rest terms graph new_terms new_graph
      → text ≡ record { mode = Turtle; text = source } → Stands text.mode text.text rest at → x ≡ error_of e at → Explains base x source terms graph
  cause_from e x at w rest text terms new_terms graph new_graph h same s is =
      subst (λ (y : ReadError). Explains base y source terms graph) (sym is)
      (explains base source u e at w rest terms new_terms graph new_graph (moved (Err e) w rest terms new_terms graph new_graph h) (subst (λ (y : Source). Stands y.mode y.text rest at) same s))

-- How the loop over statements goes on and ends.
use Rattle.std.proofs.Common.{◌≡◌, true, false, List, [], ◌++◌, Ok, Err, refl, sym, ap, subst}
use Rattle.std.proofs.lemmas.List.{append-nil}
use Rattle.rdf_terms.specs.declared.terms.Term.{Term}
use Rattle.rdf_terms.specs.declared.terms.Triple.{Triple}
use Rattle.rdf_cursor.specs.Ahead.{Ahead, finished, broken, token, next_is}
use Rattle.rdf_cursor.specs.Phrases.{Phrase, Many, none, more}
use Rattle.rdf_cursor.specs.Readers.{Answer, loop, finish}
use Rattle.rdf_cursor.proofs.Answers.{err_is}
use Rattle.rdf_cursor.proofs.Loops.{loop_goes, loop_fails, loop_ends}
use Rattle.rdf_lex.specs.Tokens.{Spelled}
use Rattle.graph_index.specs.declared.loading.LoadError.TheVariants as load
use Rattle.graph_index.specs.declared.loading.TermTriple.{TermTriple}
use Rattle.graph_index.specs.Loading.{nothing}
use Rattle.graph_index.proofs.Loaded.{loads_append}
use Rattle.rdf_cursor.specs.declared.stops.Fault.{Fault}
use Rattle.rdf_cursor.specs.declared.stops.Fault.TheVariants.{Syntax}
use Rattle.rdf_cursor.specs.declared.stops.Stop.{Stop}
use Rattle.rdf_cursor.specs.declared.stops.Stop.TheVariants as stop
use Rattle.data_loading.specs.declared.refusal.Refusal.{Refusal}
use Rattle.data_loading.specs.declared.refusal.Refusal.TheVariants as refusal
use Rattle.turtle_reader.specs.Documents.{inner_depth}
use Rattle.rdf_cursor.specs.Stops.{StopsAs}
use Rattle.turtle_reader.specs.Grammar.{Behind}
use Rattle.turtle_reader.specs.Reading.{statement, further, document}
use Rattle.turtle_reader.specs.States.{DocumentScope, begun}
use Rattle.data_loading.specs.Refusals.{from_stop}
use Rattle.data_loading.proofs.Filling.{fills_behind}
use Rattle.turtle_reader.specs.Steps.{Steps, Comes, Ends}
use Rattle.rdf_cursor.specs.Symbols.{is_any}
use Rattle.turtle_reader.specs.Causes.{bare, Causes, IsAtLimit}
use Rattle.turtle_reader.proofs.Causes.{statement_tells}
use Rattle.turtle_reader.proofs.Depths.{statement_fails}
use Rattle.turtle_reader.proofs.Places.{consumes_further}
use Rattle.turtle_reader.proofs.Sound.{further_meets}

-- one phrase more, behind those so far
pub many_more : {S : Type 0} (One : S → S → Phrase Spelled) (a b c : S) (ts mid rest : Ahead Spelled) → Many One a b ts mid → One b c mid rest → Many One a c ts rest
many_more One a b c ts mid rest none h = more h none
many_more One a b c ts mid rest (more {x = x} {mid = m} o others) h = more o (many_more One x b c m mid rest others h)

step_ok : (v u : DocumentScope) (before : List TermTriple) (ts rest : Ahead Spelled) → statement true inner_depth v ts ≡ Ok (u, rest) →
    further true inner_depth (v, before) ts ≡ Ok ((begun u, before ++ u.triples), rest)
unfolding further
step_ok v u before ts rest e = rw e refl

step_err : (v : DocumentScope) (before : List TermTriple) (ts : Ahead Spelled) (f : Fault × Ahead Spelled) → statement true inner_depth v ts ≡ Err f → further true inner_depth (v, before) ts ≡ Err f
unfolding further
step_err v before ts f e = rw e refl

pub begins : (v : DocumentScope) (ahead : Ahead Spelled) (terms : List Term) (graph : List Triple) → Comes v ahead terms graph v ahead terms graph
begins v ahead terms graph = record { so_far = []; goes = refl; statements = none; loaded = nothing }

pub smaller : (v w : DocumentScope) (ts rest : Ahead Spelled) (terms new_terms : List Term) (graph new_graph : List Triple) →
    Steps (Ok tt) v ts w rest terms graph new_terms new_graph → (u : DocumentScope) × (statement true inner_depth v ts ≡ Ok (u, rest))
smaller v w ts rest terms new_terms graph new_graph (u, e, s, l) = (u, e)

module _ (v : DocumentScope) (ahead : Ahead Spelled) (terms : List Term) (graph : List Triple) where
  one_more : (w u : DocumentScope) (rest mid : Ahead Spelled) (so : List TermTriple) → next_is is_any rest ≡ true → statement true inner_depth w rest ≡ Ok (u, mid)
      → loop is_any (further true inner_depth) (w, so) rest ≡ loop is_any (further true inner_depth) (v, []) ahead
      → loop is_any (further true inner_depth) (begun u, so ++ u.triples) mid ≡ loop is_any (further true inner_depth) (v, []) ahead
  one_more w u rest mid so n e goes =
      loop_goes is_any (further true inner_depth) (consumes_further true inner_depth)
      (w, so) rest (begun u, so ++ u.triples) mid (loop is_any (further true inner_depth) (v, []) ahead) n (step_ok w u so rest mid e) goes

  more_statements : (w u : DocumentScope) (rest mid : Ahead Spelled) (so : List TermTriple) → statement true inner_depth w rest ≡ Ok (u, mid) →
      Many (Behind true inner_depth) (v, []) (w, so) ahead rest
      → Many (Behind true inner_depth) (v, []) (begun u, so ++ u.triples) ahead mid
  more_statements w u rest mid so e m =
      many_more (Behind true inner_depth) (v, []) (w, so)
      (begun u, so ++ u.triples) ahead rest mid m ((further_meets true inner_depth (w, so) rest).holds ((begun u, so ++ u.triples), mid) (step_ok w u so rest mid e))

  pub comes_on : (w x : DocumentScope) (rest mid : Ahead Spelled) (now_terms new_terms : List Term) (now_graph new_graph : List Triple) →
      Comes v ahead terms graph w rest now_terms now_graph → next_is is_any rest ≡ true
      → Steps (Ok tt) w rest x mid now_terms now_graph new_terms new_graph → Comes v ahead terms graph x mid new_terms new_graph
  comes_on w x rest mid now_terms new_terms now_graph new_graph c n (u, e, is, l) =
      subst (λ (s : DocumentScope). Comes v ahead terms graph s mid new_terms new_graph) (sym is) (record {
        so_far = c.so_far ++ u.triples;
        goes = one_more w u rest mid c.so_far n e c.goes;
        statements = more_statements w u rest mid c.so_far e c.statements;
        loaded = loads_append terms now_terms new_terms graph now_graph new_graph c.so_far u.triples c.loaded l;
      })

  fault_ends : (f : Fault × Ahead Spelled) → loop is_any (further true inner_depth) (v, []) ahead ≡ Err f → document true inner_depth v ahead ≡ Err f
  unfolding document
  fault_ends f e = rw e refl

  pub stops : (w x y : DocumentScope) (rest mid : Ahead Spelled) (now_terms new_terms : List Term) (now_graph new_graph : List Triple) (e : Refusal) →
      Comes v ahead terms graph w rest now_terms now_graph → next_is is_any rest ≡ true
      → Steps (Err e) w rest x mid now_terms now_graph new_terms new_graph → Ends (Err e) v ahead y mid terms graph new_terms new_graph
  stops w x y rest mid now_terms new_terms now_graph new_graph refusal.Memory c n s = tt
  stops w x y rest mid now_terms new_terms now_graph new_graph refusal.Full c n (u, e, f) = record {
    so_far = c.so_far ++ u.triples;
    scope = begun u;
    rest = mid;
    goes = one_more w u rest mid c.so_far n e c.goes;
    statements = more_statements w u rest mid c.so_far e c.statements;
    fills = fills_behind terms now_terms graph now_graph c.so_far u.triples c.loaded f;
  }
  stops w x y rest mid now_terms new_terms now_graph new_graph (refusal.Fault f) c n s =
      let fails = statement_fails inner_depth refl w rest mid f s in
      record {
        refused = fault_ends (f, mid)
            (loop_fails is_any (further true inner_depth) (consumes_further true inner_depth) (w, c.so_far) rest (f, mid) (loop is_any (further true inner_depth) (v, []) ahead) n (step_err w c.so_far rest (f, mid) s) c.goes);
        so_far = c.so_far;
        scope = w;
        mid = rest;
        statements = c.statements;
        inside = fails.front;
        parts = fails.parts;
        cause = (statement_tells inner_depth w rest).bad (f, mid) s;
        limit = fails.limit;
      }

  finish_syntax : (rest : Ahead Spelled) (f : Fault × Ahead Spelled) → Path (Answer Spelled Fault (Unit {0})) (finish Syntax tt rest) (Err f) → Syntax ≡ f.0
  finish_syntax finished f e = absurd cc
  finish_syntax broken f e = ap (λ (z : Fault × Ahead Spelled). z.0) (err_is (Syntax, broken) f e)
  finish_syntax (token t ts) f e = ap (λ (z : Fault × Ahead Spelled). z.0) (err_is (Syntax, token t ts) f e)

  finish_same : {A : Type 0} (x : A) (rest : Ahead Spelled) (f : Fault × Ahead Spelled) →
      Path (Answer Spelled Fault (Unit {0})) (finish Syntax tt rest) (Err f) → Path (Answer Spelled Fault A) (finish Syntax x rest) (Err f)
  finish_same x finished f e = absurd cc
  finish_same x broken f e = ap Err (err_same (Syntax, broken) f e)
    where
      err_same : (a b : Fault × Ahead Spelled) → Path (Answer Spelled Fault (Unit {0})) (Err a) (Err b) → a ≡ b
      err_same a b e = cc
  finish_same x (token t ts) f e = ap Err (err_same (Syntax, token t ts) f e)
    where
      err_same : (a b : Fault × Ahead Spelled) → Path (Answer Spelled Fault (Unit {0})) (Err a) (Err b) → a ≡ b
      err_same a b e = cc

  end_fault : (x : DocumentScope × List TermTriple) (rest : Ahead Spelled) (f : Fault × Ahead Spelled) →
      loop is_any (further true inner_depth) (v, []) ahead ≡ Ok (x, rest) → finish Syntax x rest ≡ Err f → document true inner_depth v ahead ≡ Err f
  unfolding document
  end_fault x rest f e g = rw e g

  pub ends_badly : (w y : DocumentScope) (rest : Ahead Spelled) (e : Stop) (r : Refusal) (new_terms : List Term) (new_graph : List Triple) →
      Comes v ahead terms graph w rest new_terms new_graph → next_is is_any rest ≡ false
      → StopsAs {Y = Unit {0}} e rest (finish Syntax tt rest) → r ≡ from_stop e → Ends (Err r) v ahead y rest terms graph new_terms new_graph
  ends_badly w y rest stop.Memory r new_terms new_graph c n s is = subst (λ (z : Refusal). Ends (Err z) v ahead y rest terms graph new_terms new_graph) (sym is) tt
  ends_badly w y rest (stop.Fault f) r new_terms new_graph c n s is =
      subst (λ (z : Refusal). Ends (Err z) v ahead y rest terms graph new_terms new_graph) (sym is) (record {
        refused = end_fault (w, c.so_far) rest (f, rest)
            (loop_ends is_any (further true inner_depth) (consumes_further true inner_depth) (w, c.so_far) rest (loop is_any (further true inner_depth) (v, []) ahead) n c.goes)
            (finish_same (w, c.so_far) rest (f, rest) s);
        so_far = c.so_far;
        scope = w;
        mid = rest;
        statements = c.statements;
        inside = [];
        parts = refl;
        cause = subst (λ (g : Fault). Causes (bare w) g rest) (finish_syntax rest (f, rest) s) tt;
        limit = subst (λ (g : Fault). IsAtLimit w g []) (finish_syntax rest (f, rest) s) tt;
      })

-- what is as it was has grown by nothing
pub same_grown : {X : Type 0} (xs : List X) → (more : List X) × (xs ≡ xs ++ more)
same_grown xs = ([], sym (append-nil xs))

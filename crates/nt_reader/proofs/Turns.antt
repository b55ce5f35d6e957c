-- How the loop over lines goes on and ends.
use Rattle.std.proofs.Common.{append_assoc, ◌≡◌, true, false, List, [], ◌∷◌, ◌++◌, Result, Ok, Err, Option, None, refl, sym, ap, subst, ◌∙◌}
use Rattle.std.proofs.lemmas.List.{append-nil}
use Rattle.std.specs.Option.{option_to_list}
use Rattle.rdf_terms.specs.declared.terms.Term.{Term}
use Rattle.rdf_terms.specs.declared.terms.Triple.{Triple}
use Rattle.rdf_cursor.specs.Ahead.{Ahead, finished, broken, token, next_is}
use Rattle.rdf_cursor.specs.Readers.{Answer, loop, finish}
use Rattle.rdf_cursor.proofs.Loops.{loop_goes, loop_fails, loop_ends}
use Rattle.rdf_cursor.proofs.Soundness.{finish_sound}
use Rattle.rdf_lex.specs.Tokens.{Spelled}
use Rattle.rdf_cursor.specs.Stops.{StopsAs}
use Rattle.rdf_cursor.specs.Symbols.{is_any}
use Rattle.rdf_cursor.specs.declared.stops.Fault.{Fault}
use Rattle.rdf_cursor.specs.declared.stops.Fault.TheVariants.{Syntax}
use Rattle.rdf_cursor.specs.declared.stops.Stop.{Stop}
use Rattle.rdf_cursor.specs.declared.stops.Stop.TheVariants as stop
use Rattle.graph_index.specs.declared.loading.LoadError.{LoadError}
use Rattle.graph_index.specs.declared.loading.LoadError.TheVariants as load
use Rattle.graph_index.specs.declared.loading.TermTriple.{TermTriple}
use Rattle.graph_index.specs.Loading.{Loads, nothing, FindsNoRoom}
use Rattle.graph_index.proofs.Loaded.{loads_append}
use Rattle.data_loading.specs.declared.refusal.Refusal.{Refusal}
use Rattle.data_loading.specs.declared.refusal.Refusal.TheVariants as refusal
use Rattle.nt_reader.specs.Grammar.{Lines, no_lines}
use Rattle.nt_reader.specs.Reading.{line, line_behind, document}
use Rattle.data_loading.specs.Refusals.{from_stop, from_load}
use Rattle.nt_reader.specs.Steps.{Steps, Comes, Ends}
use Rattle.nt_reader.proofs.Places.{consumes_line_behind}
use Rattle.nt_reader.proofs.Sound.{line_meets, lines_more}

pub begins : (ahead : Ahead Spelled) (terms : List Term) (graph : List Triple) → Comes ahead terms graph ahead terms graph
begins ahead terms graph = record { so_far = []; goes = refl; lines = no_lines; loaded = nothing }

step_ok : (before xs : List TermTriple) (ts rest : Ahead Spelled) → line true ts ≡ Ok (xs, rest) → line_behind true before ts ≡ Ok (before ++ xs, rest)
unfolding line_behind
step_ok before xs ts rest e = rw e refl

step_err : (before : List TermTriple) (ts : Ahead Spelled) (f : Fault × Ahead Spelled) → line true ts ≡ Err f → line_behind true before ts ≡ Err f
unfolding line_behind
step_err before ts f e = rw e refl

module _ (ahead : Ahead Spelled) (terms : List Term) (graph : List Triple) where
  goes_on : (rest mid : Ahead Spelled) (now_terms : List Term) (now_graph : List Triple) (c : Comes ahead terms graph rest now_terms now_graph) (xs : List TermTriple) → next_is is_any rest ≡ true →
      line true rest ≡ Ok (xs, mid)
      → loop is_any (line_behind true) (c.so_far ++ xs) mid ≡ loop is_any (line_behind true) [] ahead
  goes_on rest mid now_terms now_graph c xs n e =
      loop_goes is_any (line_behind true) (consumes_line_behind true) c.so_far rest (c.so_far ++ xs) mid (loop is_any (line_behind true) [] ahead) n (step_ok c.so_far xs rest mid e) c.goes

  pub comes_on : (rest mid : Ahead Spelled) (now_terms new_terms : List Term) (now_graph new_graph : List Triple) → Comes ahead terms graph rest now_terms now_graph → next_is is_any rest ≡ true
      → Steps (Ok tt) rest mid now_terms now_graph new_terms new_graph → Comes ahead terms graph mid new_terms new_graph
  comes_on rest mid now_terms new_terms now_graph new_graph c n (xs, e, l) = record {
    so_far = c.so_far ++ xs;
    goes = goes_on rest mid now_terms now_graph c xs n e;
    lines = lines_more true c.so_far xs ahead rest mid c.lines ((line_meets true rest).holds (xs, mid) e);
    loaded = loads_append terms now_terms new_terms graph now_graph new_graph c.so_far xs c.loaded l;
  }

  fault_ends : (f : Fault × Ahead Spelled) → loop is_any (line_behind true) [] ahead ≡ Err f → document true ahead ≡ Err f
  unfolding document
  fault_ends f e = rw e refl

  pub stops : (rest mid : Ahead Spelled) (now_terms new_terms : List Term) (now_graph new_graph : List Triple) (e : Refusal) →
      Comes ahead terms graph rest now_terms now_graph → next_is is_any rest ≡ true
      → Steps (Err e) rest mid now_terms now_graph new_terms new_graph → Ends (Err e) ahead mid terms graph new_terms new_graph
  stops rest mid now_terms new_terms now_graph new_graph refusal.Memory c n s = tt
  stops rest mid now_terms new_terms now_graph new_graph refusal.Full c n (x, e, room) = record {
    before = c.so_far;
    last = x;
    goes = goes_on rest mid now_terms now_graph c (x ∷ []) n e;
    lines = lines_more true c.so_far (x ∷ []) ahead rest mid c.lines ((line_meets true rest).holds (x ∷ [], mid) e);
    mid_terms = now_terms;
    mid_graph = now_graph;
    loaded = c.loaded;
    no_room = room;
  }
  stops rest mid now_terms new_terms now_graph new_graph (refusal.Fault f) c n s =
      fault_ends (f, mid) (loop_fails is_any (line_behind true) (consumes_line_behind true) c.so_far rest (f, mid) (loop is_any (line_behind true) [] ahead) n (step_err c.so_far rest (f, mid) s) c.goes)

  pub ends_well : (rest mid : Ahead Spelled) (x : Unit {0}) (new_terms : List Term) (new_graph : List Triple) → Comes ahead terms graph rest new_terms new_graph → finish Syntax tt rest ≡ Ok (x, mid)
      → (xs : List TermTriple) × Lines true xs ahead finished × Loads terms graph xs new_terms new_graph
  ends_well rest mid x new_terms new_graph c e =
      let f = finish_sound Syntax tt rest (x, mid) e in (c.so_far, subst (Lines true c.so_far ahead) f.1 c.lines, c.loaded)

  finish_same : (xs : List TermTriple) (rest : Ahead Spelled) (f : Fault × Ahead Spelled) →
      Path (Answer Spelled Fault (Unit {0})) (finish Syntax tt rest) (Err f) → Path (Answer Spelled Fault (List TermTriple)) (finish Syntax xs rest) (Err f)
  finish_same xs finished f e = absurd cc
  finish_same xs broken f e = ap Err (err_is (Syntax, broken) f e)
    where
      err_is : (a b : Fault × Ahead Spelled) → Path (Answer Spelled Fault (Unit {0})) (Err a) (Err b) → a ≡ b
      err_is a b e = cc
  finish_same xs (token t ts) f e = ap Err (err_is (Syntax, token t ts) f e)
    where
      err_is : (a b : Fault × Ahead Spelled) → Path (Answer Spelled Fault (Unit {0})) (Err a) (Err b) → a ≡ b
      err_is a b e = cc

  end_fault : (xs : List TermTriple) (rest : Ahead Spelled) (f : Fault × Ahead Spelled) → loop is_any (line_behind true) [] ahead ≡ Ok (xs, rest) →
      finish Syntax xs rest ≡ Err f → document true ahead ≡ Err f
  unfolding document
  end_fault xs rest f e g = rw e g

  pub ends_badly : (rest : Ahead Spelled) (e : Stop) (r : Refusal) (new_terms : List Term) (new_graph : List Triple) →
      Comes ahead terms graph rest new_terms new_graph → next_is is_any rest ≡ false → StopsAs {Y = Unit {0}} e rest (finish Syntax tt rest) → r ≡ from_stop e
      → Ends (Err r) ahead rest terms graph new_terms new_graph
  ends_badly rest stop.Memory r new_terms new_graph c n s is = let u : Unit {0} = tt in subst (λ (v : Refusal). Ends (Err v) ahead rest terms graph new_terms new_graph) (sym is) u
  ends_badly rest (stop.Fault f) r new_terms new_graph c n s is = subst (λ (v : Refusal). Ends (Err v) ahead rest terms graph new_terms new_graph) (sym is)
      (end_fault c.so_far rest (f, rest) (loop_ends is_any (line_behind true) (consumes_line_behind true) c.so_far rest (loop is_any (line_behind true) [] ahead) n c.goes) (finish_same c.so_far rest (f, rest) s))

-- one line
pub line_is : (ahead rest : Ahead Spelled) (o p : Option TermTriple) → line true ahead ≡ Ok (option_to_list o, rest) → o ≡ p → line true ahead ≡ Ok (option_to_list p, rest)
line_is ahead rest o p e is = e ∙ ap (λ (v : Option TermTriple). Ok (option_to_list v, rest)) is

pub blank_steps : (ahead rest : Ahead Spelled) (terms : List Term) (graph : List Triple) (o : Option TermTriple) →
    line true ahead ≡ Ok (option_to_list o, rest) → o ≡ None → Steps (Ok tt) ahead rest terms graph terms graph
blank_steps ahead rest terms graph o e is = ([], line_is ahead rest o None e is, nothing)

pub load_stops : (ahead rest : Ahead Spelled) (x : TermTriple) (e : LoadError) (r : Refusal) (terms new_terms : List Term) (graph new_graph : List Triple) → line true ahead ≡ Ok (x ∷ [], rest)
    → (Path (Result (Unit {0}) LoadError) (Err e) (Err load.Full) → FindsNoRoom terms graph x) → r ≡ from_load e → Steps (Err r) ahead rest terms graph new_terms new_graph
load_stops ahead rest x load.Memory r terms new_terms graph new_graph l full is = subst (λ (v : Refusal). Steps (Err v) ahead rest terms graph new_terms new_graph) (sym is) tt
load_stops ahead rest x load.Full r terms new_terms graph new_graph l full is = subst (λ (v : Refusal). Steps (Err v) ahead rest terms graph new_terms new_graph) (sym is) (x, l, full refl)

pub same_grown : {X : Type 0} (xs : List X) → (more : List X) × (xs ≡ xs ++ more)
same_grown xs = ([], sym (append-nil xs))

pub is_grown : {X : Type 0} (xs ys : List X) → ys ≡ xs → (more : List X) × (ys ≡ xs ++ more)
is_grown xs ys e = ([], e ∙ sym (append-nil xs))

pub grown_on : {X : Type 0} (xs ys zs : List X) → ((more : List X) × (ys ≡ xs ++ more)) → ((more : List X) × (zs ≡ ys ++ more)) → (more : List X) × (zs ≡ xs ++ more)
grown_on xs ys zs (a, e) (b, f) = (a ++ b, f ∙ ap (λ (v : List _). v ++ b) e ∙ append_assoc xs a b)

-- What is made of the label of a blank node.
use Rattle.std.proofs.Common.{◌≡◌, ℕ, Bool, true, false, ◌&&◌, cond, List, length, Result, Ok, Err, refl, ap, ◌∙◌}
use Rattle.std.specs.Prelude.{nat_lt}
use Rattle.std.specs.List.{after_first}
use Rattle.std.specs.Str.{chars}
use Rattle.rdf_cursor.specs.Ahead.{Ahead, finished, broken, token}
use Rattle.rdf_cursor.specs.Readers.{Answer, taken, one}
use Rattle.rdf_cursor.proofs.Answers.{ok_is, err_is}
use Rattle.rdf_lex.specs.Tokens.{Spelled}
use Rattle.rdf_cursor.specs.declared.stops.Fault.{Fault}
use Rattle.rdf_cursor.specs.declared.stops.Fault.TheVariants.{Syntax, Long}
use Rattle.rdf_cursor.specs.declared.stops.Stop.{Stop}
use Rattle.rdf_cursor.specs.declared.stops.Stop.TheVariants as stop
use Rattle.rdf_cursor.specs.declared.symbols.Symbol.TheVariants as symbol
use Rattle.rdf_cursor.specs.Stops.{StopsAs}
use Rattle.rdf_cursor.specs.Symbols.{is_symbol}
use Rattle.term_tokens.specs.Terms.{max_text, is_colon, labelled, label_of}

module _ {A : Type 0} (make : List ℕ → A) where
  abbrev made : Result (List ℕ) Fault → Result A Fault
  made (Ok label) = Ok (make label)
  made (Err f) = Err f

  by_tests : (s c : Bool) (label : List ℕ) → cond s (cond c (Err Long) (Ok (make label))) (Err Syntax) ≡ made (cond s (cond c (Err Long) (Ok label)) (Err Syntax))
  by_tests true true label = refl
  by_tests true false label = refl
  by_tests false c label = refl

  is_made : (k : Bool) (t : Spelled) → labelled make k t ≡ made (label_of k t)
  unfolding label_of
  is_made k t = by_tests (is_symbol symbol.BlankLabel t) (k && nat_lt max_text (length (after_first is_colon t.text))) (chars (after_first is_colon t.text))

  ok_made : (judged : Result (List ℕ) Fault) (label : List ℕ) (whole rest r : Ahead Spelled) → Path (Answer Spelled Fault (List ℕ)) (taken judged whole rest) (Ok (label, r))
      → Path (Answer Spelled Fault A) (taken (made judged) whole rest) (Ok (make label, r))
  ok_made (Ok x) label whole rest r e = ap (λ (p : List ℕ × Ahead Spelled). Ok (make p.0, p.1)) (ok_is (x, rest) (label, r) e)
  ok_made (Err f) label whole rest r e = absurd cc

  err_made : (judged : Result (List ℕ) Fault) (f : Fault) (whole rest r : Ahead Spelled) → Path (Answer Spelled Fault (List ℕ)) (taken judged whole rest) (Err (f, r))
      → Path (Answer Spelled Fault A) (taken (made judged) whole rest) (Err (f, r))
  err_made (Ok x) f whole rest r e = absurd cc
  err_made (Err g) f whole rest r e = ap (λ (p : Fault × Ahead Spelled). Err p) (err_is (g, whole) (f, r) e)

  -- where a label is read, what is made of it is
  pub labelled_ok : (k : Bool) (label : List ℕ) (ts r : Ahead Spelled) → one Syntax (label_of k) ts ≡ Ok (label, r) → one Syntax (λ t. labelled make k t) ts ≡ Ok (make label, r)
  labelled_ok k label (token t ts) r e = ap (λ (a : Result A Fault). taken a (token t ts) ts) (is_made k t) ∙ ok_made (label_of k t) label (token t ts) ts r e
  labelled_ok k label finished r e = absurd cc
  labelled_ok k label broken r e = absurd cc

  -- and where it is not, nothing is
  labelled_err : (k : Bool) (f : Fault) (ts r : Ahead Spelled) → one Syntax (label_of k) ts ≡ Err (f, r) → one Syntax (λ t. labelled make k t) ts ≡ Err (f, r)
  labelled_err k f (token t ts) r e = ap (λ (a : Result A Fault). taken a (token t ts) ts) (is_made k t) ∙ err_made (label_of k t) f (token t ts) ts r e
  labelled_err k f finished r e = ap (λ (p : Fault × Ahead Spelled). Err p) (err_is (Syntax, finished) (f, r) e)
  labelled_err k f broken r e = ap (λ (p : Fault × Ahead Spelled). Err p) (err_is (Syntax, broken) (f, r) e)

  pub labelled_stops : (e : Stop) (k : Bool) (ts r : Ahead Spelled) → StopsAs e r (one Syntax (label_of k) ts) → StopsAs e r (one Syntax (λ t. labelled make k t) ts)
  labelled_stops stop.Memory k ts r h = tt
  labelled_stops (stop.Fault f) k ts r h = labelled_err k f ts r h
